-- Who sees what an office sees is the office.
use Rattle.portal_serve.proofs.Base.{◌≡◌, Bool, true, false, if◌then◌else◌, ℕ, List, Option, Some, None, office_report}
use Rattle.portal_serve.proofs.Base.{IsOfficeReport}
use Rattle.portal_rules.specs.World as rows
use Rattle.portal_rules.specs.World.{World}
use Rattle.portal_rules.specs.Words.{Key, equals}
use Rattle.portal_rules.specs.View.{view, sight_of, caller_among, OfficeCaller, lecturer_with, student_with}
use Rattle.portal_rules.specs.View.{office_sees}

pub told_is : (w : World) (code : Key) (text : List ℕ) → IsOfficeReport (view w code) text
    → text ≡ office_report (office_sees w)
told_is w code text h = go (equals w.office code) (lecturer_with w code) (student_with w code) h
  where
    go : (b : Bool) (l : Option rows.Lecturer) (s : Option rows.Student)
        → IsOfficeReport (sight_of w (if b then OfficeCaller else caller_among l s)) text
        → text ≡ office_report (office_sees w)
    go true l s h = h
    go false (Some l) s h = absurd h
    go false None (Some s) h = absurd h
    go false None None h = absurd h
