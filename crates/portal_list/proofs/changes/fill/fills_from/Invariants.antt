use Rattle.portal_list.proofs.Base.{◌≡◌, List, take, map, Key, applicant_keys}
use Rattle.portal_list.proofs.changes.fill.fills_from.Given as goal

abbrev pub invariant-loop-lecturer : goal.invariant-loop-lecturer
invariant-loop-lecturer l = map {B = Key × List Key} (λ f. (f.0, f.1.items)) l.fills.items
    ≡ map (λ k. (k, applicant_keys l.projects l.wanted k)) (take l.lecturer-index l.lecturers)
