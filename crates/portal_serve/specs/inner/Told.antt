-- Who is told the report.
use Rattle.std.specs.Prelude.{◌≡◌, List, ℕ}
use Rattle.portal_rules.specs.declared.view.View.{View}
use Rattle.portal_rules.specs.declared.view.View.TheVariants.{Nobody, Office, Lecturer, Student}
use Rattle.portal_serve.specs.Hall.{office_report}

-- the office sees this, and the text is its report
abbrev pub IsOfficeReport : View → List ℕ → Type 0
IsOfficeReport Nobody text = ⊥
IsOfficeReport (Office v) text = text ≡ office_report v
IsOfficeReport (Lecturer v) text = ⊥
IsOfficeReport (Student v) text = ⊥

-- the office does not see this
abbrev pub IsOther : View → Type 0
IsOther (Office v) = ⊥
IsOther _ = Unit {0}
