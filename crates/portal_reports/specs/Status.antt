-- The state of the round as text.
use Rattle.std.specs.Prelude.{ℕ, if◌then◌else◌, codes, decimal, List, [], ◌++◌, length}
use Rattle.portal_rules.specs.declared.phase.Phase.{Phase}
use Rattle.portal_rules.specs.declared.phase.Round.{Round}
use Rattle.portal_rules.specs.declared.phase.Round.TheVariants.{First, Second}
use Rattle.portal_rules.specs.World.{phase_word, has_result}
use Rattle.portal_rules.specs.Calls.{OfficeSees}
use Rattle.portal_rules.specs.Bodies.{padded_left, padded_right, line_feed}

unfoldable pub number_line : List ℕ → ℕ → List ℕ
number_line label number = padded_left 16 label ++ padded_right 6 (decimal number) ++ line_feed

unfoldable pub phase_line : Phase → List ℕ
phase_line phase = padded_left 16 (codes "phase") ++ phase_word phase ++ line_feed

-- only the second round has a line for the round
abbrev pub round_lines : Round → List ℕ
round_lines First = []
round_lines Second = number_line (codes "round") 2

-- the number of students with a project, once there is a result
abbrev pub assigned_number : OfficeSees → List ℕ
assigned_number v = if has_result v.round v.phase then number_line (codes "assigned") (length v.pairs) else []

abbrev pub status_text : OfficeSees → List ℕ
status_text v =
    phase_line v.phase
    ++ round_lines v.round
    ++ number_line (codes "lecturers") (length v.lecturers)
    ++ number_line (codes "projects") (length v.projects)
    ++ number_line (codes "students") (length v.students)
    ++ number_line (codes "without list") (length v.without_list)
    ++ number_line (codes "still to rank") (length v.still_to_rank)
    ++ assigned_number v
