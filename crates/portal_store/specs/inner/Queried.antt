-- What is told of a caller, by rows that queries show.
use Rattle.std.specs.Prelude.{List, [], Option, None}
use Rattle.sqlite.specs.Order.{Row}
use Rattle.sqlite.specs.Tree.{Trees}
use Rattle.portal_rules.specs.declared.phase.Round.{Round}
use Rattle.portal_rules.specs.declared.phase.Round.TheVariants.{First, Second}
use Rattle.portal_rules.specs.Words.{Key}
use Rattle.portal_rules.specs.World.{Lecturer, Student}
use Rattle.portal_tables.specs.inner.Owners.{choice_shown, ranking_shown}
use Rattle.portal_tables.specs.inner.Placements.{placement_shown, placement_before}
use Rattle.portal_tables.specs.inner.Shown.{shown_lecturer, shown_student}

-- the ranking and the list of the round before
abbrev pub ranking_before : Round → Trees → Row → Option (List Key)
ranking_before First db c = None
ranking_before Second db c = ranking_shown First db c

abbrev pub choice_before : Round → Trees → Row → List Key
choice_before First db c = []
choice_before Second db c = choice_shown First db c

-- the lecturer whose row is shown, and the student, with what the tables hold
abbrev pub lecturer_from : Round → Trees → Row → Lecturer
lecturer_from round db c =
    record { row = shown_lecturer c; ranking = ranking_shown round db c; earlier_ranking = ranking_before round db c }

abbrev pub student_from : Round → Trees → Row → Student
student_from round db c =
    record { row = shown_student c; choice = choice_shown round db c; placed = placement_shown round db c; earlier_choice = choice_before round db c; earlier_placement = placement_before round c }
