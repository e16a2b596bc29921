-- Who takes part in the second round, as a world of a single round: with the room that the first
-- left, and nothing before it.
use Rattle.std.specs.Prelude.{Bool, true, if◌then◌else◌, List, map, Option, None, option_map}
use Rattle.portal_rules.specs.declared.phase.Round.{Round}
use Rattle.portal_rules.specs.declared.phase.Round.TheVariants.{First, Second}
use Rattle.portal_rules.specs.declared.rows.ProjectRow.{ProjectRow}
use Rattle.std.specs.List.{list_any}
use Rattle.portal_rules.specs.Words.{Key, equals}
use Rattle.portal_rules.specs.inner.Room.{lecturer_left, project_left}
use Rattle.portal_rules.specs.World.{Lecturer, Student, is_left, lecturers_left, projects_left, students_left, World}
use Rattle.portal_rules.specs.Alone.{alone_lecturer, alone_student}
use Rattle.portal_list.specs.Rows.{AllEntries}
use Rattle.portal_rules.specs.declared.phase.Phase.{Phase}

-- the lecturer, if room is left
abbrev pub lecturer_played : List ProjectRow → List (Key × Key) → Lecturer → Option Lecturer
lecturer_played projects pairs l = option_map (λ row. record { row = row; ranking = l.ranking; earlier_ranking = None }) (lecturer_left projects pairs l.row)

-- the project, if room is left and its lecturer is one of these
abbrev pub project_played : List Lecturer → List (Key × Key) → ProjectRow → Option ProjectRow
project_played lecturers pairs p =
    if list_any (λ l. equals p.lecturer l.row.key) lecturers then project_left pairs p else None

-- all of them
abbrev pub all_played : AllEntries → AllEntries
all_played e =
    record {
      round = First;
      lecturers = map alone_lecturer (lecturers_left e.lecturers e.projects e.students);
      projects = projects_left e.lecturers e.projects e.students;
      students = map alone_student (students_left e.students);
    }

-- the student takes part
abbrev pub takes_part : Round → Student → Bool
takes_part First s = true
takes_part Second s = is_left s

-- the student with this project of the round's result, or none
abbrev pub placed_now : Student → Option Key → Student
placed_now s place = if is_left s then record s { placed = place } else s

-- the world with these entries
abbrev pub world_with : Phase → Key → AllEntries → World
world_with phase office e = record { round = e.round; phase = phase; office = office; lecturers = e.lecturers; projects = e.projects; students = e.students }
