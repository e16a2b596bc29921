-- A world as one of a single round.
use Rattle.std.specs.Prelude.{[], map, None}
use Rattle.portal_rules.specs.declared.phase.Round.TheVariants.{First}
use Rattle.portal_rules.specs.World.{Lecturer, Student, World}

abbrev pub alone_lecturer : Lecturer → Lecturer
alone_lecturer l = record l { earlier_ranking = None }

abbrev pub alone_student : Student → Student
alone_student s = record s { earlier_choice = []; earlier_placement = None }

-- These rows as a world of a single round, with nothing before it. What a round is played in is a
-- good world so.
abbrev pub alone : World → World
alone w =
    record w { round = First; lecturers = map alone_lecturer w.lecturers; students = map alone_student w.students }
