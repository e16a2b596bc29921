-- The world that the eleven tables stand for.
use Rattle.portal_store.specs.Base.{Row, column, bytes, Trees, Phase, Round, First, Second, Key, has, put_all, World}
use Rattle.portal_store.specs.Base.{Lecturer, Student, lecturer_key, project_key, student_key, choice_table}
use Rattle.portal_store.specs.Base.{ranking_table, phase_numbered, tree_of, portal_tree, lecturer_tree, project_tree}
use Rattle.portal_store.specs.Base.{student_tree, second_tree, ranked2_tree, second_placement, chosen, row_key}
use Rattle.portal_store.specs.Base.{text_or_none, Setup, lecturer_at, project_at, student_at}
use Rattle.std.specs.Prelude.{ℕ, Bool, if◌then◌else◌, ◌==◌, List, [], map, slice_index_or, Option, Some, None}
use Rattle.sqlite_trees.specs.Objects.{number_in}

abbrev pub office_row : Trees → Row
office_row db = slice_index_or (db portal_tree) 0 []

-- the round is the second if the phase in `second` is not 0
abbrev pub second_phase : Trees → ℕ
second_phase db = number_in (column (slice_index_or (db second_tree) 0 []) 2)

abbrev pub round_in : Trees → Round
round_in db = if second_phase db == 0 then First else Second

-- what the tables hold of a single round

abbrev pub phase_in : Round → Trees → Phase
phase_in First db = phase_numbered (number_in (column (office_row db) 3))
phase_in Second db = phase_numbered (second_phase db)

-- the lecturer has a ranking in this round
abbrev pub is_ranked : Round → Trees → Row → Bool
is_ranked First db r = number_in (column r 5) == 1
is_ranked Second db r = has (map row_key (db ranked2_tree)) (row_key r)

abbrev pub ranking_in : Round → Trees → Row → Option (List Key)
ranking_in round db r =
    if is_ranked round db r then Some (chosen (db (tree_of (ranking_table round))) (row_key r)) else None

abbrev pub choice_in : Round → Trees → Row → List Key
choice_in round db r = chosen (db (tree_of (choice_table round))) (row_key r)

abbrev pub placement_in_round : Round → Trees → Row → Option Key
placement_in_round First db r = text_or_none (column r 4)
placement_in_round Second db r = second_placement db (row_key r)

-- what the tables hold of the round before; the first round has none
abbrev pub earlier : {X : Type 0} → Round → X → X → X
earlier First none before = none
earlier Second none before = before

-- the world that the tables hold in a round

abbrev pub lecturer_stored : Round → Trees → Row → Lecturer
lecturer_stored round db r = record {
  row = lecturer_at 1 r;
  ranking = ranking_in round db r;
  earlier_ranking = earlier round None (ranking_in First db r);
}

abbrev pub student_stored : Round → Trees → Row → Student
student_stored round db r =
    record {
      row = student_at 1 r;
      choice = choice_in round db r;
      placed = placement_in_round round db r;
      earlier_choice = earlier round [] (choice_in First db r);
      earlier_placement = earlier round None (placement_in_round First db r);
    }

unfoldable pub world_in : Round → Trees → World
world_in round db =
    record {
      round = round;
      phase = phase_in round db;
      office = bytes (column (office_row db) 4);
      lecturers = put_all lecturer_key (map (lecturer_stored round db) (db lecturer_tree)) [];
      projects = put_all project_key (map (project_at 1) (db project_tree)) [];
      students = put_all student_key (map (student_stored round db) (db student_tree)) [];
    }

unfoldable pub world_of : Trees → World
world_of db = world_in (round_in db) db

-- the world that `create` makes: empty, in setup
abbrev pub first_world : Key → World
first_world office =
    record { round = First; phase = Setup; office = office; lecturers = []; projects = []; students = [] }
