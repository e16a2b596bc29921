-- A world as entries (the rows of the rolls with their owners' lists) and as the rows of tables;
-- which changes entries follow, and what a fill adds.
use Rattle.std.specs.Prelude.{◌≡◌, Bool, true, false, List, [], map, filter, Option, option_map}
use Rattle.portal_rules.specs.World.{World, Lecturer, Student, pairs_with, first, is_second, student_key}
use Rattle.portal_rules.specs.World.{applicants_of, is_still_to_rank, Change, Choices, Ranks, Lecturers, Projects}
use Rattle.portal_rules.specs.World.{Students, To, Placements, Fill, SecondRound}
use Rattle.portal_rules.specs.Good.{Sound}
use Rattle.portal_rules.specs.declared.phase.Round.{Round}
use Rattle.portal_rules.specs.declared.rows.ProjectRow.{ProjectRow}
use Rattle.std.specs.List.{filter_map}
use Rattle.portal_rules.specs.declared.phase.Phase.{Phase}
use Rattle.portal_rules.specs.declared.phase.Round.TheVariants.{First, Second}
use Rattle.portal_rules.specs.declared.rows.LecturerRow.{LecturerRow}
use Rattle.portal_rules.specs.declared.rows.StudentRow.{StudentRow}
use Rattle.portal_rules.specs.Words.{Key}

pub record AllEntries : Type 0 where
  pub round : Round
  pub lecturers : List Lecturer
  pub projects : List ProjectRow
  pub students : List Student

-- the entries of this world
abbrev pub entries_in : World → AllEntries
entries_in w = record { round = w.round; lecturers = w.lecturers; projects = w.projects; students = w.students }

-- the world has these entries
pub record HasEntries (entries : AllEntries) (w : World) : Type 0 where
  pub there : entries_in w ≡ entries

-- in the second round, the world in which the first was published is sound
abbrev pub HasSoundFirst : World → Type 0
HasSoundFirst w = is_second w.round ≡ true → Sound (first w)

pub record RowsOfWorld : Type 0 where
  pub round : Round
  pub phase : Phase
  pub office : Key
  pub lecturers : List LecturerRow
  pub projects : List ProjectRow
  pub students : List StudentRow
  -- each student's list, in the order of students
  pub choices : List (Key × List Key)
  -- the rankings that are there, in the order of lecturers
  pub rankings : List (Key × List Key)
  -- the result, in the order of students
  pub pairs : List (Key × Key)
  -- in the second round, the lists, the rankings and the result of the first
  pub earlier_choices : List (Key × List Key)
  pub earlier_rankings : List (Key × List Key)
  pub earlier_pairs : List (Key × Key)

abbrev pub choices_in : List Student → List (Key × List Key)
choices_in students = map (λ s. (s.row.key, s.choice)) students

abbrev pub earlier_choices_in : Round → List Student → List (Key × List Key)
earlier_choices_in First students = []
earlier_choices_in Second students = map (λ s. (s.row.key, s.earlier_choice)) students

abbrev pub rankings_with : (Lecturer → Option (List Key)) → List Lecturer → List (Key × List Key)
rankings_with ranking lecturers = filter_map (λ l. option_map (λ list. (l.row.key, list)) (ranking l)) lecturers

abbrev pub world_rows : World → RowsOfWorld
world_rows w =
    record {
      round = w.round;
      phase = w.phase;
      office = w.office;
      lecturers = map (λ l. l.row) w.lecturers;
      projects = w.projects;
      students = map (λ s. s.row) w.students;
      choices = choices_in w.students;
      rankings = rankings_with (λ l. l.ranking) w.lecturers;
      pairs = pairs_with (λ s. s.placed) w.students;
      earlier_choices = earlier_choices_in w.round w.students;
      earlier_rankings = rankings_with (λ l. l.earlier_ranking) w.lecturers;
      earlier_pairs = pairs_with (λ s. s.earlier_placement) w.students;
    }

-- the changes that entries follow: all but those of rolls, the result and the second round
abbrev pub is_followed : Change → Bool
is_followed (Choices student list) = true
is_followed (Ranks lecturer list) = true
is_followed (To phase) = true
is_followed Fill = true
is_followed (Lecturers rows) = false
is_followed (Projects rows) = false
is_followed (Students rows) = false
is_followed (Placements pairs) = false
is_followed SecondRound = false

-- the lecturers still to rank, each with the keys of the applicants
abbrev pub fill_missing : World → List (Key × List Key)
fill_missing w =
    map (λ l. (l.row.key, map student_key (applicants_of w l.row.key))) (filter (is_still_to_rank w) w.lecturers)
