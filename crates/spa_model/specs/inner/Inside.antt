-- How an `Instance` is kept: rows by number, and a table of places for each lecturer.
use Rattle.std.specs.Prelude.{◌≡◌, ◌<◌, ℕ, List, All, map, length, Option, None, slice_index_or}
use Rattle.spa_model.specs.declared.instance.Student.{Student}
use Rattle.spa_model.specs.declared.instance.Project.{Project}
use Rattle.spa_model.specs.declared.instance.Lecturer.{Lecturer}
use Rattle.spa_model.specs.Spa.{Spa, rank_in}

-- the instance that rows stand for
abbrev pub spa_of : List Student → List Project → List Lecturer → Spa
spa_of students projects lecturers = record {
  student_keys = map (λ s. s.key) students;
  choices = map (λ s. s.choices.items) students;
  project_keys = map (λ p. p.key) projects;
  lecturers = map (λ p. p.lecturer) projects;
  capacities = map (λ p. p.capacity) projects;
  lecturer_keys = map (λ l. l.key) lecturers;
  rankings = map (λ l. l.ranking.items) lecturers;
  limits = map (λ l. l.capacity) lecturers;
}

-- the place of each of n students on a list
pub record AreRanks (n : ℕ) (list : List ℕ) (ranks : List (Option ℕ)) : Type 0 where
  pub count : length ranks ≡ n
  pub each : (s : ℕ) → s < n → slice_index_or ranks s None ≡ rank_in list s

-- each lecturer has the table of places
abbrev pub HaveRanks : ℕ → List Lecturer → Type 0
HaveRanks n lecturers = All (λ l. AreRanks n l.ranking.items l.ranks.items) lecturers
