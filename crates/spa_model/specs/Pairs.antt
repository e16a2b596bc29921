-- When an instance stands for rows, what can be wrong with pairs, and when they make a matching.
use Rattle.std.specs.Prelude.{◌≡◌, ◌<◌, ℕ, List, [], All, map, length, slice_index_or, ◌≤◌, ◌+◌, ◌==◌, Option, Some}
use Rattle.std.specs.Prelude.{Any, Contains, take, count_by}
use Rattle.spa_rows.specs.Lines.{Text, LecturerWithList, ProjectWithLecturer, StudentWithList, Rows, Pair}
use Rattle.spa_model.specs.Spa.{Spa, choices_of, lecturer_of, capacity_of, ranking_of, limit_of, project_of}
use Rattle.spa_model.specs.Spa.{IsAcceptable, IsLawful, IsMatching}
use Rattle.std.specs.List.{position_or_len}
use Rattle.std.specs.Str.{bytes_eq}
use Rattle.spa_rows.specs.Faults.{BadAt, HasNoneBefore, IsFirst}
use Rattle.spa_rows.specs.declared.faults.InstanceFault.TheVariants as rows_fault
use Rattle.spa_model.specs.declared.matching.MatchingFault.{MatchingFault}
use Rattle.spa_model.specs.declared.matching.MatchingFault.TheVariants.{NoSuchStudent, NoSuchProject, NotAcceptable}
use Rattle.spa_model.specs.declared.matching.MatchingFault.TheVariants.{StudentTwice, ProjectOver, LecturerOver, Memory}

-- the text is the key with this number
abbrev pub HasKey : List Text → ℕ → Text → Type 0
HasKey keys n text = (n < length keys) × (slice_index_or keys n [] ≡ text)

-- the keys of the numbers on a list
abbrev pub keys_at : List Text → List ℕ → List Text
keys_at keys list = map (λ n. slice_index_or keys n []) list

abbrev pub StandsStudent : Spa → StudentWithList → Type 0
StandsStudent i x = (s : ℕ) × HasKey i.student_keys s x.key × (keys_at i.project_keys (choices_of i s) ≡ x.list)

abbrev pub StandsProject : Spa → ProjectWithLecturer → Type 0
StandsProject i x =
    (p : ℕ) × HasKey i.project_keys p x.key × (capacity_of i p ≡ x.capacity)
    × (slice_index_or i.lecturer_keys (lecturer_of i p) [] ≡ x.lecturer)

abbrev pub StandsLecturer : Spa → LecturerWithList → Type 0
StandsLecturer i x =
    (l : ℕ) × HasKey i.lecturer_keys l x.key × (limit_of i l ≡ x.capacity)
    × (keys_at i.student_keys (ranking_of i l) ≡ x.list)

-- the instance has exactly the lines of the rows; only one lawful instance has, as its keys rise
pub record StandsFor (rows : Rows) (i : Spa) : Type 0 where
  pub students : All (StandsStudent i) rows.students
  pub student_count : length i.student_keys ≡ length rows.students
  pub projects : All (StandsProject i) rows.projects
  pub project_count : length i.project_keys ≡ length rows.projects
  pub lecturers : All (StandsLecturer i) rows.lecturers
  pub lecturer_count : length i.lecturer_keys ≡ length rows.lecturers

-- the instance is that of these rows, which have no fault
pub record IsInstanceOf (rows : Rows) (i : Spa) : Type 0 where
  pub stands : StandsFor rows i
  pub lawful : IsLawful i
  pub faultless : HasNoneBefore rows rows_fault.Memory

-- the number of a key, from 0; if the text is no key, the number of keys
abbrev pub number_in : List Text → Text → ℕ
number_in keys text = position_or_len (λ key. bytes_eq key text) keys

-- the numbers of a pair's student and project, and of the lecturer who offers that project
abbrev pub student_in : Spa → Pair → ℕ
student_in i x = number_in i.student_keys x.student

abbrev pub project_in : Spa → Pair → ℕ
project_in i x = number_in i.project_keys x.project

abbrev pub lecturer_in : Spa → Pair → ℕ
lecturer_in i x = lecturer_of i (project_in i x)

-- row r has the fault; capacities are compared with the pairs up to and including the row
abbrev pub HasPairFault : Spa → List Pair → MatchingFault → ℕ → Type 0
HasPairFault i lines NoSuchStudent r = BadAt lines (λ x. x.row) (λ _ x. Contains i.student_keys x.student → ⊥) r
HasPairFault i lines NoSuchProject r = BadAt lines (λ x. x.row) (λ _ x. Contains i.project_keys x.project → ⊥) r
HasPairFault i lines NotAcceptable r =
    BadAt lines (λ x. x.row) (λ _ x. IsAcceptable i (student_in i x) (project_in i x) → ⊥) r
HasPairFault i lines StudentTwice r =
    BadAt lines (λ x. x.row) (λ j x. Any (λ y. y.student ≡ x.student) (take j lines)) r
HasPairFault i lines ProjectOver r =
    BadAt lines (λ x. x.row) (λ j x.
    capacity_of i (project_in i x) < count_by (λ y. project_in i y == project_in i x) (take (j + 1) lines)) r
HasPairFault i lines LecturerOver r =
    BadAt lines (λ x. x.row) (λ j x.
    limit_of i (lecturer_in i x) < count_by (λ y. lecturer_in i y == lecturer_in i x) (take (j + 1) lines)) r
HasPairFault i lines Memory r = ⊥

-- the order of the faults: the least number is reported
abbrev pub number_of_pair_fault : MatchingFault → ℕ
number_of_pair_fault NoSuchStudent = 1
number_of_pair_fault NoSuchProject = 2
number_of_pair_fault NotAcceptable = 3
number_of_pair_fault StudentTwice = 4
number_of_pair_fault ProjectOver = 5
number_of_pair_fault LecturerOver = 6
number_of_pair_fault Memory = 7

abbrev pub IsFirstPairFault : Spa → List Pair → MatchingFault → ℕ → Type 0
IsFirstPairFault i lines fault r = IsFirst number_of_pair_fault (HasPairFault i lines) fault r

-- what a refusal says; `Memory`, at row 0, needs no cause
abbrev pub IsPairRefusal : Spa → List Pair → MatchingFault → ℕ → Type 0
IsPairRefusal i lines Memory r = r ≡ 0
IsPairRefusal i lines fault r = IsFirstPairFault i lines fault r

-- the matching has exactly these pairs
pub record HasPairs (i : Spa) (lines : List Pair) (m : List (Option ℕ)) : Type 0 where
  pub students : length m ≡ length i.choices
  pub each : All (λ x. project_of m (student_in i x) ≡ Some (project_in i x)) lines
  pub no_other : (s p : ℕ) → project_of m s ≡ Some p → Any (λ x. (student_in i x ≡ s) × (project_in i x ≡ p)) lines

-- no row has the fault
abbrev pub HasNone : Spa → List Pair → MatchingFault → Type 0
HasNone i lines fault = (r : ℕ) → HasPairFault i lines fault r → ⊥

-- no row has any fault
abbrev pub AreSound : Spa → List Pair → Type 0
AreSound i lines = (fault : MatchingFault) → HasNone i lines fault

-- the matching is that of these pairs, which have no fault
pub record IsMatchingOf (i : Spa) (lines : List Pair) (m : List (Option ℕ)) : Type 0 where
  pub pairs : HasPairs i lines m
  pub fits : IsMatching i m
  pub sound : AreSound i lines
