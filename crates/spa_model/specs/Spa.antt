-- Student-project allocation with lecturer preferences over students: instances, stable matchings.
use Rattle.std.specs.Prelude.{◌≡◌, ◌≢◌, ℕ, ◌+◌, ◌<◌, ◌≤◌, ◌==◌, nat_lt, ◌⊎◌, ⊤, Bool, false, if◌then◌else◌, List, []}
use Rattle.std.specs.Prelude.{◌∷◌, length, Option, Some, None, count_by, slice_index_or, AllPairs, codes}
use Rattle.std.specs.declared.cmp.Ordering.TheVariants.{Less}
use Rattle.std.specs.Ordering.{nat_cmp}
use Rattle.std.specs.Cmp.Lexicographic.{slice_cmp}
use Rattle.spa_rows.specs.Limits.{most_lecturers, most_projects, most_students, longest_choice, most_places}
use Rattle.spa_rows.specs.Lines.{Text}
use Rattle.spa_model.specs.declared.letter.Letter.{Letter}
use Rattle.spa_model.specs.declared.letter.Letter.TheVariants.{A, B, C}

-- an instance; entry n of a list is that of student, project or lecturer n, from 0 in key order
pub record Spa : Type 0 where
  pub student_keys : List Text
  pub choices : List (List ℕ)
  pub project_keys : List Text
  pub lecturers : List ℕ
  pub capacities : List ℕ
  pub lecturer_keys : List Text
  pub rankings : List (List ℕ)
  pub limits : List ℕ

-- a student's list of projects, best first
abbrev pub choices_of : Spa → ℕ → List ℕ
choices_of i s = slice_index_or i.choices s []

-- the lecturer who offers a project
abbrev pub lecturer_of : Spa → ℕ → ℕ
lecturer_of i p = slice_index_or i.lecturers p 0

abbrev pub capacity_of : Spa → ℕ → ℕ
capacity_of i p = slice_index_or i.capacities p 0

-- a lecturer's list of students, best first
abbrev pub ranking_of : Spa → ℕ → List ℕ
ranking_of i l = slice_index_or i.rankings l []

abbrev pub limit_of : Spa → ℕ → ℕ
limit_of i l = slice_index_or i.limits l 0

-- the number of entries before x on a list; the list's length if x is not on it
abbrev pub place : List ℕ → ℕ → ℕ
place [] x = 0
place (y ∷ ys) x = if y == x then 0 else 1 + place ys x

abbrev pub IsOn : List ℕ → ℕ → Type 0
IsOn xs x = place xs x < length xs

-- the place of x, if x is on the list
abbrev pub rank_in : List ℕ → ℕ → Option ℕ
rank_in xs x = if nat_lt (place xs x) (length xs) then Some (place xs x) else None

-- a and b are both on the list, and a comes first
abbrev pub IsBefore : List ℕ → ℕ → ℕ → Type 0
IsBefore xs a b = (place xs a < place xs b) × (place xs b < length xs)

-- project p is on the list of student s
abbrev pub IsAcceptable : Spa → ℕ → ℕ → Type 0
IsAcceptable i s p = IsOn (choices_of i s) p

-- the project of student s in a matching, which lists each student's project or none
abbrev pub project_of : List (Option ℕ) → ℕ → Option ℕ
project_of m s = slice_index_or m s None

abbrev pub is_project : ℕ → Option ℕ → Bool
is_project p None = false
is_project p (Some q) = q == p

abbrev pub is_lecturer : Spa → ℕ → Option ℕ → Bool
is_lecturer i l None = false
is_lecturer i l (Some q) = lecturer_of i q == l

-- the number of students at a project, and of a lecturer's students over all projects
abbrev pub at_project : List (Option ℕ) → ℕ → ℕ
at_project m p = count_by (is_project p) m

abbrev pub at_lecturer : Spa → List (Option ℕ) → ℕ → ℕ
at_lecturer i m l = count_by (is_lecturer i l) m

-- a matching: the pairs are acceptable, and no project or lecturer is over capacity
pub record IsMatching (i : Spa) (m : List (Option ℕ)) : Type 0 where
  pub students : length m ≡ length i.choices
  pub acceptable : (s p : ℕ) → project_of m s ≡ Some p → IsAcceptable i s p
  pub projects : (p : ℕ) → at_project m p ≤ capacity_of i p
  pub lecturers : (l : ℕ) → at_lecturer i m l ≤ limit_of i l

-- student s is at a project of lecturer l
abbrev pub IsWith : Spa → List (Option ℕ) → ℕ → ℕ → Type 0
IsWith i m l s = (q : ℕ) × (project_of m s ≡ Some q) × (lecturer_of i q ≡ l)

-- s is unassigned or prefers p to the own project, so (s, p) is not in the matching
abbrev pub Improves : Spa → ℕ → ℕ → Option ℕ → Type 0
Improves i s p None = ⊤
Improves i s p (Some q) = IsBefore (choices_of i s) p q

-- p is acceptable to s, who is unassigned or prefers it
abbrev pub Wants : Spa → List (Option ℕ) → ℕ → ℕ → Type 0
Wants i m s p = IsAcceptable i s p × Improves i s p (project_of m s)

-- a student at p, or with l, comes after s on the lecturer's list
abbrev pub SomeWorseAt : Spa → List (Option ℕ) → ℕ → ℕ → Type 0
SomeWorseAt i m p s = (t : ℕ) × (project_of m t ≡ Some p) × IsBefore (ranking_of i (lecturer_of i p)) s t

abbrev pub SomeWorseWith : Spa → List (Option ℕ) → ℕ → ℕ → Type 0
SomeWorseWith i m l s = (t : ℕ) × IsWith i m l t × IsBefore (ranking_of i l) s t

-- (s, p) blocks the matching: A, p and its lecturer have room; B, only p has; C, p is full
abbrev pub Blocks : Spa → List (Option ℕ) → ℕ → ℕ → Letter → Type 0
Blocks i m s p A =
    Wants i m s p × (at_project m p < capacity_of i p)
    × (at_lecturer i m (lecturer_of i p) < limit_of i (lecturer_of i p))
Blocks i m s p B =
    Wants i m s p × (at_project m p < capacity_of i p)
    × (at_lecturer i m (lecturer_of i p) ≡ limit_of i (lecturer_of i p))
    × (IsWith i m (lecturer_of i p) s ⊎ SomeWorseWith i m (lecturer_of i p) s)
Blocks i m s p C = Wants i m s p × (at_project m p ≡ capacity_of i p) × SomeWorseAt i m p s

-- a stable matching: no pair blocks it
pub record IsStable (i : Spa) (m : List (Option ℕ)) : Type 0 where
  pub matching : IsMatching i m
  pub unblocked : (s p : ℕ) (x : Letter) → Blocks i m s p x → ⊥

-- for s the first is as good: the same or a preferred project, or the second is none
abbrev pub IsAsGood : Spa → ℕ → Option ℕ → Option ℕ → Type 0
IsAsGood i s mine None = ⊤
IsAsGood i s None (Some q) = ⊥
IsAsGood i s (Some p) (Some q) = (p ≡ q) ⊎ IsBefore (choices_of i s) p q

-- the student-optimal stable matching: as good for each student as every stable matching
pub record IsBest (i : Spa) (m : List (Option ℕ)) : Type 0 where
  pub stable : IsStable i m
  pub best : (n : List (Option ℕ)) → IsStable i n → (s : ℕ) → IsAsGood i s (project_of m s) (project_of n s)

-- each key is smaller than every later one, in byte order
abbrev pub TextsRise : List Text → Type 0
TextsRise keys = AllPairs (λ a b. slice_cmp nat_cmp a b ≡ Less) keys

-- no number occurs twice
abbrev pub IsDistinct : List ℕ → Type 0
IsDistinct list = AllPairs (λ a b. a ≢ b) list

-- what each built instance meets; lecturers rank exactly the students who list a project of theirs
pub record IsLawful (i : Spa) : Type 0 where
  pub student_rows : length i.student_keys ≡ length i.choices
  pub project_key_rows : length i.project_keys ≡ length i.lecturers
  pub project_rows : length i.capacities ≡ length i.lecturers
  pub lecturer_key_rows : length i.lecturer_keys ≡ length i.rankings
  pub lecturer_rows : length i.limits ≡ length i.rankings
  pub student_keys_rise : TextsRise i.student_keys
  pub project_keys_rise : TextsRise i.project_keys
  pub lecturer_keys_rise : TextsRise i.lecturer_keys
  pub offered : (p : ℕ) → p < length i.lecturers → lecturer_of i p < length i.rankings
  pub known : (s p : ℕ) → IsAcceptable i s p → p < length i.lecturers
  pub choices_distinct : (s : ℕ) → IsDistinct (choices_of i s)
  pub ranked : (s p : ℕ) → IsAcceptable i s p → IsOn (ranking_of i (lecturer_of i p)) s
  pub applicants : (l s : ℕ) → IsOn (ranking_of i l) s → (p : ℕ) × IsAcceptable i s p × (lecturer_of i p ≡ l)
  pub distinct : (l : ℕ) → IsDistinct (ranking_of i l)
  pub capacities_in_range : (p : ℕ) → p < length i.lecturers → (1 ≤ capacity_of i p) × (capacity_of i p ≤ most_places)
  pub limits_in_range : (l : ℕ) → l < length i.rankings → (1 ≤ limit_of i l) × (limit_of i l ≤ most_places)
  pub lists_short : (s : ℕ) → length (choices_of i s) ≤ longest_choice
  pub student_count : length i.choices ≤ most_students
  pub project_count : length i.lecturers ≤ most_projects
  pub lecturer_count : length i.rankings ≤ most_lecturers

-- a letter as it is printed
abbrev pub text_of : Letter → List ℕ
text_of A = codes "a"
text_of B = codes "b"
text_of C = codes "c"
