-- Lemmas on the faults that speak of applicants, by number.
use Rattle.spa_model.proofs.Base.{◌≡◌, ◌⊎◌, inl, inr, ◌↔◌, IsTrue, ℕ, ◌+◌, ◌<◌, Bool, true, false, List, [], length}
use Rattle.spa_model.proofs.Base.{get_or, Option, Some, None, refl, sym, ◌∙◌, ap, subst, arith, cases_lt, false≢true}
use Rattle.spa_model.proofs.Base.{get_or_default, Text, IsLeastOf, map_at, at_place, Any, Student, Project, Lecturer}
use Rattle.spa_model.proofs.Base.{choices_at, lecturer_of_row, row_at, rank_at, Misses, MissesBelow, rules, not}
use Rattle.spa_model.proofs.Base.{lesser_row}
use Rattle.spa_model.proofs.Base.{least_either}
use Rattle.std.specs.Bool.{MatchBool}
use Rattle.std.specs.List.{AllWithin, HoldsAt}
use Rattle.std.specs.Option.{is_some}
use Rattle.spa_rows.specs.Lines

-- rows at a place
pub choices_here : (students : List Student) (s : ℕ) (x : Student) → s < length students → x ≡ get_or students s x
    → choices_at students s ≡ x.choices.items
choices_here students s x h at = map_at (λ y. y.choices.items) students s x [] h (sym at)

pub lecturer_here : (projects : List Project) (p : ℕ) (x : Project) → p < length projects → x ≡ get_or projects p x
    → lecturer_of_row projects p ≡ x.lecturer
lecturer_here projects p x h at = map_at (λ y. y.lecturer) projects p x 0 h (sym at)

pub row_here : (lines : List Lines.LecturerWithList) (l : ℕ) (x : Lines.LecturerWithList) → l < length lines
    → x ≡ get_or lines l x
    → row_at lines l ≡ x.row
row_here lines l x h at = map_at (λ y. y.row) lines l x 0 h (sym at)

pub rank_here : (lecturers : List Lecturer) (l s : ℕ) (x : Lecturer) → l < length lecturers → x ≡ get_or lecturers l x
    → rank_at lecturers l s ≡ get_or x.ranks.items s None
rank_here lecturers l s x h at = ap (λ ranks. get_or ranks s None) (map_at (λ y. y.ranks.items) lecturers l x [] h (sym at))

-- what a test of each element of a list says
pub any_tested : {X : Type 0} (P : X → Type 0) (r : Bool) (xs : List X)
    → MatchBool r ((k : ℕ) × (k < length xs) × HoldsAt P xs k) (AllWithin (λ x. P x → ⊥) xs 0 (length xs))
    → IsTrue r ↔ Any P xs
any_tested P true xs some = (λ _. let x = at_place xs some.0 some.1 in (some.0, x.0, some.1, x.1, rw x.1 at (some.2 x.0)), λ _. refl)
any_tested P false xs none = (λ e. absurd (false≢true e), λ (k, x, low, at, p). absurd (none k x (omega arith) low (subst P (sym at) p)))

-- what is least for P is least for Q, which says the same
pub least_same : (P Q : ℕ → Type 0) (o : Option ℕ) → ((r : ℕ) → P r → Q r) → ((r : ℕ) → Q r → P r) → IsLeastOf P o
    → IsLeastOf Q o
least_same P Q None f g h = λ r q. h r (g r q)
least_same P Q (Some b) f g h = (f b h.0, λ r q. h.1 r (g r q))

-- one more student
pub misses_more : (lines : List Lines.LecturerWithList) (lecturers : List Lecturer) (projects : List Project) (students : List Student)
    (n : ℕ) (a b : Option ℕ)
    → IsLeastOf (MissesBelow lines lecturers projects students n) a
    → IsLeastOf (Misses lines lecturers projects (choices_at students n) n) b
    → IsLeastOf (MissesBelow lines lecturers projects students (n + 1)) (lesser_row a b)
misses_more lines lecturers projects students n a b before here =
    least_same (λ r. MissesBelow lines lecturers projects students n r ⊎ Misses lines lecturers projects (choices_at students n) n r)
    (MissesBelow lines lecturers projects students (n + 1)) (lesser_row a b) join part
    (least_either (MissesBelow lines lecturers projects students n)
    (Misses lines lecturers projects (choices_at students n) n) a b before here)
  where
    join : (r : ℕ)
        → MissesBelow lines lecturers projects students n r ⊎ Misses lines lecturers projects (choices_at students n) n r
        → MissesBelow lines lecturers projects students (n + 1) r
    join r (inl (s, h, m)) = (s, omega arith, m)
    join r (inr m) = (n, omega arith, m)

    part : (r : ℕ) → MissesBelow lines lecturers projects students (n + 1) r
        → MissesBelow lines lecturers projects students n r ⊎ Misses lines lecturers projects (choices_at students n) n r
    part r (s, h, m) = elim (cases_lt s n) [
      | inl less ↦ inl (s, less, m)
      | inr not ↦ let same : s ≡ n = omega arith in inr (subst (λ k. Misses lines lecturers projects (choices_at students k) k r) same m)
    ]

-- what a choice says, at the rows that the code reads
pub rank_read : (projects : List Project) (lecturers : List Lecturer) (p s : ℕ) (project : Project) (lecturer : Lecturer) (rank : Option ℕ)
    → p < length projects → project ≡ get_or projects p project → project.lecturer < length lecturers
    → lecturer ≡ get_or lecturers project.lecturer lecturer → s < length lecturer.ranks.items
    → rank ≡ get_or lecturer.ranks.items s rank → rank_at lecturers (lecturer_of_row projects p) s ≡ rank
rank_read projects lecturers p s project lecturer rank h at l is k read =
    ap (λ n. rank_at lecturers n s) (lecturer_here projects p project h at) ∙ rank_here lecturers project.lecturer s lecturer l is
    ∙ get_or_default lecturer.ranks.items s None rank k ∙ sym read

pub row_read : (projects : List Project) (lines : List Lines.LecturerWithList) (p : ℕ) (project : Project) (line : Lines.LecturerWithList)
    → p < length projects → project ≡ get_or projects p project → project.lecturer < length lines
    → line ≡ get_or lines project.lecturer line → row_at lines (lecturer_of_row projects p) ≡ line.row
row_read projects lines p project line h at l is = ap (row_at lines) (lecturer_here projects p project h at)
    ∙ row_here lines project.lecturer line l is

pub none_iff : (o : Option ℕ) (b : Bool) → is_some o ≡ not b → (IsTrue b ↔ (o ≡ None))
none_iff None true e = (λ _. refl, λ _. refl)
none_iff None false e = cc
none_iff (Some x) true e = cc
none_iff (Some x) false e = (λ t. absurd (false≢true t), λ f. cc)
