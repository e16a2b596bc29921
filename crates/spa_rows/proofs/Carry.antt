-- Some faults ignore the order of lines: rows have them exactly where their permutations do.
use Rattle.spa_rows.proofs.Base.{◌≡◌, ◌⊎◌, inl, inr, ℕ, ◌<◌, false, List, length, map, get_or, refl, sym, ◌∙◌, ap}
use Rattle.spa_rows.proofs.Base.{subst, arith, false≢true, bytes_eq-Decides, Any, length-map, Text, Rows, BadAt}
use Rattle.spa_rows.proofs.Base.{HasFault, HasNoneBefore, IsFirstFault, IsBadCapacity, IsEarlierKey, IsKeyOf, NamesNone}
use Rattle.spa_rows.proofs.Base.{Repeats, number_of, InstanceFault, TooMany, BadKey, KeyTwice, BadCapacity}
use Rattle.spa_rows.proofs.Base.{NoSuchLecturer, NoSuchProject, RepeatInList, ListTooLong, NotApplicant}
use Rattle.spa_rows.proofs.Base.{ApplicantMissing, Memory, is_key, rules, ◌≢◌, false_from_ne_true, nat_list_eq_equiv}
use Rattle.spa_rows.proofs.Base.{IsPermutation, IsDistinct, bytes_eq, length-take, get_or-take, IsPermutation-sym}
use Rattle.spa_rows.proofs.Base.{IsPermutation-map, Contains-permutation, length_permutation, LecturerWithList}
use Rattle.spa_rows.proofs.Base.{ProjectWithLecturer, longest_choice}
use Rattle.spa_rows.proofs.Base.{StudentWithList, IsOffered, FindsOne, IsApplicant, MissesOne}
use Rattle.std.proofs.lemmas.Map.Keys.{IsDistinct-from_apart, IsDistinct-IsPermutation, apart_from_distinct}
use Rattle.spa_rows.proofs.Lists.{at_place, map_at}
use Rattle.spa_rows.proofs.FirstFault.{same_number}

-- the lines of b are those of a, in another order
pub record SameLines (a b : Rows) : Type 0 where
  pub lecturers : IsPermutation a.lecturers b.lecturers
  pub projects : IsPermutation a.projects b.projects
  pub students : IsPermutation a.students b.students

pub same_lines_sym : (a b : Rows) → SameLines a b → SameLines b a
same_lines_sym a b same = record {
  lecturers = IsPermutation-sym _ _ same.lecturers;
  projects = IsPermutation-sym _ _ same.projects;
  students = IsPermutation-sym _ _ same.students;
}

-- some element of a list
any_carry : {X : Type 0} (P Q : X → Type 0) (xs ys : List X) → IsPermutation xs ys → ((x : X) → P x → Q x) → Any P xs
    → Any Q ys
any_carry P Q xs ys same step (k, x, h, at, p) =
    let (j, g, is) = Contains-permutation xs ys x same (k, h, at) in
    (j, x, g, is, step x p)

any_step : {X : Type 0} (P Q : X → Type 0) (xs : List X) → ((x : X) → P x → Q x) → Any P xs → Any Q xs
any_step P Q xs step (k, x, h, at, p) = (k, x, h, at, step x p)

-- some line in a row
bad_carry : {X : Type 0} (row : X → ℕ) (P Q : X → Type 0) (xs ys : List X) → IsPermutation xs ys → ((x : X) → P x → Q x)
    → (r : ℕ) → BadAt xs row (λ _ x. P x) r → BadAt ys row (λ _ x. Q x) r
bad_carry row P Q xs ys same step r (k, x, h, h2, at, in_row, p) =
    let (j, g, is) = Contains-permutation xs ys x same (k, h, at) in
    (j, x, g, g, is, in_row, step x p)

pub key_carry : {X : Type 0} (key : X → Text) (xs ys : List X) (text : Text) → IsPermutation xs ys → IsKeyOf xs key text
    → IsKeyOf ys key text
key_carry key xs ys text same known = any_carry (λ x. key x ≡ text) (λ x. key x ≡ text) xs ys same (λ x h. h) known

-- what is said of applicants
pub offered_carry : (a b : Rows) → SameLines a b → (project lecturer : Text) → IsOffered a project lecturer
    → IsOffered b project lecturer
offered_carry a b same project lecturer offered =
    any_carry (λ p. (p.key ≡ project) × (p.lecturer ≡ lecturer))
    (λ p. (p.key ≡ project) × (p.lecturer ≡ lecturer)) a.projects b.projects same.projects (λ x h. h) offered

pub finds_carry : (a b : Rows) → SameLines a b → (s : StudentWithList) (lecturer : Text) → FindsOne a s lecturer
    → FindsOne b s lecturer
finds_carry a b same s lecturer found = any_step (λ project. IsOffered a project lecturer) (λ project. IsOffered b project lecturer) s.list
    (λ project h. offered_carry a b same project lecturer h) found

pub applicant_carry : (a b : Rows) → SameLines a b → (lecturer text : Text) → IsApplicant a lecturer text
    → IsApplicant b lecturer text
applicant_carry a b same lecturer text is =
    any_carry (λ s. (s.key ≡ text) × FindsOne a s lecturer)
    (λ s. (s.key ≡ text) × FindsOne b s lecturer) a.students b.students same.students (λ s h. (h.0, finds_carry a b same s lecturer h.1)) is

pub misses_carry : (a b : Rows) → SameLines a b → (x : LecturerWithList) → MissesOne a x → MissesOne b x
misses_carry a b same x missed = any_carry (λ s. FindsOne a s x.key × (Any (λ text. text ≡ s.key) x.list → ⊥))
    (λ s. FindsOne b s x.key × (Any (λ text. text ≡ s.key) x.list → ⊥)) a.students b.students same.students
    (λ s h. (finds_carry a b same s x.key h.0, h.1)) missed

-- either of two faults
either_carry : {A B C D : Type 0} → (A → C) → (B → D) → A ⊎ B → C ⊎ D
either_carry f g (inl h) = inl (f h)
either_carry f g (inr h) = inr (g h)

module _ (a b : Rows) (same : SameLines a b) where
  lecturer_carry : (P Q : LecturerWithList → Type 0) → ((x : LecturerWithList) → P x → Q x) → (r : ℕ)
      → BadAt a.lecturers (λ x. x.row) (λ _ x. P x) r → BadAt b.lecturers (λ x. x.row) (λ _ x. Q x) r
  lecturer_carry P Q step r bad = bad_carry (λ x. x.row) P Q a.lecturers b.lecturers same.lecturers step r bad

  project_carry : (P Q : ProjectWithLecturer → Type 0) → ((x : ProjectWithLecturer) → P x → Q x) → (r : ℕ)
      → BadAt a.projects (λ x. x.row) (λ _ x. P x) r → BadAt b.projects (λ x. x.row) (λ _ x. Q x) r
  project_carry P Q step r bad = bad_carry (λ x. x.row) P Q a.projects b.projects same.projects step r bad

  student_carry : (P Q : StudentWithList → Type 0) → ((x : StudentWithList) → P x → Q x) → (r : ℕ)
      → BadAt a.students (λ x. x.row) (λ _ x. P x) r → BadAt b.students (λ x. x.row) (λ _ x. Q x) r
  student_carry P Q step r bad = bad_carry (λ x. x.row) P Q a.students b.students same.students step r bad

  -- a fault other than a repeated key
  pub fault_carry : (f : InstanceFault) → f ≢ KeyTwice → (r : ℕ) → HasFault a f r → HasFault b f r
  fault_carry TooMany ne r has = (
    has.0,
    rw
        (length_permutation _ _ same.lecturers, length_permutation _ _ same.projects, length_permutation _ _ same.students) has.1,
  )
  fault_carry BadKey ne r has =
      either_carry (lecturer_carry (λ x. is_key x.key ≡ false) (λ x. is_key x.key ≡ false) (λ x h. h) r)
      (either_carry (project_carry (λ x. is_key x.key ≡ false) (λ x. is_key x.key ≡ false) (λ x h. h) r)
      (student_carry (λ x. is_key x.key ≡ false) (λ x. is_key x.key ≡ false) (λ x h. h) r)) has
  fault_carry KeyTwice ne r has = absurd (ne refl)
  fault_carry BadCapacity ne r has = either_carry
      (lecturer_carry (λ x. IsBadCapacity x.capacity) (λ x. IsBadCapacity x.capacity) (λ x h. h) r)
      (project_carry (λ x. IsBadCapacity x.capacity) (λ x. IsBadCapacity x.capacity) (λ x h. h) r) has
  fault_carry NoSuchLecturer ne r has = project_carry (λ x. IsKeyOf a.lecturers (λ y. y.key) x.lecturer → ⊥)
      (λ x. IsKeyOf b.lecturers (λ y. y.key) x.lecturer → ⊥)
      (λ x none known. none (key_carry (λ y. y.key) b.lecturers a.lecturers x.lecturer (IsPermutation-sym _ _ same.lecturers) known)) r has
  fault_carry NoSuchProject ne r has = student_carry (λ x. NamesNone a.projects (λ y. y.key) x.list)
      (λ x. NamesNone b.projects (λ y. y.key) x.list)
      (λ x named. any_step (λ text. IsKeyOf a.projects (λ y. y.key) text → ⊥) (λ text. IsKeyOf b.projects (λ y. y.key) text → ⊥) x.list
      (λ text none known. none (key_carry (λ y. y.key) b.projects a.projects text (IsPermutation-sym _ _ same.projects) known)) named) r has
  fault_carry RepeatInList ne r has = either_carry (lecturer_carry (λ x. Repeats x.list) (λ x. Repeats x.list) (λ x h. h) r)
      (student_carry (λ x. Repeats x.list) (λ x. Repeats x.list) (λ x h. h) r) has
  fault_carry ListTooLong ne r has = student_carry (λ x. longest_choice < length x.list) (λ x. longest_choice < length x.list)
      (λ x h. h) r has
  fault_carry NotApplicant ne r has = lecturer_carry (λ x. Any (λ text. IsApplicant a x.key text → ⊥) x.list)
      (λ x. Any (λ text. IsApplicant b x.key text → ⊥) x.list)
      (λ x named. any_step (λ text. IsApplicant a x.key text → ⊥) (λ text. IsApplicant b x.key text → ⊥) x.list
      (λ text none is. none (applicant_carry b a (same_lines_sym a b same) x.key text is)) named) r has
  fault_carry ApplicantMissing ne r has = lecturer_carry (λ x. MissesOne a x) (λ x. MissesOne b x)
      (λ x missed. misses_carry a b same x missed) r has
  fault_carry Memory ne r has = has

-- the keys of lines that do not repeat are distinct, and the other way round
keys_apart : {X : Type 0} (key : X → Text) (xs : List X)
    → ((j : ℕ) (x : X) → j < length xs → get_or xs j x ≡ x → IsEarlierKey xs key j (key x) → ⊥)
    → IsDistinct bytes_eq (map key xs)
keys_apart key xs none = IsDistinct-from_apart bytes_eq (map key xs) (λ i j d before below.
    let in_j : j < length xs = omega (arith, below, length-map xs key) in
    let in_i : i < length xs = omega (arith, before, in_j) in
    let (y, is_y) = at_place xs j in_j in
    let (x, is_x) = at_place xs i in_i in
    false_from_ne_true _ (λ e.
    let one : key x ≡ key y = sym (map_at key xs i x d in_i is_x) ∙ (bytes_eq-Decides _ _).0 e ∙ map_at key xs j y d in_j is_y in
    none j y in_j is_y (i, x, omega (arith, before, in_j, length-take j xs), get_or-take j xs i x before ∙ is_x, one)))

keys_unlike : {X : Type 0} (key : X → Text) (xs : List X) → IsDistinct bytes_eq (map key xs) → (j : ℕ) (x : X)
    → j < length xs → get_or xs j x ≡ x → IsEarlierKey xs key j (key x) → ⊥
keys_unlike key xs apart j y in_j is_y (i, x, in_take, taken, one) =
    let long : length (map key xs) ≡ length xs = length-map xs key in
    let before : i < j = omega (arith, in_take, length-take j xs) in
    let in_i : i < length xs = omega (arith, before, in_j) in
    let is_x : get_or xs i x ≡ x = sym (get_or-take j xs i x before) ∙ taken in
    let same : get_or (map key xs) i (key y) ≡ get_or (map key xs) j (key y) = map_at key xs i x (key y) in_i is_x ∙ one
    ∙ sym (map_at key xs j y (key y) in_j is_y) in
    false≢true (sym (apart_from_distinct bytes_eq (map key xs) i j (key y) apart before (omega (arith, in_j, long)))
    ∙ (bytes_eq-Decides _ _).1 same)

bytes_flip : (x y : Text) → bytes_eq x y ≡ bytes_eq y x
bytes_flip x y = nat_list_eq_equiv.symm x y

-- no line of a permutation has the key of an earlier one
twice_carry : {X : Type 0} (key : X → Text) (row : X → ℕ) (xs ys : List X) → IsPermutation xs ys
    → ((r : ℕ) → BadAt xs row (λ j x. IsEarlierKey xs key j (key x)) r → ⊥) → (r : ℕ)
    → BadAt ys row (λ j x. IsEarlierKey ys key j (key x)) r → ⊥
twice_carry key row xs ys same none r (j, y, h, h2, at, in_row, earlier) =
    let apart = keys_apart key xs (λ i x g is before. none (row x) (i, x, g, g, is, refl, before)) in
    keys_unlike key ys (IsDistinct-IsPermutation bytes_eq bytes_flip (map key xs) (map key ys) (IsPermutation-map key xs ys same) apart) j y
    h at earlier

-- a repeated key
pub twice_none_carry : (a b : Rows) → SameLines a b → ((r : ℕ) → HasFault a KeyTwice r → ⊥) → (r : ℕ)
    → HasFault b KeyTwice r → ⊥
twice_none_carry a b same none r has = elim has [
  | inl h ↦ twice_carry (λ x. x.key) (λ x. x.row) a.lecturers b.lecturers same.lecturers (λ q bad. none q (inl bad)) r h
  | inr later ↦ elim later [
    | inl h ↦ twice_carry (λ x. x.key) (λ x. x.row) a.projects b.projects same.projects (λ q bad. none q (inr (inl bad))) r h
    | inr h ↦ twice_carry (λ x. x.key) (λ x. x.row) a.students b.students same.students (λ q bad. none q (inr (inr bad))) r h
  ]
]

is_twice : (f : InstanceFault) → (f ≡ KeyTwice) ⊎ (f ≢ KeyTwice)
is_twice f = search (rules, same_number)

-- no fault of a lesser number
pub none_before_carry : (a b : Rows) → SameLines a b → (fault : InstanceFault) → HasNoneBefore a fault
    → HasNoneBefore b fault
none_before_carry a b same fault none f below r has = elim (is_twice f) [
  | inl twice ↦
      twice_none_carry a b same (λ q h. none KeyTwice (omega (arith, below, ap number_of twice)) q h) r
      (subst (λ x. HasFault b x r) twice has)
  | inr other ↦ none f below r (fault_carry b a (same_lines_sym a b same) f other r has)
]

-- the first fault
pub first_fault_carry : (a b : Rows) → SameLines a b → (fault : InstanceFault) → fault ≢ KeyTwice → (r : ℕ)
    → IsFirstFault a fault r → IsFirstFault b fault r
first_fault_carry a b same fault other r first = record {
  here = fault_carry a b same fault other r first.here;
  least = λ q has. first.least q (fault_carry b a (same_lines_sym a b same) fault other q has);
  none_before = none_before_carry a b same fault first.none_before;
}
