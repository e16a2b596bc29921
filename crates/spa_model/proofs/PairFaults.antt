-- The faults of pairs, among the first rows.
use Rattle.spa_model.proofs.Base.{◌≡◌, ◌↔◌, inl, inr, ℕ, ◌+◌, ◌<◌, Bool, true, false, cond, eqb, List, [], ◌∷◌, ◌++◌}
use Rattle.spa_model.proofs.Base.{map, length, take, set, get_or, Option, None, Some, refl, sym, subst, All, IsTrue}
use Rattle.spa_model.proofs.Base.{nat_le, IfNone, leb-true, le-leb, at_place, Text, ◌∙◌, ap, arith, Contains, Any}
use Rattle.spa_model.proofs.Base.{count_by, cases_lt, cases_eq, eq-eqb, ne_eqb, get_or-map, get_or_default, get_or-take}
use Rattle.spa_model.proofs.Base.{length-map, length-take-le, length-set, get_or-set_same, get_or-set_other, take_more}
use Rattle.spa_model.proofs.Base.{count_by_more_no, sum_by-cons, Pair, IsLeastOf, BadAt, BadBelow, MatchingFault}
use Rattle.spa_model.proofs.Base.{NoSuchStudent, NoSuchProject, NotAcceptable, StudentTwice, ProjectOver, LecturerOver}
use Rattle.spa_model.proofs.Base.{Spa, IsLawful, IsAcceptable, lecturer_of, capacity_of, limit_of, number_in}
use Rattle.spa_model.proofs.Base.{student_in, project_in, lecturer_in, HasNone, rules, take-map, count_by_more_yes}
use Rattle.std.proofs.lemmas.List.Elements.{Contains-push, Contains-append_left, Contains-push_cases}
use Rattle.spa_model.specs.declared.matching.MatchingFault.TheVariants.{Memory}
use Rattle.spa_model.proofs.Numbers.{number_known, known_number, number_is}

-- the pair at j has the fault
abbrev pub IsBadPair : Spa → List Pair → MatchingFault → ℕ → Pair → Type 0
IsBadPair i lines NoSuchStudent j x = Contains i.student_keys x.student → ⊥
IsBadPair i lines NoSuchProject j x = Contains i.project_keys x.project → ⊥
IsBadPair i lines NotAcceptable j x = IsAcceptable i (student_in i x) (project_in i x) → ⊥
IsBadPair i lines StudentTwice j x = Any (λ y. y.student ≡ x.student) (take j lines)
IsBadPair i lines ProjectOver j x = capacity_of i (project_in i x) < count_by (λ y. eqb (project_in i y) (project_in i x))
    (take (j + 1) lines)
IsBadPair i lines LecturerOver j x = limit_of i (lecturer_in i x) < count_by (λ y. eqb (lecturer_in i y) (lecturer_in i x))
    (take (j + 1) lines)
IsBadPair i lines Memory j x = ⊥

-- some row among the first n has the fault
abbrev pub FaultBelow : Spa → List Pair → MatchingFault → ℕ → ℕ → Type 0
FaultBelow i lines fault n r = BadBelow lines (λ x. x.row) (IsBadPair i lines fault) n r

-- the number of the pair at n
pub number_at : (f : Pair → ℕ) (lines : List Pair) (numbers : List ℕ) (n : ℕ) (x : Pair) → numbers ≡ map f lines
    → n < length lines → get_or lines n x ≡ x → get_or numbers n 0 ≡ f x
number_at f lines numbers n x is h e = ap (λ ns. get_or ns n 0) is ∙ get_or-map f lines n x 0 h ∙ ap f e

-- a number past the keys is that of a text that is no key
pub past_number : (keys : List Text) (text : Text) (count n : ℕ) → count ≡ length keys → n ≡ number_in keys text
    → IsTrue (nat_le count n) ↔ (Contains keys text → ⊥)
past_number keys text count n is at = (
  λ past has. omega (arith, leb-true count n past, number_known keys text has),
  λ none. elim (cases_lt n count) [ inl less ↦ absurd (none (known_number keys text (omega arith))) | inr past ↦ le-leb count n past ],
)

-- where no row has the fault, no pair has
pub good_pair : (i : Spa) (lines : List Pair) (fault : MatchingFault)
    → ((r : ℕ) → FaultBelow i lines fault (length lines) r → ⊥) → (n : ℕ) (x : Pair) → n < length lines
    → get_or lines n x ≡ x → IsBadPair i lines fault n x → ⊥
good_pair i lines fault none n x h e bad = none x.row (n, x, h, h, e, refl, bad)

-- where each text is a key, the numbers are those of keys
all_below : (keys : List Text) (text_of : Pair → Text) (lines : List Pair) (numbers : List ℕ)
    → numbers ≡ map (λ x. number_in keys (text_of x)) lines
    → ((r : ℕ) → BadAt lines (λ x. x.row) (λ _ x. Contains keys (text_of x) → ⊥) r → ⊥)
    → All (λ n. n < length keys) numbers
all_below keys text_of lines numbers is none j d h =
    let low : j < length lines = omega (arith, ap length is, length-map lines (λ x. number_in keys (text_of x))) in
    let x = at_place lines j low in
    rw (get_or_default numbers j d 0 h, number_at (λ y. number_in keys (text_of y)) lines numbers j x.0 is low x.1)
    (elim (cases_lt (number_in keys (text_of x.0)) (length keys)) [
      | inl less ↦ less
      | inr past ↦ absurd (none x.0.row (j, x.0, low, low, x.1, refl, λ has. omega (arith, number_known keys (text_of x.0) has)))
    ])

pub students_below : (i : Spa) (lines : List Pair) (numbers : List ℕ) → IsLawful i → HasNone i lines NoSuchStudent
    → numbers ≡ map (student_in i) lines → All (λ s. s < length i.choices) numbers
students_below i lines numbers lawful none is =
    subst (λ n. All (λ s. s < n) numbers) lawful.student_rows (all_below i.student_keys (λ x. x.student) lines numbers is none)

pub projects_below : (i : Spa) (lines : List Pair) (numbers : List ℕ) → IsLawful i → HasNone i lines NoSuchProject
    → numbers ≡ map (project_in i) lines → All (λ p. p < length i.lecturers) numbers
projects_below i lines numbers lawful none is =
    subst (λ n. All (λ p. p < n) numbers) lawful.project_key_rows (all_below i.project_keys (λ x. x.project) lines numbers is none)

-- what holds where no row has the fault
pub if_none : (P : Type 0) (Bad : ℕ → Type 0) (row : Option ℕ) → (((r : ℕ) → Bad r → ⊥) → P) → IsLeastOf Bad row
    → IfNone row P
if_none P Bad None so least = so least
if_none P Bad (Some r) so least = tt

-- who has the same number has the same key
pub same_student : (i : Spa) (x y : Pair) → IsLawful i → student_in i x < length i.choices
    → student_in i y ≡ student_in i x → y.student ≡ x.student
same_student i x y lawful h e =
    let below : student_in i x < length i.student_keys = omega (arith, lawful.student_rows) in
    sym (number_is i.student_keys y.student (rw e below)) ∙ ap (λ n. get_or i.student_keys n []) e
    ∙ number_is i.student_keys x.student below

-- a student of an earlier pair, by the text and by the number
pub stands_before : (i : Spa) (lines : List Pair) (numbers : List ℕ) (n : ℕ) (x : Pair)
    → numbers ≡ map (student_in i) lines → n < length lines → Any (λ y. y.student ≡ x.student) (take n lines)
    → Contains (take n numbers) (student_in i x)
stands_before i lines numbers n x is h (k, y, below, at, same) =
    let size : length (take n lines) ≡ n = length-take-le n lines (omega arith) in
    let there : get_or lines k y ≡ y = sym (get_or-take n lines k y (omega arith)) ∙ at in
    let long : length numbers ≡ length lines = ap length is ∙ length-map lines (student_in i) in
    let size' : length (take n numbers) ≡ n = length-take-le n numbers (omega arith) in
    let number : get_or numbers k 0 ≡ student_in i y = number_at (student_in i) lines numbers k y is (omega arith) there in (
      k,
      omega arith,
      get_or-take n numbers k (student_in i x) (omega arith) ∙ get_or_default numbers k (student_in i x) 0 (omega arith)
          ∙ number ∙ ap (number_in i.student_keys) same,
    )

pub stood_before : (i : Spa) (lines : List Pair) (numbers : List ℕ) (n : ℕ) (x : Pair) → IsLawful i
    → numbers ≡ map (student_in i) lines → n < length lines → student_in i x < length i.choices
    → Contains (take n numbers) (student_in i x) → Any (λ y. y.student ≡ x.student) (take n lines)
stood_before i lines numbers n x lawful is h known (k, below, at) =
    let long : length numbers ≡ length lines = ap length is ∙ length-map lines (student_in i) in
    let size : length (take n lines) ≡ n = length-take-le n lines (omega arith) in
    let size' : length (take n numbers) ≡ n = length-take-le n numbers (omega arith) in
    let y : Pair = get_or lines k x in
    let there : get_or lines k y ≡ y = get_or_default lines k y x (omega arith) in
    let number : get_or numbers k 0 ≡ student_in i y = number_at (student_in i) lines numbers k y is (omega arith) there in
    let same : student_in i y ≡ student_in i x = sym number ∙ get_or_default numbers k 0 (student_in i x) (omega arith)
    ∙ sym (get_or-take n numbers k (student_in i x) (omega arith)) ∙ at in
    (k, y, omega arith, get_or-take n lines k y (omega arith) ∙ there, same_student i x y lawful known same)

-- the marks of those who stand among the first n
abbrev pub AreMarks : List Bool → List ℕ → ℕ → Type 0
AreMarks seen numbers n = (s : ℕ) → s < length seen → (get_or seen s false ≡ true) ↔ Contains (take n numbers) s

pub marks_more : (seen : List Bool) (numbers : List ℕ) (n t : ℕ) → n < length numbers → get_or numbers n 0 ≡ t
    → t < length seen → AreMarks seen numbers n → AreMarks (set seen t true) numbers (n + 1)
marks_more seen numbers n t h e below marks s k =
    let old = marks s (omega (arith, length-set seen t true)) in
    rw (take_more numbers n 0 h ∙ ap (λ x. take n numbers ++ x ∷ []) e) (elim (cases_eq s t) [
      | inl same ↦ rw same (λ _. Contains-push (take n numbers) t, λ _. get_or-set_same seen t true false below)
      | inr other ↦ (
        λ now. Contains-append_left (take n numbers) (t ∷ []) s (old.0 (rw (get_or-set_other seen t s true false other) at now)),
        λ has. elim (Contains-push_cases (take n numbers) t s has) [
          | inl before ↦ rw (get_or-set_other seen t s true false other) (old.1 before)
          | inr here ↦ absurd (other (sym here))
        ],
      )
    ])

-- the counts of each number among the first n
abbrev pub AreCounts : List ℕ → List ℕ → ℕ → Type 0
AreCounts counts numbers n = (q : ℕ) → q < length counts → get_or counts q 0 ≡ count_by (λ k. eqb k q) (take n numbers)

pub counts_more : (counts numbers : List ℕ) (n t : ℕ) → n < length numbers → get_or numbers n 0 ≡ t → t < length counts
    → AreCounts counts numbers n → AreCounts (set counts t (get_or counts t 0 + 1)) numbers (n + 1)
counts_more counts numbers n t h e below are q k =
    search (rules, length-set, get_or-set_same, count_by_more_yes, eq-eqb, get_or-set_other, count_by_more_no, ne_eqb)

-- a count over a mapped list
pub count_by-map : {X Y : Type 0} (p : Y → Bool) (f : X → Y) (xs : List X)
    → count_by p (map f xs) ≡ count_by (λ x. p (f x)) xs
count_by-map p f [] = refl
count_by-map p f (x ∷ xs) = sum_by-cons (λ y. cond (p y) 1 0) (f x) (map f xs) ∙ ap (λ n. cond (p (f x)) 1 0 + n) (count_by-map p f xs)
    ∙ sym (sum_by-cons (λ y. cond (p (f y)) 1 0) x xs)

-- a count of the first pairs, by their numbers
pub count_pairs : (f : Pair → ℕ) (lines : List Pair) (numbers : List ℕ) (n q : ℕ) → numbers ≡ map f lines
    → count_by (λ k. eqb k q) (take n numbers) ≡ count_by (λ y. eqb (f y) q) (take n lines)
count_pairs f lines numbers n q is = ap (λ ns. count_by (λ k. eqb k q) (take n ns)) is ∙ ap (count_by (λ k. eqb k q)) (take-map f n lines)
    ∙ count_by-map (λ k. eqb k q) f (take n lines)

-- the lecturers of the pairs' projects
pub lecturers_are : (i : Spa) (lines : List Pair) (projects : List ℕ) → projects ≡ map (project_in i) lines
    → map (lecturer_of i) projects ≡ map (lecturer_in i) lines
lecturers_are i lines projects is = ap (map (lecturer_of i)) is ∙ twice lines
  where
    twice : (xs : List Pair) → map (lecturer_of i) (map (project_in i) xs) ≡ map (lecturer_in i) xs
    twice [] = refl
    twice (x ∷ xs) = ap (λ ys. lecturer_in i x ∷ ys) (twice xs)
