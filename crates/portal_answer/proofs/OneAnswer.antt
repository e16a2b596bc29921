-- To the bytes of a file one text alone is told.
use Rattle.portal_answer.proofs.Base.{◌≡◌, ◌∙◌, inl, inr, ℕ, ◌<◌, ◌≤◌, Bool, true, false, Result, Ok, Err, List, []}
use Rattle.portal_answer.proofs.Base.{length, get_or, Option, Some, None, refl, sym, subst, ap, arith, Pair}
use Rattle.portal_answer.proofs.Base.{InstanceFault, File, rows, RollFault, Spa, Text, Output, refused_instance}
use Rattle.portal_answer.proofs.Base.{OfMatching}
use Rattle.portal_answer.proofs.Base.{OfPairs, OfRead, IfLonger, IsAnswer, Task, Check, Solve, ◌⊎◌, zero, suc, ◌∷◌}
use Rattle.portal_answer.proofs.Base.{ext_get_or, Rows, Blocks, project_of, refused_matching, blocking, assignment}
use Rattle.portal_answer.proofs.Base.{OfFile, file_rows, limit}
use Rattle.std.specs.Prelude.{AllPairs, Contains, nat_lt}
use Rattle.std.proofs.lemmas.Bool.{cases_lt}
use Rattle.spa_rows.specs.Faults.{HasFault, HasNoneBefore, IsFirst, IsFirstFault, number_of}
use Rattle.spa_rows.specs.declared.faults.InstanceFault.TheVariants as row
use Rattle.spa_rows.proofs.FirstFault.{same_number}
use Rattle.spa_model.specs.Pairs.{HasPairFault, HasPairs, number_of_pair_fault, student_in, project_in}
use Rattle.spa_model.specs.declared.matching.MatchingFault.{MatchingFault}
use Rattle.spa_model.proofs.FirstFault.{fault_of, fault_of-number}
use Rattle.spa_model.proofs.OneOnly.{best_is_one}
use Rattle.spa_model.proofs.OneInstance.{instance_is_one}
use Rattle.spa_check.specs.Listed.{AreAllBlocks, IsEarlier}
use Rattle.spa_check.specs.declared.blocking.Block.{Block}

-- ---- blocking pairs: two lists that rise and have the same members are one

abbrev Sorted : List Block → Type 0
Sorted xs = AllPairs IsEarlier xs

abbrev AreIn : List Block → List Block → Type 0
AreIn xs ys = (b : Block) → Contains xs b → Contains ys b

apart : (a b : Block) → IsEarlier a b → IsEarlier b a → ⊥
apart a b (inl h) (inl k) = omega arith
apart a b (inl h) (inr k) = omega (arith, k.0)
apart a b (inr h) (inl k) = omega (arith, h.0)
apart a b (inr h) (inr k) = omega (arith, h.1, k.1)

later : (y : Block) (ys : List Block) (b : Block) → Sorted (y ∷ ys) → Contains ys b → IsEarlier y b
later y ys b up c =
    let low : c.0 < length ys = c.1 in
    subst (λ (z : Block). IsEarlier y z) c.2 (up zero (suc c.0) b (omega arith) (omega arith))

-- a member is the head, or one of the rest
split : (y : Block) (ys : List Block) (b : Block) (k : ℕ) → k < length (y ∷ ys) → get_or (y ∷ ys) k b ≡ b
    → (y ≡ b) ⊎ Contains ys b
split y ys b zero h e = inl e
split y ys b (suc k) h e = inr (k, omega arith, e)

rest_rises : (y : Block) (ys : List Block) → Sorted (y ∷ ys) → Sorted ys
rest_rises y ys up i j d low h = up (suc i) (suc j) d (omega arith) (omega arith)

rest_in : (x : Block) (xs ys : List Block) → Sorted (x ∷ xs) → AreIn (x ∷ xs) (x ∷ ys) → AreIn xs ys
rest_in x xs ys up into b c =
    let low : c.0 < length xs = c.1 in
    let there : Contains (x ∷ ys) b = into b (suc c.0, omega arith, c.2) in
    let earlier : IsEarlier x b = later x xs b up c in
    elim (split x ys b there.0 there.1 there.2) [
      | inl e ↦ let itself : IsEarlier b b = subst (λ (z : Block). IsEarlier z b) e earlier in absurd (apart b b itself itself)
      | inr rest ↦ rest
    ]

head : (x : Block) (xs : List Block) → Contains (x ∷ xs) x
head x xs = (zero, omega arith, refl)

same_blocks : (xs ys : List Block) → Sorted xs → Sorted ys → AreIn xs ys → AreIn ys xs → xs ≡ ys
same_blocks [] [] up rise into back = refl
same_blocks [] (y ∷ ys) up rise into back = let c = back y (head y ys) in absurd (omega (arith, c.1))
same_blocks (x ∷ xs) [] up rise into back = let c = into x (head x xs) in absurd (omega (arith, c.1))
same_blocks (x ∷ xs) (y ∷ ys) up rise into back =
    let c = into x (head x xs) in
    let d = back y (head y ys) in
    let first : y ≡ x = elim (split y ys x c.0 c.1 c.2) [
      | inl e ↦ e
      | inr h ↦ elim (split x xs y d.0 d.1 d.2) [ inl e ↦ sym e | inr k ↦ absurd (apart x y (later x xs y up k) (later y ys x rise h)) ]
    ] in
    let rise_too : Sorted (x ∷ ys) = subst (λ (z : Block). Sorted (z ∷ ys)) first rise in
    let into_too : AreIn (x ∷ xs) (x ∷ ys) = subst (λ (z : Block). AreIn (x ∷ xs) (z ∷ ys)) first into in
    let back_too : AreIn (x ∷ ys) (x ∷ xs) = subst (λ (z : Block). AreIn (z ∷ ys) (x ∷ xs)) first back in
    let rest : xs ≡ ys = same_blocks xs ys (rest_rises x xs up) (rest_rises y ys rise) (rest_in x xs ys up into_too)
    (rest_in x ys xs rise_too back_too) in
    ap (λ (l : List Block). x ∷ l) rest ∙ ap (λ (b : Block). b ∷ ys) (sym first)

all_in : (i : Spa) (m : List (Option ℕ)) (a b : List Block) → AreAllBlocks i m a → AreAllBlocks i m b → AreIn a b
all_in i m a b of_a of_b x c = of_b.complete x.student x.project x.letter
    (subst (λ (z : Block). Blocks i m z.student z.project z.letter) c.2 (of_a.sound c.0 x c.1))

blocks_one : (i : Spa) (m : List (Option ℕ)) (a b : List Block) → AreAllBlocks i m a → AreAllBlocks i m b → a ≡ b
blocks_one i m a b of_a of_b = same_blocks a b of_a.sorted of_b.sorted (all_in i m a b of_a of_b) (all_in i m b a of_b of_a)

-- ---- matchings that have the same pairs are one

has_too : (i : Spa) (pairs : List Pair) (m n : List (Option ℕ)) → HasPairs i pairs m → HasPairs i pairs n → (s p : ℕ)
    → project_of m s ≡ Some p → project_of n s ≡ Some p
has_too i pairs m n a b s p e =
    let found = a.no_other s p e in
    let is : project_of n (student_in i found.1) ≡ Some (project_in i found.1) =
    subst (λ (x : Pair). project_of n (student_in i x) ≡ Some (project_in i x)) found.3 (b.each found.0 found.1 found.2) in
    ap (project_of n) (sym found.4.0) ∙ is ∙ ap Some found.4.1

matching_one : (i : Spa) (pairs : List Pair) (m n : List (Option ℕ)) → HasPairs i pairs m → HasPairs i pairs n → m ≡ n
matching_one i pairs m n a b = ext_get_or None m n (a.students ∙ sym b.students) (λ s h. each s (project_of m s) (project_of n s) refl refl)
  where
    each : (s : ℕ) (x y : Option ℕ) → project_of m s ≡ x → project_of n s ≡ y → x ≡ y
    each s None None e f = refl
    each s (Some p) y e f = sym (has_too i pairs m n a b s p e) ∙ f
    each s None (Some q) e f = sym e ∙ has_too i pairs n m b a s q f

-- ---- the first fault is one, of pairs as of rows

module _ {F : Type 0} (number : F → ℕ) (same : (f g : F) → number f ≡ number g → f ≡ g) (Has : F → ℕ → Type 0)
    (refusal : F → ℕ → Output) where
  first_one : (f g : F) (r q : ℕ) → IsFirst number Has f r → IsFirst number Has g q → refusal f r ≡ refusal g q
  first_one f g r q a b = elim (cases_lt (number f) (number g)) [
    | inl less ↦ absurd (b.none_before f less r a.here)
    | inr not ↦ elim (cases_lt (number g) (number f)) [
      | inl less ↦ absurd (a.none_before g less q b.here)
      | inr still ↦
          let one : f ≡ g = same f g (omega (arith, not, still)) in
          let moved : IsFirst number Has g r = subst (λ (e : F). IsFirst number Has e r) one a in
          let row : r ≡ q = omega (arith, moved.least q b.here, b.least r moved.here) in
          λ j. refusal (one j) (row j)
    ]
  ]

same_pair_fault : (f g : MatchingFault) → number_of_pair_fault f ≡ number_of_pair_fault g → f ≡ g
same_pair_fault f g e = sym (fault_of-number f) ∙ ap fault_of e ∙ fault_of-number g

-- ---- what is told

tells_one : (task : Task) (i : Spa) (m n : List (Option ℕ)) (t u : Output) → m ≡ n → OfMatching task i m t
    → OfMatching task i n u
    → t ≡ u
tells_one Check i m n t u e a b =
    let moved : AreAllBlocks i n a.0 = subst (λ (x : List (Option ℕ)). AreAllBlocks i x a.0) e a.1 in
    a.2 ∙ ap (blocking i) (blocks_one i n a.0 b.0 moved b.1) ∙ sym b.2
tells_one Solve i m n t u e a b = a.2 ∙ ap (assignment i) (best_is_one i a.0 b.0 a.1 b.1) ∙ sym b.2

told_is_one : (task : Task) (i : Spa) (pairs : List Pair) (t u : Output) → OfPairs task i pairs t
    → OfPairs task i pairs u
    → t ≡ u
told_is_one task i pairs t u a b = elim a [
  | inl bad ↦ elim b [
    | inl worse ↦ bad.3 ∙ first_one number_of_pair_fault same_pair_fault
        (HasPairFault i pairs) refused_matching bad.0 worse.0 bad.1 worse.1 bad.2 worse.2 ∙ sym worse.3
    | inr good ↦ absurd (good.1.sound bad.0 bad.1 bad.2.here)
  ]
  | inr good ↦ elim b [
    | inl bad ↦ absurd (good.1.sound bad.0 bad.1 bad.2.here)
    | inr other ↦
        let one = matching_one i pairs good.0 other.0 good.1.pairs other.1.pairs in
        tells_one task i good.0 other.0 t u one good.2 other.2
  ]
]

-- a fault that is told has a lesser number than want of memory, which no rows have
told_first : (rows : Rows) (f : InstanceFault) (r : ℕ) → IsFirstFault rows f r → HasNoneBefore rows row.Memory → ⊥
told_first rows row.Memory r a none = a.here
told_first rows f r a none = none f (omega arith) r a.here

-- ---- what is told of a file

file_is_one : (task : Task) (f : File) (t u : Output) → OfFile task f t → OfFile task f u → t ≡ u
file_is_one task f t u a b = elim a [
  | inl bad ↦ elim b [
    | inl worse ↦ bad.3 ∙ first_one number_of same_number
        (HasFault (file_rows f)) refused_instance bad.0 worse.0 bad.1 worse.1 bad.2 worse.2 ∙ sym worse.3
    | inr good ↦ absurd (told_first (file_rows f) bad.0 bad.1 bad.2 good.1.faultless)
  ]
  | inr good ↦ elim b [
    | inl bad ↦ absurd (told_first (file_rows f) bad.0 bad.1 bad.2 good.1.faultless)
    | inr other ↦
        let same : good.0 ≡ other.0 =
        instance_is_one (file_rows f) good.1.faultless good.0 other.0 good.1.lawful good.1.stands other.1.lawful
        other.1.stands in
        let moved : OfPairs task other.0 f.pairs t = subst (λ (i : Spa). OfPairs task i f.pairs t) same good.2 in
        told_is_one task other.0 f.pairs t u moved other.2
  ]
]

read_is_one : (task : Task) (read : Result File RollFault) (t u : Output) → OfRead task read t → OfRead task read u
    → t ≡ u
read_is_one task (Err fault) t u a b = a ∙ sym b
read_is_one task (Ok f) t u a b = file_is_one task f t u a b

longer_is_one : (task : Task) (longer : Bool) (bytes : Text) (t u : Output) → IfLonger task longer bytes t
    → IfLonger task longer bytes u → t ≡ u
longer_is_one task true bytes t u a b = a ∙ sym b
longer_is_one task false bytes t u a b = read_is_one task (rows bytes) t u a b

pub answer_is_one : (task : Task) (bytes : Text) (t u : Output) → IsAnswer task bytes t → IsAnswer task bytes u → t ≡ u
answer_is_one task bytes t u a b = longer_is_one task (nat_lt limit (length bytes)) bytes t u a b
