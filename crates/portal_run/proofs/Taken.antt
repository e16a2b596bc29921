-- What was taken from a reader.
use Rattle.portal_run.proofs.Base.{◌≡◌, ◌∙◌, ◌<◌, ◌≤◌, ◌+◌, ◌++◌, ℕ, [], length, Option, Some, None, take, refl, sym}
use Rattle.portal_run.proofs.Base.{ap, subst, inl, inr, arith, length-append, IfSome, Consumes, IsAtEnd, cases_lt}
use Rattle.portal_run.proofs.Base.{take_all, take-append-le, append-nil, Text, ConsumesAtMost, TakesMore}
use Rattle.std.proofs.KnownBytes.{Consumes-trans}
use Rattle.portal_desk.specs.Kept.{TakesAtMost as TakesFew}

-- what was taken first, and then
pub more_taken : (n most : ℕ) (a b c : Option Text) (before : Text) → Consumes a b before → length before ≤ n
    → most + length before ≤ n → ConsumesAtMost most b c → ConsumesAtMost n a c
more_taken n most a b c before first low fits then =
    (before ++ then.0, omega (arith, length-append before then.0), Consumes-trans a b c before then.0 first then.2)

-- all was taken, or as much as there is to take
pub all_taken : (n : ℕ) (a c : Option Text) (bytes : Text) → Consumes a c bytes → length bytes ≤ n
    → (length bytes < n → IsAtEnd c) → IfSome a (λ b. bytes ≡ take n b)
all_taken n None c bytes taken low end = tt
all_taken n (Some b) None bytes taken low end = absurd taken
all_taken n (Some b) (Some rest) bytes taken low end = elim (cases_lt (length bytes) n) [
  | inl less ↦
      let none : rest ≡ [] = end less in
      let whole : b ≡ bytes = taken ∙ ap (λ (l : Text). bytes ++ l) none ∙ append-nil bytes in
      sym (ap (take n) whole ∙ take_all n bytes low)
  | inr full ↦ sym (ap (take n) taken ∙ take-append-le n bytes rest (omega arith) ∙ take_all n bytes low)
]

-- the last read, which gave nothing
pub last_taken : (n most k : ℕ) (a b c : Option Text) (before after : Text) → Consumes a b before → length before ≤ n
    → (length before < n → 0 < most) → TakesMore most k b c before after → k ≡ 0
    → IfSome a (λ xs. after ≡ take n xs)
last_taken n most k a b c before after first low room adds none =
    let same : length after ≡ length before = omega (arith, ap length adds.added, length-append before adds.taken, adds.count) in
    let whole : Consumes a c after = subst (Consumes a c) (sym adds.added) (Consumes-trans a b c before adds.taken first adds.consumed) in
    all_taken n a c after whole (omega arith) (λ less. adds.end none (room (omega arith)))

-- how much is left says how much was taken
pub few_taken : (n m : ℕ) (a b : Option Text) → n ≤ m → ConsumesAtMost n a b → TakesFew m a b
few_taken n m None b fits taken = tt
few_taken n m (Some bytes) None fits taken = absurd taken.2
few_taken n m (Some bytes) (Some rest) fits taken =
    (rest, refl, omega (arith, fits, taken.1, ap length taken.2, length-append taken.0 rest))

pub same_left : (m : ℕ) (a : Option Text) → TakesFew m a a
same_left m None = tt
same_left m (Some bytes) = (bytes, refl, omega arith)
