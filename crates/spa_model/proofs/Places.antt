-- Lemmas on places in a list.
use Rattle.spa_model.proofs.Base.{◌≡◌, ◌≢◌, inl, inr, ℕ, zero, suc, ◌+◌, ◌<◌, ◌≤◌, Bool, true, false, eqb, cond, List}
use Rattle.spa_model.proofs.Base.{[], ◌∷◌, length, refl, arith, get_or, eqb-true, eq-eqb, cases_lt, AllPairs, place}
use Rattle.std.proofs.Math.Numerals.{one-add}

-- no place is past the end
pub place-le-length : (xs : List ℕ) (a : ℕ) → place xs a ≤ length xs
place-le-length [] a = omega arith
place-le-length (x ∷ xs) a = elim (eqb x a) as (λ b. cond b 0 (1 + place xs a) ≤ suc (length xs)) [
  | true ↦ omega arith
  | false ↦ omega (arith, place-le-length xs a)
]

by_tests : (x a b m n k : ℕ) (p q : Bool) → (p ≡ true → x ≡ a) → (q ≡ true → x ≡ b) → (m < k → m ≡ n → a ≡ b)
    → cond p 0 (1 + m) < suc k → cond p 0 (1 + m) ≡ cond q 0 (1 + n) → a ≡ b
by_tests x a b m n k true true f g r h e = let l = f refl in let o = g refl in cc
by_tests x a b m n k true false f g r h e = absurd (omega arith)
by_tests x a b m n k false true f g r h e = absurd (omega arith)
by_tests x a b m n k false false f g r h e = r (omega arith) (omega arith)

-- what stands on a list stands there alone
pub place-injective : (xs : List ℕ) (a b : ℕ) → place xs a < length xs → place xs a ≡ place xs b → a ≡ b
place-injective [] a b h e = absurd (omega arith)
place-injective (x ∷ xs) a b h e = by_tests x a b (place xs a) (place xs b) (length xs) (eqb x a) (eqb x b) (eqb-true x a) (eqb-true x b)
    (place-injective xs a b) h e

-- the element at a place
pub get_or-place : (xs : List ℕ) (a d : ℕ) → place xs a < length xs → get_or xs (place xs a) d ≡ a
get_or-place [] a d h = absurd (omega arith)
get_or-place (x ∷ xs) a d h = by_test (eqb x a) (eqb-true x a) (get_or-place xs a d) h
  where
    by_test : (b : Bool) → (b ≡ true → x ≡ a) → (place xs a < length xs → get_or xs (place xs a) d ≡ a)
        → cond b 0 (1 + place xs a) < suc (length xs) → get_or (x ∷ xs) (cond b 0 (1 + place xs a)) d ≡ a
    by_test true f r h = f refl
    by_test false f r h = rw one-add (r (omega arith))

-- what stands at k has no later place
pub place-get_or-le : (xs : List ℕ) (k d : ℕ) → k < length xs → place xs (get_or xs k d) ≤ k
place-get_or-le [] k d h = absurd (omega arith)
place-get_or-le (x ∷ xs) zero d h = rw (eq-eqb x x refl) (omega arith)
place-get_or-le (x ∷ xs) (suc k) d h = cond_le (eqb x (get_or xs k d)) (place-get_or-le xs k d (omega arith))
  where
    cond_le : (b : Bool) → place xs (get_or xs k d) ≤ k → cond b 0 (1 + place xs (get_or xs k d)) ≤ suc k
    cond_le true r = omega arith
    cond_le false r = omega arith

-- on a list without repeats, what stands at k has the place k
pub place-get_or : (xs : List ℕ) (k d : ℕ) → AllPairs (λ a b. a ≢ b) xs → k < length xs → place xs (get_or xs k d) ≡ k
place-get_or xs k d apart h =
    let le : place xs (get_or xs k d) ≤ k = place-get_or-le xs k d h in
    elim (cases_lt (place xs (get_or xs k d)) k) [
      | inl less ↦ absurd (apart (place xs (get_or xs k d)) k d less h (get_or-place xs (get_or xs k d) d (omega arith)))
      | inr same ↦ omega arith
    ]
