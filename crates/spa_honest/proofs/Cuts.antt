-- A list without its entries after some place: what stands on it stands where it stood.
use Rattle.spa_honest.proofs.Base.{◌≡◌, ℕ, zero, suc, ◌+◌, ◌<◌, ◌≤◌, Bool, true, false, cond, eqb, List, [], ◌∷◌, length}
use Rattle.spa_honest.proofs.Base.{take, refl, sym, ◌∙◌, arith, cases_lt, inl, inr, get_or-take, length-take, place, IsOn, IsDistinct}

-- the place on the cut list is the place, or the end
pub place-take : (k : ℕ) (xs : List ℕ) (x : ℕ)
    → (place xs x < length (take k xs) → place (take k xs) x ≡ place xs x)
    × (length (take k xs) ≤ place xs x → length (take k xs) ≤ place (take k xs) x)
place-take zero xs x = (λ low. absurd (omega (arith, low)), λ past. omega arith)
place-take (suc k) [] x = (λ low. absurd (omega (arith, low)), λ past. omega arith)
place-take (suc k) (y ∷ xs) x = by_test (eqb y x) (place-take k xs x)
  where
    by_test : (b : Bool)
        → (place xs x < length (take k xs) → place (take k xs) x ≡ place xs x)
        × (length (take k xs) ≤ place xs x → length (take k xs) ≤ place (take k xs) x)
        → (cond b 0 (1 + place xs x) < suc (length (take k xs)) → cond b 0 (1 + place (take k xs) x) ≡ cond b 0 (1 + place xs x))
        × (suc (length (take k xs)) ≤ cond b 0 (1 + place xs x) → suc (length (take k xs)) ≤ cond b 0 (1 + place (take k xs) x))
    by_test true h = (λ low. refl, λ past. absurd (omega (arith, past)))
    by_test false h = (λ low. omega (arith, h.0 (omega (arith, low))), λ past. omega (arith, h.1 (omega (arith, past))))

-- what stands on the cut list stands on the list, at the same place
pub take_on : (k : ℕ) (xs : List ℕ) (x : ℕ) → IsOn (take k xs) x
    → (place (take k xs) x ≡ place xs x) × (place xs x < length (take k xs)) × IsOn xs x
take_on k xs x on = elim (cases_lt (place xs x) (length (take k xs))) [
  | inl low ↦ ((place-take k xs x).0 low, low, omega (arith, low, length-take k xs))
  | inr past ↦ absurd (omega (arith, on, (place-take k xs x).1 past))
]

-- and what stands before the cut stays on it
pub on_take : (k : ℕ) (xs : List ℕ) (x : ℕ) → place xs x < k → IsOn xs x → IsOn (take k xs) x
on_take k xs x low on =
    let here : place xs x < length (take k xs) = omega (arith, low, on, length-take k xs) in
    omega (arith, here, (place-take k xs x).0 here)

pub take_distinct : (k : ℕ) (xs : List ℕ) → IsDistinct xs → IsDistinct (take k xs)
take_distinct k xs apart a b d less low =
    let short : b < k = omega (arith, low, length-take k xs) in
    let long : b < length xs = omega (arith, low, length-take k xs) in
    λ same. apart a b d less long (sym (get_or-take k xs a d (omega arith)) ∙ same ∙ get_or-take k xs b d short)
