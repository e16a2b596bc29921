-- Tests and what they say.
use Rattle.spa_rows.proofs.Base.{◌≡◌, ℕ, ◌<◌, arith, Bool, true, false, IsTrue, ◌↔◌, refl, sym, not, false≢true}
use Rattle.spa_rows.proofs.Base.{nat_tests, nat_lt}

-- a test that fails says that it does not hold
pub not_iff : (b : Bool) (P : Type 0) → (IsTrue b ↔ P) → (IsTrue (not b) ↔ (P → ⊥))
not_iff true P h = (λ e. absurd (false≢true e), λ none. absurd (none (h.0 refl)))
not_iff false P h = (λ e. λ p. false≢true (h.1 p), λ none. refl)

-- a test that fails is false
pub not_false : (b t : Bool) → b ≡ t → (IsTrue (not b) ↔ (t ≡ false))
not_false b true is = rw is (λ e. absurd (false≢true e), λ e. absurd (false≢true (sym e)))
not_false b false is = rw is (λ e. refl, λ e. refl)

-- a comparison says what it compares
pub over_iff : (k n m : ℕ) → n ≡ m → (IsTrue (nat_lt k n) ↔ (k < m))
over_iff k n m same = (λ h. grind (arith, nat_tests), λ h. grind (arith, nat_tests))
