-- The desk fails exactly where its keeper's faults rise.
use Rattle.portal_desk.proofs.Base.{◌≡◌, ℕ, ◌+◌, Bool, true, false, refl, sym, ◌∙◌, ap, FailsByCount}

pub fails_none : (b : Bool) (n : ℕ) → FailsByCount b b n n
fails_none true n = (refl, refl)
fails_none false n = refl

-- one after another
pub fails_then : (a b c : Bool) (x y z : ℕ) → FailsByCount a b x y → FailsByCount b c y z → FailsByCount a c x z
fails_then true true c x y z h k = (k.0, k.1 ∙ h.1)
fails_then true false c x y z h k = let e : false ≡ true = h.0 in absurd (cc)
fails_then false false false x y z h k = k ∙ h
fails_then false false true x y z h k = k ∙ ap (λ n. n + 1) h
fails_then false true true x y z h k = k.1 ∙ h
fails_then false true false x y z h k = let e : false ≡ true = k.0 in absurd (cc)

-- a desk that has not failed had not failed
pub calm_before : (a b : Bool) (x y : ℕ) → FailsByCount a b x y → b ≡ false → a ≡ false
calm_before true b x y h e = sym h.0 ∙ e
calm_before false b x y h e = refl
