-- A list of one entry.
use Rattle.spa_honest.proofs.Base.{◌≡◌, ℕ, ◌<◌, eqb, [], ◌∷◌, refl, arith, eqb-true, eq-eqb, true_from_ne_false, IsOn}

pub one_on : (p q : ℕ) → IsOn (p ∷ []) q → p ≡ q
one_on p q on = eqb-true p q (true_from_ne_false (eqb p q) (λ e. let wrong : 1 < 1 = rw e at on in omega arith))

pub on_one : (p : ℕ) → IsOn (p ∷ []) p
on_one p = rw (eq-eqb p p refl) (omega arith)
