-- At most one letter, and one best matching.
use Rattle.spa_model.proofs.Base.{◌≡◌, ◌∙◌, inl, inr, ℕ, List, Option, Some, None, refl, sym, ap, arith, ext_get_or}
use Rattle.spa_model.proofs.Base.{Spa, project_of, Blocks, IsAsGood, IsBest}
use Rattle.spa_model.specs.Spa.{Wants}
use Rattle.spa_model.specs.declared.letter.Letter.{Letter}
use Rattle.spa_model.specs.declared.letter.Letter.TheVariants.{A, B, C}

pub one_letter : (i : Spa) (m : List (Option ℕ)) (s p : ℕ) (x y : Letter) → Blocks i m s p x → Blocks i m s p y → x ≡ y
one_letter i m s p A A a b = refl
one_letter i m s p B B a b = refl
one_letter i m s p C C a b = refl
one_letter i m s p x y a b = absurd (omega arith)

-- a pair that blocks is wanted
pub blocks_wants : (i : Spa) (m : List (Option ℕ)) (s p : ℕ) (x : Letter) → Blocks i m s p x → Wants i m s p
blocks_wants i m s p A b = b.0
blocks_wants i m s p B b = b.0
blocks_wants i m s p C b = b.0

pub best_is_one : (i : Spa) (m n : List (Option ℕ)) → IsBest i m → IsBest i n → m ≡ n
best_is_one i m n a b = ext_get_or None m n (a.stable.matching.students ∙ sym b.stable.matching.students)
    (λ s h. each s (project_of m s) (project_of n s) (a.best n b.stable s) (b.best m a.stable s))
  where
    each : (s : ℕ) (x y : Option ℕ) → IsAsGood i s x y → IsAsGood i s y x → x ≡ y
    each s None None f g = refl
    each s None (Some q) f g = absurd f
    each s (Some p) None f g = absurd g
    each s (Some p) (Some q) (inl same) g = ap Some same
    each s (Some p) (Some q) (inr f) (inl same) = ap Some (sym same)
    each s (Some p) (Some q) (inr f) (inr g) = absurd (omega (arith, f.0, g.0))
