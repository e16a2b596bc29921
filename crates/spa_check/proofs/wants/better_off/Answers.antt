use Rattle.spa_check.proofs.Base.{◌≡◌, inl, inr, arith, ℕ, ◌<◌, ◌≤◌, List, length, Option, None, Some, MatchOption}
use Rattle.spa_check.proofs.Base.{cases_lt, rules, Spa, project_of, IsBetterOff, IsFirstBetterOff}
use Rattle.std.proofs.Math.ListN.{get_or-eq_default}
use Rattle.std.proofs.lemmas.Iterator.{first_from_Range}
use Rattle.spa_check.proofs.wants.better_off.Goals as goal

first : (i : Spa) (m other : List (Option ℕ)) (n : ℕ) → length other ≡ n → (found : Option ℕ)
    → MatchOption found ((k : ℕ) → 0 ≤ k → k < n → IsBetterOff i m other k → ⊥)
    (λ s. (0 ≤ s) × (s < n) × IsBetterOff i m other s × ((k : ℕ) → 0 ≤ k → k < s → IsBetterOff i m other k → ⊥))
    → MatchOption found ((s : ℕ) → IsBetterOff i m other s → ⊥) (IsFirstBetterOff i m other)
first i m other n long None none = λ s b. elim (cases_lt s n) [
  | inl low ↦ none s (omega arith) low b
  | inr past ↦ let gone : project_of other s ≡ None = get_or-eq_default other None (omega arith) in
      let there : project_of other s ≡ Some b.0 = b.1 in cc
]
first i m other n long (Some s) one = record { better = one.2; first = λ t low. one.3 t (omega arith) low }

pub returns : goal.returns
returns c = first c.args.instance.now c.args.matching.now c.args.other.now _ (omega (arith, c.requires.other_fits.students)) c.find.result
    (first_from_Range _ _ _ c.find.result (IsBetterOff c.args.instance.now c.args.matching.now c.args.other.now)
    (λ s. IsBetterOff c.args.instance.now c.args.matching.now c.args.other.now s → ⊥) c.find.ensures.ran (λ x q k. search rules)
    (λ x q k. search rules))
