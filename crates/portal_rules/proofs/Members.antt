-- What stands in a list of keys.
use Rattle.std.proofs.lemmas.List.Folds.{Any-from_list_any, list_any-from_Any}
use Rattle.std.proofs.Common.{Any}
use Rattle.portal_rules.proofs.Base.{◌≡◌, true, List, sym, ◌∙◌, subst, AllByRecursion, Key, equals, has}
use Rattle.portal_rules.proofs.AllLaws.{all_at}
use Rattle.portal_rules.proofs.Keys.{is_own, is_same}

pub there : (ks : List Key) (k : Key) → has ks k ≡ true → Any (λ x. x ≡ k) ks
there ks k h = let found = Any-from_list_any (equals k) ks h in (found.0, found.1, found.2, found.3, sym (is_same k found.1 found.4))

pub has_it : (ks : List Key) (k : Key) → Any (λ x. x ≡ k) ks → has ks k ≡ true
has_it ks k (j, x, low, at, same) = list_any-from_Any (equals k) ks (j, x, low, at, subst (λ y. equals k y ≡ true) (sym same) (is_own k))

pub has_all : (P : Key → Type 0) (ks : List Key) (k : Key) → AllByRecursion P ks → has ks k ≡ true → P k
has_all P ks k all h = let found = there ks k h in subst P (found.3 ∙ found.4) (all_at P ks found.0 found.1 all found.2)
