-- Steps of loops over lists.
use Rattle.std.proofs.lemmas.List.{map-append}
use Rattle.std.proofs.lemmas.List.Elements.{filter-append, filter_map-append}
use Rattle.portal_rules.proofs.Base.{◌≡◌, ℕ, ◌+◌, ◌<◌, Bool, true, false, cond, List, [], ◌∷◌, ◌++◌, map, take, length}
use Rattle.portal_rules.proofs.Base.{get_or, append-nil, sym, ◌∙◌, ap, subst, filter, Option, Some, None}
use Rattle.portal_rules.proofs.Base.{AllByRecursion, filter_map, cons_option, take_more}
use Rattle.portal_rules.proofs.AllLaws.{all_append}

-- one more element
pub grown : {X : Type 0} (xs : List X) (i : ℕ) (x : X) → i < length xs → get_or xs i x ≡ x
    → take (i + 1) xs ≡ take i xs ++ x ∷ []
grown xs i x low at = take_more xs i x low ∙ ap (λ y. take i xs ++ y ∷ []) at

pub all_more : {X : Type 0} (P : X → Type 0) (xs : List X) (i : ℕ) (x : X) → i < length xs → get_or xs i x ≡ x
    → AllByRecursion P (take i xs) → P x → AllByRecursion P (take (i + 1) xs)
all_more P xs i x low at all here = subst (AllByRecursion P) (sym (grown xs i x low at)) (all_append P (take i xs) (x ∷ []) all (here, tt))

-- one more element, with what f makes of it if it passes
module _ {X Y : Type 0} (p : X → Bool) (f : X → Y) (xs : List X) (i : ℕ) (x : X) (low : i < length xs) (at : get_or xs i x ≡ x) where
  passed : (b : Bool) → p x ≡ b
      → map f (filter p (take (i + 1) xs)) ≡ map f (filter p (take i xs)) ++ map f (cond b (x ∷ []) [])
  passed b e =
      ap (λ ys. map f (filter p ys)) (grown xs i x low at) ∙ ap (map f) (filter-append p (take i xs) (x ∷ []))
      ∙ map-append f (filter p (take i xs)) (filter p (x ∷ []))
      ∙ ap (λ c. map f (filter p (take i xs)) ++ map f (cond c (x ∷ []) [])) e

  pub kept_more : p x ≡ true → map f (filter p (take (i + 1) xs)) ≡ map f (filter p (take i xs)) ++ f x ∷ []
  kept_more e = passed true e

  pub left_more : p x ≡ false → map f (filter p (take (i + 1) xs)) ≡ map f (filter p (take i xs))
  left_more e = passed false e ∙ append-nil (map f (filter p (take i xs)))

-- one more element that gives something, or nothing
module _ {X Y : Type 0} (h : X → Option Y) (xs : List X) (i : ℕ) (x : X) (low : i < length xs) (at : get_or xs i x ≡ x) where
  picked : filter_map h (take (i + 1) xs) ≡ filter_map h (take i xs) ++ filter_map h (x ∷ [])
  picked = ap (filter_map h) (grown xs i x low at) ∙ filter_map-append h (take i xs) (x ∷ [])

  pub some_more : (y : Y) → h x ≡ Some y → filter_map h (take (i + 1) xs) ≡ filter_map h (take i xs) ++ y ∷ []
  some_more y e = picked ∙ ap (λ o. filter_map h (take i xs) ++ cons_option o []) e

  pub none_more : h x ≡ None → filter_map h (take (i + 1) xs) ≡ filter_map h (take i xs)
  none_more e = picked ∙ ap (λ o. filter_map h (take i xs) ++ cons_option o []) e ∙ append-nil (filter_map h (take i xs))
