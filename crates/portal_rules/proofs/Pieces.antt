-- A text that grows by a piece for each element, and a text that a `format!` made.
use Rattle.portal_rules.proofs.Base.{◌≡◌, ◌∙◌, ◌+◌, ◌<◌, ◌++◌, ℕ, List, [], ◌∷◌, length, take, get_or, sym, ap, Some}
use Rattle.portal_rules.proofs.Base.{IfSome, Global, IfOk, Ok, Err, string_bytes, Result, String, flat_map}
use Rattle.portal_rules.proofs.Base.{flat_map_more, take_more}

pub one_more : {X : Type 0} (f : X → List ℕ) (front : List ℕ) (xs : List X) (i : ℕ) (x : X) → i < length xs
    → x ≡ get_or xs i x
    → (front ++ flat_map f (take i xs)) ++ f x ≡ front ++ flat_map f (take (i + 1) xs)
one_more f front xs i x lt e =
    flat_map_more f front (take i xs) x ∙ ap (λ ys. front ++ flat_map f ys) (ap (λ y. take i xs ++ y ∷ []) e ∙ sym (take_more xs i x lt))

pub said : {E : Type 0} (r : Result (String Global) E) (x y : List ℕ)
    → IfOk r (λ s. IfSome (Some x) (λ bs. string_bytes s ≡ bs)) → x ≡ y
    → IfOk r (λ s. string_bytes s ≡ y)
said (Ok s) x y given e = given ∙ e
said (Err why) x y given e = tt
