-- Lemmas on two lists, place by place.
use Rattle.spa_model.proofs.Base.{◌≡◌, ℕ, zero, suc, ◌+◌, ◌<◌, List, [], ◌∷◌, ◌++◌, length, get_or, take, map, refl}
use Rattle.spa_model.proofs.Base.{sym, ◌∙◌, ap, subst, arith, AllZip, at_place, map_at, take_more, get_or-map}
use Rattle.spa_model.proofs.Base.{length-map, AllZip-long, All, ◌↔◌}
use Rattle.std.specs.List.{Any}
pub use Rattle.spa_rows.proofs.Lists.{zip_all, zip_at, zip_map, zip_more, zip_weaker}

-- what is equal place by place makes equal lists
pub zip_maps : {A B C : Type 0} (f : A → C) (g : B → C) (xs : List A) (ys : List B) → AllZip (λ x y. g y ≡ f x) xs ys
    → map g ys ≡ map f xs
zip_maps f g [] [] h = refl
zip_maps f g [] (y ∷ ys) h = absurd h
zip_maps f g (x ∷ xs) [] h = absurd h
zip_maps f g (x ∷ xs) (y ∷ ys) h = let here : g y ≡ f x = h.0 in let rest : map g ys ≡ map f xs = zip_maps f g xs ys h.1 in cc

-- P holds of what f makes of some element
pub any_map : {A B : Type 0} (P : B → Type 0) (f : A → B) (xs : List A) (i : ℕ) (x : A) → i < length xs
    → x ≡ get_or xs i x → P (f x) → Any P (map f xs)
any_map P f xs i x h at p = (i, f x, omega (arith, length-map xs f), get_or-map f xs i x (f x) h ∙ ap f (sym at), p)

pub any_unmap : {A B : Type 0} (P : B → Type 0) (f : A → B) (xs : List A) → Any P (map f xs)
    → (k : ℕ) × (x : A) × (k < length xs) × (get_or xs k x ≡ x) × P (f x)
any_unmap P f xs (k, y, h, at, p) =
    let long : k < length xs = omega (arith, length-map xs f) in
    let found = at_place xs k long in
    (k, found.0, long, found.1, subst P (sym at ∙ map_at f xs k found.0 y long found.1) p)

-- what each of the first list has besides
pub zip_also : {A B : Type 0} (R S : A → B → Type 0) (P : A → Type 0) (xs : List A) (ys : List B)
    → ((x : A) (y : B) → R x y → P x → S x y) → All P xs → AllZip R xs ys → AllZip S xs ys
zip_also R S P [] [] f all h = tt
zip_also R S P [] (y ∷ ys) f all h = absurd h
zip_also R S P (x ∷ xs) [] f all h = absurd h
zip_also R S P (x ∷ xs) (y ∷ ys) f all h =
    (f x y h.0 (all 0 x (omega arith)), zip_also R S P xs ys f (λ k d low. all (suc k) d (omega arith)) h.1)

-- some element of one list, some element of the other
pub zip_any : {A B : Type 0} (R : A → B → Type 0) (P : A → Type 0) (Q : B → Type 0) (xs : List A) (ys : List B)
    → ((x : A) (y : B) → R x y → P x ↔ Q y) → AllZip R xs ys → Any Q ys ↔ Any P xs
zip_any R P Q xs ys same zip = (
  λ (k, y, h, at, q).
      let x = at_place xs k (omega (arith, h, AllZip-long R xs ys zip)) in
      let both : R (get_or xs k x.0) (get_or ys k y) = zip_at R xs ys k x.0 y (omega (arith, h, AllZip-long R xs ys zip)) zip in
      (k, x.0, omega (arith, h, AllZip-long R xs ys zip), x.1, (same x.0 y (rw (x.1, at) at both)).1 q),
  λ (k, x, h, at, p).
      let y = at_place ys k (omega (arith, h, AllZip-long R xs ys zip)) in
      let both : R (get_or xs k x) (get_or ys k y.0) = zip_at R xs ys k x y.0 h zip in
      (k, y.0, omega (arith, h, AllZip-long R xs ys zip), y.1, (same x y.0 (rw (at, y.1) at both)).0 p),
)
