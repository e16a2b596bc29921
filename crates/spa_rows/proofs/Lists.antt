-- The element at a place of a list, and lists one by one.
use Rattle.std.specs.Bool.{MatchBool}
use Rattle.std.specs.List.{AllWithin, HoldsAt}
use Rattle.spa_rows.proofs.Base.{◌≡◌, ℕ, zero, suc, ◌<◌, ◌↔◌, Bool, true, false, IsTrue, Any, List, [], ◌∷◌, length}
use Rattle.spa_rows.proofs.Base.{map, get_or, refl, sym, subst, ap, ◌∙◌, arith, get_or-map, length-map, false≢true}
use Rattle.spa_rows.proofs.Base.{take, take_more, ◌+◌, ◌++◌, AllZip, all_zipped_more}

-- what stands at a place of the list
pub at_place : {X : Type 0} → (xs : List X) (k : ℕ) → k < length xs → (x : X) × (get_or xs k x ≡ x)
at_place [] k h = absurd (omega (arith, h))
at_place (x ∷ xs) zero h = (x, refl)
at_place (x ∷ xs) (suc k) h = at_place xs k (omega (arith, h))

-- what stands at a place of a list made one by one
pub map_at : {X Y : Type 0} (f : X → Y) (xs : List X) (k : ℕ) (x : X) (d : Y) → k < length xs → get_or xs k x ≡ x
    → get_or (map f xs) k d ≡ f x
map_at f xs k x d h is = get_or-map f xs k x d h ∙ ap f is

-- what `any` over a list says of the list made one by one
pub any_mapped : {X Y : Type 0} (f : X → Y) (P : Y → Type 0) (r : Bool) (xs : List X)
    → MatchBool r ((k : ℕ) × (k < length xs) × HoldsAt (λ x. P (f x)) xs k) (AllWithin (λ x. P (f x) → ⊥) xs 0 (length xs))
    → IsTrue r ↔ Any P (map f xs)
any_mapped f P true xs some = (
  λ _. let x = at_place xs some.0 some.1 in
      (some.0, f x.0, omega (arith, length-map xs f, some.1), map_at f xs some.0 x.0 (f x.0) some.1 x.1, rw x.1 at (some.2 x.0)),
  λ _. refl,
)
any_mapped f P false xs none = (
  λ e. absurd (false≢true e),
  λ (k, y, low, at, p).
      let long : k < length xs = omega (arith, length-map xs f, low) in
      let x = at_place xs k long in
      absurd (none k x.0 (omega arith) long (rw x.1 (subst P (sym at ∙ map_at f xs k x.0 y long x.1) p))),
)

-- what two lists have at a place
pub zip_at : {A B : Type 0} (R : A → B → Type 0) (xs : List A) (ys : List B) (k : ℕ) (d : A) (e : B) → k < length xs
    → AllZip R xs ys → R (get_or xs k d) (get_or ys k e)
zip_at R [] ys k d e h zip = absurd (omega arith)
zip_at R (x ∷ xs) [] k d e h zip = absurd zip
zip_at R (x ∷ xs) (y ∷ ys) zero d e h zip = zip.0
zip_at R (x ∷ xs) (y ∷ ys) (suc k) d e h zip = zip_at R xs ys k d e (omega arith) zip.1

pub zip_weaker : {A B : Type 0} (R S : A → B → Type 0) (xs : List A) (ys : List B) → ((x : A) (y : B) → R x y → S x y)
    → AllZip R xs ys → AllZip S xs ys
zip_weaker R S [] [] f h = tt
zip_weaker R S [] (y ∷ ys) f h = absurd h
zip_weaker R S (x ∷ xs) [] f h = absurd h
zip_weaker R S (x ∷ xs) (y ∷ ys) f h = (f x y h.0, zip_weaker R S xs ys f h.1)

pub zip_all : {A B : Type 0} (R : A → B → Type 0) (P : B → Type 0) (xs : List A) (ys : List B)
    → ((x : A) (y : B) → R x y → P y) → AllZip R xs ys → (k : ℕ) (d : B) → k < length ys → P (get_or ys k d)
zip_all R P xs [] f h k d l = absurd (omega arith)
zip_all R P [] (y ∷ ys) f h k d l = absurd h
zip_all R P (x ∷ xs) (y ∷ ys) f h zero d l = f x y h.0
zip_all R P (x ∷ xs) (y ∷ ys) f h (suc k) d l = zip_all R P xs ys f h.1 k d (omega arith)

-- one more of each
pub zip_more : {A B : Type 0} (R : A → B → Type 0) (xs : List A) (ys : List B) (i : ℕ) (x : A) (y : B) → i < length xs
    → x ≡ get_or xs i x → AllZip R (take i xs) ys → R x y → AllZip R (take (i + 1) xs) (ys ++ y ∷ [])
zip_more R xs ys i x y h at zip r = rw (take_more xs i x h, ← at) (all_zipped_more R (take i xs) ys x y zip r)

-- R of what f makes of the first list
pub zip_map : {A B C : Type 0} (R : C → B → Type 0) (f : A → C) (xs : List A) (ys : List B)
    → AllZip (λ x y. R (f x) y) xs ys → AllZip R (map f xs) ys
zip_map R f [] [] h = tt
zip_map R f [] (y ∷ ys) h = absurd h
zip_map R f (x ∷ xs) [] h = absurd h
zip_map R f (x ∷ xs) (y ∷ ys) h = (h.0, zip_map R f xs ys h.1)
