-- Laws of the words on keys.
use Rattle.portal_rules.proofs.Base.{◌≡◌, Bool, true, false, List, [], ◌∷◌, refl, sym, ◌∙◌, ap, subst, map, Some}
use Rattle.portal_rules.proofs.Base.{option_map, find, bytes_decides, AllByRecursion, is_lt, nat_list_cmp_total, Key}
use Rattle.portal_rules.proofs.Base.{equals, is_before, Rise, arith, tied_itself}

pub is_same : (a b : Key) → equals a b ≡ true → a ≡ b
is_same a b h = (bytes_decides a b).0 h

pub is_own : (a : Key) → equals a a ≡ true
is_own a = (bytes_decides a a).1 refl

-- a search among rows whose test a change leaves alone
pub find_map : {X Y : Type 0} (f : X → Y) (p : X → Bool) (q : Y → Bool) → ((x : X) → q (f x) ≡ p x) → (xs : List X)
    → find q (map f xs) ≡ option_map f (find p xs)
find_map f p q alike [] = refl
find_map f p q alike (x ∷ xs) = grind (arith, alike x, find_map f p q alike xs)

-- no key comes before itself
pub not_before_itself : (k : Key) → is_before k k ≡ true → ⊥
not_before_itself k h = let e : false ≡ true = sym (ap is_lt (tied_itself nat_list_cmp_total k)) ∙ h in cc

-- what is found passes, and is one of the list
pub found_passes : {X : Type 0} (p : X → Bool) (xs : List X) (x : X) → find p xs ≡ Some x → p x ≡ true
found_passes p [] x e = cc
found_passes p (y ∷ ys) x e = grind (arith, found_passes p ys x)

pub found_all : {X : Type 0} (P : X → Type 0) (p : X → Bool) (xs : List X) (x : X) → AllByRecursion P xs
    → find p xs ≡ Some x → P x
found_all P p [] x all e = cc
found_all P p (y ∷ ys) x all e = grind (arith, found_all P p ys x all.1)

pub all_unmap : {X Y : Type 0} (P : Y → Type 0) (f : X → Y) (xs : List X) → AllByRecursion P (map f xs)
    → AllByRecursion (λ x. P (f x)) xs
all_unmap P f [] all = tt
all_unmap P f (x ∷ xs) all = (all.0, all_unmap P f xs all.1)

-- where the keys rise, one key is of one row
pub one_row : {X : Type 0} (key : X → Key) (p q : X → Bool) (xs : List X) (a b : X) → Rise (map key xs)
    → find p xs ≡ Some a → find q xs ≡ Some b → key a ≡ key b → a ≡ b
one_row key p q [] a b rise ea eb same = cc
one_row {X} key p q (x ∷ xs) a b rise ea eb same =
    let later : AllByRecursion (λ y. is_before (key x) (key y) ≡ true) xs = all_unmap (λ l. is_before (key x) l ≡ true) key xs rise.0 in
    let behind : (r : X → Bool) (c : X) → find r xs ≡ Some c → key x ≡ key c
    → ⊥ = λ r c f e. not_before_itself (key x) (subst (λ l. is_before (key x) l ≡ true) (sym e) (found_all _ r xs c later f)) in
    grind (arith, behind p a, behind q b, one_row key p q xs a b rise.1)
