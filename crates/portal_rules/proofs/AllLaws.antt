-- Laws of what holds of each element, and of tests.
use Rattle.portal_rules.proofs.Base.{◌≡◌, ℕ, ◌<◌, Bool, true, false, List, [], ◌∷◌, ◌++◌, length, get_or, refl, ◌∙◌, ap}
use Rattle.portal_rules.proofs.Base.{arith, map, filter, Option, Some, ◌&&◌, ◌||◌, list_any, filter_map, AllByRecursion}
use Rattle.portal_rules.proofs.Base.{Key, equals, has, is_empty, AreDistinct, All-from_recursion}
pub use Rattle.std.proofs.lemmas.List.Folds.{list_any-append as any_append}
use Rattle.portal_rules.proofs.Keys.{is_same, is_own}

pub all_map : {X Y : Type 0} (P : Y → Type 0) (f : X → Y) (xs : List X) → AllByRecursion (λ x. P (f x)) xs
    → AllByRecursion P (map f xs)
all_map P f [] all = tt
all_map P f (x ∷ xs) all = (all.0, all_map P f xs all.1)

pub all_weaker : {X : Type 0} (P Q : X → Type 0) → ((x : X) → P x → Q x) → (xs : List X) → AllByRecursion P xs
    → AllByRecursion Q xs
all_weaker P Q k [] all = tt
all_weaker P Q k (x ∷ xs) all = (k x all.0, all_weaker P Q k xs all.1)

pub all_both : {X : Type 0} (P Q : X → Type 0) (xs : List X) → AllByRecursion P xs → AllByRecursion Q xs
    → AllByRecursion (λ x. P x × Q x) xs
all_both P Q [] p q = tt
all_both P Q (x ∷ xs) p q = ((p.0, q.0), all_both P Q xs p.1 q.1)

pub all_append : {X : Type 0} (P : X → Type 0) (xs ys : List X) → AllByRecursion P xs → AllByRecursion P ys
    → AllByRecursion P (xs ++ ys)
all_append P [] ys p q = q
all_append P (x ∷ xs) ys p q = (p.0, all_append P xs ys p.1 q)

pub each_one : {X : Type 0} (P : X → Type 0) → ((x : X) → P x) → (xs : List X) → AllByRecursion P xs
each_one P k [] = tt
each_one P k (x ∷ xs) = (k x, each_one P k xs)

-- what holds of each holds at a place
pub all_at : {X : Type 0} (P : X → Type 0) (xs : List X) (k : ℕ) (d : X) → AllByRecursion P xs → k < length xs
    → P (get_or xs k d)
all_at P xs k d all h = All-from_recursion P xs all k d h

-- a change that keeps the keys
pub map_same : {X Y : Type 0} (key : X → Y) (f : X → X) → ((x : X) → key (f x) ≡ key x) → (xs : List X)
    → map key (map f xs) ≡ map key xs
map_same key f same [] = refl
map_same key f same (x ∷ xs) = λ i. same x i ∷ map_same key f same xs i

-- the test of keys is symmetric
pub is_sym : (a b : Key) → equals a b ≡ equals b a
is_sym a b = grind (arith, is_same a b, is_same b a, is_own a, is_own b)

-- the first two of three tests in turn
pub or_swap : (a b c : Bool) → (a || (b || c)) ≡ (b || (a || c))
or_swap a b c = grind arith

-- none of the list is the key
pub none_is : (k : Key) (ks : List Key) → AllByRecursion (λ l. equals l k ≡ false) ks → has ks k ≡ false
none_is k [] all = refl
none_is k (l ∷ ks) all = ap (λ b. b || has ks k) (is_sym k l ∙ all.0) ∙ none_is k ks all.1

pub none_of : (ks : List Key) (k : Key) → has ks k ≡ false → AllByRecursion (λ l. equals k l ≡ false) ks
none_of [] k h = tt
none_of (l ∷ ks) k h = grind (arith, none_of ks k)

-- where the keys differ, the others are not the first
pub not_first : (k : Key) (ks : List Key) → AreDistinct (k ∷ ks) → AllByRecursion (λ l. equals l k ≡ false) ks
not_first k ks d = all_weaker _ _ (λ l h. is_sym l k ∙ h) ks (none_of ks k d.0)

-- a list of no keys has none of these
pub none_yet : (ks : List Key) → AllByRecursion (λ k. has [] k ≡ false) ks
none_yet [] = tt
none_yet (k ∷ ks) = (refl, none_yet ks)

pub split_append : (xs : List Key) (k l : Key) → has (xs ++ k ∷ []) l ≡ false
    → (has xs l ≡ false) × (equals l k ≡ false)
split_append xs k l h = grind (arith, any_append (equals l) xs (k ∷ []))

pub none_after : (xs : List Key) (k l : Key) → has xs l ≡ false → equals l k ≡ false → has (xs ++ k ∷ []) l ≡ false
none_after xs k l h e = any_append (equals l) xs (k ∷ []) ∙ ap (λ b. b || (equals l k || false)) h ∙ ap (λ b. b || false) e

-- a test of a part of a row, or of the parts
pub any_map : {X Y : Type 0} (p : Y → Bool) (f : X → Y) (xs : List X)
    → list_any p (map f xs) ≡ list_any (λ x. p (f x)) xs
any_map p f [] = refl
any_map p f (x ∷ xs) = ap (λ b. p (f x) || b) (any_map p f xs)

pub any_alike : {X : Type 0} (p q : X → Bool) → ((x : X) → p x ≡ q x) → (xs : List X) → list_any p xs ≡ list_any q xs
any_alike p q alike [] = refl
any_alike p q alike (x ∷ xs) = λ i. alike x i || any_alike p q alike xs i

-- a test of what passed another
pub filtered_any : {X : Type 0} (q t : X → Bool) (xs : List X)
    → list_any q (filter t xs) ≡ list_any (λ x. t x && q x) xs
filtered_any q t [] = refl
filtered_any q t (x ∷ xs) = grind (arith, filtered_any q t xs)

-- either of two tests
pub any_or : {X : Type 0} (f g : X → Bool) (xs : List X)
    → list_any (λ x. f x || g x) xs ≡ (list_any f xs || list_any g xs)
any_or f g [] = refl
any_or f g (x ∷ xs) = grind (arith, any_or f g xs)

pub any_nowhere : {X : Type 0} (xs : List X) → list_any (λ (x : X). false) xs ≡ false
any_nowhere [] = refl
any_nowhere (x ∷ xs) = any_nowhere xs

pub none_passes : {X Y : Type 0} (f : X → Y) (p : X → Bool) (xs : List X) → is_empty (map f (filter p xs)) ≡ true
    → AllByRecursion (λ x. p x ≡ false) xs
none_passes f p [] e = tt
none_passes f p (x ∷ xs) e = grind (arith, none_passes f p xs)

-- what is shown passes, so the row that it is of does
pub any_shown : {X Y : Type 0} (p : Y → Bool) (q : X → Bool) (f : X → Option Y)
    → ((x : X) (y : Y) → f x ≡ Some y → p y ≡ true → q x ≡ true) → (xs : List X) → list_any p (filter_map f xs) ≡ true
    → list_any q xs ≡ true
any_shown p q f k [] h = cc
any_shown p q f k (x ∷ xs) h = grind (arith, k x, any_shown p q f k xs)

-- a change that keeps what is shown and the test
pub kept_filtered : {X Y : Type 0} (key : X → Y) (f : X → X) (q : X → Bool) → ((x : X) → key (f x) ≡ key x)
    → ((x : X) → q (f x) ≡ q x) → (xs : List X) → map key (filter q (map f xs)) ≡ map key (filter q xs)
kept_filtered key f q same alike [] = refl
kept_filtered key f q same alike (x ∷ xs) = grind (arith, same x, alike x, kept_filtered key f q same alike xs)
