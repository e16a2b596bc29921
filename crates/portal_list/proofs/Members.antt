-- What stands in a list, in a list made of it, and in a part of it.
use Rattle.portal_list.proofs.Base.{◌≡◌, ℕ, zero, suc, ◌<◌, true, List, [], ◌∷◌, map, length, get_or, Any, Less, sym}
use Rattle.portal_list.proofs.Base.{◌∙◌, subst, arith, AllByRecursion, nat_cmp, slice_cmp, get_or_default, get_or-take}
use Rattle.portal_list.proofs.Base.{length-take, length-map, Any-from_list_any, list_any-from_Any, BadAt, IsEarlierKey}
use Rattle.portal_list.proofs.Base.{IsKeyOf, Repeats, at_place, map_at, any_map, any_unmap, Key, equals, has, Rise}
use Rattle.portal_list.proofs.Base.{AreDistinct, is_same, is_own, all_at, rules, list_any_at, never_itself}
use Rattle.portal_rules.proofs.Members.{there}
use Rattle.portal_list.proofs.Rising.{pairs_rise}

-- a known key is a line's key
pub key_there : {X L : Type 0} (f : X → L) (key : L → Key) (xs : List X) (k : Key)
    → has (map (λ x. key (f x)) xs) k ≡ true → IsKeyOf (map f xs) key k
key_there f key xs k h =
    let found = any_unmap (λ y. y ≡ k) (λ x. key (f x)) xs (there (map (λ x. key (f x)) xs) k h) in
    any_map (λ y. key y ≡ k) f xs found.0 found.1 found.2 (sym found.3) found.4

pub distinct_apart : (list : List Key) (i j : ℕ) (d : Key) → AreDistinct list → i < j → j < length list
    → get_or list i d ≡ get_or list j d → ⊥
distinct_apart [] i j d once less low same = absurd (omega arith)
distinct_apart (k ∷ ks) i zero d once less low same = absurd (omega arith)
distinct_apart (k ∷ ks) zero (suc j) d once less low same = search (rules, list_any_at, is_own)
distinct_apart (k ∷ ks) (suc i) (suc j) d once less low same = distinct_apart ks i j d once.1 (omega arith) (omega arith) same

pub repeats_not : (list : List Key) → AreDistinct list → Repeats list → ⊥
repeats_not list once (j, text, low, at, (i, x, less, is_x, same)) =
    search (rules, length-take, get_or_default, get_or-take, distinct_apart)

pub earlier_not : {X : Type 0} (key : X → Key) (lines : List X) (j : ℕ) (x : X) → Rise (map key lines)
    → j < length lines → get_or lines j x ≡ x → IsEarlierKey lines key j (key x) → ⊥
earlier_not key lines j x rise low at (i, y, less, is_y, same) =
    let before : i < j = omega (arith, length-take j lines) in
    let y_at : get_or lines i y ≡ y = sym (get_or-take j lines i y before) ∙ is_y in
    let below : slice_cmp nat_cmp (get_or (map key lines) i []) (get_or (map key lines) j [])
    ≡ Less = pairs_rise (map key lines) rise i j [] before (omega (arith, length-map lines key)) in
    never_itself (key x) (rw (map_at key lines i y [] (omega arith) y_at, map_at key lines j x [] low at, same) at below)

-- no line made of these is bad
pub none_of : {E L : Type 0} (P : E → Type 0) (f : E → L) (row : L → ℕ) (Bad : ℕ → L → Type 0) (es : List E)
    → AllByRecursion P es
    → ((j : ℕ) (e : E) → j < length es → get_or es j e ≡ e → P e → Bad j (f e) → ⊥)
    → (r : ℕ) → BadAt (map f es) row Bad r → ⊥
none_of P f row Bad es all never r (j, x, low, long, at, is_row, bad) =
    let l : j < length es = omega (arith, length-map es f) in
    let e = at_place es j l in
    let same : x ≡ f e.0 = sym at ∙ map_at f es j e.0 x l e.1 in
    never j e.0 l e.1 (subst P e.1 (all_at P es j e.0 all l)) (subst (Bad j) same bad)
