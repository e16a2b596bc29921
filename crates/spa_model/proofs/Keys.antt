-- Lemmas on keys that rise.
use Rattle.spa_model.proofs.Base.{cases_Bool, list_any, bytes_eq, Any-from_list_any, list_any-from_Any}
use Rattle.spa_model.proofs.Base.{bytes_eq-Decides, false≢true, get_or_default, NamesNone, AreKeysOf, ◌≡◌, inl, inr, ℕ}
use Rattle.spa_model.proofs.Base.{◌<◌, List, [], ◌∷◌, length, get_or, map, sym, ◌∙◌, arith, nat_list_cmp_total}
use Rattle.spa_model.proofs.Base.{tied_itself, cases_lt, get_or-map, length-map, Text, IsKeyOf, at_place, map_at}
use Rattle.spa_model.proofs.Base.{TextsRise}
use Rattle.spa_model.proofs.Base.{HasKey}

-- the key at a place
pub has_key : {X : Type 0} (key : X → Text) (lines : List X) (k : ℕ) (text : Text) → k < length lines
    → ((d : X) → key (get_or lines k d) ≡ text) → HasKey (map key lines) k text
has_key key [] k text h at = absurd (omega arith)
has_key key (x ∷ xs) k text h at = (rw (length-map (x ∷ xs) key) h, get_or-map key (x ∷ xs) k x [] h ∙ at x)

-- a key has one number
pub one_number : (keys : List Text) (m n : ℕ) (text : Text) → TextsRise keys → HasKey keys m text → HasKey keys n text
    → m ≡ n
one_number keys m n text rise h k = elim (cases_lt m n) [
  | inl less ↦ absurd (apart m n less k.0 h.1 k.1)
  | inr not ↦ elim (cases_lt n m) [
    | inl less ↦ absurd (apart n m less h.0 k.1 h.1)
    | inr same ↦ omega arith
  ]
]
  where
    apart : (a b : ℕ) → a < b → b < length keys → get_or keys a [] ≡ text → get_or keys b [] ≡ text → ⊥
    apart a b less l e f =
        cc (tied_itself nat_list_cmp_total text, rw (e, f) at (rise a b [] less l))

-- a number's key is there
pub is_key_of : {X : Type 0} (key : X → Text) (lines : List X) (n : ℕ) (text : Text) → HasKey (map key lines) n text
    → IsKeyOf lines key text
is_key_of key lines n text h =
    let long : n < length lines = omega (arith, length-map lines key, h.0) in
    let found = at_place lines n long in
    (n, found.0, long, found.1, sym (map_at key lines n found.0 [] long found.1) ∙ h.1)

-- the key that is there has a number
pub key_number : {X : Type 0} (key : X → Text) (lines : List X) (n : ℕ) (x : X) → n < length lines
    → get_or lines n x ≡ x → HasKey (map key lines) n (key x)
key_number key lines n x h at = (omega (arith, length-map lines key), map_at key lines n x [] h at)

-- what is not the key of no line is the key of a line
pub known : {X : Type 0} (key : X → Text) (lines : List X) (text : Text) → ((IsKeyOf lines key text → ⊥) → ⊥)
    → IsKeyOf lines key text
known key lines text some = elim (cases_Bool (list_any (λ x. bytes_eq (key x) text) lines)) [
  | inl pass ↦ let any = Any-from_list_any (λ x. bytes_eq (key x) text) lines pass in
      (any.0, any.1, any.2, any.3, (bytes_eq-Decides (key any.1) text).0 any.4)
  | inr fail ↦ absurd (some (λ (k, x, h, at, same). false≢true
      (sym fail ∙ list_any-from_Any (λ y. bytes_eq (key y) text) lines (k, x, h, at, (bytes_eq-Decides (key x) text).1 same))))
]

pub all_known : {X : Type 0} (key : X → Text) (lines : List X) (list : List Text) → (NamesNone lines key list → ⊥)
    → AreKeysOf lines key list
all_known key lines list none k d h = known key lines (get_or list k d)
    (λ unknown. none (k, get_or list k d, h, get_or_default list k (get_or list k d) d h, unknown))
