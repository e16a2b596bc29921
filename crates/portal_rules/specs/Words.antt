-- Basic definitions on keys and lists, and the forms of codes and names.
use Rattle.portal_rules.specs.Base.{list_any, AllByRecursion, list_all}
use Rattle.std.specs.Prelude.{◌≡◌, ℕ, Bool, true, false, cond, List, [], ◌∷◌, length, not, ◌&&◌, ◌||◌, ◌==◌, nat_le}
use Rattle.std.specs.Str.{bytes_eq, is_utf8}
use Rattle.std.specs.Ordering.{nat_cmp, is_lt}
use Rattle.std.specs.Cmp.Lexicographic.{slice_cmp}
use Rattle.std.specs.Char.{is_ascii_alphanumeric}

-- a key, a code or a name, as its bytes
abbrev pub Key : Type 0
Key = List ℕ

-- both have the same bytes
abbrev pub equals : Key → Key → Bool
equals = bytes_eq

-- a is smaller than b in byte order
abbrev pub is_before : Key → Key → Bool
is_before a b = is_lt (slice_cmp nat_cmp a b)

abbrev pub has : List Key → Key → Bool
has ks k = list_any (equals k) ks

abbrev pub is_empty : {X : Type 0} → List X → Bool
is_empty [] = true
is_empty (x ∷ xs) = false

-- each key is smaller than every later one
abbrev pub Rise : List Key → Type 0
Rise [] = Unit {0}
Rise (k ∷ ks) = AllByRecursion (λ l. is_before k l ≡ true) ks × Rise ks

-- no key occurs twice
abbrev pub AreDistinct : List Key → Type 0
AreDistinct [] = Unit {0}
AreDistinct (k ∷ ks) = (has ks k ≡ false) × AreDistinct ks

-- inserts a row by its key into rows that rise by key; below, several rows
abbrev pub put : {X : Type 0} → (X → Key) → X → List X → List X
put key x [] = x ∷ []
put key x (y ∷ ys) = cond (is_before (key x) (key y)) (x ∷ y ∷ ys) (y ∷ put key x ys)

abbrev pub put_all : {X : Type 0} → (X → Key) → List X → List X → List X
put_all key [] ys = ys
put_all key (x ∷ xs) ys = put_all key xs (put key x ys)

-- an ASCII letter or digit, or `-`
abbrev pub is_code_byte : ℕ → Bool
is_code_byte b = is_ascii_alphanumeric b || b == 45

-- any byte but the ASCII control characters
abbrev pub is_name_byte : ℕ → Bool
is_name_byte b = nat_le 32 b && not (b == 127)

-- the bytes of a code, at least and at most
abbrev pub shortest_code : ℕ
shortest_code = 8

abbrev pub longest_code : ℕ
longest_code = 40

-- a code has so many of these bytes
abbrev pub is_code : List ℕ → Bool
is_code bytes = nat_le shortest_code (length bytes) && nat_le (length bytes) longest_code && list_all is_code_byte bytes

-- the bytes of a name or a title, at most
abbrev pub longest_name : ℕ
longest_name = 160

-- a name or a title has 1 to so many of these bytes, in UTF-8
abbrev pub is_name : List ℕ → Bool
is_name bytes = nat_le 1 (length bytes) && nat_le (length bytes) longest_name && list_all is_name_byte bytes && is_utf8 bytes
