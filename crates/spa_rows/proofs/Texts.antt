-- The bytes of a key are ASCII, and so they are a text.
use Rattle.spa_rows.proofs.Base.{◌≡◌, ℕ, ◌<◌, true, List, [], ◌∷◌, arith, nat_tests, is_key, list_all, IsUtf8, IsAscii}
use Rattle.spa_rows.proofs.Base.{and_parts, is_key_byte}
use Rattle.std.proofs.lemmas.Str.{IsUtf8-from_ascii}
use Rattle.std.proofs.lemmas.Str.Ascii.{IsAscii-nil, IsAscii-cons}

key_byte : (b : ℕ) → is_key_byte b ≡ true → b < 128
key_byte b h = grind (arith, nat_tests)

ascii : (bs : List ℕ) → list_all is_key_byte bs ≡ true → IsAscii bs
ascii [] h = IsAscii-nil
ascii (b ∷ bs) h = let parts : (is_key_byte b ≡ true)
    × (list_all is_key_byte bs ≡ true) = and_parts (is_key_byte b) (list_all is_key_byte bs) h in
    IsAscii-cons b bs (key_byte b parts.0) (ascii bs parts.1)

pub key_text : (bs : List ℕ) → is_key bs ≡ true → IsUtf8 bs
key_text bs h = IsUtf8-from_ascii bs (ascii bs (and_parts _ (list_all is_key_byte bs) h).1)
