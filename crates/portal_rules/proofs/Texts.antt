-- Codes are ASCII, and so they are texts.
use Rattle.portal_rules.proofs.Base.{◌≡◌, ℕ, ◌<◌, Bool, true, false, List, [], ◌∷◌, refl, arith, nat_tests, list_all}
use Rattle.portal_rules.proofs.Base.{and_parts, is_code_byte}
use Rattle.std.specs.Str.{IsUtf8, IsAscii, is_utf8}
use Rattle.std.proofs.lemmas.Str.{is_utf8-from_IsUtf8, IsUtf8-from_is_utf8, IsUtf8-from_ascii}
use Rattle.std.proofs.lemmas.Str.Ascii.{IsAscii-nil, IsAscii-cons}

code_byte : (b : ℕ) → is_code_byte b ≡ true → b < 128
code_byte b h = grind (arith, nat_tests)

ascii : (p : ℕ → Bool) → ((b : ℕ) → p b ≡ true → b < 128) → (bs : List ℕ) → list_all p bs ≡ true → IsAscii bs
ascii p low [] h = IsAscii-nil
ascii p low (b ∷ bs) h = let parts : (p b ≡ true) × (list_all p bs ≡ true) = and_parts (p b) (list_all p bs) h in
    IsAscii-cons b bs (low b parts.0) (ascii p low bs parts.1)

pub code_text : (bs : List ℕ) → list_all is_code_byte bs ≡ true → IsUtf8 bs
code_text bs h = IsUtf8-from_ascii bs (ascii is_code_byte code_byte bs h)

pub no_text : (bs : List ℕ) → ¬ (IsUtf8 bs) → is_utf8 bs ≡ false
no_text bs none = go (is_utf8 bs) refl
  where
    go : (b : Bool) → is_utf8 bs ≡ b → is_utf8 bs ≡ false
    go true e = absurd (none (IsUtf8-from_is_utf8 bs e))
    go false e = e

pub a_text : (bs : List ℕ) → IsUtf8 bs → is_utf8 bs ≡ true
a_text bs h = is_utf8-from_IsUtf8 bs h
