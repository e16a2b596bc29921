-- A key is short.
use Rattle.portal_reports.proofs.Base.{◌≡◌, ℕ, true, List, [], ◌∷◌, refl, arith, IsTrue, nat_lt, list_all, and_parts}
use Rattle.portal_reports.proofs.Base.{common_steps, is_short}
use Rattle.spa_rows.specs.Lines.{is_key, is_key_byte}

low : (b : ℕ) → is_key_byte b ≡ true → nat_lt b 128 ≡ true
low b e = grind (arith, common_steps, e)

all-low : (text : List ℕ) → list_all is_key_byte text ≡ true → list_all (λ b. nat_lt b 128) text ≡ true
all-low [] all = refl
all-low (b ∷ text) all =
    let parts = and_parts (is_key_byte b) (list_all is_key_byte text) all in
    rw (low b parts.0) (all-low text parts.1)

pub key-short : (text : List ℕ) → IsTrue (is_key text) → IsTrue (is_short text)
key-short text is = grind (arith, is, all-low text)
