-- What std writes for a place of a width is the padding of the definition.
use Rattle.portal_reports.proofs.Base.{◌≡◌, ℕ, Bool, true, false, List, [], ◌∷◌, ◌++◌, length, refl, ap, ◌∙◌, arith}
use Rattle.portal_reports.proofs.Base.{IsTrue, decimal, ◌&&◌, nat_lt, nat_le, list_all, styled_text, styled_decimal}
use Rattle.portal_reports.proofs.Base.{and_parts, common_steps, padded_left, padded_right, is_short, zero, suc, ◌+◌}
use Rattle.portal_reports.proofs.Base.{◌-◌, ◌≤◌, replicate, append-nil, if◌then◌else◌, ◌||◌, ◌==◌, repeat, format_spec}
use Rattle.portal_reports.proofs.Base.{is_char_start, leb-true}
use Rattle.std.specs.Char.{encode_utf8}
use Rattle.std.specs.Fmt.{padded, padded_integral, take_chars, char_count}

blank : encode_utf8 32 ≡ 32 ∷ []
unfolding encode_utf8
blank = refl

fill : (n : ℕ) → repeat {A = ℕ} n (encode_utf8 32) ≡ replicate {A = ℕ} n 32
fill n = ap (repeat {A = ℕ} n) blank ∙ go n
  where
    go : (n : ℕ) → repeat {A = ℕ} n (32 ∷ []) ≡ replicate {A = ℕ} n 32
    go zero = refl
    go (suc n) = ap (λ xs. 32 ∷ xs) (go n)

-- ASCII text has a character a byte

ascii : List ℕ → Type 0
ascii text = list_all (λ b. nat_lt b 128) text ≡ true

start : (b : ℕ) → nat_lt b 128 ≡ true → is_char_start b ≡ true
start b e = ap (λ t. t || nat_le 192 b) e

count-all : (text : List ℕ) → list_all (λ b. nat_lt b 128) text ≡ true → char_count text ≡ length text
unfolding char_count
count-all [] all = refl
count-all (b ∷ text) all =
    let parts = and_parts (nat_lt b 128) (list_all (λ c. nat_lt c 128) text) all in
    ap (λ t. (if t then 1 else 0) + char_count text) (start b parts.0) ∙ (ap (λ n. 1 + n) (count-all text parts.1) ∙ omega arith)

take-all : (n : ℕ) (text : List ℕ) → list_all (λ b. nat_lt b 128) text ≡ true → length text ≤ n
    → take_chars n text ≡ text
unfolding take_chars
take-all n [] all le = refl
take-all n (b ∷ text) all le =
    let parts = and_parts (nat_lt b 128) (list_all (λ c. nat_lt c 128) text) all in
    let positive : (n == 0) ≡ false = grind (arith, common_steps, le) in
    ap (λ t. if t then (if n == 0 then [] else b ∷ take_chars (n - 1) text) else b ∷ take_chars n text) (start b parts.0)
    ∙ (ap (λ t. if t then [] else b ∷ take_chars (n - 1) text) positive
    ∙ ap (λ xs. b ∷ xs) (take-all (n - 1) text parts.1 (omega (arith, le))))

short : (text : List ℕ) → IsTrue (is_short text) → (length text ≤ 16) × (list_all (λ b. nat_lt b 128) text ≡ true)
short text is = let parts = and_parts (nat_le (length text) 16) (list_all (λ b. nat_lt b 128) text) is in
    (leb-true (length text) 16 parts.0, parts.1)

pub left-is : (text : List ℕ) → IsTrue (is_short text)
    → styled_text (format_spec 32 1 0 16 18446744073709551615) text ≡ padded_left 16 text
unfolding padded
left-is text is =
    let known = short text is in
    let same = take-all 18446744073709551615 text known.1 (omega (arith, known.0)) in
    ap (λ shown. shown ++ repeat (16 - char_count shown - 0) (encode_utf8 32)) same
    ∙ ap (λ xs. text ++ xs) (fill (16 - char_count text - 0)
    ∙ ap (λ n. replicate n 32) (count (char_count text) (length text) (count-all text known.1)))
  where
    count : (m n : ℕ) → m ≡ n → 16 - m - 0 ≡ 16 - n
    count m n e = omega (arith, e)

-- the same, where the text is known by an equation
pub left-at : (text given shown : List ℕ) → shown ≡ styled_text (format_spec 32 1 0 16 18446744073709551615) given
    → given ≡ text → IsTrue (is_short text)
    → shown ≡ padded_left 16 text
left-at text given shown s e is = s ∙ (ap (styled_text (format_spec 32 1 0 16 18446744073709551615)) e ∙ left-is text is)

shape : (xs ds zs : List ℕ) → zs ≡ [] → (((xs ++ []) ++ []) ++ []) ++ (ds ++ zs) ≡ xs ++ ds
shape xs ds zs e =
    ap (λ ys. ys ++ (ds ++ zs)) (append-nil ((xs ++ []) ++ []) ∙ (append-nil (xs ++ []) ∙ append-nil xs))
    ∙ ap (λ ys. xs ++ ys) (ap (λ ys. ds ++ ys) e ∙ append-nil ds)

after-blanks : (space room : ℕ) (ds : List ℕ) → space ≡ room
    → (((repeat {A = ℕ} space (encode_utf8 32) ++ []) ++ []) ++ []) ++ (ds ++ repeat (space - space) (encode_utf8 32))
    ≡ replicate {A = ℕ} room 32 ++ ds
after-blanks space room ds same =
    let none : space - space ≡ 0 = omega arith in
    shape (repeat space (encode_utf8 32)) ds (repeat (space - space) (encode_utf8 32)) (ap (λ k. repeat {A = ℕ} k (encode_utf8 32)) none)
    ∙ ap (λ xs. xs ++ ds) (fill space ∙ ap (λ k. replicate {A = ℕ} k 32) same)

not-bare : (t : Bool) (bare padded : List ℕ) → t ≡ false → (if t && true && true then bare else padded) ≡ padded
not-bare t bare padded e = rw e refl

pub right-is : (width n : ℕ) → (width == 0) ≡ false
    → styled_decimal (format_spec 32 3 0 width 18446744073709551615) n ≡ padded_right width (decimal n)
unfolding padded_integral char_count
right-is width n wide =
    not-bare (width == 0) (decimal n) _ wide
    ∙ after-blanks (width - length (decimal n) - 0 - 0) (width - length (decimal n)) (decimal n) (omega arith)
