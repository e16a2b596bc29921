-- The first line of an input, as its first bytes tell it.
use Rattle.portal_run.proofs.Base.{◌≡◌, ◌∙◌, ◌<◌, ◌≤◌, ◌+◌, ◌++◌, ◌==◌, ◌&&◌, ℕ, [], ◌∷◌, Bool, true, false, not, cond, eqb, length}
use Rattle.portal_run.proofs.Base.{Option, Some, None, take, refl, sym, ap, subst, inl, inr, arith, IfSome, ne_eqb}
use Rattle.portal_run.proofs.Base.{take_all, take-append-le, append-nil, Text, TakesFront}
use Rattle.std.proofs.lemmas.Bool.{lt-leb, ltb-true, ltb-false}
use Rattle.std.proofs.Common.{is_some, nat_lt, position}
use Rattle.std.specs.List.{before_first, position_or_len, prefix_len}
use Rattle.std.proofs.lemmas.List.Folds.{prefix_len-append, length-prefix_len}
use Rattle.std.proofs.lemmas.List.Sums.{prefix_len-le-length}
use Rattle.portal_rules.specs.Words.{is_code}
use Rattle.portal_run.specs.Databases.{first_line, without_return}

abbrev is_feed : ℕ → Bool
is_feed b = b == 10

at_some : (t : Bool) (n : ℕ) → is_some (cond t (Some n) None) ≡ true → t ≡ true
at_some true n e = refl
at_some false n e = absurd (cc)

feed_at : (bytes : Text) → is_some (position is_feed bytes) ≡ true → position_or_len is_feed bytes < length bytes
feed_at bytes e = ltb-true _ _ (at_some (nat_lt (position_or_len is_feed bytes) (length bytes)) _ e)

-- the bytes before the first line feed, which stands there or nowhere
end_at : (t : Bool) (n i : ℕ) → Some i ≡ cond t (Some n) None → i ≡ n
end_at true n i e = cc
end_at false n i e = absurd (cc)

pub line_at : (bytes : Text) (i : ℕ) → Some i ≡ position is_feed bytes → take i bytes ≡ before_first is_feed bytes
line_at bytes i e = ap (λ n. take n bytes) (end_at (nat_lt (position_or_len is_feed bytes) (length bytes)) _ i e)

none_at : (t : Bool) (n : ℕ) → None ≡ cond t (Some n) None → t ≡ false
none_at true n e = absurd (cc)
none_at false n e = refl

pub line_whole : (bytes : Text) → None ≡ position is_feed bytes → bytes ≡ before_first is_feed bytes
line_whole bytes e =
    let far = ltb-false _ _ (none_at (nat_lt (position_or_len is_feed bytes) (length bytes)) _ e) in
    sym (take_all (position_or_len is_feed bytes) bytes far)

-- the line of bytes with a line feed is the line of whatever begins with them
feed_found : (bytes rest : Text) → position_or_len is_feed bytes < length bytes
    → before_first is_feed (bytes ++ rest) ≡ before_first is_feed bytes
feed_found bytes rest less =
    let q : ℕ → Bool = λ b. not (is_feed b) in
    let other : eqb (prefix_len q bytes) (length bytes) ≡ false = ne_eqb _ _ (λ e. absurd (omega (arith, less, e))) in
    let same : prefix_len q (bytes ++ rest) ≡ prefix_len q bytes =
    prefix_len-append q bytes rest ∙ ap (λ b. cond b (length bytes + prefix_len q rest) (prefix_len q bytes)) other in
    ap (λ n. take n (bytes ++ rest)) same ∙ take-append-le (prefix_len q bytes) bytes rest (prefix_len-le-length q bytes)

least : (b : Bool) (l n m : ℕ) → l ≤ n → l ≤ cond b (n + m) l
least true l n m h = omega arith
least false l n m h = omega arith

feed_grows : (bytes rest : Text) → position_or_len is_feed bytes ≤ position_or_len is_feed (bytes ++ rest)
feed_grows bytes rest =
    let q : ℕ → Bool = λ b. not (is_feed b) in
    subst (λ n. prefix_len q bytes ≤ n) (sym (prefix_len-append q bytes rest))
    (least (eqb (prefix_len q bytes) (length bytes)) _ _ (prefix_len q rest) (prefix_len-le-length q bytes))

-- enough bytes tell the first line, if it is short
line_told : (input bytes left : Text) → input ≡ bytes ++ left → TakesFront (Some input) (Some left) bytes
    → length (before_first is_feed bytes) < 64 → first_line input ≡ first_line bytes
line_told input bytes left is (taken, inr none) short =
    ap first_line (is ∙ ap (λ (l : Text). bytes ++ l) none ∙ append-nil bytes)
line_told input bytes left is (taken, inl (inl less)) short = ap first_line is
    ∙ ap without_return (feed_found bytes left (feed_at bytes less))
line_told input bytes left is (taken, inl (inr long)) short =
    let few : length bytes ≡ length bytes = refl in
    let size = length-prefix_len (λ b. not (is_feed b)) bytes in
    ap first_line is ∙ ap without_return (feed_found bytes left (omega (arith, size, short, long)))

pub line_in : (old new : Option Text) (bytes : Text) → TakesFront old new bytes → length (before_first is_feed bytes) < 64
    → IfSome old (λ input. first_line input ≡ first_line bytes)
line_in None new bytes taken short = tt
line_in (Some input) None bytes taken short = absurd taken.0
line_in (Some input) (Some left) bytes taken short = line_told input bytes left taken.0 taken short

-- a line loses at most one byte at its end
return_length : (line : Text) → length line ≤ length (without_return line) + 1
return_length [] = omega arith
return_length (b ∷ []) = one (b == 13) b
  where
    one : (t : Bool) (b : ℕ) → length (b ∷ []) ≤ length (cond t [] (b ∷ [])) + 1
    one true b = omega arith
    one false b = omega arith
return_length (b ∷ c ∷ line) = let rest = return_length (c ∷ line) in omega (arith, rest)

both_false : (a b c : Bool) → b ≡ false → (a && b && c) ≡ false
both_false true b c e = rw e refl
both_false false b c e = refl

-- a long line is no code
no_code : (line : Text) → 40 < length line → is_code line ≡ false
no_code line long = both_false _ _ _ (lt-leb (length line) 40 long)

pub long_in : (old new : Option Text) (bytes : Text) → TakesFront old new bytes → 64 ≤ length (before_first is_feed bytes)
    → IfSome old (λ input. is_code (first_line input) ≡ false)
long_in None new bytes taken long = tt
long_in (Some input) None bytes taken long = absurd taken.0
long_in (Some input) (Some left) bytes taken long =
    let q : ℕ → Bool = λ b. not (is_feed b) in
    let size : length (before_first is_feed bytes) ≡ prefix_len q bytes = length-prefix_len q bytes in
    let whole : length (before_first is_feed (bytes ++ left)) ≡ prefix_len q (bytes ++ left) = length-prefix_len q (bytes ++ left) in
    let more = feed_grows bytes left in
    let left_line = return_length (before_first is_feed (bytes ++ left)) in
    ap (λ (l : Text). is_code (first_line l)) taken.0
    ∙ no_code (first_line (bytes ++ left)) (omega (arith, size, whole, more, left_line, long))

-- a line whose last byte is known
pub return_at_end : (rest : Text) (b : ℕ) → b ≡ 13 → without_return (rest ++ (b ∷ [])) ≡ rest
return_at_end [] b e = rw e refl
return_at_end (a ∷ []) b e = rw e refl
return_at_end (a ∷ c ∷ rest) b e = ap (λ (l : Text). a ∷ l) (return_at_end (c ∷ rest) b e)

last_stays : (rest : Text) (b : ℕ) → (b == 13) ≡ false → without_return (rest ++ (b ∷ [])) ≡ rest ++ (b ∷ [])
last_stays [] b e = rw e refl
last_stays (a ∷ []) b e = rw e refl
last_stays (a ∷ c ∷ rest) b e = ap (λ (l : Text). a ∷ l) (last_stays (c ∷ rest) b e)

pub other_at_end : (line rest : Text) (b : ℕ) → line ≡ rest ++ (b ∷ []) → (b ≡ 13 → ⊥) → line ≡ without_return line
other_at_end line rest b is other =
    is ∙ sym (last_stays rest b (ne_eqb b 13 other)) ∙ sym (ap without_return is)

-- what is said of a short line of the bytes, is said of the input's first
pub told_in : (old new : Option Text) (bytes line : Text) (P : Text → Type 0) → TakesFront old new bytes
    → (line ≡ first_line bytes) × (length (before_first is_feed bytes) < 64) → P line
    → IfSome old (λ input. P (first_line input))
told_in None new bytes line P taken is h = tt
told_in (Some input) None bytes line P taken is h = absurd taken.0
told_in (Some input) (Some left) bytes line P taken is h =
    subst P (is.0 ∙ sym (line_told input bytes left taken.0 taken is.1)) h
