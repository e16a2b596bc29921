-- Cutting a list field byte by byte, and the fields of a record.
use Rattle.portal_rolls.proofs.Base.{Bor, add-one, ◌≡◌, ◌≢◌, ◌∙◌, ◌+◌, ◌*◌, ◌^◌, ◌<◌, ◌≤◌, ℕ, zero, suc, Bool, true}
use Rattle.portal_rolls.proofs.Base.{false, cond, List, [], ◌∷◌, ◌++◌, length, drop, get_or, Some, None, Result, Ok}
use Rattle.portal_rolls.proofs.Base.{Err, refl, sym, ap, arith, append_assoc, inl, inr, is_utf8, list_all, nat_tests}
use Rattle.portal_rolls.proofs.Base.{eqb-true, le-leb, append-nil, drop_all, field_at, Text, digits_value, Record}
use Rattle.portal_rolls.proofs.Base.{rules, eqb, MatchResult, IsUtf8, is_ok, cases_Bool, cut_at_blanks, with_front}
use Rattle.portal_rolls.proofs.Base.{list_of, capacity_in}
use Rattle.std.proofs.Math.Seq.{drop-cons}
use Rattle.std.specs.Char.{is_ascii_digit}
use Rattle.std.proofs.Math.Nat.{pow-suc}
use Rattle.std.proofs.lemmas.Str.{IsUtf8-from_is_utf8, is_utf8-from_IsUtf8}

-- these bytes before the first piece
abbrev pub before : Text → List Text → List Text
before text [] = text ∷ []
before text (piece ∷ pieces) = (text ++ piece) ∷ pieces

pub before_nil : (text : Text) → before [] (cut_at_blanks text) ≡ cut_at_blanks text
before_nil [] = refl
before_nil (b ∷ text) = go (eqb b 32) (cut_at_blanks text)
  where
    go : (blank : Bool) (cut : List Text)
        → before [] (cond blank ([] ∷ cut) (with_front b cut)) ≡ cond blank ([] ∷ cut) (with_front b cut)
    go true cut = refl
    go false [] = refl
    go false (p ∷ ps) = refl

-- a blank ends the piece
pub before_blank : (piece : Text) (b : ℕ) (text : Text) → eqb b 32 ≡ true
    → before piece (cut_at_blanks (b ∷ text)) ≡ piece ∷ cut_at_blanks text
before_blank piece b text e = rw e (rw (append-nil piece) refl)

-- another byte joins it
pub before_other : (piece : Text) (b : ℕ) (text : Text) → eqb b 32 ≡ false
    → before piece (cut_at_blanks (b ∷ text)) ≡ before (piece ++ b ∷ []) (cut_at_blanks text)
before_other piece b text e = rw e (go (cut_at_blanks text))
  where
    go : (cut : List Text) → before piece (with_front b cut) ≡ before (piece ++ b ∷ []) cut
    go [] = refl
    go (p ∷ ps) = ap (λ (t : Text). t ∷ ps) (sym (append_assoc piece (b ∷ []) p))

-- the four fields of a record of four
pub four_is : (r : Record) (a b c d : Text) → length r ≡ 4 → Some a ≡ field_at r 0 → Some b ≡ field_at r 1
    → Some c ≡ field_at r 2 → Some d ≡ field_at r 3
    → r ≡ a ∷ b ∷ c ∷ d ∷ []
unfolding field_at
four_is (x ∷ y ∷ z ∷ w ∷ []) a b c d len p q s t = cc
four_is r a b c d len p q s t = absurd (omega arith)

-- the three fields of a record of three
pub three_is : (r : Record) (a b c : Text) → length r ≡ 3 → Some a ≡ field_at r 0 → Some b ≡ field_at r 1
    → Some c ≡ field_at r 2
    → r ≡ a ∷ b ∷ c ∷ []
unfolding field_at
three_is (x ∷ y ∷ z ∷ []) a b c len p q s = cc
three_is r a b c len p q s = absurd (omega arith)

-- a field that is not there
pub field_there : (r : Record) (i : ℕ) → i < length r → None ≡ field_at r i → ⊥
unfolding field_at
field_there [] i lt e = omega arith
field_there (x ∷ r) zero lt e = cc
field_there (x ∷ r) (suc i) lt e = field_there r i (omega arith) e

-- what `from_utf8(..).is_ok()` says
pub text_test : {E : Type 0} (r : Result (Bor (List ℕ)) E) (X : E → Type 0) (bs : List ℕ)
    → MatchResult r (λ s. (s.now ≡ bs) × IsUtf8 bs) (λ e. (IsUtf8 bs → ⊥) × X e) → is_ok r ≡ is_utf8 bs
text_test (Ok s) X bs h = sym (is_utf8-from_IsUtf8 bs h.1)
text_test (Err e) X bs h = elim (cases_Bool (is_utf8 bs)) [
  | inl is ↦ absurd (h.0 (IsUtf8-from_is_utf8 bs is))
  | inr isnt ↦ sym isnt
]

-- the bound on the value of some digits
pub ten_pow : (i : ℕ) → i ≤ 6 → 10 ^ i ≤ 1000000
ten_pow (suc (suc (suc (suc (suc (suc (suc i))))))) h = absurd (omega arith)
ten_pow _ h = omega arith

pub ten_more : (i : ℕ) → 10 ^ (i + 1) ≡ 10 ^ i * 10
ten_more i = ap (λ (k : ℕ). 10 ^ k) (add-one i) ∙ pow-suc 10 i

module _ (front : List Text) (piece s : Text) (i : ℕ) (total : List Text) (lt : i < length s)
    (so_far : front ++ before piece (cut_at_blanks (drop i s)) ≡ total) where
  here : drop i s ≡ get_or s i 0 ∷ drop (i + 1) s
  here = drop-cons s i 0 lt ∙ ap (λ (k : ℕ). get_or s i 0 ∷ drop k s) (sym (add-one i))

  pub step_blank : get_or s i 0 ≡ 32 → (front ++ piece ∷ []) ++ before [] (cut_at_blanks (drop (i + 1) s)) ≡ total
  step_blank is = search (rules, here, before_blank, before_nil, append_assoc)

  pub step_other : get_or s i 0 ≢ 32
      → front ++ before (piece ++ get_or s i 0 ∷ []) (cut_at_blanks (drop (i + 1) s)) ≡ total
  step_other isnt = search (rules, eqb-true, here, before_other)

-- at the end the last piece is whole
pub last_piece : (front : List Text) (piece s : Text) (i : ℕ) (total : List Text) → length s ≤ i
    → front ++ before piece (cut_at_blanks (drop i s)) ≡ total → front ++ piece ∷ [] ≡ total
last_piece front piece s i total le so_far = search (rules, drop_all, append-nil)

-- a field with a byte is cut
pub list_is_cut : (s : Text) → eqb (length s) 0 ≡ false → cut_at_blanks s ≡ list_of s
list_is_cut [] e = absurd cc
list_is_cut (b ∷ s) e = refl

-- what passes the three tests
pub capacity_is : (s : Text) (n : ℕ) → eqb (length s) 0 ≡ false → length s ≤ 7 → list_all is_ascii_digit s ≡ true
    → n ≡ digits_value s → Some n ≡ capacity_in s
capacity_is s n nonempty le digits e = search (rules, nat_tests, le-leb)
