-- A head of at most 32 fields has an empty line among its first 34.
use Rattle.portal_frame.proofs.Base.{◌≡◌, ℕ, ◌+◌, ◌<◌, ◌≤◌, Bool, true, false, List, [], ◌∷◌, ◌++◌, length, refl, sym}
use Rattle.portal_frame.proofs.Base.{ap, ◌∙◌, subst, arith, rules, append_assoc, zero-add, if◌then◌else◌, ◌==◌, IsTrue}
use Rattle.portal_frame.proofs.Base.{RequestHead, IsRequestHead, print_request, print_blank, print_end, print_version}
use Rattle.portal_frame.proofs.Base.{print_section, LineEnd, crlf, lf, Field, IsField, is_token_byte, is_uri_byte}
use Rattle.portal_frame.proofs.Base.{RequestOverflows, Opens, Faulty, Leading, Fresh, Inside, lines_from}
use Rattle.portal_frame.proofs.Base.{header_lines, All, flat_map, AllByRecursion, leb-true, All-head, All-tail}
use Rattle.portal_frame.proofs.Base.{print_field, AllPass, is_value_byte, step, stops, counts, is_overlong}
use Rattle.std.proofs.lemmas.Bool.{ne_eqb}
use Rattle.portal_frame.proofs.Heads.{opens_never}
use Rattle.portal_frame.specs.declared.counting.At.{At}
use Rattle.portal_frame.proofs.HeadLines.{counted_is}
use Rattle.portal_frame.specs.Stream.{refusal_of_fault}
use Rattle.portal_frame.specs.declared.types.FramingFault.TheVariants.{BadHead}

pub lines-append : (at : At) (xs ys : List ℕ) → lines_from at xs ≤ lines_from at (xs ++ ys)
lines-append at [] ys = omega arith
lines-append at (b ∷ xs) ys = more (stops at b) (counts at b) _ _ (lines-append (step at b) xs ys)
  where
    more : (s : Bool) (n x y : ℕ) → x ≤ y → (if s then 0 else n + x) ≤ (if s then 0 else n + y)
    more true n x y le = omega arith
    more false n x y le = omega (arith, le)

-- no LF
abbrev pub NoLf : List ℕ → Type 0
NoLf xs = AllByRecursion (λ b. b == 10 ≡ false) xs

-- neither LF nor CR comes first
abbrev pub Starts : List ℕ → Type 0
Starts [] = ⊥
Starts (b ∷ xs) = (b == 10 ≡ false) × (b == 13 ≡ false) × NoLf xs

no_lf-append : (xs ys : List ℕ) → NoLf xs → NoLf ys → NoLf (xs ++ ys)
no_lf-append [] ys a b = b
no_lf-append (x ∷ xs) ys a b = (a.0, no_lf-append xs ys a.1 b)

-- a line that is being read
inside : (xs : List ℕ) (e : LineEnd) (rest : List ℕ) → NoLf xs
    → lines_from Inside (xs ++ (print_end e ++ rest)) ≡ 1 + lines_from Fresh rest
inside [] crlf rest none = zero-add (1 + lines_from Fresh rest)
inside [] lf rest none = refl
inside (x ∷ xs) e rest none = rw none.0 (zero-add (lines_from Inside (xs ++ (print_end e ++ rest))) ∙ inside xs e rest none.1)

fresh : (xs : List ℕ) (e : LineEnd) (rest : List ℕ) → Starts xs
    → lines_from Fresh (xs ++ (print_end e ++ rest)) ≡ 1 + lines_from Fresh rest
fresh [] e rest starts = absurd starts
fresh (x ∷ xs) e rest starts = rw (starts.0, starts.1)
    (zero-add (lines_from Inside (xs ++ (print_end e ++ rest))) ∙ inside xs e rest starts.2)

leading : (xs : List ℕ) (e : LineEnd) (rest : List ℕ) → Starts xs
    → lines_from Leading (xs ++ (print_end e ++ rest)) ≡ 1 + lines_from Fresh rest
leading [] e rest starts = absurd starts
leading (x ∷ xs) e rest starts = rw (starts.0, starts.1)
    (zero-add (lines_from Inside (xs ++ (print_end e ++ rest))) ∙ inside xs e rest starts.2)

blanks : (ends : List LineEnd) (rest : List ℕ) → lines_from Leading (print_blank ends ++ rest) ≡ lines_from Leading rest
blanks [] rest = refl
blanks (crlf ∷ ends) rest = zero-add (0 + lines_from Leading (print_blank ends ++ rest))
    ∙ (zero-add (lines_from Leading (print_blank ends ++ rest)) ∙ blanks ends rest)
blanks (lf ∷ ends) rest = zero-add (lines_from Leading (print_blank ends ++ rest)) ∙ blanks ends rest

empty_line : (e : LineEnd) (rest : List ℕ) → lines_from Fresh (print_end e ++ rest) ≡ 0
empty_line crlf rest = refl
empty_line lf rest = refl

-- the lines of fields
abbrev pub FieldLines : List Field → Type 0
FieldLines fields = AllByRecursion (λ f. Starts (f.name ++ 58 ∷ f.raw)) fields

section_lines : (fields : List Field) (last : LineEnd) (rest : List ℕ) → FieldLines fields
    → lines_from Fresh (print_section fields last ++ rest) ≡ length fields
section_lines [] last rest lines = empty_line last rest
section_lines (f ∷ fields) last rest lines =
    let one_more : 1 + length fields ≡ length (f ∷ fields) = omega arith in
    ap (lines_from Fresh) (append_assoc (print_field f ++ flat_map print_field fields) (print_end last) rest
    ∙ (append_assoc (print_field f) (flat_map print_field fields) (print_end last ++ rest)
    ∙ append_assoc (f.name ++ 58 ∷ f.raw) (print_end f.end) (flat_map print_field fields ++ (print_end last ++ rest))))
    ∙ (fresh (f.name ++ 58 ∷ f.raw) f.end (flat_map print_field fields ++ (print_end last ++ rest)) lines.0
    ∙ ap (λ n. 1 + n) (ap (lines_from Fresh) (sym (append_assoc (flat_map print_field fields) (print_end last) rest))
    ∙ section_lines fields last rest lines.1) ∙ one_more)

shape : (b m t v e s r : List ℕ) → (b ++ m ++ t ++ v ++ e ++ s) ++ r ≡ b ++ ((m ++ t ++ v) ++ (e ++ (s ++ r)))
shape b m t v e s r = simp append_assoc

-- the start line and the field lines are no empty lines
pub record IsLined (h : RequestHead) : Type 0 where
  pub start : Starts (h.method ++ 32 ∷ h.target ++ 32 ∷ print_version h.minor)
  pub lines : FieldLines h.fields

pub lines_counted : (h : RequestHead) (rest : List ℕ) → IsLined h
    → lines_from Leading (print_request h ++ rest) ≡ 1 + length h.fields
unfolding print_request
lines_counted h rest lined =
    let start = h.method ++ 32 ∷ h.target ++ 32 ∷ print_version h.minor in
    let after = print_section h.fields h.last ++ rest in
    ap (lines_from Leading) (shape (print_blank h.blank) h.method (32 ∷ h.target) (32 ∷ print_version h.minor) (print_end h.line_end)
    (print_section h.fields h.last) rest)
    ∙ (blanks h.blank (start ++ (print_end h.line_end ++ after))
    ∙ (leading start h.line_end after lined.start
    ∙ ap (λ n. 1 + n) (section_lines h.fields h.last rest lined.lines)))

-- from tests of each byte

differs : (test : ℕ → Bool) (x c : ℕ) → IsTrue (test x) → test c ≡ false → x == c ≡ false
differs test x c yes_x not = ne_eqb x c (λ e. let never : IsTrue false = rw (e, not) at yes_x in search (rules, never))

no_lf : (test : ℕ → Bool) (xs : List ℕ) → AllPass test xs → test 10 ≡ false → NoLf xs
no_lf test [] all not = tt
no_lf test (x ∷ xs) all not =
    (differs test x 10 (All-head (λ b. IsTrue (test b)) x xs all) not, no_lf test xs (All-tail (λ b. IsTrue (test b)) x xs all) not)

starts : (name more : List ℕ) → 0 < length name → AllPass is_token_byte name → NoLf more → Starts (name ++ more)
unfolding is_token_byte
starts [] more some all none = absurd (omega (arith, some))
starts (x ∷ xs) more some all none =
    let first = All-head (λ b. IsTrue (is_token_byte b)) x xs all in (
      differs is_token_byte x 10 first refl,
      differs is_token_byte x 13 first refl,
      no_lf-append xs more (no_lf is_token_byte xs (All-tail (λ b. IsTrue (is_token_byte b)) x xs all) refl) none,
    )

version_lf : (minor : ℕ) → minor ≤ 1 → NoLf (32 ∷ print_version minor)
version_lf minor le =
    let digit : 48 + minor == 10 ≡ false = ne_eqb (48 + minor) 10 (λ e. omega (arith, le, e)) in
    (refl, (refl, (refl, (refl, (refl, (refl, (refl, (refl, (digit, tt)))))))))

field_lines : (fields : List Field) → All IsField fields → FieldLines fields
field_lines [] all = tt
field_lines (f ∷ fields) all =
    let is = All-head IsField f fields all in (
      starts f.name (58 ∷ f.raw) is.name.0 is.name.1 (refl, no_lf is_value_byte f.raw is.raw refl),
      field_lines fields (All-tail IsField f fields all),
    )

lined : (h : RequestHead) → IsRequestHead h → IsLined h
lined h is =
    record {
      start = subst Starts (sym (append_assoc h.method (32 ∷ h.target) (32 ∷ print_version h.minor)))
          (starts h.method (32 ∷ h.target ++ 32 ∷ print_version h.minor) is.method.0 is.method.1
          (no_lf-append (32 ∷ h.target) (32 ∷ print_version h.minor) (refl, no_lf is_uri_byte h.target is.target.1 refl)
          (version_lf h.minor is.minor)));
      lines = field_lines h.fields is.fields;
    }

-- where the lines are too many each head has more than 32 fields, whatever follows
pub overlong : (bytes : List ℕ) → 34 ≤ length (header_lines bytes) → RequestOverflows 32 bytes
overlong bytes long more h rest reads =
    let most = lines_counted h rest (lined h reads.0) in
    let same : lines_from Leading (bytes ++ more) ≡ 1 + length h.fields = ap (lines_from Leading) reads.1 ∙ most in
    omega (arith, long, counted_is bytes, lines-append Leading bytes more, same)

pub opens_overlong : (bytes more : List ℕ) → is_overlong bytes ≡ true → Opens (bytes ++ more) (Faulty (refusal_of_fault BadHead) false)
opens_overlong bytes more long = opens_never bytes more (overlong bytes (leb-true 34 (length (header_lines bytes)) long))
