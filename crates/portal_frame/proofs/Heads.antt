-- Heads at the front of a stream, cut and continued.
use Rattle.portal_frame.proofs.Base.{◌≡◌, ℕ, ◌+◌, ◌-◌, ◌<◌, ◌≤◌, inl, inr, true, false, List, [], ◌∷◌, ◌++◌, length}
use Rattle.portal_frame.proofs.Base.{take, drop, refl, sym, ap, ◌∙◌, arith, rules, append_assoc, subst, ◌==◌, ◌&&◌, Ok}
use Rattle.portal_frame.proofs.Base.{eqb-true, common_steps, take-append-drop, length-append, IsTrue, nat_lt, nat_le}
use Rattle.portal_frame.proofs.Base.{RequestHead, IsRequestHead, HasNoRequest, print_request, LineEnd, lf, crlf}
use Rattle.portal_frame.proofs.Base.{print_blank, print_version, is_token_byte, is_uri_byte, IsField, RequestOverflows}
use Rattle.portal_frame.proofs.Base.{body_length, Whole, Faulty, asked_of, fields_of, Opens, is_blank}
use Rattle.portal_frame.proofs.Base.{append-nil, min, le-leb, cases_lt, take-append-le, drop-append-le, drop-drop}
use Rattle.portal_frame.proofs.Base.{length-take-le, length-take, length-map, take_all, All-cons, All-nil, ReadsRequest}
use Rattle.portal_frame.proofs.Base.{ReadsRequest-append, print_request-append, Takes, HasNoHead, IsHead, IsRequestAt}
use Rattle.portal_frame.proofs.Base.{IsRequestWithin, head_limit}
use Rattle.std.proofs.Math.Seq.{take-append-add}
use Rattle.std.proofs.lemmas.Bool.{and_parts, cases_Bool, or_cases}
use Rattle.std.specs.Char.{encode_utf8}
use Rattle.httparse.specs.declared.spans.HeaderSpan.{HeaderSpan}
use Rattle.httparse.specs.declared.spans.RequestSpans.{RequestSpans}
use Rattle.portal_frame.specs.Stream.{refusal_of_fault}
use Rattle.portal_frame.specs.declared.types.FramingFault.TheVariants.{BadHead}

pub Takes-append : (bytes more : List ℕ) (h : RequestHead) (rest : List ℕ) → Takes bytes h rest
    → Takes (bytes ++ more) h (rest ++ more)
Takes-append bytes more h rest t = record {
  reads = ReadsRequest-append bytes h rest more t.reads;
  few = t.few;
  short = t.short;
}

cut : (n : ℕ) (bytes p rest : List ℕ) → bytes ≡ p ++ rest → length p ≤ n → take n bytes ≡ p ++ take (n - length p) rest
cut n bytes p rest e le =
    let split : n ≡ length p + (n - length p) = omega (arith, le) in
    ap (take n) e ∙ (ap (λ k. take k (p ++ rest)) split ∙ take-append-add p rest (n - length p))

pub none_so_far : (bytes : List ℕ) → HasNoRequest (take head_limit bytes) → HasNoHead bytes
none_so_far bytes none h rest t =
    none h (take (head_limit - length (print_request h)) rest) (t.reads.0, cut head_limit bytes (print_request h) rest t.reads.1 t.short)

pub none_later : (bytes more : List ℕ) → HasNoRequest (take head_limit bytes) → head_limit ≤ length bytes
    → HasNoHead (bytes ++ more)
none_later bytes more none full =
    none_so_far (bytes ++ more) (rw (take-append-le head_limit bytes more full) none)

pub overflows_on : (bytes more : List ℕ) → RequestOverflows 32 bytes → RequestOverflows 32 (bytes ++ more)
overflows_on bytes more overflows after h rest reads =
    overflows (more ++ after) h rest (reads.0, sym (append_assoc bytes more after) ∙ reads.1)

pub overflows_all : (bytes : List ℕ) → RequestOverflows 32 (take head_limit bytes) → RequestOverflows 32 bytes
overflows_all bytes overflows =
    subst (RequestOverflows 32) (take-append-drop head_limit bytes) (overflows_on (take head_limit bytes) (drop head_limit bytes) overflows)

pub none_ever : (bytes more : List ℕ) → RequestOverflows 32 bytes → HasNoHead (bytes ++ more)
none_ever bytes more overflows h rest t =
    let over : 32 < length h.fields = overflows more h rest t.reads in
    omega (arith, over, t.few)

pub none_now : (bytes : List ℕ) → RequestOverflows 32 bytes → HasNoHead bytes
none_now bytes overflows = subst HasNoHead (append-nil bytes) (none_ever bytes [] overflows)

-- empty lines can go on to a head
abbrev GoesOn : List ℕ → Type 0
GoesOn bytes = (more : List ℕ) × (ends : List LineEnd) × (bytes ++ more ≡ print_blank ends)

blank_ends : (bytes : List ℕ) → is_blank bytes ≡ true → GoesOn bytes
blank_ends [] e = ([], [], refl)
blank_ends (b ∷ []) e = elim (or_cases (b == 10) (b == 13) e) [
  | inl is_lf ↦ ([], lf ∷ [], ap (λ x. x ∷ []) (eqb-true b 10 is_lf))
  | inr is_cr ↦ (10 ∷ [], crlf ∷ [], ap (λ x. x ∷ 10 ∷ []) (eqb-true b 13 is_cr))
]
blank_ends (b ∷ c ∷ bytes) e = elim (cases_Bool (b == 10)) [
  | inl is_lf ↦ let r = blank_ends (c ∷ bytes) (rw is_lf at e) in
      (r.0, lf ∷ r.1, ap (λ x. x ∷ ((c ∷ bytes) ++ r.0)) (eqb-true b 10 is_lf) ∙ ap (λ xs. 10 ∷ xs) r.2)
  | inr other ↦
      let both = and_parts (b == 13 && c == 10) (is_blank bytes) (rw other at e) in
      let ends = and_parts (b == 13) (c == 10) both.0 in
      let r = blank_ends bytes both.1 in (
        r.0,
        crlf ∷ r.1,
        ap (λ x. x ∷ c ∷ (bytes ++ r.0)) (eqb-true b 13 ends.0)
            ∙ (ap (λ x. 13 ∷ x ∷ (bytes ++ r.0)) (eqb-true c 10 ends.1) ∙ ap (λ xs. 13 ∷ 10 ∷ xs) r.2),
      )
]

abbrev least : List LineEnd → RequestHead
least ends = record { blank = ends; method = 71 ∷ []; target = 47 ∷ []; minor = 1; line_end = lf; fields = []; last = lf }

least_valid : (ends : List LineEnd) → IsRequestHead (least ends)
unfolding is_token_byte encode_utf8
least_valid ends = record {
  method = (omega arith, All-cons (λ b. IsTrue (is_token_byte b)) 71 [] (search rules) (All-nil (λ b. IsTrue (is_token_byte b))));
  target = (omega arith, All-cons (λ b. IsTrue (is_uri_byte b)) 47 [] (search rules) (All-nil (λ b. IsTrue (is_uri_byte b))));
  target_text = (47 ∷ [], (refl, refl));
  minor = omega arith;
  fields = All-nil IsField;
}

-- what follows the empty lines of the least head
abbrev tail_of_least : List ℕ
tail_of_least = 71 ∷ 32 ∷ 47 ∷ 32 ∷ (print_version 1 ++ (10 ∷ 10 ∷ []))

least_reads : (bytes more : List ℕ) (ends : List LineEnd) → bytes ++ more ≡ print_blank ends
    → ReadsRequest (bytes ++ (more ++ tail_of_least)) (least ends) []
least_reads bytes more ends e = (
  least_valid ends,
  sym (append_assoc bytes more tail_of_least) ∙ (ap (λ xs. xs ++ tail_of_least) e ∙ sym (print_request-append (least ends) [])),
)

never_blank : (bytes : List ℕ) → RequestOverflows 32 bytes → is_blank bytes ≡ true → ⊥
never_blank bytes overflows blank =
    let r = blank_ends bytes blank in
    let over : 32 < 0 = overflows (r.0 ++ tail_of_least) (least r.1) [] (least_reads bytes r.0 r.1 r.2) in
    omega (arith, over)

-- no head can come: the stream is refused, however it goes on
pub opens_never : (bytes more : List ℕ) → RequestOverflows 32 bytes → Opens (bytes ++ more) (Faulty (refusal_of_fault BadHead) false)
opens_never bytes more overflows = inr (
  none_ever bytes more overflows,
  elim (cases_Bool (is_blank (bytes ++ more))) [
    | inl blank ↦ absurd (never_blank (bytes ++ more) (overflows_on bytes more overflows) blank)
    | inr other ↦ rw other
  ],
)

-- the longest head is passed, and none stands there
pub opens_full : (bytes more : List ℕ) → HasNoHead (bytes ++ more) → head_limit ≤ length bytes
    → Opens (bytes ++ more) (Faulty (refusal_of_fault BadHead) false)
opens_full bytes more none full =
    let long : nat_lt (length (bytes ++ more)) head_limit ≡ false = rw (length-append bytes more) (grind (arith, common_steps, full)) in
    inr (none, elim (cases_Bool (is_blank (bytes ++ more))) [ inl blank ↦ rw (blank, long) | inr other ↦ rw other ])

-- ---- after a head

pub after_whole : (bytes more : List ℕ) (h : RequestHead) (len n : ℕ) → Takes bytes h (drop len bytes)
    → body_length h.minor (fields_of h) ≡ Ok n → n ≤ length (drop len bytes)
    → Opens (bytes ++ more) (Whole (asked_of h (take n (drop len bytes))) (drop (len + n) bytes ++ more))
after_whole bytes more h len n t e enough =
    let rest = drop len bytes in
    let fits : nat_le n (length (rest ++ more))
    ≡ true = le-leb n (length (rest ++ more)) (rw (length-append rest more) (omega (arith, enough))) in
    inl (
      h,
      rest ++ more,
      Takes-append bytes more h rest t,
      rw (e, fits, take-append-le n rest more enough, drop-append-le n rest more enough, drop-drop n len bytes),
    )

reads_whole : (bytes front back : List ℕ) (len : ℕ) (h : RequestHead) → front ++ back ≡ bytes → len ≤ length front
    → ReadsRequest front h (drop len front) → ReadsRequest bytes h (drop len bytes)
reads_whole bytes front back len h e fits reads =
    let longer : ReadsRequest (front ++ back) h (drop len (front ++ back)) =
    rw (drop-append-le len front back fits) (ReadsRequest-append front h (drop len front) back reads) in
    subst (λ b. ReadsRequest b h (drop len b)) e longer

pub head_of : (bytes front back : List ℕ) (headers : List HeaderSpan) (spans : RequestSpans) (h : RequestHead)
    → front ++ back ≡ bytes → length front ≤ head_limit → length headers ≤ 32
    → IsRequestAt front headers spans h → IsRequestWithin front headers spans
    → IsHead bytes front spans (take spans.headers headers) h
head_of bytes front back headers spans h e short few at within =
    let fits : spans.len ≤ length front = within.section.len_fits in
    let len : length bytes ≡ length front + length back = ap length (sym e) ∙ length-append front back in
    let same = simp length-map at (ap length at.fields) in
    let count : length h.fields ≤ 32 = omega
    (arith, few, within.section.count_fits, length-take-le spans.headers headers within.section.count_fits, same) in
    record {
      takes = record {
        reads = reads_whole bytes front back spans.len h e fits at.reads;
        few = count;
        short = omega (arith, at.len, fits, short);
      };
      len_fits = omega (arith, fits, len);
      len = at.len;
      method = at.method;
      path = at.path;
      version = at.version;
      lines = at.fields;
      method_within = (within.method.0, omega (arith, fits, within.method.1));
      path_within = (within.path.0, omega (arith, fits, within.path.1));
      headers_within = λ k d lt.
          let w = within.section.headers_fit k d lt in
          ((w.0.0, omega (arith, fits, w.0.1)), (w.1.0, omega (arith, fits, w.1.1)));
    }

pub front_is : (n : ℕ) (bytes : List ℕ) → n ≡ min (length bytes) head_limit → take n bytes ≡ take head_limit bytes
front_is n bytes e = elim (cases_lt (length bytes) head_limit) [
  | inl small ↦ take_all n bytes (omega (arith, e, small)) ∙ sym (take_all head_limit bytes (omega (arith, small)))
  | inr large ↦ let same : n ≡ head_limit = omega (arith, e, large) in ap (λ k. take k bytes) same
]

pub length_front : (n : ℕ) (bytes : List ℕ) → n ≡ min (length bytes) head_limit → length (take n bytes) ≤ head_limit
length_front n bytes e = rw (length-take n bytes) (omega (arith, e))

pub front_all : (n : ℕ) (bytes : List ℕ) → n ≡ min (length bytes) head_limit → length bytes < head_limit
    → take n bytes ≡ bytes
front_all n bytes e short = take_all n bytes (omega (arith, e, short))
