-- A stream has requests, an ending and its text, if something stands at the front of each rest.
use Rattle.portal_wire.proofs.Base.{◌≡◌, ℕ, zero, suc, ◌-◌, ◌<◌, ◌≤◌, Bool, true, false, List, [], ◌∷◌, ◌++◌, length}
use Rattle.portal_wire.proofs.Base.{drop, refl, sym, ap, ◌∙◌, subst, arith, if◌then◌else◌, Request, RequestContent}
use Rattle.portal_wire.proofs.Base.{Item, Whole}
use Rattle.portal_wire.proofs.Base.{Faulty, Over, Opens, answer_to, reply_text, request_of, closes_at, Rest, More, Shut}
use Rattle.portal_wire.proofs.Base.{Leads, Ends, Last, End, Refused, inl, inr, take, append_assoc, Ok, Err, nat_le}
use Rattle.portal_wire.proofs.Base.{take-append-drop, length-append, asked_of, after_lines, body_length, fields_of}
use Rattle.portal_wire.proofs.Base.{is_head}
use Rattle.std.proofs.Math.Seq.{drop-append_seam}
use Rattle.std.proofs.lemmas.Bool.{both_ways, or_right}
use Rattle.httparse.specs.Grammar.{RequestHead, print_request}
use Rattle.portal_wire.specs.inner.Calls.{last_for}
use Rattle.portal_frame.specs.Stream.{RefusalContent}

-- something stands at the front of each rest of the bytes
abbrev pub Fronts : List ℕ → Type 0
Fronts bytes = (front rest : List ℕ) → bytes ≡ front ++ rest → (item : Item) × Opens rest item

abbrev pub Ended : ℕ → List ℕ → Type 0
Ended left bytes = (rs : List Request) × (end : Last) × (closing : List ℕ) × (rest : Rest) × Leads left bytes rs rest
    × Ends rest end closing

after_body : (h : RequestHead) (n : ℕ) (rest : List ℕ) (a : RequestContent) (after : List ℕ) (why : RefusalContent) (b : Bool)
    → Whole a after ≡ (if b then Whole (asked_of h (take n rest)) (drop n rest) else Faulty why (is_head h.method))
    → after ≡ drop n rest
after_body h n rest a after why true e = cc
after_body h n rest a after why false e = absurd (cc)

after_head : (h : RequestHead) (r : _) (rest : List ℕ) (a : RequestContent) (after : List ℕ)
    → Whole a after ≡ after_lines h r rest
    → (n : ℕ) × (after ≡ drop n rest)
after_head h (Err why) rest a after e = absurd (cc)
after_head h (Ok n) rest a after e = (n, after_body h n rest a after _ (nat_le n (length rest)) e)

pub not_headless : (a : RequestContent) (after : List ℕ) (why : RefusalContent) (b : Bool)
    → Whole a after ≡ (if b then Over else Faulty why false)
    → ⊥
not_headless a after why true e = cc
not_headless a after why false e = cc

-- what is left after a request is a rest of the bytes
leaves : (bytes : List ℕ) (a : RequestContent) (after : List ℕ) → Opens bytes (Whole a after)
    → (front : List ℕ) × (bytes ≡ front ++ after)
leaves bytes a after (inl (h, rest, t, e)) =
    let cut : (n : ℕ) × (after ≡ drop n rest) = after_head h (body_length h.minor (fields_of h)) rest a after e in (
      print_request h ++ take cut.0 rest,
      t.reads.1
          ∙ (ap (λ r. print_request h ++ r) (sym (take-append-drop cut.0 rest))
          ∙ (sym (append_assoc (print_request h) (take cut.0 rest) (drop cut.0 rest))
          ∙ ap (λ r. (print_request h ++ take cut.0 rest) ++ r) (sym cut.1))),
    )
leaves bytes a after (inr (none, e)) = absurd (not_headless a after _ _ e)

fronts_after : (bytes : List ℕ) (a : RequestContent) (after : List ℕ) → Opens bytes (Whole a after) → Fronts bytes
    → Fronts after
fronts_after bytes a after opens fronts front rest e =
    let cut : (f : List ℕ) × (bytes ≡ f ++ after) = leaves bytes a after opens in
    fronts (cut.0 ++ front) rest (cut.1 ∙ (ap (λ r. cut.0 ++ r) e ∙ sym (append_assoc cut.0 front rest)))

-- a stream that a reply shut ends with no text
pub shut_ends : (close : Bool) → Ends (Shut close) (last_for close) []
shut_ends true = refl
shut_ends false = refl

-- a request that closes, or one after which others come
first : (left : ℕ) (bytes : List ℕ) (a : RequestContent) (after : List ℕ) (b : Bool) → closes_at left a ≡ b
    → Opens bytes (Whole a after)
    → (b ≡ false → Ended (left - 1) after) → Ended left bytes
first left bytes a after true e opens later = (
  request_of (closes_at left a) a ∷ [],
  last_for a.close,
  [],
  Shut a.close,
  (a, after, opens, refl, rw e (refl, refl)),
  shut_ends a.close,
)
first left bytes a after false e opens later =
    let others : Ended (left - 1) after = later refl in (
      request_of (closes_at left a) a ∷ others.0,
      others.1,
      others.2,
      others.3,
      (a, after, opens, refl, rw e others.4),
      others.5,
    )

step : (left : ℕ) (bytes : List ℕ) (item : Item) → Opens bytes item
    → ((a : RequestContent) (after : List ℕ) → Opens bytes (Whole a after) → closes_at left a ≡ false → Ended (left - 1) after)
    → Ended left bytes
step left bytes Over opens later = ([], End, [], More bytes, refl, (opens, refl))
step left bytes (Faulty why head_only) opens later =
    ([], Refused why.word, reply_text (answer_to why) head_only true, More bytes, refl, (why, head_only, opens, refl, refl))
step left bytes (Whole a after) opens later = first left bytes a after (closes_at left a) refl opens (λ open'. later a after opens open')

pub ended : (left : ℕ) (bytes : List ℕ) → Fronts bytes → Ended left bytes
ended zero bytes fronts =
    let front : (item : Item) × Opens bytes item = fronts [] bytes refl in
    step zero bytes front.0 front.1 (λ a after opens goes. absurd (both_ways (closes_at 0 a) goes (or_right a.close (nat_le 0 1) refl)))
ended (suc n) bytes fronts =
    let front : (item : Item) × Opens bytes item = fronts [] bytes refl in
    step (suc n) bytes front.0 front.1
    (λ a after opens goes. let same : n ≡ suc n - 1 = omega arith in
    subst (λ k. Ended k after) same (ended n after (fronts_after bytes a after opens fronts)))

-- the same of the places in the bytes, and of the end
pub fronts_of : (bytes : List ℕ) (n : ℕ) → length bytes ≤ n
    → ((k : ℕ) → k < n → (item : Item) × Opens (drop k bytes) item)
    → (item : Item) × Opens [] item → Fronts bytes
fronts_of bytes n all each none front [] e = none
fronts_of bytes n all each none front (b ∷ rest) e =
    let short : length front < n = omega (arith, ap length e ∙ length-append front (b ∷ rest)) in
    let same : drop (length front) bytes ≡ b ∷ rest = ap (drop (length front)) e ∙ drop-append_seam front (b ∷ rest) in
    subst (λ r. (item : Item) × Opens r item) same (each (length front) short)
