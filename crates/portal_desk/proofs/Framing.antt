-- What a frame of the buffer says of the stream.
use Rattle.portal_desk.proofs.Base.{◌≡◌, ℕ, ◌<◌, inl, inr, Bool, true, false, List, [], ◌++◌, length, take, drop, refl}
use Rattle.portal_desk.proofs.Base.{sym, ap, ◌∙◌, subst, append-nil, arith, Option, Some, None, nat_le, if◌then◌else◌}
use Rattle.portal_desk.proofs.Base.{Frame, Opens, Whole, Faulty, request_content, refusal_content, RequestContent}
use Rattle.portal_desk.proofs.Base.{is_head, ReadsMore, Heads}
use Rattle.portal_desk.proofs.Base.{Follows, NoneWhole, IsTrue, ◌≢◌, Ok, Err, leb-true, not_headless, Framed}
use Rattle.portal_desk.proofs.Base.{IsWithinLimits, Over, item_of, after_lines, asked_of, fields_of, body_length}
use Rattle.portal_desk.proofs.Base.{RefusalContent, IsWithin, Cause, Result, IfErr}
use Rattle.httparse.specs.Grammar.{RequestHead}
use Rattle.httparse.proofs.GrammarLemmas.{request_unique}
use Rattle.portal_frame.specs.declared.types.Frame.TheVariants as frame

heads : (stream after rest : List ℕ) (ended : Bool) (f : Frame) → after ++ rest ≡ stream → (IsTrue ended → rest ≡ [])
    → Framed after ended f → f ≢ frame.Need → Heads stream after rest f
heads stream after rest ended frame.Need e last framed not_need = not_need refl
heads stream after rest ended frame.End e last framed not_need =
    let all : after ≡ stream = sym (append-nil after) ∙ (ap (λ r. after ++ r) (sym (last framed.0)) ∙ e) in
    subst (λ s. Opens s Over) all framed.1
heads stream after rest ended (frame.Request request used) e last framed not_need =
    subst (λ s. Opens s (Whole (request_content request) (drop used after ++ rest))) e (framed rest)
heads stream after rest ended (frame.Bad refusal head_only) e last framed not_need =
    subst (λ s. Opens s (Faulty (refusal_content refusal) head_only)) e (framed rest last)

pub follows : (old new : Option (List ℕ)) (before after : List ℕ) (ended : Bool) (f : Frame)
    → ReadsMore old new before after ended
    → Framed after ended f → f ≢ frame.Need → IsWithin after f → Follows old new before after f
follows None new before after ended f reads framed not_need held = record { goes = tt; whole = not_need; within = held }
follows (Some more) new before after ended f (rest, known, same, last) framed not_need held =
    record {
      goes = (rest, known, same, heads (before ++ more) after rest ended f same last framed not_need);
      whole = not_need;
      within = held;
    }

pub within : (buffer : List ℕ) (f : Frame) → IsWithinLimits buffer f → IsWithin buffer f
within buffer (frame.Request request used) limits = (limits.1, limits.2)
within buffer _ limits = tt

too_short : (n : ℕ) (rest : List ℕ) (short : length rest < n) (h : RequestHead) (why : RefusalContent) (b : Bool)
    (a : RequestContent) (after : List ℕ)
    → nat_le n (length rest) ≡ b
    → Whole a after ≡ (if b then Whole (asked_of h (take n rest)) (drop n rest) else Faulty why (is_head h.method)) → ⊥
too_short n rest short h why true a after le e = omega (arith, short, leb-true n (length rest) le)
too_short n rest short h why false a after le e = absurd (cc)

sized : (h : RequestHead) (n : ℕ) (rest : List ℕ) (r : _) → length rest < n → r ≡ Ok n
    → (a : RequestContent) (after : List ℕ)
    → Whole a after ≡ after_lines h r rest → ⊥
sized h n rest (Ok m) short e a after is =
    too_short n rest short h _ (nat_le n (length rest)) a after refl (subst (λ r. Whole a after ≡ after_lines h r rest) e is)
sized h n rest (Err x) short e a after is = absurd (cc)

pub none_whole : (bytes : List ℕ) (ended : Bool) → Framed bytes ended frame.Need → NoneWhole bytes
none_whole bytes ended (on, inl waits) a after (inl (h, rest, takes, e)) = waits.none h rest takes
none_whole bytes ended (on, inl waits) a after (inr (nothing, e)) = not_headless a after _ _ e
none_whole bytes ended (on, inr (h, rest, n, takes, size, short)) a after (inl (k, other, took, e)) =
    let same = request_unique bytes h k rest other takes.reads took.reads in
    sized h n rest (body_length h.minor (fields_of h)) short size a after
    (subst (λ r. Whole a after ≡ item_of h r) (sym same.1) (subst (λ (x : RequestHead). Whole a after ≡ item_of x other) (sym same.0) e))
none_whole bytes ended (on, inr (h, rest, n, takes, size, short)) a after (inr (nothing, e)) = nothing h rest takes

pub none_err : {A : Type 0} (r : Result A Cause) (P : Cause → Type 0) (bytes : List ℕ) → NoneWhole bytes
    → IfErr r (λ why. P why → NoneWhole bytes)
none_err (Ok a) P bytes none = tt
none_err (Err why) P bytes none = λ is. none
