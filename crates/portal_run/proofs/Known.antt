-- What is known of an input that is longer than a file may be, and of one that is not.
use Rattle.portal_run.proofs.Base.{◌≡◌, ◌<◌, ℕ, Bool, true, length, Option, Some, None, take, subst, inl}
use Rattle.portal_run.proofs.Base.{inr, arith, IfSome, Appends, cases_lt, lt-ltb, length-take, take_all, Text, Output}
use Rattle.portal_run.proofs.Base.{IfLonger, IsAnswer, WritesAnswer, AnswersSome, Says}
use Rattle.portal_answer.specs.declared.answer.Task.{Task}

-- of a longer file nothing is read
longer : (task : Task) (a b : Bool) (xs ys : Text) (t : Output) → a ≡ true → b ≡ true → IfLonger task a xs t
    → IfLonger task b ys t
longer task a b xs ys t e f h = rw f (rw e at h)

-- a byte more than a file may have tells as much as all of them
cut_answer : (task : Task) (b : Text) (t : Output) → IsAnswer task (take 4194305 b) t → IsAnswer task b t
cut_answer task b t h = elim (cases_lt 4194304 (length b)) [
  | inl lt ↦
      let long : 4194304 < length (take 4194305 b) = omega (arith, length-take 4194305 b) in
      longer task _ _ (take 4194305 b) b t (lt-ltb 4194304 (length (take 4194305 b)) long) (lt-ltb 4194304 (length b) lt) h
  | inr le ↦ subst (λ (xs : Text). IsAnswer task xs t) (take_all 4194305 b (omega arith)) h
]

-- what was said with a status below 3
pub said_whole : (t : Output) (status : ℕ) (old new : Option Text) → Says t status old new → status < 3
    → (status ≡ t.status) × Appends old new t.text
said_whole t status old new (inl h) small = h
said_whole t status old new (inr f) small = absurd (omega (arith, f.status_is))

-- what was said is what is answered to the whole input
pub said : (task : Task) (k : Option Text) (bytes : Text) (old new : Option Text) (status : ℕ) (t : Output)
    → IfSome k (λ b. bytes ≡ take 4194305 b) → IsAnswer task bytes t
    → Says t status old new → status < 3 → WritesAnswer task k status old new
said task None bytes old new status t cut is done small = tt
said task (Some b) bytes old new status t cut is done small =
    let whole = said_whole t status old new done small in
    (t, cut_answer task b t (subst (λ (xs : Text). IsAnswer task xs t) cut is), whole.0, whole.1)

-- what was said is an answer to these bytes
pub said_some : (task : Task) (bytes : Text) (old new : Option Text) (status : ℕ) (t : Output) → IsAnswer task bytes t
    → Says t status old new → status < 3 → AnswersSome task status old new
said_some task bytes old new status t is done small =
    let whole = said_whole t status old new done small in (bytes, t, is, whole.0, whole.1)
