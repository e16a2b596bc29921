-- What was written of a text, a part at a time.
use Rattle.portal_run.proofs.Base.{◌≡◌, ◌≤◌, ◌+◌, ℕ, [], length, Option, Some, None, take, drop, refl, sym, subst, inl, inr, arith}
use Rattle.portal_run.proofs.Base.{take_all, append-nil, Appends, Keeps, Text, Output, FailsToWrite, Says, AppendsFront, codes}
use Rattle.std.proofs.KnownBytes.{Appends-kept, Appends-trans}
use Rattle.std.proofs.Math.Seq.{take-add}

pub none_written : (a : Option Text) (bytes : Text) → bytes ≡ [] → Appends a a bytes
none_written None bytes e = tt
none_written (Some xs) bytes e = rw e (sym (append-nil xs))

pub none_front : (a : Option Text) (text : Text) → AppendsFront a a text
none_front a text = (0, none_written a (take 0 text) refl)

-- so many bytes of the text were written, and then more
pub more_written : (a b c : Option Text) (text : Text) (done n : ℕ) → Appends a b (take done text)
    → Appends b c (take n (drop done text)) → Appends a c (take (done + n) text)
more_written a b c text done n first then = subst (Appends a c) (sym (take-add done n text)) (Appends-trans a b c _ _ first then)

-- nothing more was written
pub kept_written : (a b c : Option Text) (bytes : Text) → Appends a b bytes → Keeps b c → Appends a c bytes
kept_written a b c bytes = Appends-kept a b c bytes

pub all_written : (a b : Option Text) (text : Text) (n : ℕ) → Appends a b (take n text) → length text ≤ n → Appends a b text
all_written a b text n h fits = subst (Appends a b) (take_all n text fits) h

-- a beginning was written, and nothing more
pub kept_front : (a b c : Option Text) (text : Text) → AppendsFront a b text → Keeps b c → AppendsFront a c text
kept_front a b c text front kept = (front.0, Appends-kept a b c _ front.1 kept)

-- a beginning of the text, and one of `fault write`
pub failed : (a b c : Option Text) (text : Text) → AppendsFront a b text → AppendsFront b c (codes "fault write\n")
    → FailsToWrite text 3 a c
failed a b c text front then = record {
  status_is = refl;
  front = front.0;
  fault = then.0;
  written = Appends-trans a b c _ _ front.1 then.1;
}

pub said_bound : (t : Output) (status : ℕ) (old new : Option Text) → Says t status old new → t.status ≤ 3 → status ≤ 3
said_bound t status old new (inl h) small = omega (arith, h.0)
said_bound t status old new (inr f) small = omega (arith, f.status_is)
