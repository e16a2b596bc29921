-- What was written of one reply.
use Rattle.portal_desk.proofs.Base.{◌≡◌, ℕ, Bool, true, false, List, subst, Option, ◌||◌, Appends, Answer, Cause}
use Rattle.portal_desk.proofs.Base.{reply_text, Partly, Broke}
use Rattle.portal_desk.specs.declared.served.Cause.TheVariants as cause

pub broke : (why : Cause) (failed : Bool) (reply : Answer) (head closes : Bool) (before after : Option (List ℕ))
    → Partly why before after (reply_text reply head (closes || failed)) → Broke why failed reply head closes before after
broke cause.Store failed reply head closes before after p = absurd p
broke _ failed reply head closes before after p = p

-- an answer that failed leaves the source alone, and fails the desk if the store failed
pub broke_unread : (why : Cause) (failed : Bool) (reply : Answer) (head closes : Bool) (before after : Option (List ℕ))
    → Broke why failed reply head closes before after → why ≡ cause.Read → ⊥
broke_unread cause.Read failed reply head closes before after p e = p
broke_unread cause.Write failed reply head closes before after p e = cc
broke_unread cause.Memory failed reply head closes before after p e = cc
broke_unread cause.Store failed reply head closes before after p e = cc

pub broke_store : (why : Cause) (failed : Bool) (reply : Answer) (head closes : Bool) (before after : Option (List ℕ))
    → Broke why failed reply head closes before after → why ≡ cause.Store → failed ≡ true
broke_store cause.Store failed reply head closes before after p e = p.0
broke_store cause.Read failed reply head closes before after p e = absurd p
broke_store cause.Write failed reply head closes before after p e = absurd (cc)
broke_store cause.Memory failed reply head closes before after p e = absurd (cc)

pub still : (before after : Option (List ℕ)) (reply : Answer) (head closes failed : Bool) → failed ≡ false
    → Appends before after (reply_text reply head (closes || failed)) → Appends before after (reply_text reply head closes)
still before after reply head true failed e adds = adds
still before after reply head false failed e adds = subst (λ b. Appends before after (reply_text reply head b)) e adds
