-- Refutes streams that are served in turn, of which one ends without its replies, or the first takes
-- the place of another.
use Rattle.std.proofs.Common.{◌≡◌, List, [], ◌∷◌, ℕ, Option, refl, sym, ◌∙◌, subst}
use Rattle.std.specs.Prelude.{IfSome}
use Rattle.portal_rules.specs.Keeping.{KeeperState}
use Rattle.portal_wire.specs.Conversation.{Ends, Exchange, Last, Rest}
use Rattle.portal_desk.specs.Headline.{AreServedOn, visits_of}
use Rattle.portal_desk.specs.Served.{ServeWhole, ServesEach}
use Rattle.portal_desk.specs.Session.{Ended, Session, Stream, Tells, TellsExchanges}
use Rattle.portal_refuted.proofs.PortalDeskServe.{no_end, some_text}
use Rattle.portal_refuted.proofs.PortalFrame.{plain_asked, plain_bytes, plain_opens}

-- no stream that begins with a request ends without a text
pub silent_end_tells_no_exchanges : (end : Last) (es : List Exchange) (written : List ℕ) → [] ≡ written
    → TellsExchanges (Ended end) plain_bytes es written → ⊥
silent_end_tells_no_exchanges end [] written none (closing, (rest, leads, ends), is) =
    no_end plain_bytes plain_asked [] plain_opens end closing (subst (λ (r : Rest). Ends r end closing) leads ends)
silent_end_tells_no_exchanges end (e ∷ es) written none (closing, requests, is) = some_text e es closing (sym (none ∙ is))

-- the first stream, which is empty, is served in the place of the second
pub first_stream_served_twice_serves_not_each : {K : Type 0} (state : K → KeeperState) (old new : K)
    → ServesEach state old new ([] ∷ plain_bytes ∷ []) ([] ∷ [] ∷ []) → ⊥
first_stream_served_twice_serves_not_each {K} state old new (sessions, served, same, are) = by_sessions sessions served are
  where
    by_sessions : (ss : List (Session K)) → AreServedOn state old ss
        → ServeWhole (visits_of ss) ([] ∷ plain_bytes ∷ []) ([] ∷ [] ∷ []) → ⊥
    by_sessions [] served are = are
    by_sessions (s ∷ []) served are = are.2
    by_sessions (s ∷ t ∷ u ∷ ss) served are = are.2.2
    by_sessions (s ∷ t ∷ []) served (first, is, (end, second, none)) =
        let told : Tells t.visit = served.2.1.tells in
        silent_end_tells_no_exchanges end t.visit.exchanges [] refl
        (subst (λ (o : Option Stream). IfSome o (λ s. TellsExchanges s.finish s.bytes t.visit.exchanges s.written)) second told)
