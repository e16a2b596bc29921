-- Refutes connections with made-up replies, with requests that nobody sent, with bytes after the end,
-- or of which too much is dropped; a caller who is counted and not served, passed over or served
-- twice; and a desk that changes for nobody.
use Rattle.std.proofs.Common.{◌≡◌, ◌≢◌, ◌≤◌, ◌<◌, ◌+◌, ℕ, inl, inr, true, false, Bool, List, [], ◌∷◌, ◌++◌, length}
use Rattle.std.proofs.Common.{Option, Some, None, Ok, Err, refl, sym, ap, ◌∙◌, subst, arith, rules, append-nil}
use Rattle.std.proofs.Common.{length-append, if◌then◌else◌}
use Rattle.std.specs.Prelude.{map, Result}
use Rattle.std.specs.Fmt.{digits}
use Rattle.std.proofs.lemmas.List.Elements.{All-push}
use Rattle.portal_rules.specs.Keeping.{KeeperState}
use Rattle.portal_rules.specs.World.{World}
use Rattle.portal_rules.specs.examples.Worked.{listed}
use Rattle.portal_frame.proofs.Unique.{Opens-unique}
use Rattle.portal_frame.specs.Stream.{Opens, Over, Whole}
use Rattle.portal_wire.specs.Conversation.{Exchange, common_lines, last, More, reply_text}
use Rattle.portal_wire.specs.declared.Ending.{Ending}
use Rattle.portal_desk.specs.declared.served.Cause.TheVariants as cause
use Rattle.portal_desk.specs.declared.served.ServeFault.{ServeFault}
use Rattle.portal_desk.specs.declared.served.Served.{Served}
use Rattle.portal_desk.specs.Kept.{DeskState, taken_limit}
use Rattle.portal_desk.specs.Session.{Ended, ServesOne, Stopped, TellsExchanges}
use Rattle.portal_serve.specs.declared.server.Ended.TheVariants.{Full}
use Rattle.portal_serve.specs.declared.server.Hall.{Hall}
use Rattle.portal_serve.specs.declared.server.Outcome.{Outcome}
use Rattle.portal_serve.specs.Hall.{CountsOutcomes, StillWorks, is_own_fault}
use Rattle.portal_serve.specs.Streams.{Connection, Drops, Passes, Series, ServesInTurn, ServesStream, dropped_after, dropped_limit}
use Rattle.portal_serve.proofs.Turns.{turns_nobody, turns_one}
use Rattle.portal_refuted.proofs.Keepers.{lists}
use Rattle.portal_refuted.proofs.PortalDeskServe.{Told, constant_reply_tells_no_exchanges, digit, no_route_reply, not_available}
use Rattle.portal_refuted.proofs.PortalDeskServe.{one_request_is_served, sent, served_one, tells_once}
use Rattle.portal_refuted.proofs.PortalFrame.{plain_asked, plain_bytes, plain_opens}

-- ---- one stream

abbrev state : World → KeeperState
state w = lists w 0

abbrev desk : DeskState World
desk = record { keeper = listed; failed = false }

-- the stream of one request, served with this text
abbrev pub WritesOne : Option (List ℕ) → List ℕ → Type 0
WritesOne left after = ServesStream state (Ok served_one) desk desk (Some plain_bytes) left (Some []) (Some after)

-- where a call ends as its stream does, what is unread matters not
all_read : (unread : Option (List ℕ)) (after : List ℕ)
    → ServesOne state (Ok served_one) desk desk (Some plain_bytes) unread (Some []) (Some after)
    → ServesOne state (Ok served_one) desk desk (Some plain_bytes) (Some []) (Some []) (Some after)
all_read unread after one = record {
  worked = one.worked;
  served = one.served;
  taken = ([], refl, omega arith);
  stays = one.stays;
  settles = one.settles;
}

pub made_up_reply_is_refuted : (left : Option (List ℕ)) (after : List ℕ) (n : ℕ) → digit after ≡ n → n < 52
    → WritesOne left after → ⊥
made_up_reply_is_refuted left after n is low stream =
    constant_reply_tells_no_exchanges after n is low (all_read stream.unread after stream.serves)

ends_with_more : (x : ℕ) (xs : List ℕ) → digit (sent ++ x ∷ xs) ≡ 52
unfolding common_lines digits
ends_with_more x xs = refl

pub bytes_after_the_end_are_refuted : (left : Option (List ℕ)) (x : ℕ) (xs : List ℕ) → WritesOne left (sent ++ x ∷ xs) → ⊥
bytes_after_the_end_are_refuted left x xs stream = go (tells_once (sent ++ x ∷ xs) (all_read stream.unread (sent ++ x ∷ xs) stream.serves))
  where
    once : List ℕ
    once = reply_text no_route_reply false true

    go : Told (sent ++ x ∷ xs) → ⊥
    go told = elim (told.reply_is) [
      | inl is_so ↦
          let same : (once ++ []) ++ (x ∷ xs) ≡ once = told.text_is ∙ ap (λ a. reply_text a false true) is_so in
          omega (arith, ap (λ (l : List ℕ). length l) same, length-append (once ++ []) (x ∷ xs), length-append {A = ℕ} once [])
      | inr is_so ↦
          omega (arith, ends_with_more x xs, not_available, ap digit told.text_is, ap (λ a. digit (reply_text a false true)) is_so)
    ]

-- requests are counted of a stream that ends without one
pub request_that_nobody_sent_is_refuted : {K : Type 0} (state : K → KeeperState) (old new : DeskState K) (bytes : List ℕ) (n : ℕ)
    (end : Ending) (left before after : Option (List ℕ))
    → Opens bytes Over
    → ServesStream state (Ok (record { requests = n + 1; ending = end })) old new (Some bytes) left before after → ⊥
request_that_nobody_sent_is_refuted state old new bytes n end left before after none stream =
    let one = stream.serves.served in go one.exchanges one.written one.counted one.session.tells
  where
    go : (es : List Exchange) (written : List ℕ) → n + 1 ≡ length es → TellsExchanges (Ended (last end)) bytes es written → ⊥
    go [] written counted tells = absurd (omega (arith, counted))
    go (e ∷ es) written counted (closing, (rest, (a, next, opens, is, goes), ends), text) =
        let same = Opens-unique bytes (Whole a next) Over opens none in cc

at_most : (b : Bool) → (if b then 0 else dropped_limit) ≤ dropped_limit
at_most true = omega arith
at_most false = omega arith

pub dropping_without_an_end_is_refuted : {K : Type 0} (state : K → KeeperState) (r : Result Served ServeFault)
    (old new : DeskState K)
    (bytes : List ℕ) (before after : Option (List ℕ)) → taken_limit + dropped_limit < length bytes
    → ServesStream state r old new (Some bytes) (Some []) before after → ⊥
dropping_without_an_end_is_refuted state r old new bytes before after many stream =
    let taken = stream.serves.taken in
    let drops : Drops (dropped_after r) (Some taken.0) (Some []) =
    subst (λ (u : Option (List ℕ)). Drops (dropped_after r) u (Some [])) taken.1 stream.drops in
    omega (arith, many, taken.2, ap (λ (l : List ℕ). length l) drops.1, length-append {A = ℕ} drops.0 [], drops.2, at_most (is_own_fault r))

-- a read failed, and a request that is still unread is dropped
pub request_dropped_after_a_fault_is_refuted : {K : Type 0} (state : K → KeeperState) (old new : DeskState K)
    (before after : Option (List ℕ))
    → ServesStream state (Err (record { cause = cause.Read; requests = 0 })) old new (Some plain_bytes) (Some []) before after → ⊥
request_dropped_after_a_fault_is_refuted state old new before after stream =
    let one = stream.serves.served in go one.exchanges one.written one.counted one.session.tells
  where
    go : (es : List Exchange) (written : List ℕ) → 0 ≡ length es
        → TellsExchanges (Stopped cause.Read new.failed stream.unread) plain_bytes es written → ⊥
    go (e ∷ es) written counted tells = absurd (omega (arith, counted))
    go [] written counted (rest, leads, ((held, unread, is, left, none), wrote)) =
        let drops : Drops 0 (Some unread) (Some []) = subst (λ (u : Option (List ℕ)). Drops 0 u (Some [])) left stream.drops in
        let nothing : unread ≡ [] = drops.1 ∙ (append-nil drops.0 ∙ empty drops.0 drops.2) in
        let all : More (held ++ unread) ≡ More plain_bytes = sym is ∙ leads in
        let same : held ++ unread ≡ plain_bytes = cc in
        let whole_held : held ≡ plain_bytes = sym (append-nil held) ∙ (ap (λ l. held ++ l) (sym nothing) ∙ same) in
        none plain_asked [] (subst (λ (b : List ℕ). Opens b (Whole plain_asked [])) (sym whole_held) plain_opens)
      where
        empty : (l : List ℕ) → length l ≤ 0 → l ≡ []
        empty [] short = refl
        empty (x ∷ xs) short = absurd (omega (arith, short))

pub one_stream_is_served : WritesOne (Some []) sent
one_stream_is_served = record { unread = Some []; serves = one_request_is_served; drops = ([], refl, omega arith) }

-- ---- connections in turn

-- what the server loop tells of a series
abbrev pub TellsHall : {K : Type 0} → (K → KeeperState) → Hall → DeskState K → DeskState K → Series → Series → Type 0
TellsHall state hall old new before after =
    (outcomes : List Outcome) × ServesInTurn state old new (Some before) (Some after) outcomes × CountsOutcomes hall outcomes

abbrev served_of : Option Series → List Connection
served_of None = []
served_of (Some series) = series.served

abbrev outcome_of : Connection → Outcome
outcome_of c = c.outcome

pub caller_counted_and_not_served_is_refuted : {K : Type 0} (state : K → KeeperState) (hall : Hall) (old new : DeskState K)
    (waiting rest : List (Option (List ℕ)))
    → hall.accepted ≡ 1
    → TellsHall state hall old new (record { served = []; waiting = waiting }) (record { served = []; waiting = rest }) → ⊥
caller_counted_and_not_served_is_refuted state hall old new waiting rest one (outcomes, turns, counts) =
    go turns.connections turns.passes turns.told
  where
    go : (cs : List Connection)
        → Passes (Some (record { served = []; waiting = waiting })) (Some (record { served = []; waiting = rest })) cs
        → map outcome_of cs ≡ outcomes → ⊥
    go [] passes told = omega (arith, one, counts.accepted, ap (λ (os : List Outcome). length os) told)
    go (c ∷ cs) (left, is, are) told = omega (arith, ap (λ (s : Option Series). length (served_of s)) are)

-- the first of two callers is served in the place of the second
pub caller_served_twice_is_refuted : {K : Type 0} (state : K → KeeperState) (hall : Hall) (old new : DeskState K) (a b : List ℕ)
    (c d : Connection) (waiting : List (Option (List ℕ)))
    → a ≢ b → d.source ≡ Some a
    → TellsHall state hall old new (record { served = []; waiting = Some a ∷ Some b ∷ [] })
    (record { served = c ∷ d ∷ []; waiting = waiting })
    → ⊥
caller_served_twice_is_refuted state hall old new a b c d waiting other is (outcomes, turns, counts) =
    let passes = turns.passes in
    let are : c ∷ d ∷ [] ≡ turns.connections = ap served_of passes.2 in
    let come : Some a ∷ Some b ∷ [] ≡ c.source ∷ d.source ∷ passes.0 =
    passes.1 ∙ ap (λ (cs : List Connection). map (λ c. c.source) cs ++ passes.0) (sym are) in
    other (cc)

-- the second of two callers is served, and the first is not
pub caller_passed_over_is_refuted : {K : Type 0} (state : K → KeeperState) (hall : Hall) (old new : DeskState K) (a b : List ℕ)
    (d : Connection) (waiting : List (Option (List ℕ)))
    → a ≢ b → d.source ≡ Some b
    → TellsHall state hall old new (record { served = []; waiting = Some a ∷ Some b ∷ [] }) (record { served = d ∷ []; waiting = waiting })
    → ⊥
caller_passed_over_is_refuted state hall old new a b d waiting other is (outcomes, turns, counts) =
    let passes = turns.passes in
    let are : d ∷ [] ≡ turns.connections = ap served_of passes.2 in
    let come : Some a ∷ Some b ∷ [] ≡ d.source ∷ passes.0 =
    passes.1 ∙ ap (λ (cs : List Connection). map (λ c. c.source) cs ++ passes.0) (sym are) in
    other (cc)

pub desk_that_changes_for_nobody_is_refuted : {K : Type 0} (state : K → KeeperState) (old new : DeskState K) (before after : Option Series)
    → new ≢ old → ServesInTurn state old new before after [] → ⊥
desk_that_changes_for_nobody_is_refuted state old new before after changed turns = changed (turns_nobody state old new before after turns)

abbrev caller : Connection
caller = record {
  source = Some plain_bytes;
  left = Some [];
  before = Some [];
  after = Some sent;
  outcome = record { ended = Ok served_one; failed = false };
}

pub one_caller_is_served : TellsHall state (record { accepted = 1; faults = 0; ended = Full }) desk desk
    (record { served = []; waiting = Some plain_bytes ∷ [] })
    (record { served = caller ∷ []; waiting = [] })
one_caller_is_served = (
  caller.outcome ∷ [],
  turns_one state desk desk _ _ caller ([], refl, refl) one_stream_is_served refl,
  record {
    accepted = refl;
    faults = refl;
    ends = All-push StillWorks [] caller.outcome (search rules) (record { working = refl; sound = refl });
  },
)
