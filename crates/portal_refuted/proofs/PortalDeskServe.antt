-- Refutes `serve` that does not count a request, writes a reply twice, another one or none, acts on
-- after a fault of the writer, takes the code of another request, reads without an end, goes on after
-- it failed, or hides that it failed.
use Rattle.std.proofs.Common.{◌≡◌, ℕ, ◌+◌, ◌<◌, inl, inr, ◌⊎◌, true, false, Bool, List, [], ◌∷◌, ◌++◌, length, take}
use Rattle.std.proofs.Common.{Option, Some}
use Rattle.std.proofs.Common.{refl, sym, ap, ◌∙◌, subst, arith, append-nil, append_assoc, get_or, Ok, Err, ◌||◌}
use Rattle.std.specs.Bool.{MatchBool}
use Rattle.std.specs.Fmt.{digits}
use Rattle.std.specs.Prelude.{Result}
use Rattle.std.proofs.lemmas.List.{append_cancel_left}
use Rattle.portal_frame.proofs.Unique.{Opens-unique}
use Rattle.portal_frame.specs.Stream.{Opens, RequestContent, Faulty, Over, Whole}
use Rattle.portal_rules.specs.Answer.{Answer}
use Rattle.portal_rules.specs.Run.{Request, Run, Serves, unavailable}
use Rattle.portal_rules.specs.Keeping.{KeeperState}
use Rattle.portal_rules.specs.World.{World}
use Rattle.portal_rules.specs.examples.Worked.{listed}
use Rattle.portal_wire.specs.Conversation.{Closed, End, Ends, Exchange, Last, Leads, Limit, Reaches, Refused, Rest}
use Rattle.portal_wire.specs.Conversation.{closes_at, common_lines, connection_limit}
use Rattle.portal_wire.specs.Conversation.{last, More, reply_text, request_of, Shut, text}
use Rattle.portal_wire.specs.Wish.{answer_to, no_route, route_at, the_paths}
use Rattle.portal_wire.specs.declared.Ending.{Ending}
use Rattle.portal_wire.specs.declared.Ending.TheVariants as ending
use Rattle.portal_desk.specs.declared.served.Cause.TheVariants as cause
use Rattle.portal_desk.specs.declared.served.ServeFault.{ServeFault}
use Rattle.portal_desk.specs.declared.served.Served.{Served}
use Rattle.portal_desk.specs.Kept.{Blames, DeskState, Moves, taken_limit}
use Rattle.portal_desk.specs.Session.{Ended, ServesOne, Stopped, TellsExchanges}
use Rattle.portal_refuted.proofs.Keepers.{lists}
use Rattle.portal_refuted.proofs.PortalFrame.{plain_asked, plain_bytes, plain_opens}

-- ---- texts of replies

begins : (a : Answer) (head closes : Bool) (rest : List ℕ) → get_or (reply_text a head closes ++ rest) 0 0 ≡ 72
unfolding common_lines
begins a head closes rest = refl

pub some_text : (e : Exchange) (es : List Exchange) (rest : List ℕ) → text (e ∷ es) ++ rest ≡ [] → ⊥
some_text e es rest none = omega (
  arith,
  begins e.reply e.request.head e.request.closes (text es ++ rest),
  ap (λ t. get_or t 0 0) (sym (append_assoc (reply_text e.reply e.request.head e.request.closes) (text es) rest) ∙ none),
)

not_itself_twice : (bytes : List ℕ) → bytes ++ bytes ≡ bytes → bytes ≡ []
not_itself_twice bytes twice = append_cancel_left bytes bytes [] (twice ∙ sym (append-nil bytes))

-- ---- a request that is not counted, whatever the desk and the stream

pub no_end : (bytes : List ℕ) (a : RequestContent) (after : List ℕ) → Opens bytes (Whole a after)
    → (end : Last) (closing : List ℕ)
    → Ends (More bytes) end closing → ⊥
no_end bytes a after opens End closing ends = let same = Opens-unique bytes (Whole a after) Over opens ends.0 in cc
no_end bytes a after opens (Refused word) closing ends =
    let same = Opens-unique bytes (Whole a after) (Faulty ends.0 ends.1) opens ends.2 in cc
no_end bytes a after opens Closed closing ends = ends
no_end bytes a after opens Limit closing ends = ends

pub end_before_a_whole_request_tells_no_exchanges : {K : Type 0} (state : K → KeeperState) (old new : DeskState K)
    (bytes : List ℕ)
    (a : RequestContent) (after : List ℕ) (end : Ending) (left before now : Option (List ℕ))
    → Opens bytes (Whole a after)
    → ServesOne state (Ok (record { requests = 0; ending = end })) old new (Some bytes) left before now → ⊥
end_before_a_whole_request_tells_no_exchanges state old new bytes a after end left before now opens one =
    by_list one.served.exchanges one.served.written one.served.counted one.served.session.tells
  where
    by_list : (es : List Exchange) (written : List ℕ) → 0 ≡ length es
        → TellsExchanges (Ended (last end)) bytes es written → ⊥
    by_list [] written none (closing, (rest, leads, ends), is) =
        no_end bytes a after opens (last end) closing (subst (λ (r : Rest). Ends r (last end) closing) leads ends)
    by_list (e ∷ es) written none tells = absurd (omega (arith, none))

-- ---- replies that are counted and not written, whatever the stream

pub counted_request_without_a_reply_tells_no_exchanges : {K : Type 0} (state : K → KeeperState) (old new : DeskState K)
    (bytes : List ℕ)
    (n : ℕ) (end : Ending) (left : Option (List ℕ))
    → ServesOne state (Ok (record { requests = n + 1; ending = end })) old new (Some bytes) left (Some []) (Some [])
    → ⊥
counted_request_without_a_reply_tells_no_exchanges state old new bytes n end left one =
    by_list one.served.exchanges one.served.written one.served.counted one.served.adds one.served.session.tells
  where
    by_list : (es : List Exchange) (written : List ℕ) → n + 1 ≡ length es → [] ≡ written
        → TellsExchanges (Ended (last end)) bytes es written → ⊥
    by_list [] written counted adds tells = absurd (omega (arith, counted))
    by_list (e ∷ es) written counted adds (closing, requests, is) = some_text e es closing (sym (adds ∙ is))

cut : (es : List Exchange) (written : List ℕ) (closes : Bool) → 2 ≡ length es → [] ≡ written
    → (front : List Exchange) (f : Exchange) (k : ℕ) → es ≡ front ++ f ∷ []
    → written ≡ text front ++ take k (reply_text f.reply f.request.head (f.request.closes || closes)) → ⊥
cut es written closes counted adds [] f k is wrote = omega (arith, counted, ap length is)
cut es written closes counted adds (g ∷ front) f k is wrote =
    some_text g front (take k (reply_text f.reply f.request.head (f.request.closes || closes))) (sym (adds ∙ wrote))

-- two requests acted, and the first reply was not written
pub acting_on_after_a_write_fault_tells_no_exchanges : {K : Type 0} (state : K → KeeperState) (old new : DeskState K)
    (bytes : List ℕ)
    (left : Option (List ℕ))
    → ServesOne state (Err (record { cause = cause.Write; requests = 2 })) old new (Some bytes) left (Some [])
    (Some []) → ⊥
acting_on_after_a_write_fault_tells_no_exchanges state old new bytes left one =
    by_list one.served.exchanges one.served.written one.served.counted one.served.adds one.served.session.tells
  where
    by_list : (es : List Exchange) (written : List ℕ) → 2 ≡ length es → [] ≡ written
        → TellsExchanges (Stopped cause.Write new.failed left) bytes es written → ⊥
    by_list [] written counted adds tells = absurd (omega (arith, counted))
    by_list (e ∷ es) written counted adds (rest, leads, inl (front, f, k, is, wrote)) =
        cut (e ∷ es) written new.failed counted adds front f k is wrote
    by_list (e ∷ es) written counted adds (rest, leads, inr (end, closing, k, ends, wrote)) =
        some_text e es (take k closing) (sym (adds ∙ wrote))

-- ---- one request of a path that nobody has, over lists

abbrev desk : DeskState World
desk = record { keeper = listed; failed = false }

abbrev state : World → KeeperState
state w = lists w 0

abbrev pub no_route_reply : Answer
no_route_reply = answer_to no_route

abbrev pub exchange : Exchange
exchange = record { request = request_of true plain_asked; reply = no_route_reply }

abbrev pub sent : List ℕ
sent = text (exchange ∷ [])

abbrev pub served_one : Served
served_one = record { requests = 1; ending = ending.Closed }

reaches : Reaches listed (exchange ∷ []) listed
unfolding route_at the_paths
reaches = (listed ∷ [], (inl (refl, refl), tt), refl)

moves : Moves (state listed) (state listed) (exchange ∷ [])
moves = record {
  clean = λ c. c;
  reaches = λ c. reaches;
  lasts = λ all d. (d, λ c. c);
  breaks = λ d. (d, (λ c. inl c), λ b. b);
  settled = λ before c. before;
  still = λ d broken. absurd broken;
  leaves = λ before c d w is. inl (subst (λ (v : World). Reaches listed (exchange ∷ []) v) (sym is) reaches);
}

pub plain_tells : TellsExchanges (Ended Closed) plain_bytes (exchange ∷ []) sent
plain_tells = ([], (Shut true, (plain_asked, [], plain_opens, refl, (refl, refl)), refl), sym (append-nil sent))

pub one_request_is_served : ServesOne state (Ok served_one) desk desk (Some plain_bytes) (Some []) (Some [])
    (Some sent)
one_request_is_served = record {
  worked = record { moves = (exchange ∷ [], moves); counts = refl };
  served = record {
    exchanges = exchange ∷ [];
    counted = refl;
    written = sent;
    adds = refl;
    session = record { moves = moves; tells = plain_tells };
  };
  taken = ([], refl, omega arith);
  stays = λ failed. absurd (cc);
  settles = refl;
}

-- the one exchange of this stream, whoever serves it and from whatever world
pub record Told (written : List ℕ) : Type 0 where
  pub reply : Answer
  pub text_is : written ≡ reply_text reply false true
  pub reply_is : (reply ≡ no_route_reply) ⊎ (reply ≡ unavailable)

pub same_reply : (w : World) (a : Answer) (v : World) → Serves w (request_of true plain_asked) a v
    → (a ≡ no_route_reply) ⊎ (a ≡ unavailable)
unfolding route_at the_paths
same_reply w a v (inl answers) = inl answers.0
same_reply w a v (inr failed) = inr failed.0

first_reply : (r : Request) (a : Answer) (worlds : List World) → r ≡ request_of true plain_asked
    → Run listed (r ∷ []) (a ∷ []) worlds
    → (a ≡ no_route_reply) ⊎ (a ≡ unavailable)
first_reply r a [] is run = absurd run
first_reply r a (v ∷ worlds) is run = same_reply listed a v (subst (λ (q : Request). Serves listed q a v) is run.0)

abbrev no_more : List Request
no_more = []

-- what the stream asks for
pub asks_plain : (e : Exchange) (written : List ℕ) → TellsExchanges (Ended Closed) plain_bytes (e ∷ []) written
    → (e.request ≡ request_of true plain_asked) × (written ≡ reply_text e.reply false true)
asks_plain e written (closing, (rest, (a, after, opens, is, ends_so), ends), is_written) =
    let front : Whole a after ≡ Whole plain_asked [] = Opens-unique plain_bytes (Whole a after) (Whole plain_asked []) opens plain_opens in
    let asks : a ≡ plain_asked = cc in
    let wants : e.request ≡ request_of true plain_asked = is
    ∙ ap (λ (b : RequestContent). request_of (closes_at connection_limit b) b) asks in
    let shuts : (no_more ≡ []) × (rest ≡ Shut true) =
    subst (λ (b : RequestContent). MatchBool (closes_at connection_limit b) ((no_more ≡ []) × (rest ≡ Shut b.close))
    (Leads 255 after [] rest)) asks ends_so in
    let empty : closing ≡ [] = subst (λ (r : Rest). Ends r Closed closing) shuts.1 ends in
    let all : written ≡ (reply_text e.reply e.request.head e.request.closes ++ []) ++ [] = is_written
    ∙ ap (λ c. text (e ∷ []) ++ c) empty in (
      wants,
      all ∙ (append-nil (reply_text e.reply e.request.head e.request.closes ++ [])
          ∙ (append-nil (reply_text e.reply e.request.head e.request.closes)
          ∙ ap (λ (r : Request). reply_text e.reply r.head r.closes) wants)),
    )

told : (es : List Exchange) (written : List ℕ) → 1 ≡ length es → Moves (state listed) (state listed) es
    → TellsExchanges (Ended Closed) plain_bytes es written → Told written
told [] written counted moved tells = absurd (omega (arith, counted))
told (e ∷ f ∷ es) written counted moved tells = absurd (omega (arith, counted))
told (e ∷ []) written counted moved tells =
    let found = moved.reaches tt in
    let asks = asks_plain e written tells in
    record { reply = e.reply; text_is = asks.1; reply_is = first_reply e.request e.reply found.0 asks.0 found.1 }

pub tells_once : (after : List ℕ)
    → ServesOne state (Ok served_one) desk desk (Some plain_bytes) (Some []) (Some []) (Some after) → Told after
tells_once after one =
    subst Told (sym one.served.adds) (told one.served.exchanges one.served.written one.served.counted one.served.session.moves
    one.served.session.tells)

-- the first digit of the status
pub not_found : get_or (reply_text no_route_reply false true) 9 0 ≡ 52
unfolding common_lines digits
not_found = refl

pub not_available : get_or (reply_text unavailable false true) 9 0 ≡ 53
unfolding common_lines digits
not_available = refl

abbrev pub digit : List ℕ → ℕ
digit bytes = get_or bytes 9 0

pub other_digit : (after : List ℕ) (n : ℕ) → digit after ≡ n → n < 52 → Told after → ⊥
other_digit after n is low one = elim (one.reply_is) [
  | inl is_so ↦ omega (arith, is, low, not_found, ap digit one.text_is, ap (λ a. digit (reply_text a false true)) is_so)
  | inr is_so ↦ omega (arith, is, low, not_available, ap digit one.text_is, ap (λ a. digit (reply_text a false true)) is_so)
]

-- the bytes of any reply whose status begins with a digit below 4, such as 200 to everything
pub constant_reply_tells_no_exchanges : (after : List ℕ) (n : ℕ) → digit after ≡ n → n < 52
    → ServesOne state (Ok served_one) desk desk (Some plain_bytes) (Some []) (Some []) (Some after) → ⊥
constant_reply_tells_no_exchanges after n is low one = other_digit after n is low (tells_once after one)

sent_twice : digit (sent ++ sent) ≡ 52
unfolding common_lines digits
sent_twice = refl

pub not_twice : Told (sent ++ sent) → ⊥
not_twice one = elim (one.reply_is) [
  | inl is_so ↦
      let same : once ++ once ≡ once = ap (λ t. t ++ t) (sym (append-nil once)) ∙ (one.text_is ∙ ap (λ a. reply_text a false true) is_so) in
      omega (arith, not_found, ap digit (not_itself_twice once same))
  | inr is_so ↦ omega (arith, sent_twice, not_available, ap digit one.text_is, ap (λ a. digit (reply_text a false true)) is_so)
] where
  once : List ℕ
  once = reply_text no_route_reply false true

pub reply_written_twice_tells_no_exchanges : ServesOne state (Ok served_one) desk desk (Some plain_bytes) (Some [])
    (Some []) (Some (sent ++ sent)) → ⊥
reply_written_twice_tells_no_exchanges one = not_twice (tells_once (sent ++ sent) one)

-- the code of an earlier request, where this one has no line for it
pub code_of_another_request_tells_no_exchange : (e : Exchange) (written : List ℕ) → length e.request.code ≡ 10
    → TellsExchanges (Ended Closed) plain_bytes (e ∷ []) written → ⊥
code_of_another_request_tells_no_exchange e written long tells =
    omega (arith, long, ap (λ (r : Request). length r.code) (asks_plain e written tells).0)

-- ---- limits, failures and their causes

pub reading_without_an_end_takes_too_much : {K : Type 0} (state : K → KeeperState) (r : Result Served ServeFault)
    (old new : DeskState K)
    (bytes : List ℕ) (before after : Option (List ℕ)) → taken_limit < length bytes
    → ServesOne state r old new (Some bytes) (Some []) before after → ⊥
reading_without_an_end_takes_too_much state r old new bytes before after many one =
    let same : [] ≡ one.taken.0 = cc (one.taken.1) in
    omega (arith, many, one.taken.2, ap (λ (xs : List ℕ). length xs) same)

pub failed_desk_that_goes_on_does_not_stay : {K : Type 0} (state : K → KeeperState) (k : K) (new : DeskState K)
    (source left before after : Option (List ℕ))
    → ServesOne state (Ok served_one) (record { keeper = k; failed = true }) new source left before after → ⊥
failed_desk_that_goes_on_does_not_stay state k new source left before after one = omega (arith, (one.stays refl).1)

pub failure_under_ok_does_not_settle : {K : Type 0} (state : K → KeeperState) (served : Served) (k l : K)
    (source left before after : Option (List ℕ))
    → ServesOne state (Ok served) (record { keeper = k; failed = false }) (record { keeper = l; failed = true })
    source left before after → ⊥
failure_under_ok_does_not_settle state served k l source left before after one = cc (one.settles)

pub store_fault_of_a_desk_that_goes_on_does_not_settle : {K : Type 0} (state : K → KeeperState) (n : ℕ) (old : DeskState K)
    (l : K)
    (source left before after : Option (List ℕ))
    → ServesOne state (Err (record { cause = cause.Store; requests = n })) old (record { keeper = l; failed = false })
    source left before after → ⊥
store_fault_of_a_desk_that_goes_on_does_not_settle state n old l source left before after one = cc (one.settles)

-- a fault of the reader is told, and no read failed in this call
pub fault_without_a_failed_read_is_not_blamed : (m n : ℕ) → Blames cause.Read 0 0 m n → ⊥
fault_without_a_failed_read_is_not_blamed m n blames = elim blames [ inl less ↦ omega (arith, less) | inr most ↦ omega (arith, most) ]

pub fault_after_a_failed_read : (m n : ℕ) → Blames cause.Read 0 1 m n
fault_after_a_failed_read m n = inl (omega arith)
