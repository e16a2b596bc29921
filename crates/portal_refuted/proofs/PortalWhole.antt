-- Refutes replies to two streams that are the same for both, lack one's, are made up, cut off, written
-- twice, or of another status. The first stream is empty; the last asks for a path that nobody has.
use Rattle.std.proofs.Common.{◌≡◌, ℕ, ◌<◌, inl, inr, true, Bool, List, [], ◌∷◌, ◌++◌, Option, Some, None, take}
use Rattle.std.proofs.Common.{refl, sym, ap, ◌∙◌, subst, arith, append-nil}
use Rattle.std.specs.Prelude.{IfSome}
use Rattle.std.specs.Bool.{MatchBool}
use Rattle.std.specs.Fmt.{digits}
use Rattle.std.specs.List.{AllByRecursion}
use Rattle.httparse.specs.Grammar.{print_request}
use Rattle.portal_frame.proofs.Unique.{Opens-unique}
use Rattle.portal_frame.specs.Stream.{HasNoHead, Opens, RequestContent, Faulty, Over, Whole}
use Rattle.portal_rules.specs.Run.{Request, Run, Serves, end_of}
use Rattle.portal_rules.specs.World.{World}
use Rattle.portal_wire.specs.Conversation.{Closed, End, Ends, Exchange, Last, Leads, Limit, Refused, Rest}
use Rattle.portal_wire.specs.Conversation.{closes_at, common_lines, connection_limit, More, replies_of}
use Rattle.portal_wire.specs.Conversation.{requests_of, Shut}
use Rattle.portal_wire.specs.Wish.{route_at, the_paths}
use Rattle.portal_desk.proofs.Heeding.{like_all}
use Rattle.portal_desk.specs.declared.served.Cause.{Cause}
use Rattle.portal_desk.specs.Headline.{HasPromise, exchanges_of}
use Rattle.portal_desk.specs.Served.{ServeWhole}
use Rattle.portal_desk.specs.Session.{Ended, Finish, Stopped, Stream, Tells, TellsExchanges, Visit}
use Rattle.portal_whole.specs.Whole.{KeepsPromise}
use Rattle.portal_refuted.proofs.PortalCoreLaws.{good_new, new}
use Rattle.portal_refuted.proofs.PortalDeskServe.{Told, asks_plain, digit, exchange, no_end, not_twice, other_digit}
use Rattle.portal_refuted.proofs.PortalDeskServe.{plain_tells, same_reply, sent}
use Rattle.portal_refuted.proofs.PortalFrame.{plain_asked, plain_bytes, plain_opens}

abbrev streams : List (List ℕ)
streams = [] ∷ plain_bytes ∷ []

-- ---- what an empty stream is answered

front : (xs ys : List ℕ) → [] ≡ xs ++ ys → [] ≡ xs
front [] ys none = refl
front (x ∷ xs) ys none = absurd (cc)

not_none : (xs ys : List ℕ) (b : ℕ) → [] ≡ xs ++ (b ∷ ys) → ⊥
not_none [] ys b none = cc
not_none (x ∷ xs) ys b none = cc

-- each head has a space after its method
no_head : HasNoHead []
unfolding print_request
no_head h rest takes = not_none _ _ _ (front _ _ (front _ _ (front _ _ (front _ _ takes.reads.1))))

nothing_opens : Opens [] Over
nothing_opens = inr (no_head, refl)

no_closing : (end : Last) (closing : List ℕ) → Ends (More []) end closing → closing ≡ []
no_closing End closing ends = ends.1
no_closing (Refused word) closing ends =
    let same = Opens-unique [] (Faulty ends.0 ends.1) Over ends.2 nothing_opens in absurd (cc)
no_closing Closed closing ends = absurd ends
no_closing Limit closing ends = absurd ends

unasked : (end : Last) (es : List Exchange) (written : List ℕ) → TellsExchanges (Ended end) [] es written
    → written ≡ []
unasked end [] written (closing, (rest, leads, ends), is) =
    is ∙ no_closing end closing (subst (λ (r : Rest). Ends r end closing) leads ends)
unasked end (e ∷ es) written (closing, (rest, (a, after, opens, asks, leads), ends), is) =
    let same = Opens-unique [] (Whole a after) Over opens nothing_opens in absurd (cc)

-- ---- what the request is answered, whatever the world

no_request : (es : List Exchange) → requests_of es ≡ [] → es ≡ []
no_request [] none = refl
no_request (e ∷ es) none = absurd (cc)

closed : (end : Last) (closing : List ℕ) → Ends (Shut true) end closing → end ≡ Closed
closed End closing ends = absurd ends
closed (Refused word) closing ends = absurd ends
closed Closed closing ends = refl
closed Limit closing ends = absurd ends

-- one exchange, after which the stream is closed
shuts : (end : Last) (e : Exchange) (es : List Exchange) (written : List ℕ)
    → TellsExchanges (Ended end) plain_bytes (e ∷ es) written
    → (es ≡ []) × (end ≡ Closed)
shuts end e es written (closing, (rest, (a, after, opens, is, leads), ends), all) =
    let front : Whole a after ≡ Whole plain_asked [] = Opens-unique plain_bytes (Whole a after) (Whole plain_asked []) opens plain_opens in
    let asks : a ≡ plain_asked = cc in
    let next : (requests_of es ≡ []) × (rest ≡ Shut true) =
    subst (λ (b : RequestContent). MatchBool (closes_at connection_limit b) ((requests_of es ≡ []) × (rest ≡ Shut b.close))
    (Leads 255 after (requests_of es) rest)) asks leads in
    (no_request es next.0, closed end closing (subst (λ (r : Rest). Ends r end closing) next.1 ends))

answered : (w : World) (end : Last) (es : List Exchange) (worlds : List World) (written : List ℕ)
    → TellsExchanges (Ended end) plain_bytes es written → Run w (requests_of es) (replies_of es) worlds
    → Told written
answered w end [] worlds written (closing, (rest, leads, ends), is) run =
    absurd (no_end plain_bytes plain_asked [] plain_opens end closing (subst (λ (r : Rest). Ends r end closing) leads ends))
answered w end (e ∷ es) [] written tells run = absurd run
answered w end (e ∷ es) (u ∷ worlds) written tells run =
    let one = shuts end e es written tells in
    let alone = subst (λ (fs : List Exchange). TellsExchanges (Ended end) plain_bytes (e ∷ fs) written) one.0 tells in
    let asks = asks_plain e written (subst (λ (last : Last). TellsExchanges (Ended last) plain_bytes (e ∷ []) written) one.1 alone) in
    record {
      reply = e.reply;
      text_is = asks.1;
      reply_is = same_reply w e.reply u (subst (λ (r : Request). Serves w r e.reply u) asks.0 run.0);
    }

-- ---- the texts of both streams

-- the first text is empty, and the last is the one reply
abbrev AreTold : List (List ℕ) → Type 0
AreTold texts = (t : List ℕ) × (texts ≡ [] ∷ t ∷ []) × Told t

of_stream : (v : Visit) (bytes written : List ℕ) (end : Last)
    → v.stream ≡ Some (record { bytes = bytes; written = written; finish = Ended end }) → Tells v
    → TellsExchanges (Ended end) bytes v.exchanges written
of_stream v bytes written end is tells =
    subst (λ (o : Option Stream). IfSome o (λ s. TellsExchanges s.finish s.bytes v.exchanges s.written)) is tells

-- the exchanges of the last stream are a run, from wherever the first leave the world
last_run : (w : World) (es fs : List Exchange) (worlds : List World) → Run w (requests_of (es ++ fs)) (replies_of (es ++ fs)) worlds
    → (v : World) × (later : List World) × Run v (requests_of fs) (replies_of fs) later
last_run w [] fs worlds run = (w, worlds, run)
last_run w (e ∷ es) fs [] run = absurd run
last_run w (e ∷ es) fs (v ∷ worlds) run = last_run v es fs worlds run.1

told_of : (w : World) (texts : List (List ℕ)) (visits : List Visit) (worlds : List World) → ServeWhole visits streams texts
    → AllByRecursion Tells visits
    → Run w (requests_of (exchanges_of visits)) (replies_of (exchanges_of visits)) worlds → AreTold texts
told_of w (s ∷ t ∷ []) (u ∷ v ∷ []) worlds (end, first, (last, second, none)) (tell, (also, _)) run =
    let (from, later, ran) = last_run w u.exchanges (exchanges_of (v ∷ [])) worlds run in
    let alone = subst (λ (es : List Exchange). Run from (requests_of es) (replies_of es) later) (append-nil v.exchanges) ran in (
      t,
      ap (λ (x : List ℕ). x ∷ t ∷ []) (unasked end u.exchanges s (of_stream u [] s end first tell)),
      answered from last v.exchanges later t (of_stream v plain_bytes t last second also) alone,
    )
told_of w [] [] worlds serve tell run = absurd serve
told_of w [] (u ∷ visits) worlds serve tell run = absurd serve
told_of w (s ∷ texts) [] worlds serve tell run = absurd serve
told_of w (s ∷ []) (u ∷ []) worlds serve tell run = absurd serve.2
told_of w (s ∷ []) (u ∷ v ∷ visits) worlds serve tell run = absurd serve.2
told_of w (s ∷ t ∷ texts) (u ∷ []) worlds serve tell run = absurd serve.2
told_of w (s ∷ t ∷ x ∷ texts) (u ∷ v ∷ []) worlds serve tell run = absurd serve.2.2
told_of w (s ∷ t ∷ texts) (u ∷ v ∷ x ∷ visits) worlds serve tell run = absurd serve.2.2

told : (w : World) (texts : List (List ℕ)) → KeepsPromise w streams texts → AreTold texts
told w texts (visits, serve, tell, worlds, promise) = told_of w texts visits worlds serve tell promise.0.run

-- ---- refuted

-- the same reply to everything, and the first stream served twice
pub one_text_for_both_keeps_no_promise : (w : World) (t : List ℕ) → KeepsPromise w streams (t ∷ t ∷ []) → ⊥
one_text_for_both_keeps_no_promise w t keeps =
    let all = told w (t ∷ t ∷ []) keeps in
    let same = all.1 in
    let none : all.0 ≡ [] = cc in
    other_digit [] 0 refl (omega arith) (subst Told none all.2)

pub last_stream_left_out_keeps_no_promise : (w : World) (t : List ℕ) → KeepsPromise w streams (t ∷ []) → ⊥
last_stream_left_out_keeps_no_promise w t keeps = cc ((told w (t ∷ []) keeps).1)

-- an exchange that is made up, for a stream without a request
pub reply_to_no_request_keeps_no_promise : (w : World) (b : ℕ) (bytes t : List ℕ)
    → KeepsPromise w streams ((b ∷ bytes) ∷ t ∷ []) → ⊥
reply_to_no_request_keeps_no_promise w b bytes t keeps = cc ((told w ((b ∷ bytes) ∷ t ∷ []) keeps).1)

last_told : (w : World) (s t : List ℕ) → KeepsPromise w streams (s ∷ t ∷ []) → Told t
last_told w s t keeps =
    let all = told w (s ∷ t ∷ []) keeps in
    let is = all.1 in
    let same : all.0 ≡ t = cc in subst Told same all.2

-- a text whose status begins with a digit below 4, such as 200 to everything
pub reply_of_another_status_keeps_no_promise : (w : World) (s t : List ℕ) (n : ℕ) → digit t ≡ n → n < 52
    → KeepsPromise w streams (s ∷ t ∷ []) → ⊥
reply_of_another_status_keeps_no_promise w s t n is low keeps = other_digit t n is low (last_told w s t keeps)

-- the last stream is given up before, or within, its reply
pub last_reply_left_out_keeps_no_promise : (w : World) (s : List ℕ) → KeepsPromise w streams (s ∷ [] ∷ []) → ⊥
last_reply_left_out_keeps_no_promise w s = reply_of_another_status_keeps_no_promise w s [] 0 refl (omega arith)

pub last_reply_cut_off_keeps_no_promise : (w : World) (s : List ℕ)
    → KeepsPromise w streams (s ∷ take 9 sent ∷ []) → ⊥
unfolding common_lines digits
last_reply_cut_off_keeps_no_promise w s =
    reply_of_another_status_keeps_no_promise w s (take 9 sent) 0 refl (omega arith)

pub last_reply_written_twice_keeps_no_promise : (w : World) (s : List ℕ)
    → KeepsPromise w streams (s ∷ (sent ++ sent) ∷ []) → ⊥
last_reply_written_twice_keeps_no_promise w s keeps = not_twice (last_told w s (sent ++ sent) keeps)

abbrev finish_in : Option Stream → Finish
finish_in (Some s) = s.finish
finish_in None = Ended End

pub stream_given_up_is_not_served_to_its_end : (v : Visit) (bytes written text : List ℕ) (why : Cause) (failed : Bool)
    (left : Option (List ℕ))
    → v.stream ≡ Some (record { bytes = bytes; written = written; finish = Stopped why failed left })
    → ServeWhole (v ∷ []) (bytes ∷ []) (text ∷ []) → ⊥
stream_given_up_is_not_served_to_its_end v bytes written text why failed left stopped (end, ended, none) =
    let same : Stopped why failed left ≡ Ended end = ap finish_in (sym stopped ∙ ended) in cc

-- the first stream changes the world, and the last is served over a store of its own
pub last_stream_over_a_new_store_has_no_promise : (w : World) (es : List Exchange) (worlds : List World) → (end_of w worlds ≡ w → ⊥)
    → HasPromise w (es ++ exchange ∷ []) (worlds ++ w ∷ []) → ⊥
unfolding route_at the_paths
last_stream_over_a_new_store_has_no_promise w es worlds changed promise = changed (ends w es worlds w promise.0.run)
  where
    ends : (u : World) (es : List Exchange) (worlds : List World) (v : World)
        → Run u (requests_of (es ++ exchange ∷ [])) (replies_of (es ++ exchange ∷ [])) (worlds ++ v ∷ []) → end_of u worlds ≡ v
    ends u [] [] v (inl answers, none) = sym answers.1
    ends u [] [] v (inr failed, none) = sym failed.1
    ends u [] (x ∷ []) v run = absurd run.1
    ends u [] (x ∷ y ∷ worlds) v run = absurd run.1
    ends u (e ∷ []) [] v run = absurd run.1
    ends u (e ∷ f ∷ es) [] v run = absurd run.1
    ends u (e ∷ es) (x ∷ worlds) v run = ends x es worlds v run.1

-- ---- the right texts, of a new store

abbrev silent : Visit
silent = record { exchanges = []; stream = Some (record { bytes = []; written = []; finish = Ended End }) }

abbrev asking : Visit
asking = record { exchanges = exchange ∷ []; stream = Some (record { bytes = plain_bytes; written = sent; finish = Ended Closed }) }

a_run : Run new (exchange.request ∷ []) (exchange.reply ∷ []) (new ∷ [])
unfolding route_at the_paths
a_run = (inl (refl, refl), tt)

right_promise : HasPromise new (exchange ∷ []) (new ∷ [])
right_promise = (
  record {
    run = a_run;
    good = (good_new, tt);
    unseen = λ c. ((λ member other office. refl), tt);
    published = ((λ off on. absurd (cc)), tt);
    best = λ shows. (shows, tt);
  },
  like_all new (exchange ∷ []) (new ∷ []) a_run,
)

pub right_texts_keep_the_promise : KeepsPromise new streams ([] ∷ sent ∷ [])
right_texts_keep_the_promise = (
  silent ∷ asking ∷ [],
  (End, refl, (Closed, refl, tt)),
  (([], (More [], refl, (nothing_opens, refl)), refl), (plain_tells, tt)),
  new ∷ [],
  right_promise,
)
