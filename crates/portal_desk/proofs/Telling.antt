-- What is known at each exit of the serving loop.
use Rattle.portal_desk.proofs.Base.{◌≡◌, ℕ, ◌+◌, ◌-◌, ◌<◌, inl, inr, Bool, true, false, List, [], ◌∷◌, ◌++◌, length}
use Rattle.portal_desk.proofs.Base.{drop, take, refl, sym, ap, ◌∙◌, subst, arith, append-nil, Option, Some, None}
use Rattle.portal_desk.proofs.Base.{nat_le, ◌||◌, Appends, length-append, both_ways, Answer, Frame, RequestContent}
use Rattle.portal_desk.proofs.Base.{Opens, Whole}
use Rattle.portal_desk.proofs.Base.{is_head, request_content, refusal_content, Cause, reply_text, Heads, Follows}
use Rattle.portal_desk.proofs.Base.{request_of, closes_at}
use Rattle.portal_desk.proofs.Base.{Rest, More, Shut, Leads, Exchange, requests_of, text, exchange_text, Partly, Broke}
use Rattle.portal_desk.proofs.Base.{unavailable, KeeperState, Moves, IfSome, leb-false, shut_ends, DeskState, Acted, Replied}
use Rattle.portal_desk.proofs.Base.{KeepsStream, NoneWhole, ◌⊎◌, SomeSession, Finish, Ended, Stopped, TellsExchanges}
use Rattle.portal_desk.proofs.Base.{Faulty}
use Rattle.portal_desk.proofs.Base.{connection_limit}
use Rattle.portal_frame.specs.declared.types.Frame.TheVariants as frame
use Rattle.portal_frame.specs.declared.types.Refusal.{Refusal}
use Rattle.portal_frame.specs.declared.types.Request.{Request}
use Rattle.portal_desk.specs.declared.served.Cause.TheVariants as cause
use Rattle.portal_wire.specs.Wish.{answer_to}
use Rattle.portal_wire.specs.Conversation as talk
use Rattle.portal_wire.specs.inner.Calls.{last_for}
use Rattle.std.proofs.lemmas.Bool.{or_parts}
use Rattle.portal_desk.proofs.Known.{Appends-append}
use Rattle.portal_desk.proofs.Moving.{exchange, Moves-none, Moves-snoc}
use Rattle.portal_desk.proofs.Steps.{text-snoc, after_one, Leads-snoc}

-- these are the first requests of the bytes, and this is what they did to the keeper
pub record Deals (old new : KeeperState) (bytes : List ℕ) (count : ℕ) (es : List Exchange) (rest : Rest) : Type 0 where
  pub leads : Leads connection_limit bytes (requests_of es) rest
  pub moves : Moves old new es
  pub counted : count ≡ length es

-- some first requests, whose replies are written
pub record Dealt (old new : KeeperState) (before after : Option (List ℕ)) (bytes : List ℕ) (count : ℕ) (rest : Rest) : Type 0 where
  pub es : List Exchange
  pub deals : Deals old new bytes count es rest
  pub adds : Appends before after (text es)

-- what the loop knows before a turn
pub record SoFar {K : Type 0} (state : K → KeeperState) (src rem : Option (List ℕ)) (old mid : K) (before w : Option (List ℕ))
    (front : List ℕ) (count : ℕ) : Type 0 where
  pub dealt : IfSome src (λ bytes. (rest : List ℕ) × (rem ≡ Some rest)
      × Dealt (state old) (state mid) before w bytes count (More (front ++ rest)))

-- before the first turn
pub so_far_none : {K : Type 0} (state : K → KeeperState) (src : Option (List ℕ)) (k : K) (w : Option (List ℕ)) (front : List ℕ)
    → front ≡ [] → SoFar state src src k k w w front 0
so_far_none state None k w front empty = record { dealt = tt }
so_far_none state (Some bytes) k w front empty = record {
  dealt = (
    bytes,
    refl,
    subst (λ f. Dealt (state k) (state k) w w bytes 0 (More (f ++ bytes))) (sym empty) (record {
      es = [];
      deals = record { leads = refl; moves = Moves-none (state k); counted = refl };
      adds = nothing w;
    }),
  );
}
  where
    nothing : (w : Option (List ℕ)) → Appends w w []
    nothing None = tt
    nothing (Some x) = sym (append-nil x)

-- what was told, and what the rest of the stream opens with
turn : {K : Type 0} (state : K → KeeperState) (src rem known : Option (List ℕ)) (old mid : K) (before w : Option (List ℕ))
    (front buffer : List ℕ) (count : ℕ) (found : Frame) (P : List ℕ → Type 0)
    → SoFar state src rem old mid before w front count → Follows rem known front buffer found
    → ((bytes stream rest : List ℕ) → Dealt (state old) (state mid) before w bytes count (More stream) → known ≡ Some rest
    → Heads stream buffer rest found → P bytes)
    → IfSome src P
turn state None rem known old mid before w front buffer count found P so follows then = tt
turn state (Some bytes) rem known old mid before w front buffer count found P so follows then =
    let x = so.dealt in
    let f = (subst (λ o. Follows o known front buffer found) x.1 follows).goes in
    then bytes (front ++ x.0) f.0 x.2 f.1 f.3

-- what one answer did
abbrev pub Did : KeeperState → KeeperState → RequestContent → Bool → Option (List ℕ) → Option (List ℕ) → Type 0
Did mid new a closes w now =
    Replied mid new (request_of closes a) (λ reply. Appends w now (reply_text reply (is_head a.method) closes))

Deals-snoc : (old mid new : KeeperState) (bytes left after : List ℕ) (count : ℕ) (es : List Exchange) (a : RequestContent) (closes : Bool)
    (reply : Answer)
    → Deals old mid bytes count es (More left) → Opens left (Whole a after) → closes ≡ closes_at (connection_limit - count) a
    → Acted mid new (request_of closes a) reply
    → Deals old new bytes (count + 1) (es ++ exchange (request_of closes a) reply ∷ []) (after_one closes a after)
unfolding exchange
Deals-snoc old mid new bytes left after count es a closes reply deals opens at acted =
    let e : Exchange = exchange (request_of closes a) reply in
    record {
      leads = subst (λ b. Leads connection_limit bytes (requests_of (es ++ e ∷ [])) (after_one b a after)) (sym at)
          (Leads-snoc connection_limit (connection_limit - count) bytes es left e a after deals.leads opens
          (ap (λ n. connection_limit - n) deals.counted) (ap (λ b. request_of b a) at));
      moves = Moves-snoc old mid new es (request_of closes a) reply deals.moves acted;
      counted = rw (length-append es (e ∷ [])) (omega (arith, deals.counted));
    }

Dealt-snoc : (old mid new : KeeperState) (before w now : Option (List ℕ)) (bytes left after : List ℕ) (count : ℕ) (a : RequestContent)
    (closes : Bool)
    → Dealt old mid before w bytes count (More left) → Opens left (Whole a after) → closes ≡ closes_at (connection_limit - count) a
    → Did mid new a closes w now → Dealt old new before now bytes (count + 1) (after_one closes a after)
unfolding exchange
Dealt-snoc old mid new before w now bytes left after count a closes d opens at (reply, acted, adds) =
    let e : Exchange = exchange (request_of closes a) reply in
    record {
      es = d.es ++ e ∷ [];
      deals = Deals-snoc old mid new bytes left after count d.es a closes reply d.deals opens at acted;
      adds = subst (Appends before now) (sym (text-snoc d.es e)) (Appends-append before w now (text d.es) (exchange_text e) d.adds adds);
    }

module _ {K : Type 0} {state : K → KeeperState} {src rem : Option (List ℕ)} {old mid : K} {before w : Option
    (List ℕ)} {front : List ℕ} {count : ℕ} (so : SoFar state src rem old mid before w front count) where
  made : (new : K) (after : Option (List ℕ)) (n : ℕ) (finish : Finish) {bytes : List ℕ} {es : List Exchange} {rest : Rest}
      (written : List ℕ)
      → Deals (state old) (state new) bytes n es rest
      → Appends before after written → TellsExchanges finish bytes es written → SomeSession state old new before after n finish bytes
  made new after n finish {es = es} written deals adds tells =
      record {
        exchanges = es;
        counted = deals.counted;
        written = written;
        adds = adds;
        session = record { moves = deals.moves; tells = tells };
      }

  pub missed : (known : Option (List ℕ)) (buffer : List ℕ) (why : Cause) (failed : Bool)
      → (why ≡ cause.Read) ⊎ (why ≡ cause.Memory)
      → (why ≡ cause.Read → KeepsStream rem known front buffer) → (why ≡ cause.Read → NoneWhole buffer)
      → IfSome src (SomeSession state old mid before w count (Stopped why failed known))
  missed known buffer why failed causes stays none = go src so.dealt why causes stays none
    where
      go : (src : Option (List ℕ))
          → IfSome src (λ bytes. (rest : List ℕ) × (rem ≡ Some rest)
          × Dealt (state old) (state mid) before w bytes count (More (front ++ rest)))
          → (why : Cause) → (why ≡ cause.Read) ⊎ (why ≡ cause.Memory) → (why ≡ cause.Read → KeepsStream rem known front buffer)
          → (why ≡ cause.Read → NoneWhole buffer)
          → IfSome src (SomeSession state old mid before w count (Stopped why failed known))
      go None x why causes stays none = tt
      go (Some bytes) (rest, is, d) cause.Read causes stays none =
          let m = subst (λ o. KeepsStream o known front buffer) is (stays refl) in
          made mid w count _ (text d.es) d.deals d.adds
          (More (front ++ rest), d.deals.leads, ((buffer, m.0, ap More (sym m.2), m.1, none refl), refl))
      go (Some bytes) (rest, is, d) cause.Memory causes stays none =
          made mid w count _ (text d.es) d.deals d.adds (More (front ++ rest), d.deals.leads, inr refl)
      go (Some bytes) x _ causes stays none = absurd (elim causes [ inl e ↦ cc | inr e ↦ cc ])

  pub end_known : (known : Option (List ℕ)) (buffer : List ℕ) → Follows rem known front buffer frame.End
      → IfSome src (SomeSession state old mid before w count (Ended talk.End))
  end_known known buffer follows =
      turn state src rem known old mid before w front buffer count frame.End
      (SomeSession state old mid before w count (Ended talk.End)) so follows
      (λ bytes stream rest d is opens. made mid w count _ (text d.es) d.deals d.adds
      ([], (More stream, d.deals.leads, (opens, refl)), sym (append-nil (text d.es))))

  module _ (known now : Option (List ℕ)) (buffer : List ℕ) (refusal : Refusal) (head_only : Bool)
      (follows : Follows rem known front buffer (frame.Bad refusal head_only)) where
    abbrev closing : List ℕ
    closing = reply_text (answer_to (refusal_content refusal)) head_only true

    pub bad_known : Appends w now closing
        → IfSome src (SomeSession state old mid before now count (Ended (talk.Refused refusal.word.now)))
    bad_known adds =
        turn state src rem known old mid before w front buffer count (frame.Bad refusal head_only)
        (SomeSession state old mid before now count (Ended (talk.Refused refusal.word.now))) so follows
        (λ bytes stream rest d is opens. made mid now count _ (text d.es ++ closing) d.deals
        (Appends-append before w now (text d.es) closing d.adds adds)
        (closing, (More stream, d.deals.leads, (refusal_content refusal, head_only, opens, refl, refl)), refl))

    pub cut_known : (why : Cause) (failed : Bool) (left : Option (List ℕ)) → Partly why w now closing
        → IfSome src (SomeSession state old mid before now count (Stopped why failed left))
    cut_known why failed left part =
        turn state src rem known old mid before w front buffer count (frame.Bad refusal head_only)
        (SomeSession state old mid before now count (Stopped why failed left)) so follows
        (λ bytes stream rest d is opens. go bytes stream d opens why part)
      where
        go : (bytes stream : List ℕ) → Dealt (state old) (state mid) before w bytes count (More stream)
            → Opens stream (Faulty (refusal_content refusal) head_only) → (why : Cause)
            → Partly why w now closing → SomeSession state old mid before now count (Stopped why failed left) bytes
        go bytes stream d opens cause.Write (k, adds) =
            made mid now count _ (text d.es ++ take k closing) d.deals
            (Appends-append before w now (text d.es) (take k closing) d.adds adds) (
              More stream,
              d.deals.leads,
              inr (
                talk.Refused refusal.word.now,
                closing,
                k,
                (refusal_content refusal, head_only, opens, refl, refl),
                refl,
              ),
            )
        go bytes stream d opens cause.Memory adds =
            made mid now count _ (text d.es ++ []) d.deals (Appends-append before w now (text d.es) [] d.adds adds)
            (More stream, d.deals.leads, inr (append-nil (text d.es)))
        go bytes stream d opens _ part = absurd part

  module _ (known now : Option (List ℕ)) (buffer : List ℕ) (new : K) (request : Request) (used : ℕ) (closes : Bool)
      (follows : Follows rem known front buffer (frame.Request request used))
      (at : closes ≡ closes_at (connection_limit - count) (request_content request)) where
    pub closes_known : Did (state mid) (state new) (request_content request) closes w now → closes ≡ true
        → IfSome src (SomeSession state old new before now (count + 1) (Ended (last_for request.close)))
    closes_known did shuts =
        turn state src rem known old mid before w front buffer count (frame.Request request used)
        (SomeSession state old new before now (count + 1) (Ended (last_for request.close))) so follows
        (λ bytes stream rest d is opens.
        let after = drop used buffer ++ rest in
        let t = subst (λ b. Dealt (state old) (state new) before now bytes (count + 1) (after_one b (request_content request) after)) shuts
        (Dealt-snoc (state old) (state mid) (state new) before w now bytes stream after count
        (request_content request) closes d opens at did) in
        made new now (count + 1) _ (text t.es) t.deals t.adds
        ([], (Shut request.close, t.deals.leads, shut_ends request.close), sym (append-nil (text t.es))))

    pub more_known : (kept : List ℕ) → Did (state mid) (state new) (request_content request) closes w now
        → closes ≡ false
        → kept ≡ drop used buffer
        → SoFar state src known old new before now kept (count + 1)
    more_known kept did stays e = record {
      dealt = turn state src rem known old mid before w front buffer count (frame.Request request used)
          (λ bytes. (rest : List ℕ) × (known ≡ Some rest)
          × Dealt (state old) (state new) before now bytes (count + 1) (More (kept ++ rest))) so follows
          (λ bytes stream rest d is opens. (
            rest,
            is,
            subst (λ k. Dealt (state old) (state new) before now bytes (count + 1) (More (k ++ rest))) (sym e)
                (subst (λ b. Dealt (state old) (state new) before now bytes (count + 1)
                (after_one b (request_content request) (drop used buffer ++ rest))) stays
                (Dealt-snoc (state old) (state mid) (state new) before w now bytes stream (drop used buffer ++ rest) count
                (request_content request) closes d opens at did)),
          ));
    }

    pub broke_known : (why : Cause) (failed : Bool) (left : Option (List ℕ))
        → Replied (state mid) (state new) (request_of closes (request_content request))
        (λ reply. Broke why failed reply (is_head request.method.items) closes w now)
        → IfSome src (SomeSession state old new before now (count + 1) (Stopped why failed left))
    unfolding exchange
    broke_known why failed left (reply, acted, broke) =
        turn state src rem known old mid before w front buffer count (frame.Request request used)
        (SomeSession state old new before now (count + 1) (Stopped why failed left)) so follows
        (λ bytes stream rest d is opens. go bytes stream rest d
        (Deals-snoc (state old) (state mid) (state new) bytes stream (drop used buffer ++ rest) count d.es
        (request_content request) closes reply d.deals opens at acted) why broke)
      where
        e : Exchange
        e = record { request = request_of closes (request_content request); reply = reply }

        after : List ℕ → Rest
        after rest = after_one closes (request_content request) (drop used buffer ++ rest)

        go : (bytes stream rest : List ℕ) (d : Dealt (state old) (state mid) before w bytes count (More stream))
            → Deals (state old) (state new) bytes (count + 1) (d.es ++ e ∷ []) (after rest)
            → (why : Cause) → Broke why failed reply (is_head request.method.items) closes w now
            → SomeSession state old new before now (count + 1) (Stopped why failed left) bytes
        go bytes stream rest d deals cause.Read broke = absurd broke
        go bytes stream rest d deals cause.Write (k, adds) =
            made new now (count + 1) _ (text d.es ++ take k (reply_text reply (is_head request.method.items) (closes || failed))) deals
            (Appends-append before w now (text d.es) _ d.adds adds)
            (after rest, deals.leads, inl (d.es, e, k, refl, refl))
        go bytes stream rest d deals cause.Memory adds =
            made new now (count + 1) _ (text d.es ++ []) deals (Appends-append before w now (text d.es) [] d.adds adds)
            (after rest, deals.leads, inl (d.es, e, refl, append-nil (text d.es)))
        go bytes stream rest d deals cause.Store (is_failed, same, adds) =
            made new now (count + 1) _ (text d.es ++ reply_text unavailable (is_head request.method.items) true) deals
            (Appends-append before w now (text d.es) _ d.adds adds)
            (after rest, deals.leads, (is_failed, d.es, e, refl, same, refl))

pub goes_on : (count : ℕ) (asked : RequestContent) (closes : Bool) → count < connection_limit → closes ≡ false
    → closes ≡ closes_at (connection_limit - count) asked → count + 1 < connection_limit
goes_on count asked closes small stays at =
    let many = leb-false (connection_limit - count) 1 (or_parts asked.close (nat_le (connection_limit - count) 1) (sym at ∙ stays)).1 in
    omega (arith, small, many)

-- a desk that had failed is as it was, and so it cannot have answered
pub still_failed : {K : Type 0} (first now next : DeskState K) → (first.failed ≡ true → now ≡ first)
    → (now.failed ≡ true → next ≡ now) → next.failed ≡ false
    → first.failed ≡ true → ⊥
still_failed {K = K} first now next waits stays calm failed =
    let was = ap (λ (k : DeskState K). k.failed) (waits failed) ∙ failed in
    both_ways next.failed calm (ap (λ (k : DeskState K). k.failed) (stays was) ∙ was)
