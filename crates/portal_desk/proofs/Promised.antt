-- The main promise, from what each call of `serve` tells.
use Rattle.portal_desk.proofs.Base.{Some, ◌≡◌, ℕ, ◌+◌, ◌<◌, length, take, map, get_or, add-one, inl, inr, true}
use Rattle.portal_desk.proofs.Base.{false, List, [], ◌∷◌, ◌++◌, refl, sym, ap, ◌∙◌, subst, both_ways, Key, World, view}
use Rattle.portal_desk.proofs.Base.{AbstractCall, Answer, Good, Request, Step, Run, Serves, requests_of}
use Rattle.portal_desk.proofs.Base.{Exchange, replies_of, Reaches, KeeperState, Ended, exchanges_of, visits_of, Session}
use Rattle.portal_desk.proofs.Base.{IsSession, SomeSession, ServesEach, ServeWhole, take-suc, map-append, AllByRecursion}
use Rattle.portal_desk.proofs.Base.{is_published, Wish, Calls, NoCall, Answers, Last, AreServedOn, left_by}
use Rattle.portal_desk.proofs.Base.{IsServed, IsUnseen, AreUnseen, PublishesBest, IsUpheld, MainPromise, HasPromise}
use Rattle.portal_core.specs.Honest.{HasBest, ShowsBest}
use Rattle.portal_rules.proofs.Unseen.{others}
use Rattle.portal_desk.proofs.Heeding.{like_all}
use Rattle.portal_desk.proofs.Steps.{Reaches-append}

-- on a clean disk, the exchanges are a run to the world of a keeper that is clean at the end
are_run : {K : Type 0} (state : K → KeeperState) (k : K) (ss : List (Session K)) → AreServedOn state k ss
    → (state (left_by k ss)).disk → (state (left_by k ss)).clean
    → (state k).disk × (state k).clean × Reaches (state k).world (exchanges_of (visits_of ss)) (state (left_by k ss)).world
are_run state k [] served disk on = (disk, on, ([], tt, refl))
are_run state k (s ∷ ss) (resumes, serves, later) disk on =
    let next = are_run state s.left ss later disk on in
    let before = resumes (serves.moves.breaks next.0).0 in
    let start = before.2 (serves.moves.clean next.1) in
    let one = subst (λ w. Reaches w s.visit.exchanges (state s.left).world) start.1 (serves.moves.reaches next.1) in
    (before.0, start.0, Reaches-append _ _ _ s.visit.exchanges (exchanges_of (visits_of ss)) one next.2)

-- one step

answered_unseen : (c : Key) (w v : World) (r : Request) (wish : Wish) (a : Answer) → Good w → Answers w r wish a v
    → IsUnseen c w r v
answered_unseen c w v r (Calls ask) a good step = λ member other office. others w v c r.code ask a good step member other office
answered_unseen c w v r (NoCall refusal) a good step = λ member other office. ap (λ u. view u c) step.1

one_unseen : (c : Key) (w v : World) (r : Request) (a : Answer) → Good w → Serves w r a v → IsUnseen c w r v
one_unseen c w v r a good (inl step) = answered_unseen c w v r r.wish a good step
one_unseen c w v r a good (inr none) = λ member other office. ap (λ u. view u c) none.1

-- what the laws of good worlds and of results say
abbrev pub RunsGood : Type 0
RunsGood = (w : World) (asked : List Request) (told : List Answer) (after : List World) → Good w → Run w asked told after
    → AllByRecursion Good after

abbrev pub StepsBest : Type 0
StepsBest =
    (w v : World) (code : Key) (ask : AbstractCall) (reply : Answer) → Good w → is_published w.phase ≡ false → Step w code ask reply v
    → is_published v.phase ≡ true → HasBest v

abbrev pub RunsBest : Type 0
RunsBest = (w : World) (asked : List Request) (told : List Answer) (after : List World) → ShowsBest w → Run w asked told after
    → AllByRecursion ShowsBest after

not_published : (w v : World) → v ≡ w → is_published w.phase ≡ false → is_published v.phase ≡ true → HasBest v
not_published w v same off on = absurd (both_ways (is_published w.phase) off (ap (λ (u : World). is_published u.phase) (sym same) ∙ on))

answered_best : StepsBest → (w v : World) (r : Request) (wish : Wish) (a : Answer) → Good w → Answers w r wish a v
    → is_published w.phase ≡ false → is_published v.phase ≡ true → HasBest v
answered_best step_best w v r (Calls ask) a good step off on = step_best w v r.code ask a good off step on
answered_best step_best w v r (NoCall refusal) a good step off on = not_published w v step.1 off on

one_best : StepsBest → (w v : World) (r : Request) (a : Answer) → Good w → Serves w r a v
    → is_published w.phase ≡ false → is_published v.phase ≡ true → HasBest v
one_best step_best w v r a good (inl step) off on = answered_best step_best w v r r.wish a good step off on
one_best step_best w v r a good (inr none) off on = not_published w v none.1 off on

-- a run

are_unseen : (c : Key) (w : World) (rs : List Request) (told : List Answer) (vs : List World) → Good w
    → AllByRecursion Good vs → Run w rs told vs → AreUnseen c w rs vs
are_unseen c w [] told vs good all run = tt
are_unseen c w (r ∷ rs) told [] good all run = tt
are_unseen c w (r ∷ rs) [] (v ∷ vs) good all run = absurd run
are_unseen c w (r ∷ rs) (a ∷ told) (v ∷ vs) good all run = (one_unseen c w v r a good run.0, are_unseen c v rs told vs all.0 all.1 run.1)

publishes_best : StepsBest → (w : World) (rs : List Request) (told : List Answer) (vs : List World) → Good w
    → AllByRecursion Good vs → Run w rs told vs
    → PublishesBest w vs
publishes_best step_best w rs told [] good all run = tt
publishes_best step_best w [] [] (v ∷ vs) good all run = absurd run
publishes_best step_best w [] (a ∷ told) (v ∷ vs) good all run = absurd run
publishes_best step_best w (r ∷ rs) [] (v ∷ vs) good all run = absurd run
publishes_best step_best w (r ∷ rs) (a ∷ told) (v ∷ vs) good all run =
    (one_best step_best w v r a good run.0, publishes_best step_best v rs told vs all.0 all.1 run.1)

pub upheld : RunsGood → StepsBest → RunsBest → (w : World) (es : List Exchange) (worlds : List World) → Good w
    → Run w (requests_of es) (replies_of es) worlds → IsUpheld w es worlds
upheld run_good step_best run_best w es worlds good run =
    let all = run_good w (requests_of es) (replies_of es) worlds good run in
    record {
      run = run;
      good = all;
      unseen = λ c. are_unseen c w _ _ worlds good all run;
      published = publishes_best step_best w _ _ worlds good all run;
      best = λ first. run_best w _ _ worlds first run;
    }

-- the main promise of a run from a good world
pub has_promise : RunsGood → StepsBest → RunsBest → (w : World) (es : List Exchange) (worlds : List World) → Good w
    → Run w (requests_of es) (replies_of es) worlds → HasPromise w es worlds
has_promise run_good step_best run_best w es worlds good run =
    (upheld run_good step_best run_best w es worlds good run, like_all w es worlds run)

pub headline : RunsGood → StepsBest → RunsBest
    → {K : Type 0} (state : K → KeeperState) (k : K) (ss : List (Session K)) → IsServed state k ss → MainPromise state k ss
headline run_good step_best run_best state k ss served =
    let (disk, clean, (worlds, run, same)) = are_run state k ss served.served served.disk served.clean in
    (worlds, has_promise run_good step_best run_best (state k).world (exchanges_of (visits_of ss)) worlds served.good run, same)

-- one stream more

one_more : {K : Type 0} (state : K → KeeperState) (k : K) (ss : List (Session K)) (s : Session K)
    → AreServedOn state k ss → left_by k ss ≡ s.found → IsSession state s
    → AreServedOn state k (ss ++ s ∷ [])
one_more state k [] s served same did = (
  λ now. (
    subst (λ j. (state j).disk) (sym same) now,
    subst (λ j. (state j).clean) same,
    λ on. (subst (λ j. (state j).clean) (sym same) on, ap (λ j. (state j).world) (sym same)),
  ),
  did,
  tt,
)
one_more state k (x ∷ ss) s (first, told, rest) same did = (first, told, one_more state x.left ss s rest same did)

left_more : {K : Type 0} (k : K) (ss : List (Session K)) (s : Session K) → left_by k (ss ++ s ∷ []) ≡ s.left
left_more k [] s = refl
left_more k (x ∷ ss) s = left_more x.left ss s

whole_more : {K : Type 0} (ss : List (Session K)) (xs ts : List (List ℕ)) (s : Session K) (x t : List ℕ) (end : Last)
    → ServeWhole (visits_of ss) xs ts → s.visit.stream ≡ Some (record { bytes = x; written = t; finish = Ended end })
    → ServeWhole (visits_of (ss ++ s ∷ [])) (xs ++ x ∷ []) (ts ++ t ∷ [])
whole_more [] [] [] s x t end are is = (end, is, tt)
whole_more (r ∷ ss) (y ∷ xs) (u ∷ ts) s x t end are is = (are.0, are.1, whole_more ss xs ts s x t end are.2 is)
whole_more _ _ _ s x t end are is = absurd are

pub each_more : {K : Type 0} (state : K → KeeperState) (k old new : K) (xs ts : List (List ℕ)) (x t : List ℕ) (count : ℕ) (ending : Last)
    → ServesEach state k old xs ts
    → SomeSession state old new (Some []) (Some t) count (Ended ending) x → ServesEach state k new (xs ++ x ∷ []) (ts ++ t ∷ [])
each_more {K = K} state k old new xs ts x t count ending (ss, served, same, are) one =
    let s : Session K = record {
      found = old;
      left = new;
      visit = record {
        exchanges = one.exchanges;
        stream = Some (record { bytes = x; written = one.written; finish = Ended ending });
      };
    } in (
      ss ++ s ∷ [],
      one_more state k ss s served same one.session,
      left_more k ss s,
      whole_more ss xs ts s x t ending are (ap (λ w. Some (record { bytes = x; written = w; finish = Ended ending })) (sym one.adds)),
    )

pub each_next : {K A B : Type 0} (state : K → KeeperState) (k old new : K) (f : A → List ℕ) (h : B → List ℕ) (xs : List A) (i : ℕ) (d : A)
    (ts : List B) (t : B)
    (count : ℕ) (ending : Last) → i < length xs → ServesEach state k old (map f (take i xs)) (map h ts)
    → SomeSession state old new (Some []) (Some (h t)) count (Ended ending) (f (get_or xs i d))
    → ServesEach state k new (map f (take (i + 1) xs)) (map h (ts ++ t ∷ []))
each_next state k old new f h xs i d ts t count ending within served did =
    rw (add-one i, take-suc xs i d within, map-append f (take i xs) (get_or xs i d ∷ []), map-append h ts (t ∷ []))
    (each_more state k old new (map f (take i xs)) (map h ts) (f (get_or xs i d)) (h t) count ending served did)
