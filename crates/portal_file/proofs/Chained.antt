-- What is promised of processes over one file.
use Rattle.std.proofs.Common.{◌≡◌, ◌≢◌, List, [], ◌∷◌, ◌++◌, refl, sym, subst, ◌∙◌, inl, inr, true, false, cond}
use Rattle.std.specs.Prelude.{◌⊎◌}
use Rattle.std.proofs.Math.Logic.{∥∥₁_elim, ∥∥₁_map}
use Rattle.sqlite_wal.specs.Recovery.{Image}
use Rattle.portal_rules.specs.World.{World}
use Rattle.portal_rules.specs.Words.{Key, equals}
use Rattle.portal_rules.specs.Answer.{Answer}
use Rattle.portal_rules.specs.Run.{AllAnswered, Request, Run, unavailable}
use Rattle.portal_rules.specs.Heard.{Heard, replies_to}
use Rattle.portal_wire.specs.Conversation.{Exchange, Reaches, requests_of, replies_of, exchange_text}
use Rattle.portal_desk.specs.Kept.{MayReach}
use Rattle.portal_desk.specs.Session.{Session}
use Rattle.portal_desk.specs.Headline.{IsAnswered, IsLikeAll, IsUpheld, left_by, texts_to}
use Rattle.portal_desk.proofs.Steps.{Reaches-append}
use Rattle.portal_desk.proofs.Promised.{RunsGood, StepsBest, RunsBest, upheld}
use Rattle.portal_desk.proofs.Heeding.{like_all}
use Rattle.portal_file.specs.Files.{HoldsWorld}
use Rattle.portal_file.specs.Chain.{AreProcesses, exchanges_by, MayStandFor, KeptOverFiles, PromisedOverFiles}

stands_same : (es : List Exchange) → MayStandFor es es
stands_same [] = tt
stands_same (e ∷ es) = (refl, inl refl, stands_same es)

stands_both : (es fs xs ys : List Exchange) → MayStandFor es fs → MayStandFor xs ys → MayStandFor (es ++ xs) (fs ++ ys)
stands_both [] [] xs ys one two = two
stands_both [] (f ∷ fs) xs ys one two = absurd one
stands_both (e ∷ es) [] xs ys one two = absurd one
stands_both (e ∷ es) (f ∷ fs) xs ys one two = (one.0, one.1, stands_both es fs xs ys one.2 two)

-- the world was reached by these requests, or by those of which one was carried out after all
reached : (w v : World) (es : List Exchange) → MayReach w es v
    → (fs : List Exchange) × MayStandFor es fs × Reaches w fs v
reached w v es (inl run) = (es, stands_same es, run)
reached w v es (inr (front, back, e, other, is, untold, run)) =
    let f : Exchange = record e { reply = other } in (
      front ++ f ∷ back,
      subst (λ l. MayStandFor l (front ++ f ∷ back)) (sym is)
          (stands_both front front (e ∷ back) (f ∷ back) (stands_same front) (refl, inr untold, stands_same back)),
      run,
    )

-- the requests of all processes are a run to a world that the files hold
abbrev RunsOver : World → Image → List (Session Image) → Type 0
RunsOver w image ps =
    (es : List Exchange) × MayStandFor (exchanges_by ps) es × (v : World) × Reaches w es v × HoldsWorld (left_by image ps) v

runs_over : (w : World) (image : Image) (ps : List (Session Image)) → HoldsWorld image w → AreProcesses image ps
    → ∥ RunsOver w image ps ∥₁
runs_over w image [] holds are = let r : RunsOver w image [] = ([], tt, w, ([], tt, refl), holds) in ∣ r ∣₁
runs_over w image (p ∷ ps) holds (is, process, later) =
    ∥∥₁_elim (process.reaches w (subst (λ i. HoldsWorld i w) (sym is) holds)) squash₁ (λ t.
    let (es, stands, ran) = reached w t.0 p.visit.exchanges t.1 in
    ∥∥₁_map (runs_over t.0 p.left ps t.2 later) (λ more.
    let (fs, also, v, goes_on, holds_last) = more in
    let r : RunsOver w image (p ∷ ps) = (
      es ++ fs,
      stands_both p.visit.exchanges es (exchanges_by ps) fs stands also,
      v,
      Reaches-append w t.0 v es fs ran goes_on,
      holds_last,
    ) in r))

-- the replies that were given

requests_same : (es fs : List Exchange) → MayStandFor es fs → requests_of fs ≡ requests_of es
requests_same [] [] stands = refl
requests_same [] (f ∷ fs) stands = absurd stands
requests_same (e ∷ es) [] stands = absurd stands
requests_same (e ∷ es) (f ∷ fs) stands = λ i. stands.0 i ∷ requests_same es fs stands.2 i

abbrev replied : Key → List Exchange → List Answer
replied c es = replies_to c (requests_of es) (replies_of es)

-- to a caller who got no 503 they are the run's
abbrev IsGiven : Key → List Exchange → List Exchange → Type 0
IsGiven c es fs = IsAnswered c fs × (texts_to c es ≡ texts_to c fs)

given_one : (c : Key) (e : Exchange) (other : Answer) (es fs : List Exchange) → (other ≡ e.reply) ⊎ (e.reply ≡ unavailable)
    → (IsAnswered c es → IsGiven c es fs) → IsAnswered c (e ∷ es) → IsGiven c (e ∷ es) (record e { reply = other } ∷ fs)
given_one c e other es fs same more =
    elim (equals e.request.code c) as (λ own. AllAnswered (cond own (e.reply ∷ replied c es) (replied c es))
    → AllAnswered (cond own (other ∷ replied c fs) (replied c fs))
    × (cond own (exchange_text e ∷ texts_to c es) (texts_to c es)
    ≡ cond own (exchange_text (record e { reply = other }) ∷ texts_to c fs) (texts_to c fs))) [
      | true ↦ λ all.
          let rest : IsGiven c es fs = more all.1 in
          let is : other ≡ e.reply = elim same [ inl is ↦ is | inr failed ↦ absurd (all.0 failed) ] in
          ((subst (λ a. a ≢ unavailable) (sym is) all.0, rest.0), λ i. exchange_text (record e { reply = sym is i }) ∷ rest.1 i)
      | false ↦ λ all. more all
    ]

given : (c : Key) (es fs : List Exchange) → MayStandFor es fs → IsAnswered c es → IsGiven c es fs
given c [] [] stands all = (tt, refl)
given c [] (f ∷ fs) stands all = absurd stands
given c (e ∷ es) [] stands all = absurd stands
given c (e ∷ es) (f ∷ fs) stands all =
    subst (λ (r : Request). IsGiven c (e ∷ es) (record f { request = r } ∷ fs)) (sym stands.0)
    (given_one c e f.reply es fs stands.1 (given c es fs stands.2) all)

like_given : (w : World) (es fs : List Exchange) (worlds : List World) → MayStandFor es fs
    → Run w (requests_of fs) (replies_of fs) worlds → IsLikeAll w es worlds
like_given w es fs worlds stands run v others later other c items mine theirs alike heard listened =
    let as_given : IsGiven c es fs = given c es fs stands mine in
    let also = subst (λ rs. Heard c w rs worlds items) (sym (requests_same es fs stands)) heard in
    let equal = like_all w fs worlds run v others later other c items as_given.0 theirs alike also listened in
    (as_given.1 ∙ equal.0, equal.1)

pub kept : RunsGood → StepsBest → RunsBest → KeptOverFiles
kept run_good step_best run_best w image ps good holds are =
    ∥∥₁_map (runs_over w image ps holds are) (λ r.
    let (es, stands, v, (worlds, run, last), left) = r in (
      es,
      stands,
      worlds,
      upheld run_good step_best run_best w es worlds good run,
      like_given w (exchanges_by ps) es worlds stands run,
      subst (HoldsWorld (left_by image ps)) last left,
    ))

-- where no reply is 503, they are the run's
all_given : (es fs : List Exchange) → MayStandFor es fs → AllAnswered (replies_of es) → fs ≡ es
all_given [] [] stands all = refl
all_given [] (f ∷ fs) stands all = absurd stands
all_given (e ∷ es) [] stands all = absurd stands
all_given (e ∷ es) (f ∷ fs) (request, same, stands) all =
    let reply : f.reply ≡ e.reply = elim same [ inl is ↦ is | inr failed ↦ absurd (all.0 failed) ] in
    let rest = all_given es fs stands all.1 in
    λ i. record { request = request i; reply = reply i } ∷ rest i

pub promised : RunsGood → StepsBest → RunsBest → PromisedOverFiles
promised run_good step_best run_best w image ps good holds are all =
    ∥∥₁_map (kept run_good step_best run_best w image ps good holds are) (λ r.
    let (es, stands, worlds, upholds, like, left) = r in
    (worlds, (subst (λ fs. IsUpheld w fs worlds) (all_given (exchanges_by ps) es stands all) upholds, like), left))
