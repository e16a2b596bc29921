-- Sessions one after another, and the main promise: what a caller may learn from them, over any keeper.
use Rattle.std.specs.Prelude.{◌≡◌, if◌then◌else◌, ℕ, List, [], ◌∷◌, map, true, false}
use Rattle.std.specs.List.{AllByRecursion, flat_map}
use Rattle.portal_rules.specs.Words.{Key, equals}
use Rattle.portal_rules.specs.World.{World, is_published}
use Rattle.portal_rules.specs.View.{view}
use Rattle.portal_rules.specs.Good.{Good}
use Rattle.portal_core.specs.Honest.{HasBest, ShowsBest}
use Rattle.portal_rules.specs.Run.{Run, AllAnswered, end_of, Request}
use Rattle.portal_rules.specs.Heard.{HeardItem, Heard, replies_to, AlikeUntilPublished, IsMember}
use Rattle.portal_wire.specs.Conversation.{Exchange, requests_of, replies_of, exchange_text, Last}
use Rattle.portal_rules.specs.Keeping.{KeeperState}
use Rattle.portal_desk.specs.Session.{TellsExchanges, Ended, Visit, Session, IsSession}

abbrev pub exchanges_of : List Visit → List Exchange
exchanges_of vs = flat_map (λ v. v.exchanges) vs

abbrev pub visits_of : {X : Type 0} → List (Session X) → List Visit
visits_of ss = map (λ s. s.visit) ss

-- sessions one after another, each of which goes on from what the one before left
abbrev pub AreInTurn : {X : Type 0} → (X → X → Type 0) → (Session X → Type 0) → X → List (Session X) → Type 0
AreInTurn GoesOn Is x [] = Unit {0}
AreInTurn GoesOn Is x (s ∷ ss) = GoesOn x s.found × Is s × AreInTurn GoesOn Is s.left ss

-- what the last of them left
abbrev pub left_by : {X : Type 0} → X → List (Session X) → X
left_by x [] = x
left_by x (s ∷ ss) = left_by s.left ss

-- from this world, the exchanges serve the whole stream and get no 503, with this text and these worlds
pub record ServesAnswered (w : World) (bytes : List ℕ) (end : Last) (es : List Exchange) (written : List ℕ)
    (worlds : List World) : Type 0 where
  pub tells : TellsExchanges (Ended end) bytes es written
  pub run : Run w (requests_of es) (replies_of es) worlds
  pub answered : AllAnswered (replies_of es)

-- no reply to this caller is 503
abbrev pub IsAnswered : Key → List Exchange → Type 0
IsAnswered c es = AllAnswered (replies_to c (requests_of es) (replies_of es))

-- what one caller hears of these exchanges from w, with the world after each, in order
abbrev pub Hears : Key → World → List Exchange → List World → List HeardItem → Type 0
Hears c w es worlds items = Heard c w (requests_of es) worlds items

-- the texts of the replies to one caller, in order
abbrev pub texts_to : Key → List Exchange → List (List ℕ)
texts_to c [] = []
texts_to c (e ∷ es) = if equals e.request.code c then exchange_text e ∷ texts_to c es else texts_to c es

-- texts without a student's list are equal, up to and including the first move to published
abbrev pub AlikeTexts : List Exchange → List Exchange → Type 0
AlikeTexts es fs =
    AlikeUntilPublished (requests_of es) (replies_of es) (map exchange_text es) (map exchange_text fs)

-- `new` goes on from `old`: it is the same keeper, or what it kept was closed and opened again. On a
-- clean disk, one is clean exactly if the other is, and then they have the same world
abbrev pub Resumes : KeeperState → KeeperState → Type 0
Resumes old new =
    new.disk → old.disk × (old.clean → new.clean) × (new.clean → old.clean × (new.world ≡ old.world))

-- calls of `serve` one after another, each over a keeper that goes on from the one before
abbrev pub AreServedOn : {K : Type 0} → (K → KeeperState) → K → List (Session K) → Type 0
AreServedOn state = AreInTurn (λ old new. Resumes (state old) (state new)) (IsSession state)

-- the premises: the first world is good, and the last keeper and its disk are clean
pub record IsServed {K : Type 0} (state : K → KeeperState) (k : K) (sessions : List (Session K)) : Type 0 where
  pub served : AreServedOn state k sessions
  pub good : Good (state k).world
  pub clean : (state (left_by k sessions)).clean
  pub disk : (state (left_by k sessions)).disk

-- a request of a student or a lecturer changes no view but the own one and the office's
abbrev pub IsUnseen : Key → World → Request → World → Type 0
IsUnseen c old r new =
    IsMember (view old r.code) → equals r.code c ≡ false → equals old.office c ≡ false → view new c ≡ view old c

abbrev pub AreUnseen : Key → World → List Request → List World → Type 0
AreUnseen c w (r ∷ rs) (v ∷ vs) = IsUnseen c w r v × AreUnseen c v rs vs
AreUnseen c w _ _ = Unit {0}

-- each step that publishes leaves the student-optimal result
abbrev pub PublishesBest : World → List World → Type 0
PublishesBest w [] = Unit {0}
PublishesBest w (v ∷ vs) = (is_published w.phase ≡ false → is_published v.phase ≡ true → HasBest v) × PublishesBest v vs

-- a run from a good world, and what holds of it
pub record IsUpheld (w : World) (es : List Exchange) (worlds : List World) : Type 0 where
  -- the exchanges are a run, with these worlds
  pub run : Run w (requests_of es) (replies_of es) worlds
  -- each world is good
  pub good : AllByRecursion Good worlds
  -- no request of a student or a lecturer is seen by others
  pub unseen : (c : Key) → AreUnseen c w (requests_of es) worlds
  -- each step that publishes leaves the best result
  pub published : PublishesBest w worlds
  -- if the first world shows the best results, all do
  pub best : ShowsBest w → AllByRecursion ShowsBest worlds

-- compared with any other run: a caller who gets no 503, starts with the same view and hears the same
-- gets the same reply bytes and the same last view
abbrev pub IsLikeAll : World → List Exchange → List World → Type 0
IsLikeAll w es worlds =
    (v : World) (fs : List Exchange) (later : List World) → Run v (requests_of fs) (replies_of fs) later
    → (c : Key) (items : List HeardItem) → IsAnswered c es → IsAnswered c fs → view w c ≡ view v c
    → Hears c w es worlds items → Hears c v fs later items
    → (texts_to c es ≡ texts_to c fs) × (view (end_of w worlds) c ≡ view (end_of v later) c)

-- the main promise holds of these exchanges: they are a run that is upheld, and like any other one
abbrev pub HasPromise : World → List Exchange → List World → Type 0
HasPromise w es worlds = IsUpheld w es worlds × IsLikeAll w es worlds

-- it holds of these sessions, whose last keeper has the last world
abbrev pub MainPromise : {K : Type 0} → (K → KeeperState) → K → List (Session K) → Type 0
MainPromise state k sessions =
    (worlds : List World) × HasPromise (state k).world (exchanges_of (visits_of sessions)) worlds
    × ((state (left_by k sessions)).world ≡ end_of (state k).world worlds)
