-- What one caller hears of a run, and runs that differ at most in the order within lists.
use Rattle.portal_rules.specs.Base.{AllZip}
use Rattle.std.specs.Prelude.{◌≡◌, ◌≢◌, ◌⊎◌, Bool, true, false, not, ◌||◌, if◌then◌else◌, List, [], ◌∷◌, ◌++◌, ◌&&◌}
use Rattle.std.specs.Prelude.{◌==◌}
use Rattle.portal_rules.specs.Words.{Key, equals}
use Rattle.portal_rules.specs.World.{World, Student, is_published}
use Rattle.portal_rules.specs.declared.view.View.{View as Sight}
use Rattle.portal_rules.specs.declared.view.View.TheVariants as sees
use Rattle.portal_rules.specs.View.{view}
use Rattle.portal_rules.specs.Calls.{AbstractCall}
use Rattle.portal_rules.specs.Answer.{Answer, Act, Nothing, Render, decision}
use Rattle.portal_rules.specs.Run.{Wish, Calls, NoCall, Request}

-- the caller's own request (its `head`, `closes` and `wish`), or the caller's new view
pub data HeardItem : Type 0 where
  Asked : Bool → Bool → Wish → HeardItem
  Sees : Sight → HeardItem

-- a call that may change its own caller's view in any way
abbrev pub is_move_or_add : Wish → Bool
is_move_or_add (Calls (AbstractCall.Move phase round)) = true
is_move_or_add (Calls (AbstractCall.AddLecturers rows)) = true
is_move_or_add (Calls (AbstractCall.AddProjects rows)) = true
is_move_or_add (Calls (AbstractCall.AddStudents rows)) = true
is_move_or_add _ = false

abbrev pub own_item : Key → Request → List HeardItem
own_item c r = if equals r.code c then Asked r.head r.closes r.wish ∷ [] else []

-- the new view, if it differs from the old one
abbrev pub ChangeSeen : Sight → Sight → List HeardItem → Type 0
ChangeSeen old new items = (new ≡ old) × (items ≡ []) ⊎ (new ≢ old) × (items ≡ Sees new ∷ [])

-- the request is another caller's, or c's own Move or Add call
abbrev pub may_show : Key → Request → Bool
may_show c r = not (equals r.code c) || is_move_or_add r.wish

abbrev pub SeenIf : Bool → Sight → Sight → List HeardItem → Type 0
SeenIf true old new seen = ChangeSeen old new seen
SeenIf false old new seen = seen ≡ []

-- what c hears of one request
abbrev pub HeardOf : Key → World → Request → World → List HeardItem → Type 0
HeardOf c old r new items =
    (seen : List HeardItem) × SeenIf (may_show c r) (view old c) (view new c) seen × (items ≡ own_item c r ++ seen)

-- what c hears of a run from w, in order
abbrev pub Heard : Key → World → List Request → List World → List HeardItem → Type 0
Heard c w (r ∷ rs) (v ∷ worlds) items =
    (first : List HeardItem) × (rest : List HeardItem) × HeardOf c w r v first × Heard c v rs worlds rest
    × (items ≡ first ++ rest)
Heard c w _ _ items = items ≡ []

-- the replies to c, in order
abbrev pub replies_to : Key → List Request → List Answer → List Answer
replies_to c (r ∷ rs) (a ∷ answers) = if equals r.code c then a ∷ replies_to c rs answers else replies_to c rs answers
replies_to c _ _ = []

-- a student or a lecturer
abbrev pub IsMember : Sight → Type 0
IsMember (sees.Lecturer v) = Unit {0}
IsMember (sees.Student v) = Unit {0}
IsMember _ = ⊥

abbrev pub IsIdleAct : Act → Type 0
IsIdleAct Nothing = Unit {0}
IsIdleAct (Render sheet) = Unit {0}
IsIdleAct _ = ⊥

abbrev pub IsIdleWish : World → Key → Wish → Type 0
IsIdleWish w code (Calls ask) = IsIdleAct (decision (view w code) ask).act
IsIdleWish w code (NoCall refusal) = Unit {0}

-- a request without effect: it shows, is refused, or asks for what holds already
abbrev pub IsIdle : World → Request → Type 0
IsIdle w r = IsIdleWish w r.code r.wish

-- the same keys, perhaps in another order
pub data Reordered : List Key → List Key → Type 0 where
  Empty : Reordered [] []
  Front : (k : Key) {ks ls : List Key} → Reordered ks ls → Reordered (k ∷ ks) (k ∷ ls)
  Turn : (k l : Key) (ks : List Key) → Reordered (k ∷ l ∷ ks) (l ∷ k ∷ ks)
  Chain : {ks ls ms : List Key} → Reordered ks ls → Reordered ls ms → Reordered ks ms

pub record SameStudent (s t : Student) : Type 0 where
  pub row : s.row ≡ t.row
  pub choice : Reordered s.choice t.choice
  pub placed : s.placed ≡ t.placed
  pub earlier_choice : Reordered s.earlier_choice t.earlier_choice
  pub earlier_placement : s.earlier_placement ≡ t.earlier_placement

pub record SameUpToListOrder (v w : World) : Type 0 where
  pub round : v.round ≡ w.round
  pub phase : v.phase ≡ w.phase
  pub office : v.office ≡ w.office
  pub lecturers : v.lecturers ≡ w.lecturers
  pub projects : v.projects ≡ w.projects
  pub students : AllZip SameStudent v.students w.students

pub data SameWish : Wish → Wish → Type 0 where
  Equal : (wish : Wish) → SameWish wish wish
  Sets : {ks ls : List Key} → Reordered ks ls
      → SameWish (Calls (AbstractCall.SetChoices ks)) (Calls (AbstractCall.SetChoices ls))

pub record SameRequest (q r : Request) : Type 0 where
  pub code : q.code ≡ r.code
  pub head : q.head ≡ r.head
  pub closes : q.closes ≡ r.closes
  pub wish : SameWish q.wish r.wish

-- a call whose reply contains a student's list
abbrev pub shows_own_list : Wish → Bool
shows_own_list (Calls AbstractCall.ShowChoices) = true
shows_own_list (Calls (AbstractCall.SetChoices list)) = true
shows_own_list _ = false

-- an accepted move to published, even if that is the phase already
abbrev pub moves_to_published : Wish → Answer → Bool
moves_to_published (Calls (AbstractCall.Move phase round)) answer = is_published phase && (answer.status == 200)
moves_to_published _ answer = false

abbrev pub Unless : Bool → Type 0 → Type 0
Unless true P = Unit {0}
Unless false P = P

-- what two runs tell is equal, except replies with a student's list, up to and including the first
-- move to published; the requests and the answers are those of one of them
abbrev pub AlikeUntilPublished : {T : Type 0} → List Request → List Answer → List T → List T → Type 0
AlikeUntilPublished (r ∷ rs) (a ∷ answers) (t ∷ told) (s ∷ said) =
    Unless (shows_own_list r.wish) (t ≡ s)
    × Unless (moves_to_published r.wish a) (AlikeUntilPublished rs answers told said)
AlikeUntilPublished _ _ _ _ = Unit {0}
