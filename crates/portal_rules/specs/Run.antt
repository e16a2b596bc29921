-- Steps and runs, and the one request that changes the round: it opens the second.
use Rattle.portal_rules.specs.Base.{AllByRecursion, IsBest, Choosing, Published, First, Second}
use Rattle.std.specs.Prelude.{◌≡◌, ◌≢◌, ◌⊎◌, Bool, List, [], ◌∷◌, Some}
use Rattle.portal_rules.specs.Words.{Key}
use Rattle.portal_rules.specs.World.{World, changed, Placements, SecondRound}
use Rattle.portal_rules.specs.Good.{instance, matching_of, IsLecturer, IsProject, IsStudent}
use Rattle.portal_rules.specs.View.{view}
use Rattle.portal_rules.specs.Calls.{AbstractCall}
use Rattle.portal_rules.specs.Answer.{Answer, Act, Nothing, Apply, Publish, Render, decision, answer, Unavailable}
use Rattle.portal_rules.specs.Answer.{answered}
use Rattle.portal_rules.specs.Bodies.{phase_body}

-- the rows of an Add call have the forms of their roll
abbrev pub HasForm : AbstractCall → Type 0
HasForm (AbstractCall.AddLecturers rows) = AllByRecursion IsLecturer rows
HasForm (AbstractCall.AddProjects rows) = AllByRecursion IsProject rows
HasForm (AbstractCall.AddStudents rows) = AllByRecursion IsStudent rows
HasForm _ = Unit {0}

-- the world after an act; the published result is the student-optimal matching, which is unique
abbrev pub StepLeaves : World → Act → World → Type 0
StepLeaves old Nothing new = new ≡ old
StepLeaves old (Apply change) new = new ≡ changed old change
StepLeaves old Publish new =
    (pairs : List (Key × Key)) × (new ≡ changed old (Placements pairs)) × IsBest (instance old) (matching_of new)
StepLeaves old (Render sheet) new = new ≡ old

-- one call; its reply and its act depend only on what its caller sees
pub record Step (old : World) (code : Key) (ask : AbstractCall) (reply : Answer) (new : World) : Type 0 where
  pub form : HasForm ask
  pub told : reply ≡ answer (view old code) ask
  pub left : StepLeaves old (decision (view old code) ask).act new

-- what a request wants: a call, or this refusal of its route, method or body
pub data Wish : Type 0 where
  Calls : AbstractCall → Wish
  NoCall : Answer → Wish

-- a request; `head` says that its method is HEAD, `closes` that its reply closes the connection
pub record Request : Type 0 where
  pub code : Key
  pub head : Bool
  pub closes : Bool
  pub wish : Wish

abbrev pub unavailable : Answer
unavailable = record { status = 503; allow = []; body = Unavailable }

-- a reply without a fault of memory or the store
abbrev pub Answers : World → Request → Wish → Answer → World → Type 0
Answers old r (Calls ask) reply new = Step old r.code ask reply new
Answers old r (NoCall refusal) reply new = (reply ≡ refusal) × (new ≡ old)

-- a request has such a reply, or 503, which leaves the world as it was
abbrev pub Serves : World → Request → Answer → World → Type 0
Serves old r reply new = Answers old r r.wish reply new ⊎ (reply ≡ unavailable) × (new ≡ old)

-- requests, their replies, and the world after each
abbrev pub Run : World → List Request → List Answer → List World → Type 0
Run w [] [] [] = Unit {0}
Run w (r ∷ rs) (a ∷ answers) (v ∷ worlds) = Serves w r a v × Run v rs answers worlds
Run w _ _ _ = ⊥

-- the world at the end of a run
abbrev pub end_of : World → List World → World
end_of w [] = w
end_of w (v ∷ worlds) = end_of v worlds

-- no reply is 503
abbrev pub AllAnswered : List Answer → Type 0
AllAnswered answers = AllByRecursion (λ a. a ≢ unavailable) answers

-- the first round is published, and this request opens the second: the office's move that names it
pub record OpensSecond (w : World) (code : Key) (wish : Wish) (reply : Answer) (v : World) : Type 0 where
  pub first : w.round ≡ First
  pub published : w.phase ≡ Published
  pub asked : (code ≡ w.office) × (wish ≡ Calls (AbstractCall.Move Choosing (Some Second)))
  pub told : reply ≡ answered 200 (phase_body Second Choosing)
  pub after : v ≡ changed w SecondRound

-- each request of a run keeps the round, until one opens the second, which lasts to the end
abbrev pub OpensOnce : World → List Request → List Answer → List World → Type 0
OpensOnce w (r ∷ rs) (a ∷ told) (v ∷ after) =
    (v.round ≡ w.round) × OpensOnce v rs told after
    ⊎ OpensSecond w r.code r.wish a v × AllByRecursion (λ u. u.round ≡ Second) (v ∷ after)
OpensOnce w _ _ _ = Unit {0}
