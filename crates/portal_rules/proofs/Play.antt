-- What is decided in a good world may be done.
use Rattle.portal_rules.proofs.Base.{◌≡◌, refl, sym, subst, Key, World, Change, changed, Caller, caller, sight_of, view}
use Rattle.portal_rules.proofs.Base.{AbstractCall, Decision, Apply, Publish, decision, answer, Good, StepLeaves}
use Rattle.portal_rules.proofs.Base.{HasForm, arith, CanPublish}
use Rattle.portal_rules.proofs.Kept.{all_ranked}
use Rattle.portal_rules.proofs.Steps.{step_good}

-- a change that is decided leaves a good world
pub can_apply : (w : World) (code : Key) (ask : AbstractCall) (change : Change) → Good w → HasForm ask
    → (decision (view w code) ask).act ≡ Apply change → Good (changed w change)
can_apply w code ask change g form e =
    step_good w (changed w change) code ask (answer (view w code) ask) g
    (record { form = form; told = refl; left = subst (λ a. StepLeaves w a (changed w change)) (sym e) refl })

-- publishing is decided where nobody is still to rank
module _ (w : World) where
  abbrev IfPublished : AbstractCall → Decision → Type 0
  IfPublished ask d = d.act ≡ Publish → CanPublish w

  called : (x : Caller) (ask : AbstractCall) → IfPublished ask (decision (sight_of w x) ask)
  called x ask = grind (arith, all_ranked w)

pub can_publish : (w : World) (code : Key) (ask : AbstractCall) → (decision (view w code) ask).act ≡ Publish
    → CanPublish w
can_publish w code ask e = called w (caller w code) ask e
