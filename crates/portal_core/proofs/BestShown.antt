-- What is published is the best for the students.
use Rattle.portal_rules.proofs.Base.{◌≡◌, ◌⊎◌, inl, inr, Bool, true, false, List, refl, sym, ◌∙◌, ap, subst}
use Rattle.portal_rules.proofs.Base.{AllByRecursion, IsBest, Key, World, is_published, is_second, first, changed}
use Rattle.portal_rules.proofs.Base.{instance, matching_of, Caller, caller, sight_of, AbstractCall, Answer, Decision}
use Rattle.portal_rules.proofs.Base.{decision, Good, StepLeaves, Step, Request, Calls, Run, OpensSecond, arith}
use Rattle.portal_rules.proofs.Base.{Placements}
use Rattle.portal_core.specs.Honest.{HasBest, ShowsBest}
use Rattle.portal_rules.proofs.Kept.{instance_placed}
use Rattle.portal_rules.proofs.Steps.{run_keeps, step_good}
use Rattle.portal_rules.proofs.Opened.{first_back, opens_to, first_stays}
use Rattle.portal_rules.proofs.Opening.{step_turns}

module _ (w v : World) where
  -- nothing changed, or nothing is published, or what is published is the best
  abbrev Outcome : Type 0
  Outcome = (v ≡ w) ⊎ ((is_published v.phase ≡ false) ⊎ IsBest (instance v) (matching_of v))

  abbrev Leads : AbstractCall → Decision → Type 0
  Leads ask d = StepLeaves w d.act v → Outcome

  outcome : (x : Caller) (ask : AbstractCall) → Leads ask (decision (sight_of w x) ask)
  outcome x ask =
      let best : (pairs : List (Key × Key)) → v ≡ changed w (Placements pairs) → IsBest (instance w) (matching_of v)
      → IsBest (instance v) (matching_of v)
      = λ pairs e. subst (λ i. IsBest i (matching_of v)) (sym (ap instance e ∙ instance_placed w pairs)) in
      grind (arith, best)

step_outcome : (w v : World) (code : Key) (ask : AbstractCall) (reply : Answer) → Step w code ask reply v → Outcome w v
step_outcome w v code ask reply s = outcome w v (caller w code) ask s.left

-- A STEP THAT PUBLISHES HAS THE BEST RESULT
pub step_best : (w v : World) (code : Key) (ask : AbstractCall) (reply : Answer) → Good w → is_published w.phase ≡ false
    → Step w code ask reply v → is_published v.phase ≡ true → HasBest v
step_best w v code ask reply good closed_w s out =
    record { good = step_good w v code ask reply good s; published = out; best = by_outcome (step_outcome w v code ask reply s) }
  where
    by_outcome : Outcome w v → IsBest (instance v) (matching_of v)
    by_outcome o = grind (arith, closed_w, out)

-- and what is best stays
step_shows : (w v : World) (code : Key) (ask : AbstractCall) (reply : Answer) → ShowsBest w → Step w code ask reply v
    → ShowsBest v
step_shows w v code ask reply g s = record {
  good = step_good w v code ask reply g.good s;
  now = now (step_outcome w v code ask reply s);
  before = before (is_second w.round) refl;
}
  where
    now : Outcome w v → is_published v.phase ≡ true → IsBest (instance v) (matching_of v)
    now o out = grind (arith, g.now)

    before : (b : Bool) → is_second w.round ≡ b → is_second v.round ≡ true
        → IsBest (instance (first v)) (matching_of (first v))
    before true two e = subst (λ x. IsBest (instance x) (matching_of x)) (sym (first_stays w v code ask reply two s).1) (g.before two)
    before false one e = by_turn (step_turns w v code ask reply s)
      where
        by_turn : (v.round ≡ w.round) ⊎ OpensSecond w code (Calls ask) reply v
            → IsBest (instance (first v)) (matching_of (first v))
        by_turn (inl same) = let none : is_second v.round ≡ false = ap is_second same ∙ one in absurd (cc)
        by_turn (inr o) =
            let back : first v ≡ w = ap first (o.after ∙ opens_to w o.first o.published) ∙ first_back w g.good.sound o.first o.published in
            subst (λ x. IsBest (instance x) (matching_of x)) (sym back) (g.now (ap is_published o.published))

pub run_shows : (w : World) (asked : List Request) (told : List Answer) (after : List World) → ShowsBest w
    → Run w asked told after → AllByRecursion ShowsBest after
run_shows = run_keeps ShowsBest step_shows

pub starts : (w : World) → Good w → is_second w.round ≡ false → is_published w.phase ≡ false → ShowsBest w
starts w good one closed_w = record { good = good; now = λ out. absurd (cc); before = λ two. absurd (cc) }
