-- From a published first round a run reaches that world, or a second round that opened from it.
use Rattle.portal_rules.proofs.Base.{has, student_keys, ◌≡◌, ◌⊎◌, inl, inr, true, false, List, refl, sym, ◌∙◌, ap}
use Rattle.portal_rules.proofs.Base.{subst, AllByRecursion, Key, World, is_second, first, SecondRound, changed}
use Rattle.portal_rules.proofs.Base.{StudentSees, Caller, caller, sight_of, view, AbstractCall}
use Rattle.portal_rules.proofs.Base.{Answer, Decision, decision, Good, StepLeaves, Step, Request, Run, arith}
use Rattle.portal_core.specs.Honest.{DifferInLists, OneGainsNothing, HasBest, DifferInOneList, IsNoWorse}
use Rattle.portal_rules.specs.declared.view.View.TheVariants as sees
use Rattle.portal_rules.proofs.Steps.{run_keeps, step_good}
use Rattle.portal_rules.proofs.Opened.{opens_to, first_stays}
use Rattle.portal_rules.proofs.Opening.{first_kept}
use Rattle.portal_rules.proofs.AllLaws.{all_weaker}
use Rattle.portal_core.proofs.OverGroups.{honest_over_both, no_group_gains_over_both}
use Rattle.portal_rules.specs.declared.phase.Phase.TheVariants.{Published}
use Rattle.portal_rules.specs.declared.phase.Round.TheVariants.{First}

module _ (w u : World) (out : w.phase ≡ Published) where
  -- nothing changed, or the second round opened
  abbrev Outcome : Type 0
  Outcome = (u ≡ w) ⊎ (u ≡ changed w SecondRound)

  abbrev Leads : AbstractCall → Decision → Type 0
  Leads ask d = StepLeaves w d.act u → Outcome

  outcome : (x : Caller) (ask : AbstractCall) → Leads ask (decision (sight_of w x) ask)
  outcome x ask = grind (arith, out)

module _ (v : World) (one : v.round ≡ First) (out : v.phase ≡ Published) where
  -- a good world: that one, or of a second round before which it stood
  abbrev Reached : World → Type 0
  Reached u = Good u × ((u ≡ v) ⊎ ((is_second u.round ≡ true) × (first u ≡ v)))

  opened_there : (w u : World) → Good w → w ≡ v → u ≡ changed w SecondRound → (is_second u.round ≡ true) × (first u ≡ v)
  opened_there w u good is opens =
      let one_w : w.round ≡ First = ap (λ (x : World). x.round) is ∙ one in
      let out_w : w.phase ≡ Published = ap (λ (x : World). x.phase) is ∙ out in
      (ap (λ (x : World). is_second x.round) (opens ∙ opens_to w one_w out_w), ap first opens ∙ (first_kept w good one_w out_w ∙ is))

  step_reaches : (w u : World) (code : Key) (ask : AbstractCall) (reply : Answer) → Reached w → Step w code ask reply u
      → Reached u
  step_reaches w u code ask reply (good, inl is) s = (
    step_good w u code ask reply good s,
    elim (outcome w u (ap (λ (x : World). x.phase) is ∙ out) (caller w code) ask s.left) [
      | inl same ↦ inl (same ∙ is)
      | inr opens ↦ inr (opened_there w u good is opens)
    ],
  )
  step_reaches w u code ask reply (good, inr (two, is)) s =
      let stays = first_stays w u code ask reply two s in
      (step_good w u code ask reply good s, inr (ap is_second stays.0 ∙ two, stays.1 ∙ is))

-- NO LIST GAINS IN A SECOND ROUND THAT A RUN REACHES
pub honest_over_runs : (w v : World) (code : Key) (a : StudentSees) (asked : List Request) (told : List Answer) (after : List World)
    → HasBest w → Good v → v.round ≡ First → v.phase ≡ Published
    → DifferInOneList w v a.me.key → view w code ≡ sees.Student a → Run v asked told after
    → AllByRecursion (λ u. (b : StudentSees) → is_second u.round ≡ true → view u code ≡ sees.Student b
    → IsNoWorse a.choices a.result b.result) after
honest_over_runs w v code a asked told after best good one out differ sees_a run =
    all_weaker _ _ no_worse after (run_keeps (Reached v one out) (step_reaches v one out) v asked told after (good, inl refl) run)
  where
    no_worse : (u : World) → Reached v one out u → (b : StudentSees) → is_second u.round ≡ true
        → view u code ≡ sees.Student b → IsNoWorse a.choices a.result b.result
    no_worse u (good_u, inl is) b two sees_b = let no : is_second u.round ≡ false = ap (λ (x : World). is_second x.round) is
        ∙ ap is_second one in absurd (cc)
    no_worse u (good_u, inr (two_u, is)) b two sees_b =
        honest_over_both w u code a b best good_u two (subst (λ x. DifferInOneList w x a.me.key) (sym is) differ) sees_a sees_b

-- NOR DOES A GROUP
pub no_group_over_runs : (w v : World) (group : List Key) (key : Key) (asked : List Request) (told : List Answer) (after : List World)
    → HasBest w → Good v → v.round ≡ First → v.phase ≡ Published
    → DifferInLists w v (λ k. has group k ≡ true) → has group key ≡ true → has (student_keys w) key ≡ true → Run v asked told after
    → AllByRecursion (λ u. is_second u.round ≡ true → OneGainsNothing w u group) after
no_group_over_runs w v group key asked told after best good one out differ in_group there run =
    all_weaker _ _ no_worse after (run_keeps (Reached v one out) (step_reaches v one out) v asked told after (good, inl refl) run)
  where
    no_worse : (u : World) → Reached v one out u → is_second u.round ≡ true → OneGainsNothing w u group
    no_worse u (good_u, inl is) two = let no : is_second u.round ≡ false = ap (λ (x : World). is_second x.round) is
        ∙ ap is_second one in absurd (cc)
    no_worse u (good_u, inr (two_u, is)) two =
        no_group_gains_over_both w u group key best good_u two
        (subst (λ x. DifferInLists w x (λ k. has group k ≡ true)) (sym is) differ) in_group there
