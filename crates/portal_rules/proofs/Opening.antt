-- The round changes where the second opens, and nowhere else.
use Rattle.portal_rules.proofs.Base.{◌≡◌, cond, List, ◌∷◌, refl, sym, ◌∙◌, ap, subst, inl, inr, ◌⊎◌, Some}
use Rattle.portal_rules.proofs.Base.{AllByRecursion, Key, equals, World, first, SecondRound, changed, Choosing}
use Rattle.portal_rules.proofs.Base.{Published, First, Second, Caller, OfficeCaller, caller, caller_among}
use Rattle.portal_rules.proofs.Base.{lecturer_with, student_with, sight_of, view, office_sees, AbstractCall, phase_body}
use Rattle.portal_rules.proofs.Base.{Answer, Decision, decision, applies, opens, moves_in, Good, StepLeaves, Step}
use Rattle.portal_rules.proofs.Base.{Request, Calls, Serves, Run, OpensSecond, arith, OpensOnce}
use Rattle.portal_rules.proofs.Keys.{is_own}
use Rattle.portal_rules.proofs.Unseen.{is_office}
use Rattle.portal_rules.proofs.Opened.{first_back, opens_to}
use Rattle.portal_rules.proofs.Steps.{run_keeps}

module _ (w v : World) (code : Key) (reply : Answer) where
  -- of a decision: the round stays, or the second opens
  abbrev Turns : AbstractCall → Decision → Type 0
  Turns ask d = reply ≡ d.reply → StepLeaves w d.act v → (v.round ≡ w.round) ⊎ OpensSecond w code (Calls ask) reply v

  turns : (x : Caller) → caller w code ≡ x → (ask : AbstractCall) → Turns ask (decision (sight_of w x) ask)
  turns x equals ask =
      let office : x ≡ OfficeCaller → code ≡ w.office = λ e. sym (is_office w code (equals ∙ e)) in
      grind (arith, office)

pub step_turns : (w v : World) (code : Key) (ask : AbstractCall) (reply : Answer) → Step w code ask reply v
    → (v.round ≡ w.round) ⊎ OpensSecond w code (Calls ask) reply v
step_turns w v code ask reply s = turns w v code reply (caller w code) refl ask s.told s.left

-- a run

served_turns : (w v : World) (r : Request) (a : Answer) → Serves w r a v
    → (v.round ≡ w.round) ⊎ OpensSecond w r.code r.wish a v
served_turns w v r a s = grind (arith, step_turns w v r.code)

-- the second round lasts
lasts : (w : World) (asked : List Request) (told : List Answer) (after : List World) → w.round ≡ Second
    → Run w asked told after → AllByRecursion (λ u. u.round ≡ Second) after
lasts = run_keeps (λ u. u.round ≡ Second) step
  where
    step : (w v : World) (code : Key) (ask : AbstractCall) (reply : Answer) → w.round ≡ Second → Step w code ask reply v
        → v.round ≡ Second
    step w v code ask reply two s = elim (step_turns w v code ask reply s) [
      | inl same ↦ same
          ∙ two
      | inr o ↦ let none : First ≡ Second = sym o.first ∙ two in cc
    ]

pub run_turns : (w : World) (asked : List Request) (told : List Answer) (after : List World) → Run w asked told after
    → OpensOnce w asked told after
run_turns w (r ∷ rs) (a ∷ told) (v ∷ after) run = go (served_turns w v r a run.0) (run_turns v rs told after run.1)
  where
    go : (v.round ≡ w.round) ⊎ OpensSecond w r.code r.wish a v → OpensOnce v rs told after
        → OpensOnce w (r ∷ rs) (a ∷ told) (v ∷ after)
    go (inl same) rest = inl (same, rest)
    go (inr o) rest =
        let two : v.round ≡ Second = ap (λ x. x.round) (o.after ∙ opens_to w o.first o.published) in
        inr (o, (two, lasts v rs told after two run.1))
run_turns w asked told after run = grind arith

-- the request that opens it is answered so

opening : (w : World) → w.round ≡ First → w.phase ≡ Published
    → decision (view w w.office) (AbstractCall.Move Choosing (Some Second)) ≡ applies (phase_body Second Choosing) SecondRound
opening w one out =
    ap (λ b. decision (sight_of w (cond b OfficeCaller (caller_among (lecturer_with w w.office) (student_with w w.office))))
    (AbstractCall.Move Choosing (Some Second))) (is_own w.office)
    ∙ (λ i. moves_in (office_sees w) (one i) Second Choosing)
    ∙ λ i. opens (out i) Choosing

pub opens_so : (w v : World) (reply : Answer) → w.round ≡ First → w.phase ≡ Published
    → Step w w.office (AbstractCall.Move Choosing (Some Second)) reply v
    → OpensSecond w w.office (Calls (AbstractCall.Move Choosing (Some Second))) reply v
opens_so w v reply one out s =
    record {
      first = one;
      published = out;
      asked = (refl, refl);
      told = s.told ∙ ap (λ (d : Decision). d.reply) (opening w one out);
      after = subst (λ (d : Decision). StepLeaves w d.act v) (opening w one out) s.left;
    }

pub first_kept : (w : World) → Good w → w.round ≡ First → w.phase ≡ Published → first (changed w SecondRound) ≡ w
first_kept w g one out = ap first (opens_to w one out) ∙ first_back w g.sound one out
