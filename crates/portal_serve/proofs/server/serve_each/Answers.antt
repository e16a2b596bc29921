use Rattle.portal_serve.proofs.Base.{◌∙◌, ◌+◌, EndsBy, DeskState, rules, subst, sym}
use Rattle.portal_serve.proofs.Outcomes.{Passed, passed_few, passed_more, passed_none, told_failed, told_over}
use Rattle.portal_serve.proofs.Turns.{turned, turns_nobody, turns_untold}
use Rattle.portal_serve.specs.Hall.{ServesHall}
use Rattle.portal_serve.specs.declared.server.Ended.{Ended}
use Rattle.portal_desk.proofs.Moving.{worked_then, worked_none}
use Rattle.portal_serve.proofs.server.serve_each.Goals as goal

pub returns-then-outcome-clause-told : goal.returns-then-outcome-clause-told
returns-then-outcome-clause-told g c =
    told_failed _ _ _ _ _ _ _ c.in-Some.outcome c.loop-accepted.accepted c.loop-accepted.faults c.loop-accepted.invariant.told
    c.in-Some.ensures.serves c.if-outcome.true
    c.hall_of-then-outcome.result c.hall_of-then-outcome.ensures.accepted
    (c.hall_of-then-outcome.ensures.faults ∙ c.faults_with-faults.ensures) c.hall_of-then-outcome.ensures.ended

pub loop-accepted-preserved : goal.loop-accepted-preserved
loop-accepted-preserved g c =
    let one = turned _ _ _ _ _ c.in-Some.outcome c.in-Some.ensures.serves in
    let more : Passed _ _ _ _ _ (c.loop-accepted.accepted + 1) c.faults_with-faults.result =
    subst (Passed _ _ _ _ _ (c.loop-accepted.accepted + 1)) (sym c.faults_with-faults.ensures)
    (passed_more _ _ _ _ _ _ _ c.in-Some.outcome c.loop-accepted.accepted c.loop-accepted.faults c.loop-accepted.invariant.told
    c.in-Some.ensures.serves c.if-outcome.false) in
    record {
      worked = worked_then _ _ _ _ c.loop-accepted.invariant.worked one.worked;
      few = passed_few _ _ _ _ _ _ _ more;
      told = more;
      shut = search rules;
      calm = search rules;
    }

pub loop-accepted-init : goal.loop-accepted-init
loop-accepted-init g c = record {
  worked = worked_none _ _;
  few = search rules;
  told = passed_none _ _ _;
  shut = search rules;
  calm = search rules;
}

pub returns-then-outcome-clause-serves : goal.returns-then-outcome-clause-serves
returns-then-outcome-clause-serves g c =
    let one = turned _ _ _ _ _ c.in-Some.outcome c.in-Some.ensures.serves in
    record {
      worked = worked_then _ _ _ _ c.loop-accepted.invariant.worked one.worked;
      faults = search rules;
      accepted = search rules;
      full = search rules;
      store = search rules;
      calm = search rules;
      shut = search rules;
    }

pub returns-in_default-clause-told : goal.returns-in_default-clause-told
returns-in_default-clause-told g c =
    told_over _ _ _ _ _ _ _ _ _ c.loop-accepted.invariant.told
    (turns_untold _ _ _ _ _ c.serve_next.result c.serve_next.ensures.serves c.in_default.is) c.hall_of.result c.hall_of.ensures.accepted
    c.hall_of.ensures.faults
    (λ es stand. subst (λ (e : Ended). EndsBy e es) (sym c.hall_of.ensures.ended) stand)

pub returns-in_default-clause-serves : goal.returns-in_default-clause-serves
returns-in_default-clause-serves g c =
    subst (λ (k : DeskState g.row.K.Denot). ServesHall g.K.Keeper.state c.hall_of.result c.args.most c.args.desk.now k)
    (sym (turns_nobody _ _ _ _ _ (turns_untold _ _ _ _ _ c.serve_next.result c.serve_next.ensures.serves c.in_default.is))) (record {
      worked = c.loop-accepted.invariant.worked;
      faults = search rules;
      accepted = search rules;
      full = search rules;
      store = search rules;
      calm = search rules;
      shut = search rules;
    })
