use Rattle.portal_run.proofs.Base.{codes, success}
use Rattle.portal_file.specs.Jobs.{MakesTables}
use Rattle.portal_run.specs.Databases.{create_refusal, unless_room}
use Rattle.portal_run.proofs.Told.{done_said, kept_none, performed, same_none}
use Rattle.portal_run.proofs.init.make_over.Goals as goal

pub returns-in-Ok-clause-performs : goal.returns-in-Ok-clause-performs
returns-in-Ok-clause-performs g c =
    performed g.F.Databases.stands g.F.Databases.over c.args.files c.args.path.now unless_room (MakesTables c.args.office)
    (λ _. success (codes "made\n")) create_refusal c.say_done.result _ _ c.make.result c.outcome-done.result c.in-Ok.ensures
    (record {
      ok = c.outcome-done.ensures.ok;
      refused = c.outcome-done.ensures.refused;
      closed = c.outcome-done.ensures.closed;
      did = c.make.ensures;
      kept = kept_none _ c.make.result;
      same = same_none _ c.make.result;
      says = done_said _ _ _ _ c.outcome-done.result c.say_done.ensures.done c.say_done.ensures.refused;
    })
