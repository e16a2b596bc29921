use Rattle.portal_run.proofs.Base.{subst, Output, IsAnswer, Says}
use Rattle.portal_run.proofs.Known.{said, said_some}
use Rattle.portal_run.proofs.Written.{said_bound}
use Rattle.portal_run.proofs.Base.{arith}
use Rattle.portal_answer.proofs.Statuses.{answer_status}
use Rattle.portal_run.proofs.commands.answer.Goals as goal

pub returns-in-Ok-answer_to : goal.returns-in-Ok-answer_to
returns-in-Ok-answer_to g c =
    let is : IsAnswer c.args.task c.in-Ok.bytes.items c.in-Ok-answer_to.told = rw c.deref.ensures.value at c.in-Ok-answer_to.ensures in
    let written : Says (record {
      text = c.told.inside.text.items;
      status = c.told.inside.status;
    }) c.say.result (g.W.Write.contents c.args.writer.now) (g.W.Write.contents c.say.new.writer) =
    rw c.deref-in-Ok-answer_to.ensures.value at c.say.ensures.says in
    let done : Says c.in-Ok-answer_to.told c.say.result (g.W.Write.contents c.args.writer.now) (g.W.Write.contents c.say.new.writer) =
    subst (λ (t : Output). Says t c.say.result (g.W.Write.contents c.args.writer.now) (g.W.Write.contents c.say.new.writer)) c.told.view_is
    written in
    let small = answer_status c.args.task c.in-Ok.bytes.items c.in-Ok-answer_to.told is in
    record {
      bound = said_bound _ _ _ _ done (omega (arith, small));
      answers = said c.args.task (g.R.Read.remaining c.args.reader.now) c.in-Ok.bytes.items _ _ c.say.result c.in-Ok-answer_to.told
          c.in-Ok.ensures.all is done;
      some = said_some c.args.task c.in-Ok.bytes.items _ _ c.say.result c.in-Ok-answer_to.told is done;
      takes = c.in-Ok.ensures.takes;
    }
