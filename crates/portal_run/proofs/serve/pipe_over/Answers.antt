use Rattle.portal_run.proofs.Base.{Err, Ok, ap}
use Rattle.portal_file.specs.Jobs.{Devices}
use Rattle.portal_run.proofs.Told.{kept_by, piped, same_by}
use Rattle.portal_run.proofs.serve.pipe_over.Goals as goal

pub returns-in-Ok-clause-performs : goal.returns-in-Ok-clause-performs
returns-in-Ok-clause-performs g c =
    let ends : Devices = record {
      remaining = g.R.Read.remaining c.args.reader.now;
      left = g.R.Read.remaining c.pipe.new.reader;
      before = g.W.Write.contents c.args.writer.now;
      after = g.W.Write.contents c.say_ended.new.writer;
    } in
    piped g.F.Databases.stands g.F.Databases.over c.args.files c.args.path.now g.W.Write.contents ends c.say_ended.result c.pipe.new.writer
    c.pipe.result (Ok c.in-Ok.ended) c.in_default.ensures
    (record {
      ok = c.in-Ok.ensures.ok;
      refused = c.in-Ok.ensures.refused;
      closed = c.in-Ok.ensures.closed;
      did = c.pipe.ensures.pipes;
      kept = kept_by _ _ c.args.writer.now c.pipe.new.writer c.pipe.result c.pipe.ensures.refused (ap g.W.Write.contents);
      same = same_by _ _ c.args.writer.now c.pipe.new.writer c.pipe.result c.pipe.ensures.closed (ap g.W.Write.contents);
      says = c.say_ended.ensures.says;
    })

pub returns-in-Err-outcome-clause-performs : goal.returns-in-Err-outcome-clause-performs
returns-in-Err-outcome-clause-performs g c =
    let ends : Devices = record {
      remaining = g.R.Read.remaining c.args.reader.now;
      left = g.R.Read.remaining c.pipe.new.reader;
      before = g.W.Write.contents c.args.writer.now;
      after = g.W.Write.contents c.refuse-in-Err-outcome.new.writer;
    } in
    piped g.F.Databases.stands g.F.Databases.over c.args.files c.args.path.now g.W.Write.contents ends c.refuse-in-Err-outcome.result
    c.pipe.new.writer
    c.pipe.result (Err c.in-Err-outcome.why) c.in_default.ensures
    (record {
      ok = c.in-Err-outcome.ensures.ok;
      refused = c.in-Err-outcome.ensures.refused;
      closed = c.in-Err-outcome.ensures.closed;
      did = c.pipe.ensures.pipes;
      kept = kept_by _ _ c.args.writer.now c.pipe.new.writer c.pipe.result c.pipe.ensures.refused (ap g.W.Write.contents);
      same = same_by _ _ c.args.writer.now c.pipe.new.writer c.pipe.result c.pipe.ensures.closed (ap g.W.Write.contents);
      says = c.refuse-in-Err-outcome.ensures.says;
    })
