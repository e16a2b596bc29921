use Rattle.portal_run.proofs.Base.{Err, Ok}
use Rattle.std.proofs.Common.{rules}
use Rattle.portal_run.specs.Databases.{Listens}
use Rattle.portal_run.proofs.Told.{kept_by, name_stays, on_call, same_by, served}
use Rattle.portal_run.proofs.serve.serve_over.Goals as goal

pub returns-in-Ok-clause-performs : goal.returns-in-Ok-clause-performs
returns-in-Ok-clause-performs g c =
    let name = name_stays _ _ _ _ _ c.serve.result c.serve.ensures.told c.serve.ensures.refused c.serve.ensures.closed
    (λ e j. (e j).writer.ghost_name) in
    served g.F.Databases.stands g.F.Databases.over c.args.files c.args.path.now c.args.port c.args.connections g.W.Write.contents
    (g.W.Write.contents c.args.writer.now) c.serve.new.service.writer.now _ _ c.serve.new.service.ended c.say_end.result c.serve.result
    (Ok c.in-Ok.field-0) c.in_default.ensures c.say_end.ensures.says (search (rules, name))
    (record {
      ok = c.in-Ok.ensures.ok;
      refused = c.in-Ok.ensures.refused;
      closed = c.in-Ok.ensures.closed;
      did = c.serve.ensures.serves;
      listens = on_call
          {Q = Listens c.args.port c.args.connections (g.W.Write.contents c.args.writer.now)
          (g.W.Write.contents c.serve.new.service.writer.now) c.serve.new.service.ended}
          c.serve.result c.serve.ensures.told (λ h. h.1.1);
      kept = kept_by _ _ _ _ c.serve.result c.serve.ensures.refused (λ e j. g.W.Write.contents (e j).writer.now);
      same = same_by _ _ _ _ c.serve.result c.serve.ensures.closed (λ e j. g.W.Write.contents (e j).writer.now);
    })

pub returns-in-Err-done-clause-performs : goal.returns-in-Err-done-clause-performs
returns-in-Err-done-clause-performs g c =
    let name = name_stays _ _ _ _ _ c.serve.result c.serve.ensures.told c.serve.ensures.refused c.serve.ensures.closed
    (λ e j. (e j).writer.ghost_name) in
    served g.F.Databases.stands g.F.Databases.over c.args.files c.args.path.now c.args.port c.args.connections g.W.Write.contents
    (g.W.Write.contents c.args.writer.now) c.serve.new.service.writer.now _ _ c.serve.new.service.ended c.refuse-in-Err-done.result
    c.serve.result
    (Err c.in-Err-done.why) c.in_default.ensures c.refuse-in-Err-done.ensures.says (search (rules, name))
    (record {
      ok = c.in-Err-done.ensures.ok;
      refused = c.in-Err-done.ensures.refused;
      closed = c.in-Err-done.ensures.closed;
      did = c.serve.ensures.serves;
      listens = on_call
          {Q = Listens c.args.port c.args.connections (g.W.Write.contents c.args.writer.now)
          (g.W.Write.contents c.serve.new.service.writer.now) c.serve.new.service.ended}
          c.serve.result c.serve.ensures.told (λ h. h.1.1);
      kept = kept_by _ _ _ _ c.serve.result c.serve.ensures.refused (λ e j. g.W.Write.contents (e j).writer.now);
      same = same_by _ _ _ _ c.serve.result c.serve.ensures.closed (λ e j. g.W.Write.contents (e j).writer.now);
    })
