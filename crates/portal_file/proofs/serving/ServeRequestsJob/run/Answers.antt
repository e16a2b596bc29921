use Rattle.std.proofs.Common.{None, [], refl, rules, sym, subst}
use Rattle.portal_store.specs.Calls.{OpensStore}
use Rattle.portal_file.specs.inner.Connected.{ClosesAs}
use Rattle.portal_file.proofs.Served.{disk_before, opened_tables, serves}
use Rattle.portal_file.proofs.serving.ServeRequestsJob.run.Goals as goal

pub returns-in-Ok-clause-works : goal.returns-in-Ok-clause-works
returns-in-Ok-clause-works g c =
    let opens = subst (OpensStore g.S.Store c.args.conn) (sym c.new-desk.ensures.keeper) c.in-Ok.ensures.opens in
    let closes = subst (λ s. ClosesAs g.S.Store s c.close_tables.result) c.into_keeper.ensures.same
    c.close_tables.ensures.closes in
    let moved = c.serve.ensures.moves in
    record {
      disk = disk_before g.S.Store c.args.conn c.close_tables.result c.new-desk.result.keeper c.serve.new.desk.keeper
          c.run_good.ensures opens closes moved.1.breaks;
      did = λ clean. record {
        serves = (
          moved.0,
          serves g.S.Store c.args.conn c.close_tables.result c.new-desk.result.keeper c.serve.new.desk.keeper
              c.run_good.ensures opens closes (record { exchanges = moved.0; stream = None }) tt moved.1 clean,
          moved.2,
        );
        opens = opened_tables g.S.Store c.args.conn c.close_tables.result c.new-desk.result.keeper c.serve.new.desk.keeper
            c.run_good.ensures opens closes tt c.in-Ok.ensures.live moved.1.breaks clean;
      };
    }

pub returns-in-Err-clause-works : goal.returns-in-Err-clause-works
returns-in-Err-clause-works g c =
    let refused = c.in-Err.ensures.refused in
    record {
      disk = refused.disk;
      did = λ clean. let is = refused.did clean in
          record {
            serves = ([], is.serves, refl);
            opens = record { judged = is.judged; stood = tt; refused = is.denies; lasting = tt; kept = is.kept };
          };
    }

pub returns-in-Ok-clause-becomes : goal.returns-in-Ok-clause-becomes
returns-in-Ok-clause-becomes g c =
    let moved = c.serve.ensures.moves in (search rules, (moved.0, moved.2))
