use Rattle.std.proofs.Common.{refl, sym, subst}
use Rattle.portal_store.specs.Calls.{OpensStore}
use Rattle.portal_file.specs.Tables.{idle}
use Rattle.portal_file.specs.inner.Connected.{ClosesAs}
use Rattle.portal_file.proofs.Served.{disk_before, opened_tables, serves_stream}
use Rattle.portal_file.proofs.piping.PipeStreamJob.run.Goals as goal

pub returns-in-Ok-clause-works : goal.returns-in-Ok-clause-works
returns-in-Ok-clause-works g c =
    let opens = subst (OpensStore g.S.Store c.args.conn) (sym c.new-desk.ensures.keeper) c.in-Ok.ensures.opens in
    let closes = subst (λ s. ClosesAs g.S.Store s c.close_tables.result) c.into_keeper.ensures.same
    c.close_tables.ensures.closes in
    let did = c.pipe-ended.ensures.serves in
    record {
      disk = disk_before g.S.Store c.args.conn c.close_tables.result c.new-desk.result.keeper
          c.pipe-ended.new.desk.keeper c.run_good.ensures opens closes did.worked.moves.1.breaks;
      did = λ clean. record {
        serves = serves_stream g.S.Store c.args.conn c.close_tables.result c.new-desk.result.keeper
            c.pipe-ended.new.desk.keeper c.run_good.ensures opens closes
            c.pipe-ended.result c.pipe-ended.new.desk.failed _ _ _ _ did.worked.moves did.served clean;
        opens = opened_tables g.S.Store c.args.conn c.close_tables.result c.new-desk.result.keeper
            c.pipe-ended.new.desk.keeper c.run_good.ensures opens closes
            c.pipe-ended.result c.in-Ok.ensures.live did.worked.moves.1.breaks clean;
      };
    }

pub returns-in-Err-clause-works : goal.returns-in-Err-clause-works
returns-in-Err-clause-works g c =
    let refused = c.in-Err.ensures.refused in
    record {
      disk = refused.disk;
      did = λ clean. let is = refused.did clean in
          record {
            serves = (idle, is.serves, (refl, refl, refl));
            opens = record { judged = is.judged; stood = tt; refused = is.denies; lasting = tt; kept = is.kept };
          };
    }
