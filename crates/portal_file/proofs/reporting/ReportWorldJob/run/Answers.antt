use Rattle.portal_file.proofs.Base.{if_ok_on}
use Rattle.portal_file.proofs.Served.{disk_before, opened_tables, reported, serves_none}
use Rattle.portal_file.proofs.reporting.ReportWorldJob.run.Goals as goal

pub returns-in-Ok-clause-works : goal.returns-in-Ok-clause-works
returns-in-Ok-clause-works g c =
    let did = c.report_of-told.ensures in
    record {
      disk = disk_before g.S.Store c.args.conn c.close_tables.result c.in-Ok.store c.report_of-told.new.store
          c.run_good.ensures c.in-Ok.ensures.opens c.close_tables.ensures.closes did.uses.breaks;
      did = λ clean. record {
        serves = serves_none g.S.Store c.args.conn c.close_tables.result c.in-Ok.store c.report_of-told.new.store
            c.run_good.ensures c.in-Ok.ensures.opens c.close_tables.ensures.closes did.uses clean;
        text = if_ok_on c.report_of-told.result _ _ _
            (λ text lasts is. reported g.S.Store c.args.conn c.close_tables.result c.in-Ok.store
            c.report_of-told.new.store c.run_good.ensures c.in-Ok.ensures.opens c.close_tables.ensures.closes
            lasts text.items is clean)
            did.uses.lasts did.text;
        opens = opened_tables g.S.Store c.args.conn c.close_tables.result c.in-Ok.store c.report_of-told.new.store
            c.run_good.ensures c.in-Ok.ensures.opens c.close_tables.ensures.closes
            c.report_of-told.result c.in-Ok.ensures.live did.uses.breaks clean;
      };
    }

pub returns-in-Err-clause-works : goal.returns-in-Err-clause-works
returns-in-Err-clause-works g c =
    let refused = c.in-Err.ensures.refused in
    record {
      disk = refused.disk;
      did = λ clean. let is = refused.did clean in
          record {
            serves = is.serves;
            text = tt;
            opens = record { judged = is.judged; stood = tt; refused = is.denies; lasting = tt; kept = is.kept };
          };
    }
