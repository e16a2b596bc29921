use Rattle.std.proofs.Common.{sym, subst}
use Rattle.sqlite.specs.Held.{state}
use Rattle.sqlite.specs.State.{HasCleanDisk}
use Rattle.portal_tables.proofs.InTurn.{clean_before}
use Rattle.portal_file.specs.Tables.{idle}
use Rattle.portal_file.proofs.Judged.{barred_still, may_upgrade, stood_first, upgraded_still, upgrades_late}
use Rattle.portal_file.proofs.Made.{current_taken, same_world, upgrade_leaves}
use Rattle.portal_file.proofs.Served.{IsTurnOf, denied_first, unserved}
use Rattle.portal_file.proofs.upgrading.UpgradeTablesJob.run.Goals as goal

pub returns-in-Ok-clause-works : goal.returns-in-Ok-clause-works
returns-in-Ok-clause-works g c =
    let is = c.in-Ok.ensures.upgrades in
    let closes = c.close_tables.ensures.closes in
    let old = state g.S.Store c.args.conn in
    let new = state g.S.Store c.in-Ok.store.conn in
    record {
      disk = λ clean. clean_before old new _ is.makes.crash
          (subst (λ h. HasCleanDisk (state g.S.Store h)) closes.same clean);
      did = λ clean. record {
        serves = subst (λ h. IsTurnOf old (state g.S.Store h) idle) (sym closes.same)
            (unserved old new c.outside_transaction.ensures.committed (g.met.S.Store.settled c.args.conn.store)
            (upgrade_leaves old new is.makes.crash is.left
            (subst (λ h. HasCleanDisk (state g.S.Store h)) closes.same clean)));
        upgraded = same_world g.S.Store c.args.conn c.close_tables.result c.in-Ok.store closes is clean;
        lasting = λ free db may first. closes.left (is.makes.own.1 first)
            (subst (λ h. HasCleanDisk (state g.S.Store h)) closes.same clean) db
            (subst (λ h. (state g.S.Store h).may_leave db) closes.same may);
        none = λ w shows. current_taken g.S.Store c.args.conn w is.free shows;
        judged = λ free. upgraded_still old free
            (is.judged (subst (λ h. HasCleanDisk (state g.S.Store h)) closes.same clean));
        stood = λ free. stood_first old c.outside_transaction.ensures.live free.is_open
            (is.judged (subst (λ h. HasCleanDisk (state g.S.Store h)) closes.same clean));
        refused = tt;
        kept = tt;
      };
    }

pub returns-in-Err-clause-works : goal.returns-in-Err-clause-works
returns-in-Err-clause-works g c =
    let is = c.in-Err.ensures.refuses in
    let old = state g.S.Store c.args.conn in
    let new = state g.S.Store c.in-Err.field-0.connection in
    record {
      disk = clean_before old new _ is.back.crash;
      did = λ clean. record {
        serves = unserved old new c.outside_transaction.ensures.committed (g.met.S.Store.settled c.args.conn.store)
            (upgrade_leaves old new (upgrades_late old new c.in-Err.field-0.fault is.back.crash) is.left clean);
        upgraded = tt;
        lasting = tt;
        none = tt;
        judged = λ free. barred_still old free c.in-Err.field-0.fault (is.judged clean);
        stood = tt;
        refused = denied_first g.S.Store c.args.conn c.in-Err.field-0.connection c.in-Err.field-0.fault is clean;
        kept = λ free. may_upgrade old c.outside_transaction.ensures.committed (g.met.S.Store.settled c.args.conn.store) free new clean
            c.in-Err.field-0.fault is.back.crash;
      };
    }
