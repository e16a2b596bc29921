use Rattle.std.proofs.Common.{inl, inr}
use Rattle.sqlite.specs.Held.{state}
use Rattle.sqlite.specs.State.{State, HasCleanDisk, Survives}
use Rattle.sqlite.specs.Tree.{Trees}
use Rattle.portal_tables.proofs.InTurn.{clean_before}
use Rattle.portal_file.proofs.Judged.{refused_still, same_by}
use Rattle.portal_file.proofs.Served.{denied, unserved}
use Rattle.portal_file.proofs.tables.open_tables.Goals as goal

-- a stop leaves what one before the open left
left_before : (old new : State) → Survives old new (λ _. ⊥) → HasCleanDisk new → (db : Trees) → new.may_leave db
    → old.may_leave db
left_before old new survives clean db may =
    elim (survives.crash clean db may) [ inl was ↦ was | inr never ↦ absurd never ]

pub returns-in-Err-clause-refused : goal.returns-in-Err-clause-refused
returns-in-Err-clause-refused g c =
    let refuses = c.in-Err.ensures.refuses in
    let old = state g.S.Store c.args.conn in
    let new = state g.S.Store c.in-Err.field-0.connection in
    record {
      disk = clean_before old new _ refuses.back.crash;
      did = λ clean. record {
        serves = unserved old new c.outside_transaction.ensures.committed (g.met.S.Store.settled c.args.conn.store)
            (λ w stands db may. inl (left_before old new refuses.back.crash clean db may));
        judged = λ free. refused_still old free c.in-Err.field-0.fault (refuses.judged clean);
        denies = denied g.S.Store c.args.conn c.in-Err.field-0.connection c.in-Err.field-0.fault refuses clean;
        kept = λ free. same_by old c.outside_transaction.ensures.committed (g.met.S.Store.settled c.args.conn.store) free new clean
            refuses.back.crash;
      };
    }
