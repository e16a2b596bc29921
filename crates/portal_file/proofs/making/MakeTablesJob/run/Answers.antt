use Rattle.std.proofs.Common.{◌≡◌, inl, refl, sym, subst, ◌∙◌}
use Rattle.std.proofs.lemmas.Bool.{both_ways}
use Rattle.sqlite.specs.Held.{state}
use Rattle.sqlite.specs.State.{HasCleanDisk}
use Rattle.portal_store.specs.declared.store.CreateFault.TheVariants.{Exists}
use Rattle.portal_rules.specs.Good.{Good}
use Rattle.portal_store.specs.World.{first_world}
use Rattle.portal_tables.proofs.InTurn.{clean_before}
use Rattle.portal_file.specs.Tables.{Current}
use Rattle.portal_file.specs.inner.Connected.{AllStand}
use Rattle.sqlite.specs.Tree.{Trees}
use Rattle.portal_file.specs.Jobs.{MayMake}
use Rattle.portal_file.proofs.Judged.{may_make, same_before}
use Rattle.portal_file.proofs.Made.{fresh_world, none_free, none_taken, shows_none}
use Rattle.portal_file.proofs.Served.{unserved}
use Rattle.portal_file.proofs.making.MakeTablesJob.run.Goals as goal

pub returns-in-Ok-create-clause-works : goal.returns-in-Ok-create-clause-works
returns-in-Ok-create-clause-works g c =
    let is = c.in-Ok-create.ensures.creates in
    let closes = c.close_tables.ensures.closes in
    let old = state g.S.Store c.args.conn in
    let new = state g.S.Store c.close_tables.result in
    let empty = sym c.schema.ensures.value ∙ c.is_empty.ensures.0 c.if-not-is_empty.false in
    record {
      disk = λ clean. clean_before _ _ _ is.makes.crash
          (subst (λ h. HasCleanDisk (state g.S.Store h)) closes.same clean);
      did = λ clean. record {
        serves = unserved old new c.outside_transaction.ensures.committed (g.met.S.Store.settled c.args.conn.store)
            (λ w stands db may. absurd (both_ways _ is.free (none_free g.S.Store c.args.conn w stands)));
        made =
            subst (λ office. Good (first_world office) × AllStand Current new.may_leave (λ w. w ≡ first_world office))
            c.in-Ok.ensures
            (fresh_world g.S.Store c.args.conn c.close_tables.result c.in-Ok-create.store c.in-Ok.office closes is
            empty clean);
        lasting = λ free db may. closes.left (is.makes.own.1 empty)
            (subst (λ h. HasCleanDisk (state g.S.Store h)) closes.same clean) db
            (subst (λ h. (state g.S.Store h).may_leave db) closes.same may);
        none = λ w shows. shows_none old w empty shows;
        judged = λ free. (λ exists. absurd (cc), λ other. absurd (other empty));
        exists = λ exists. absurd (cc);
        kept = tt;
      };
    }

pub returns-in-Err-clause-works : goal.returns-in-Err-clause-works
returns-in-Err-clause-works g c =
    let is = c.in-Err.ensures.refuses in
    let old = state g.S.Store c.args.conn in
    let new = state g.S.Store c.in-Err.field-0.connection in
    let empty = sym c.schema.ensures.value ∙ c.is_empty.ensures.0 c.if-not-is_empty.false in
    record {
      disk = clean_before old new _ is.back.crash;
      did = λ clean. record {
        serves = unserved old new c.outside_transaction.ensures.committed (g.met.S.Store.settled c.args.conn.store)
            (λ w stands db may. inl
            (subst (λ h. (state g.S.Store h).may_leave db)
            (is.untouched (is.exists.0 (none_free g.S.Store c.args.conn w stands))) may));
        made = tt;
        lasting = tt;
        none = tt;
        judged = λ free. (
          λ exists new_one. let named : c.in-Err.field-0.fault ≡ Exists = cc in
              none_taken c.args.conn.schema new_one (is.exists.1 named),
          λ other. absurd (other empty),
        );
        exists = λ exists new_one. let named : c.in-Err.field-0.fault ≡ Exists = cc in
            none_taken c.args.conn.schema new_one (is.exists.1 named);
        kept = λ free. subst
            (λ office. (db : Trees) → new.may_leave db → MayMake c.in-Err.field-0.fault office old.now db)
            c.in-Ok.ensures
            (may_make old c.outside_transaction.ensures.committed (g.met.S.Store.settled c.args.conn.store) free new clean
            c.in-Err.field-0.fault _ empty is.back.crash);
      };
    }

-- another schema than the empty one
pub returns-then-not-is_empty-clause-works : goal.returns-then-not-is_empty-clause-works
returns-then-not-is_empty-clause-works g c =
    let old = state g.S.Store c.args.conn in
    record {
      disk = λ clean. clean;
      did = λ clean. record {
        serves = unserved old old c.outside_transaction.ensures.committed (g.met.S.Store.settled c.args.conn.store)
            (λ w stands db may. inl may);
        made = tt;
        lasting = tt;
        none = tt;
        judged = λ free. (
          λ exists new. both_ways _ c.if-not-is_empty.true (c.is_empty.ensures.1 (c.schema.ensures.value ∙ new)),
          λ other. refl,
        );
        exists = λ exists new. both_ways _ c.if-not-is_empty.true (c.is_empty.ensures.1 (c.schema.ensures.value ∙ new));
        kept = λ free. same_before old c.outside_transaction.ensures.committed (g.met.S.Store.settled c.args.conn.store) free;
      };
    }

pub returns-in_default-clause-works : goal.returns-in_default-clause-works
returns-in_default-clause-works g c =
    let old = state g.S.Store c.args.conn in
    record {
      disk = λ clean. clean;
      did = λ clean. record {
        serves = unserved old old c.outside_transaction.ensures.committed (g.met.S.Store.settled c.args.conn.store)
            (λ w stands db may. inl may);
        made = tt;
        lasting = tt;
        none = tt;
        judged = λ free. (
          λ exists. absurd (cc),
          λ other. absurd (other (sym c.schema.ensures.value ∙ c.is_empty.ensures.0 c.if-not-is_empty.false)),
        );
        exists = λ exists. absurd (cc);
        kept = λ free db may. inl
            (same_before old c.outside_transaction.ensures.committed (g.met.S.Store.settled c.args.conn.store) free db may);
      };
    }
