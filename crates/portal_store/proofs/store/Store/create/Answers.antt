use Rattle.portal_store.proofs.Base.{IsTrue, Survives, rules, sym, ap, subst, ◌∙◌, IsAfter, Creates, clean_if_open}
use Rattle.portal_store.proofs.Base.{has_names, is_code, state}
use Rattle.portal_tables.specs.declared.sql.names.Names.TheVariants.{All}
use Rattle.portal_store.specs.Calls.{CreatesStore}
use Rattle.portal_store.proofs.Calls.{created, not_created, untouched}
use Rattle.portal_store.proofs.First.{first_kept}
use Rattle.portal_store.proofs.store.Store.create.Goals as goal

pub invariant_of-result : goal.invariant_of-result
invariant_of-result g c =
    let new = c.create_portal.new.conn in
    let own = c.is_empty-own in
    let did = c.in_default.ensures in
    let shut = clean_if_open _ _ (g.met.S.Store.shut_if_dirty new.store) in
    record {
      kept = first_kept g.S.Store c.as_bytes.result.now own.result c.args.conn new c.create_portal.ensures.idle
          (λ mine. sym c.schema.ensures.value ∙ own.ensures.0 mine) shut did.ok did.durable;
      shown = λ on. c.nothing.ensures _;
      entered = λ on. tt;
    }

pub returns-clause-creates : goal.returns-clause-creates
returns-clause-creates g c =
    let new = c.create_portal.new.conn in
    let own = c.is_empty-own in
    let did = c.in_default.ensures in
    let value = c.schema.ensures.value in
    let code = c.as_bytes.ensures in
    let free = ap (has_names All) (sym c.schema-2.ensures.value) ∙ sym c.is_there.ensures ∙ c.if-is_there.false in
    let shut = clean_if_open _ _ (g.met.S.Store.shut_if_dirty new.store) in
    subst (λ office. CreatesStore g.S.Store office c.args.conn (record { conn = new; own = own.result; faults = 0 })) code.bytes
    (created g.S.Store own.result c.args.conn new shut (g.met.S.Store.settled new.store) c.as_bytes.result.now
    (subst (λ k. IsTrue (is_code k)) (sym code.bytes) code.form)
    (λ mine. sym value ∙ own.ensures.0 mine, λ none. own.ensures.1 (value ∙ none)) c.create_portal.ensures.idle did.ok did.durable
    free c.create_portal.ensures.crash)

pub returns-then-is_there-clause-refuses : goal.returns-then-is_there-clause-refuses
returns-then-is_there-clause-refuses g c =
    let taken = ap (has_names All) (sym c.schema-2.ensures.value) ∙ sym c.is_there.ensures ∙ c.if-is_there.true in
    record {
      back = untouched g.S.Store _ c.args.conn c.requires.idle;
      exists = (λ _. search rules, λ _. taken);
      untouched = λ _. search rules;
    }

pub returns-in-Err-clause-refuses : goal.returns-in-Err-clause-refuses
returns-in-Err-clause-refuses g c =
    let free = ap (has_names All) (sym c.schema-2.ensures.value) ∙ sym c.is_there.ensures ∙ c.if-is_there.false in
    let back = untouched g.S.Store _ c.args.conn c.requires.idle in
    not_created g.S.Store c.args.office _ c.args.conn c.args.conn back free c.create_fault_of.ensures.exists

pub returns-in-Err-create_portal-clause-refuses : goal.returns-in-Err-create_portal-clause-refuses
returns-in-Err-create_portal-clause-refuses g c =
    let old = state g.S.Store c.args.conn in
    let new = c.create_portal.new.conn in
    let free = ap (has_names All) (sym c.schema-2.ensures.value) ∙ sym c.is_there.ensures ∙ c.if-is_there.false in
    not_created g.S.Store c.args.office _ c.args.conn new
    (record {
      idle = c.create_portal.ensures.idle;
      stays = c.in-Err-create_portal.ensures.err;
      crash = subst (λ office. Survives old (state g.S.Store new) (IsAfter (Creates office) old)) c.as_bytes.ensures.bytes
          c.create_portal.ensures.crash;
    })
    free (search rules)
