use Rattle.portal_store.proofs.Base.{[], ◌≡◌, ap, Err, Database, HasVersion, IfErr-weaker, IsTrue, clean_before, looks_by}
use Rattle.portal_store.proofs.Base.{inl, inr, looks_then, on_ok_weaker, state}
use Rattle.portal_store.proofs.Asked.{told_before}
use Rattle.portal_store.proofs.Explained.{explains_office, explains_tables, handed, office_so, version_so}
use Rattle.portal_store.specs.declared.store.OpenFault.TheVariants.{Damaged}
use Rattle.portal_store.proofs.opening.checks.see_first.Goals as goal

pub returns-clause-looks : goal.returns-clause-looks
returns-clause-looks g c = looks_then _ _ _ c.see_tables.ensures.looks (looks_by c.see_office.result c.see_office.ensures.reads)

pub returns-clause-suits : goal.returns-clause-suits
returns-clause-suits g c settled clean =
    let old = state g.S.Store c.args.conn.now in
    let mid = state g.S.Store c.see_tables.new.conn in
    let new = state g.S.Store c.see_office.new.conn in
    let early = clean_before mid new _ c.see_office.ensures.reads.crash clean in
    let looks = looks_then old mid new c.see_tables.ensures.looks (looks_by c.see_office.result c.see_office.ensures.reads) in
    let passes = c.in_ok-see_tables.ensures.passes settled early in
    on_ok_weaker c.see_office.result
    (λ shows. record { passes = passes; shows = version_so old new settled looks clean c.args.version shows; passes_later = inr tt })
    (c.see_office.ensures.shows clean)

pub returns-clause-version : goal.returns-clause-version
returns-clause-version g c settled first clean =
    told_before c.see_office.result _ _ _ (λ (db : Database). HasVersion c.args.version db.trees) settled c.see_tables.ensures.looks
    c.see_office.ensures.reads clean first (λ on. tt) (λ seen it. it)

pub returns-in_err-see_tables-clause-explained : goal.returns-in_err-see_tables-clause-explained
returns-in_err-see_tables-clause-explained g c settled clean =
    let f = c.in_err-see_tables in
    handed _ _ c.from_residual.ensures.1
    (explains_tables (Err f.field-0.0) (IsTrue c.args.own) c.args.version []
    (state g.S.Store c.args.conn.now) f.ensures.damaged f.ensures.version (λ is. inl (f.ensures.refused settled clean is)))

pub returns-in_err-see_tables-clause-judged : goal.returns-in_err-see_tables-clause-judged
returns-in_err-see_tables-clause-judged g c =
    let f = c.in_err-see_tables in
    handed _ (λ fault. fault ≡ Damaged → ⊥) c.from_residual.ensures.1 (λ is. f.ensures.damaged (ap Err is))

pub returns-clause-explained : goal.returns-clause-explained
returns-clause-explained g c settled clean =
    let old = state g.S.Store c.args.conn.now in
    let mid = state g.S.Store c.see_tables.new.conn in
    let early = clean_before mid (state g.S.Store c.see_office.new.conn) _ c.see_office.ensures.reads.crash clean in
    let passes = c.in_ok-see_tables.ensures.passes settled early in
    IfErr-weaker c.see_office.result _ _
    (λ f told. explains_office f (IsTrue c.args.own) c.args.version old passes
    (office_so old mid settled c.see_tables.ensures.looks early f c.args.version told))
    (c.see_office.ensures.told clean)

pub returns-clause-live : goal.returns-clause-live
returns-clause-live g c clean = on_ok_weaker c.see_office.result (λ same. same.0.is_open) (c.see_office.ensures.reads.same clean tt)
