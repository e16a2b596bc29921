use Rattle.portal_tables.proofs.InTurn.{unsaid}
use Rattle.portal_store.proofs.Base.{◌∷◌, ListsBy, [], columns, every, on_ok_weaker, portal_tree, reads_more, state}
use Rattle.portal_store.proofs.Base.{subst, sym, MatchResult-from_both}
use Rattle.portal_store.specs.Crash.{ShowsOffice}
use Rattle.portal_store.proofs.Asked.{blames_none, office_refuted, office_version, reads_said}
use Rattle.portal_store.proofs.Explained.{converted, no_damage, tells_office, tells_said, version_still}
use Rattle.portal_store.proofs.opening.checks.see_office.Goals as goal

pub returns-clause-reads : goal.returns-clause-reads
returns-clause-reads g c =
    let db = (state g.S.Store c.args.conn.now).now.trees in
    let judged = c.judge_office.ensures in
    reads_more (unsaid _ _) c.in_ok-rows.ensures.reads
    (λ own any shown.
    let lists = subst (λ rows. ListsBy (0 ∷ []) every (columns (0 ∷ 2 ∷ 3 ∷ 4 ∷ [])) (db portal_tree) rows)
    (sym c.deref.ensures.value) shown in
    MatchResult-from_both c.judge_office.result _ _
    (on_ok_weaker c.judge_office.result (λ is. office_version c.args.version db c.deref.result.now is.0 is.1 lists is.2 is.3)
    judged.version)
    (office_refuted c.args.version (Unit {0}) db c.deref.result.now c.judge_office.result lists judged.none.0 judged.other judged.judged))

pub returns-in_err-rows-clause-reads : goal.returns-in_err-rows-clause-reads
returns-in_err-rows-clause-reads g c = reads_said c.from_residual.ensures.1 c.in_err-rows.ensures.reads
    (λ own any told f so. blames_none f _ _ _ so.0)

pub returns-clause-shows : goal.returns-clause-shows
returns-clause-shows g c clean =
    let old = state g.S.Store c.args.conn.now in
    let new = state g.S.Store c.read.new.conn in
    let same = c.in_ok-rows.ensures.reads.same clean tt in
    let shown = subst (ShowsOffice old) (sym c.deref.ensures.value) (c.in_ok-rows.ensures.answers clean) in
    on_ok_weaker c.judge_office.result
    (λ is. version_still c.args.version old new same.0.now_is same.0.is_open
    (record { row = is.0; rest = is.1; shown = subst (ShowsOffice old) is.2 shown; version_is = is.3 }))
    c.judge_office.ensures.version

pub returns-clause-told : goal.returns-clause-told
returns-clause-told g c clean =
    let old = state g.S.Store c.args.conn.now in
    let judged = c.judge_office.ensures in
    let shown = subst (ShowsOffice old) (sym c.deref.ensures.value) (c.in_ok-rows.ensures.answers clean) in
    tells_office c.judge_office.result c.args.version c.deref.result.now old shown judged.none.0 judged.other judged.judged

pub returns-in_err-rows-clause-told : goal.returns-in_err-rows-clause-told
returns-in_err-rows-clause-told g c clean = converted c.from_residual.result c.from_residual.ensures.1 (λ f so. tells_said f _ _ so.0)

pub returns-in_err-rows-clause-judged : goal.returns-in_err-rows-clause-judged
returns-in_err-rows-clause-judged g c = converted c.from_residual.result c.from_residual.ensures.1 (λ f so. no_damage f so.0)
