use Rattle.portal_tables.proofs.Base.{◌≡◌, ◌++◌, rules, [], Ok, map, refl, sym, ap, ap₂, subst, ◌∙◌, append-nil}
use Rattle.portal_tables.proofs.Base.{append_assoc, nil_from_length, take-append-drop, Does, GoesOn, Adds}
use Rattle.portal_tables.proofs.Runs.{does_none, does_both, does_failed, goes_nowhere}
use Rattle.portal_tables.proofs.Keeping.{adds_none, rows_run}
use Rattle.portal_tables.proofs.sql.insert.add_all.Goals as goal

pub runs-init : goal.runs-init
runs-init g c = record {
  before = [];
  cut = refl;
  does = does_none g.S.Store _ _ _ (goes_nowhere _ _ (adds_none (g.T.Target.tree c.args.table.now) _));
}

pub runs-preserved : goal.runs-preserved
runs-preserved g c =
    let was = c.runs.invariant in
    let run = c.split_at.result.0.now in
    record {
      before = was.before ++ run;
      cut = append_assoc was.before run c.split_at.result.1.now
          ∙ ap (λ l. was.before ++ l) (ap₂ (λ x y. x ++ y) c.split_at.ensures.front c.split_at.ensures.back ∙ take-append-drop _ _)
          ∙ was.cut;
      does = rows_run g.S.Store _ g.T.Target.values _ _ _ c.next_text-count.ensures.adds was.before run c.split_at.ensures.front_len _ _ _ _
          _ was.does c.in_ok-write_rows.ensures;
    }

pub returns : goal.returns
returns g c =
    let was = c.runs.invariant in
    let none : c.runs.rest.now ≡ [] = nil_from_length c.runs.rest.now (search rules) in
    let whole = sym (append-nil was.before) ∙ ap (λ l. was.before ++ l) (sym none) ∙ was.cut in
    subst (λ l. Does g.S.Store (GoesOn (Adds (g.T.Target.tree c.args.table.now) (map g.T.Target.cells l)))
    (Ok (tt {0})) c.args.tx.now c.runs.tx) whole was.does

pub returns-in_err-write_rows : goal.returns-in_err-write_rows
returns-in_err-write_rows g c = does_failed g.S.Store c.from_residual.result c.from_residual.ensures.0
    (does_both g.S.Store c.runs.invariant.does c.write_rows.ensures)
