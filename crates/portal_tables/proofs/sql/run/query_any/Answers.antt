use Rattle.portal_tables.proofs.Base.{◌≡◌, sym, subst, ◌∙◌, Ok, Advances, bound, FindsRow, IsOtherError, []}
use Rattle.portal_tables.proofs.InTurn.{clean_before, IsErrAnd-IfErr}
use Rattle.portal_tables.proofs.Decoded.{stops_refused, stops_after, leaves_refused, leaves_stopped, begun, row_found, not_found}
use Rattle.portal_tables.proofs.sql.run.query_any.Goals as goal

pub returns-in_err-rows : goal.returns-in_err-rows
returns-in_err-rows g c =
    let r = c.from_residual.result in
    not_found g.S.Store c.args.sql.now (bound c.args.params.now) c.args.conn.now c.args.conn.now c.query.follows.lender-at-none r
    c.from_residual.ensures.0
    (leaves_refused g.S.Store c.args.sql.now
    (bound c.args.params.now) c.args.conn.now c.query.follows.lender-at-none c.query.result c.in_err-rows.field-0.0 c.in_err-rows.was
    c.query.follows.holds-at-none r c.from_residual.ensures.0)
    (λ plain clean. IsErrAnd-IfErr r _ _ c.from_residual.ensures.1 (λ e is other. stops_refused g.S.Store c.args.sql.now
    (bound c.args.params.now) c.args.conn.now c.query.follows.lender-at-none c.query.result c.in_err-rows.field-0.0 c.in_err-rows.was
    c.query.follows.holds-at-none (subst IsOtherError is other) clean))

pub returns-in_err-advance : goal.returns-in_err-advance
returns-in_err-advance g c =
    let old = c.args.conn.now in
    let mid = c.in_ok-rows.rows.conn.now in
    let new = c.advance.new.self.conn.now in
    let it = c.in_ok-rows.ensures in
    let moved = c.advance.ensures in
    let r = c.from_residual-in_err-advance.result in
    let last : c.conn-in_err-advance-1.given.0 ≡ new = c.conn-in_err-advance-1.given.1 (sym (moved.same_reference ∙ it.same_reference))
    ∙ c.drop-rows.ensures in
    let way = begun g.S.Store c.args.sql.now (bound c.args.params.now) old mid it.begun it.mode it.survives (λ given. given) in
    subst (λ h. FindsRow g.S.Store c.args.sql.now (bound c.args.params.now) r old h) (sym last)
    (not_found g.S.Store c.args.sql.now (bound c.args.params.now) old mid new r c.from_residual-in_err-advance.ensures.0
    (leaves_stopped g.S.Store c.args.sql.now old mid way new moved.mode moved.survives r c.from_residual-in_err-advance.ensures.0 _
    c.in_err-advance.ensures.kept)
    (λ plain clean. IsErrAnd-IfErr r _ _ c.from_residual-in_err-advance.ensures.1
    (λ e is other. stops_after g.S.Store c.args.sql.now old mid
    way new moved.mode moved.survives (bound c.args.params.now) [] plain clean (way.given plain (clean_before _ _ _ moved.survives clean)) _
    (subst IsOtherError is other) c.in_err-advance.ensures.err)))

pub returns : goal.returns
returns g c =
    let old = c.args.conn.now in
    let mid = c.in_ok-rows.rows.conn.now in
    let new = c.advance.new.self.conn.now in
    let it = c.in_ok-rows.ensures in
    let moved = c.advance.ensures in
    let last : c.conn-2-1.given.0 ≡ new = c.conn-2-1.given.1 (sym (moved.same_reference ∙ it.same_reference)) ∙ c.drop-rows-2.ensures in
    let way = begun g.S.Store c.args.sql.now (bound c.args.params.now) old mid it.begun it.mode it.survives (λ given. given) in
    subst (λ h. FindsRow g.S.Store c.args.sql.now (bound c.args.params.now) (Ok c.is_some.result) old h) (sym last)
    (row_found g.S.Store c.args.sql.now (bound c.args.params.now) old mid new c.get.result c.is_some.result c.is_some.ensures way moved.mode
    moved.survives c.in_ok-advance.ensures.same
    (λ clean. subst (Advances g.S.Store mid new) (sym c.get.ensures) (c.in_ok-advance.ensures.ok clean)))
