use Rattle.portal_tables.proofs.Base.{◌≡◌, [], rules, refl, sym, ap, subst, ◌∙◌, Ok, Err, option_copied, Memory}
use Rattle.portal_tables.proofs.Base.{Advances, bound, given_begin, HasGiven, ShowsAs, ReadsEach}
use Rattle.portal_tables.proofs.InTurn.{clean_before}
use Rattle.portal_tables.proofs.Decoded.{stops_refused, stops_after, leaves_refused, leaves_stopped, leaves_way, begun, goes_on, broken}
use Rattle.portal_tables.proofs.Decoded.{refused_row, all_read, ended, one_more}
use Rattle.portal_tables.proofs.sql.run.query_each.Goals as goal

pub returns-in_err-rows : goal.returns-in_err-rows
returns-in_err-rows g c =
    let r = c.from_residual.result in
    broken g.S.Store g.T.FromCells.shown g.T.FromCells.is_fine c.args.sql.now
    (bound c.args.params.now) c.args.conn.now c.query.follows.lender-at-none r _ c.from_residual.ensures.1 (λ f gives. gives.1)
    (leaves_refused g.S.Store c.args.sql.now
    (bound c.args.params.now) c.args.conn.now c.query.follows.lender-at-none c.query.result c.in_err-rows.field-0.0 c.in_err-rows.was
    c.query.follows.holds-at-none r c.from_residual.ensures.0)
    (λ plain clean f gives its. stops_refused g.S.Store c.args.sql.now
    (bound c.args.params.now) c.args.conn.now c.query.follows.lender-at-none c.query.result c.in_err-rows.field-0.0 c.in_err-rows.was
    c.query.follows.holds-at-none (λ none. let short = gives.0.1 none in absurd (cc)) clean)

pub rows-init : goal.rows-init
rows-init g c =
    let it = c.in_ok-rows.ensures in
    record {
      same_reference = refl;
      under_way = begun g.S.Store c.args.sql.now
          (bound c.args.params.now) c.args.conn.now
          c.in_ok-rows.rows.conn.now {Given = ShowsAs g.T.FromCells.shown
          (HasGiven g.S.Store c.args.sql.now (bound c.args.params.now) c.in_ok-rows.rows.conn.now) c.new-all.result.items} it.begun it.mode
          it.survives (λ given. record { rows = []; shown = given; decoded = search rules });
    }

pub returns-in_err-advance : goal.returns-in_err-advance
returns-in_err-advance g c =
    let inv = c.rows.invariant in
    let moved = c.advance.ensures in
    let r = c.from_residual-in_err-advance.result in
    let last : c.conn-in_err-advance-1.given.0 ≡ c.advance.new.self.conn.now =
    c.conn-in_err-advance-1.given.1 (sym (moved.same_reference ∙ inv.same_reference ∙ c.in_ok-rows.ensures.same_reference))
    ∙ c.drop-rows.ensures in
    subst (λ h. ReadsEach g.S.Store g.T.FromCells.shown g.T.FromCells.is_fine c.args.sql.now (bound c.args.params.now) r c.args.conn.now h)
    (sym last)
    (broken g.S.Store g.T.FromCells.shown g.T.FromCells.is_fine c.args.sql.now
    (bound c.args.params.now) c.args.conn.now c.advance.new.self.conn.now r _ c.from_residual-in_err-advance.ensures.1
    (λ f gives. gives.1)
    (leaves_stopped g.S.Store c.args.sql.now c.args.conn.now c.rows.rows.conn.now inv.under_way c.advance.new.self.conn.now moved.mode
    moved.survives r c.from_residual-in_err-advance.ensures.0 _ c.in_err-advance.ensures.kept)
    (λ plain clean f gives its.
    let given = inv.under_way.given plain (clean_before _ _ _ moved.survives clean) in
    stops_after g.S.Store c.args.sql.now c.args.conn.now c.rows.rows.conn.now inv.under_way c.advance.new.self.conn.now moved.mode
    moved.survives (bound c.args.params.now) given.rows plain clean given.shown _
    (λ none. let short = gives.0.1 none in absurd (cc)) c.in_err-advance.ensures.err))

pub returns-in_default : goal.returns-in_default
returns-in_default g c =
    let inv = c.rows.invariant in
    let moved = c.advance.ensures in
    let new = c.advance.new.self.conn.now in
    let last : c.conn-in_default-1.given.0 ≡ new =
    c.conn-in_default-1.given.1 (sym (moved.same_reference ∙ inv.same_reference ∙ c.in_ok-rows.ensures.same_reference))
    ∙ c.drop-rows-in_default.ensures in
    let none = sym c.get.ensures ∙ ap option_copied c.in_default.is in
    subst (λ h. ReadsEach g.S.Store g.T.FromCells.shown g.T.FromCells.is_fine c.args.sql.now (bound c.args.params.now)
    (Ok c.rows.all) c.args.conn.now h) (sym last)
    (all_read g.S.Store g.T.FromCells.shown g.T.FromCells.is_fine c.args.sql.now (bound c.args.params.now) c.args.conn.now new c.rows.all
    (goes_on g.S.Store c.args.sql.now c.args.conn.now c.rows.rows.conn.now inv.under_way new moved.mode moved.survives
    c.in_ok-advance.ensures.same
    (λ plain clean same given. ended g.S.Store g.T.FromCells.shown c.args.sql.now
    (bound c.args.params.now) c.args.conn.now c.rows.rows.conn.now new c.rows.all.items given plain same
    (subst (Advances g.S.Store c.rows.rows.conn.now new) none (c.in_ok-advance.ensures.ok clean)))))

pub returns-in_err-from_cells : goal.returns-in_err-from_cells
returns-in_err-from_cells g c =
    let inv = c.rows.invariant in
    let moved = c.advance.ensures in
    let new = c.advance.new.self.conn.now in
    let row = c.in-Some.row.now in
    let last : c.conn-in_err-from_cells-1.given.0 ≡ new =
    c.conn-in_err-from_cells-1.given.1 (sym (moved.same_reference ∙ inv.same_reference ∙ c.in_ok-rows.ensures.same_reference))
    ∙ c.drop-rows-in_err-from_cells.ensures in
    let some = sym c.get.ensures ∙ ap option_copied c.in-Some.is in
    subst (λ h. ReadsEach g.S.Store g.T.FromCells.shown g.T.FromCells.is_fine c.args.sql.now
    (bound c.args.params.now) c.from_residual-in_err-from_cells.result c.args.conn.now h) (sym last)
    (refused_row g.S.Store g.T.FromCells.shown g.T.FromCells.is_fine c.args.sql.now
    (bound c.args.params.now) c.args.conn.now new c.from_residual-in_err-from_cells.result _ c.from_residual-in_err-from_cells.ensures.1
    row
    (λ damaged. c.in_err-from_cells.ensures.damaged (ap Err damaged)) (λ its. c.in_err-from_cells.ensures.store (ap Err its))
    (goes_on g.S.Store c.args.sql.now c.args.conn.now c.rows.rows.conn.now inv.under_way new moved.mode moved.survives
    c.in_ok-advance.ensures.same
    (λ plain clean same given. (
      given.rows,
      given_begin g.S.Store c.args.sql.now (bound c.args.params.now) new _
          (subst (Advances g.S.Store c.rows.rows.conn.now new) some (c.in_ok-advance.ensures.ok clean) c.args.sql.now
          (bound c.args.params.now) given.rows given.shown),
    ))))

pub returns-in_err-push : goal.returns-in_err-push
returns-in_err-push g c =
    let inv = c.rows.invariant in
    let moved = c.advance.ensures in
    let new = c.advance.new.self.conn.now in
    let r = c.from_residual-in_err-push.result in
    let last : c.conn-in_err-push-1.given.0 ≡ new =
    c.conn-in_err-push-1.given.1 (sym (moved.same_reference ∙ inv.same_reference ∙ c.in_ok-rows.ensures.same_reference))
    ∙ c.drop-rows-in_err-push.ensures in
    subst (λ h. ReadsEach g.S.Store g.T.FromCells.shown g.T.FromCells.is_fine c.args.sql.now (bound c.args.params.now) r c.args.conn.now h)
    (sym last)
    (broken g.S.Store g.T.FromCells.shown g.T.FromCells.is_fine c.args.sql.now
    (bound c.args.params.now) c.args.conn.now new r _ c.from_residual-in_err-push.ensures.1 (λ f is damaged. absurd (cc))
    (leaves_way g.S.Store c.args.sql.now c.args.conn.now new
    (goes_on g.S.Store c.args.sql.now c.args.conn.now c.rows.rows.conn.now inv.under_way new moved.mode moved.survives
    c.in_ok-advance.ensures.same (λ plain clean same given. given)) r) (λ plain clean f is its. absurd (cc)))

pub rows-preserved : goal.rows-preserved
rows-preserved g c =
    let inv = c.rows.invariant in
    let moved = c.advance.ensures in
    let new = c.advance.new.self.conn.now in
    let some = sym c.get.ensures ∙ ap option_copied c.in-Some.is in
    record {
      same_reference = moved.same_reference ∙ inv.same_reference;
      under_way = goes_on g.S.Store c.args.sql.now c.args.conn.now c.rows.rows.conn.now inv.under_way new moved.mode moved.survives
          c.in_ok-advance.ensures.same
          (λ plain clean same given. one_more g.S.Store g.T.FromCells.shown c.args.sql.now
          (bound c.args.params.now) c.args.conn.now c.rows.rows.conn.now new c.rows.all.items given c.in-Some.row.now
          (subst (Advances g.S.Store c.rows.rows.conn.now new) some (c.in_ok-advance.ensures.ok clean)) c.push.new.self.items
          (search rules));
    }

pub returns : goal.returns
returns g c =
    let inv = c.rows.invariant in
    let last : c.conn-2-1.given.0 ≡ c.rows.rows.conn.now =
    c.conn-2-1.given.1 (sym (inv.same_reference ∙ c.in_ok-rows.ensures.same_reference)) ∙ c.drop-rows-2.ensures in
    subst (λ h. ReadsEach g.S.Store g.T.FromCells.shown g.T.FromCells.is_fine c.args.sql.now (bound c.args.params.now)
    (Err Memory) c.args.conn.now h) (sym last)
    (broken g.S.Store g.T.FromCells.shown g.T.FromCells.is_fine c.args.sql.now
    (bound c.args.params.now) c.args.conn.now c.rows.rows.conn.now (Err Memory) (λ f. f ≡ Memory) refl (λ f is damaged. absurd (cc))
    (leaves_way g.S.Store c.args.sql.now c.args.conn.now c.rows.rows.conn.now inv.under_way (Err Memory))
    (λ plain clean f is its. absurd (cc)))
