use Rattle.portal_store.proofs.Readable.{readable_by_office}
use Rattle.portal_store.proofs.Base.{◌∙◌, OfficeSight, ap, reads_handed, reads_more, reads_of, reads_open, reads_short}
use Rattle.portal_store.proofs.Base.{reads_then_of, state, sym}
use Rattle.portal_store.proofs.OfficeSeen.{has_whole_lists, office_told}
use Rattle.portal_store.proofs.reading.queries.show_office.Goals as goal

pub returns-in_err-view : goal.returns-in_err-view
returns-in_err-view g c =
    reads_handed c.from_residual-in_err-view.ensures.1
    (reads_then_of (λ own on right told. has_whole_lists c.args.round _ right.0.0)
    (reads_of (λ own. own) (λ own right. right.0) c.in_ok-catalogue.ensures) (reads_open c.in_err-view.ensures))
    (λ own right told. (
      told.0.0,
      λ damaged good. told.1 damaged (readable_by_office c.args.round (state g.S.Store c.args.conn.now).now right.0.0 good),
    ))

pub returns-in_err-copy-2 : goal.returns-in_err-copy-2
returns-in_err-copy-2 g c =
    reads_short c.from_residual-in_err-copy-2.ensures.1
    (reads_then_of (λ own on right told. has_whole_lists c.args.round _ right.0.0)
    (reads_of (λ own. own) (λ own right. right.0) c.in_ok-catalogue.ensures) (reads_open c.in_ok-view.ensures))
    (λ own right told. (told.0.0, λ damaged good. absurd (cc)))

pub returns : goal.returns
returns g c =
    let office = c.args.office in
    reads_more tt (reads_then_of (λ own on right told. has_whole_lists c.args.round _ right.0.0)
    (reads_of (λ own. own) (λ own right. right.0) c.in_ok-catalogue.ensures) (reads_open c.in_ok-view.ensures))
    (λ own right told.
    let now = right.1 in
    let is = told.1 ∙ office_told c.args.round
    (state g.S.Store c.args.conn.now).now.trees office.phase office.code c.in_ok-catalogue.catalogue.value.items (sym now.phase_is)
    (sym now.code_is) told.0.1 in
    (record { offers = told.0.0.offers; office = c.in_ok-copy-2.ensures ∙ is }, ap OfficeSight is))
