use Rattle.portal_store.proofs.Readable.{has_first_pairs, has_offers}
use Rattle.portal_store.proofs.Base.{◌∙◌, reads_first, reads_handed, reads_more, reads_open, reads_short, rules, state}
use Rattle.portal_store.proofs.CatalogueLeft.{catalogue_told}
use Rattle.portal_store.proofs.reading.queries.shared_catalogue.Goals as goal

pub returns-in_err-shared : goal.returns-in_err-shared
returns-in_err-shared g c = reads_handed c.from_residual-in_err-shared.ensures.1 (reads_open (reads_first c.in_err-shared.ensures))
    (λ own right told. (
      right.1,
      λ damaged good. told damaged (
        has_offers c.args.round (state g.S.Store c.args.conn.now).now right.0 good,
        has_first_pairs c.args.round (state g.S.Store c.args.conn.now).now right.0 good c.args.round,
      ),
    ))

pub returns-in_err-clone-2 : goal.returns-in_err-clone-2
returns-in_err-clone-2 g c = reads_short c.from_residual-in_err-clone-2.ensures.1 (reads_open (reads_first c.in_ok-shared.ensures))
    (λ own right told. (right.1, λ damaged good. absurd (cc)))

pub returns : goal.returns
returns g c =
    reads_more tt (reads_open (reads_first c.in_ok-shared.ensures))
    (λ own right told. let is = told ∙ catalogue_told c.args.round (state g.S.Store c.args.conn.now).now.trees in
    (record { offers = search (rules, is); office = right.1.office }, is))
