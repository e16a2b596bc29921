use Rattle.portal_views.proofs.Base.{◌∙◌, Global, Listing, Vec, ap, ap₂, first_pairs, offered_in, reads_handed}
use Rattle.portal_views.proofs.Base.{reads_more, reads_short, reads_then, state}
use Rattle.portal_views.proofs.catalogue.catalogue_in.Goals as goal

pub returns-in_err-listings : goal.returns-in_err-listings
returns-in_err-listings g c =
    reads_handed c.from_residual-in_err-listings.ensures.1 (reads_then c.in_ok-offers.ensures c.in_err-listings.ensures)
    (λ own any told damaged fine. told.1 damaged (fine.0.sound, fine.1))

pub returns-in_err-new : goal.returns-in_err-new
returns-in_err-new g c = reads_short c.from_residual-in_err-new.ensures.1 (reads_then c.in_ok-offers.ensures c.in_ok-listings.ensures)
    (λ own any told damaged. absurd (cc))

pub returns : goal.returns
returns g c =
    let pairs = first_pairs (state g.S.Store c.args.conn.now).now.trees in
    reads_more tt (reads_then c.in_ok-offers.ensures c.in_ok-listings.ensures)
    (λ own any told. ap (λ (v : Vec Listing Global). v.items) c.in_ok-new.ensures.ok ∙ told.1
    ∙ ap₂ (λ ls ps. offered_in c.args.round ls ps pairs) (c.deref.ensures.value ∙ told.0.0) (c.deref-2.ensures.value ∙ told.0.1))
