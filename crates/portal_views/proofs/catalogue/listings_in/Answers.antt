use Rattle.portal_views.proofs.Base.{◌∙◌, Second, ap, map-id, offered, offered_in, reads_handed, reads_more, reads_open}
use Rattle.portal_views.proofs.Base.{reads_self, reads_short}
use Rattle.portal_views.proofs.catalogue.listings_in.Goals as goal

pub returns-in_ok-listings_of-in-First : goal.returns-in_ok-listings_of-in-First
returns-in_ok-listings_of-in-First g c =
    rw c.in-First.is (reads_self tt (λ own any. c.in_ok-listings_of-in-First.ensures
    ∙ ap (λ ls. offered ls c.args.projects.now) (map-id c.args.lecturers.now)))

pub returns-in_ok-listings_left-in-Second : goal.returns-in_ok-listings_left-in-Second
returns-in_ok-listings_left-in-Second g c =
    rw c.in-Second.is (reads_more tt (reads_open c.in_ok-pairs-in-Second.ensures)
    (λ own any told. c.in_ok-listings_left-in-Second.ensures
    ∙ ap (offered_in Second c.args.lecturers.now c.args.projects.now) (c.deref.ensures.value ∙ told)))

pub returns-in_err-pairs-in-Second : goal.returns-in_err-pairs-in-Second
returns-in_err-pairs-in-Second g c = rw c.in-Second.is
    (reads_handed c.from_residual-in_err-pairs-in-Second.ensures.1 (reads_open c.in_err-pairs-in-Second.ensures)
    (λ own any no damaged fine. no damaged (fine.0, fine.1.0, fine.1.1)))

pub returns-in_err-listings_left-in-Second : goal.returns-in_err-listings_left-in-Second
returns-in_err-listings_left-in-Second g c =
    reads_short c.from_residual-in_err-listings_left-in-Second.ensures.1 (reads_open c.in_ok-pairs-in-Second.ensures)
    (λ own any told damaged. absurd (cc))
