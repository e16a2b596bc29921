use Rattle.portal_views.proofs.Base.{◌∙◌, ◌≡◌, Global, Err, Listing, Vec, ap, applicants_of_projects, lecturer_shown}
use Rattle.portal_views.proofs.Base.{own_keys_shown, placed_of_projects, reads_handed, reads_more, reads_of, reads_then}
use Rattle.portal_views.proofs.Base.{reads_then_of, state, subst, sym, HasOwnKeys}
use Rattle.portal_views.proofs.Turns.{reads_rejected}
use Rattle.portal_views.proofs.lecturer.lecturer_view.Goals as goal

pub returns-in_err-own : goal.returns-in_err-own
returns-in_err-own g c =
    reads_handed c.from_residual.ensures.1 c.in_err-own.ensures
    (λ own tables no damaged fine. no damaged
    (subst (λ k. HasOwnKeys k (state g.S.Store c.args.conn.now).now) (sym c.bytes_at.ensures) fine.projects))

pub returns-in_err-ranking : goal.returns-in_err-ranking
returns-in_err-ranking g c =
    reads_handed c.from_residual-in_err-ranking.ensures.1
    (reads_then_of (λ own on tables told. tables.sound) c.in_ok-own.ensures c.in_err-ranking.ensures)
    (λ own tables told damaged fine. told.1 damaged fine.ranking)

pub returns-in_err-told : goal.returns-in_err-told
returns-in_err-told g c =
    reads_handed c.from_residual-in_err-told.ensures.1
    (reads_then c.in_ok-own.ensures (reads_then
    (reads_of (λ own. own) (λ own tables. tables.sound) c.in_ok-ranking.ensures) c.in_err-told.ensures))
    (λ own tables told damaged fine. told.1.1 damaged fine.students)

pub returns-in_err-person_at : goal.returns-in_err-person_at
returns-in_err-person_at g c =
    reads_rejected c.in_err-person_at.field-0.0
    (λ its. c.in_err-person_at.ensures.store (ap Err its)) c.from_residual-in_err-person_at.ensures.1
    (reads_then c.in_ok-own.ensures (reads_then
    (reads_of (λ own. own) (λ own tables. tables.sound) c.in_ok-ranking.ensures) c.in_ok-told.ensures))
    (λ own tables told damaged fine. c.in_err-person_at.ensures.damaged (ap Err damaged) fine.person)

pub returns-in_err-capacity_at : goal.returns-in_err-capacity_at
returns-in_err-capacity_at g c =
    reads_rejected c.in_err-capacity_at.field-0.0
    (λ its. c.in_err-capacity_at.ensures.store (ap Err its)) c.from_residual-in_err-capacity_at.ensures.1
    (reads_then c.in_ok-own.ensures (reads_then
    (reads_of (λ own. own) (λ own tables. tables.sound) c.in_ok-ranking.ensures) c.in_ok-told.ensures))
    (λ own tables told damaged fine. c.in_err-capacity_at.ensures.damaged (ap Err damaged) fine.low fine.high)

pub returns : goal.returns
returns g c =
    let db = (state g.S.Store c.args.conn.now).now.trees in
    let round = c.args.round in
    let phase = c.args.phase in
    let row = c.args.row.now in
    let catalogue = c.args.catalogue.value.items in
    let from = lecturer_shown round db phase row catalogue in
    let offers : c.deref-2.result.now ≡ catalogue = c.deref-2.ensures.value ∙ ap (λ (v : Vec Listing Global). v.items) c.deref.ensures in
    reads_more tt
    (reads_then c.in_ok-own.ensures (reads_then
    (reads_of (λ own. own) (λ own tables. tables.sound) c.in_ok-ranking.ensures) c.in_ok-told.ensures))
    (λ own tables told offered.
    let keys = c.deref-3.ensures.value ∙ told.0 (λ is. offers ∙ offered is) ∙ ap (own_keys_shown db) c.bytes_at.ensures in
    λ i. record from {
      me = c.in_ok-person_at.ensures.ok i;
      capacity = c.in_ok-capacity_at.ensures.ok i;
      applicants = (told.1.1.applicants ∙ ap (applicants_of_projects round db phase) keys) i;
      ranking = told.1.0 i;
      placed = (told.1.1.placed ∙ ap (placed_of_projects round db phase) keys) i;
    })
