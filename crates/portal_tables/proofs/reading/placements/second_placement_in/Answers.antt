use Rattle.portal_tables.proofs.Base.{◌∙◌, ap, arith, IfOk-weaker, length, length-map, shown_name, state}
use Rattle.portal_tables.proofs.InTurn.{reads_of, reads_more, judged, reads_handed, not_stores}
use Rattle.portal_tables.proofs.SecondRows.{place_found, place_fine}
use Rattle.portal_tables.proofs.reading.placements.second_placement_in.Goals as goal

pub returns : goal.returns
returns g c =
    let now = (state g.S.Store c.args.conn.now).now in
    let student = c.args.student.now in
    let r = c.at_most_one.result in
    reads_more (not_stores r c.at_most_one.ensures.store) (reads_of (λ own. own) (λ own sound. tt) c.in_ok-names.ensures.reads)
    (λ own sound told.
    judged r _ _ (IfOk-weaker r _ _ (λ p is. place_found now own sound student told.rows told.shown p (is ∙ told.decoded))
    c.at_most_one.ensures.ok)
    (λ damaged it. c.at_most_one.ensures.damaged damaged
    (omega (
      arith,
      (place_fine now own sound student told.rows told.shown it.0 it.1).0,
      ap length told.decoded,
      length-map told.rows shown_name,
    ))))

pub returns-in_err-names : goal.returns-in_err-names
returns-in_err-names g c =
    reads_handed c.from_residual.ensures.1 (reads_of (λ own. own) (λ own sound. tt) c.in_err-names.ensures.reads)
    (λ own sound told blamed it. told blamed
    (λ rows shown. (place_fine (state g.S.Store c.args.conn.now).now own sound c.args.student.now rows shown it.0 it.1).1))
