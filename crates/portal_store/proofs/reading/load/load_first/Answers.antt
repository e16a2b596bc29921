use Rattle.portal_store.proofs.Base.{First, reads_any, reads_handed, reads_more, reads_open, reads_then, rows_held}
use Rattle.portal_store.proofs.Fine.{office_code, rolls_rise, all_fine}
use Rattle.portal_store.proofs.Loaded.{loads}
use Rattle.portal_store.proofs.reading.load.load_first.Goals as goal

pub returns-in_err-office : goal.returns-in_err-office
returns-in_err-office g c =
    reads_handed c.from_residual.ensures.1 (reads_any c.in_err-office.ensures)
    (λ own sound told damaged stands. told stands.office damaged (office_code First c.args.version _ stands.office stands.good))

pub returns-in_err-contents : goal.returns-in_err-contents
returns-in_err-contents g c =
    reads_handed c.from_residual-in_err-contents.ensures.1
    (reads_then (reads_any c.in_ok-office.ensures) (reads_open c.in_err-contents.ensures))
    (λ own sound told damaged stands. told.1 damaged
    (record { rise = rolls_rise First _ stands.whole stands.good; fine = all_fine First _ stands.whole stands.good tt }))

pub returns : goal.returns
returns g c =
    let o = c.in_ok-office in
    let f = c.in_ok-contents in
    reads_more tt (reads_then (reads_any o.ensures) (reads_open f.ensures))
    (λ own sound told. rw (c.new.ensures.items, c.new-2.ensures.items, c.new-3.ensures.items)
    (loads _ c.args.version o.office.phase o.office.code (told.0 sound) (rows_held f.contents) told.1))
