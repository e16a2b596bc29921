use Rattle.portal_store.proofs.Base.{LoadsIn, Second, reads_any, reads_both, reads_handed, reads_more, reads_open}
use Rattle.portal_store.proofs.Base.{reads_then, rows_held, state, subst, sym}
use Rattle.portal_views.proofs.OneKey.{one_place}
use Rattle.portal_store.proofs.Fine.{all_fine, rolls_rise, stands_before}
use Rattle.portal_store.proofs.Loaded.{loads_after}
use Rattle.portal_store.proofs.reading.load.load_second.Goals as goal

pub returns-in_err-phase : goal.returns-in_err-phase
returns-in_err-phase g c =
    reads_handed c.from_residual.ensures.1 (reads_any c.in_err-phase.ensures)
    (λ own sound told apart damaged stands. told stands.second.phase damaged stands.second.is)

pub returns-in_err-first : goal.returns-in_err-first
returns-in_err-first g c =
    reads_handed c.from_residual-in_err-first.ensures.1
    (reads_then (reads_any c.in_ok-phase.ensures) (reads_open (reads_both c.in_err-first.ensures)))
    (λ own sound told apart damaged stands. told.1 damaged (stands_before _ stands))

pub returns-in_err-contents : goal.returns-in_err-contents
returns-in_err-contents g c =
    reads_handed c.from_residual-in_err-contents.ensures.1
    (reads_then (reads_any c.in_ok-phase.ensures)
    (reads_open (reads_then (reads_both c.in_ok-first.ensures) (reads_open c.in_err-contents.ensures))))
    (λ own sound told apart damaged stands. told.1.1 damaged (record {
      rise = rolls_rise Second _ stands.whole.1 stands.good;
      fine = all_fine Second _ stands.whole.1 stands.good (one_place _ own sound apart.1.1.1.1.1.1.1.1.0);
    }))

pub returns : goal.returns
returns g c =
    let f = c.in_ok-contents in
    reads_more tt (reads_then (reads_any c.in_ok-phase.ensures)
    (reads_open (reads_then (reads_both c.in_ok-first.ensures) (reads_open f.ensures))))
    (λ own sound told. subst (LoadsIn Second (state g.S.Store c.args.conn.now).now.trees) (sym c.after_first.ensures)
    (loads_after _ c.in_ok-first.first c.in_ok-phase.phase told.1.0 (told.0 sound) (rows_held f.contents) told.1.1))
