use Rattle.portal_store.proofs.Fine.{office_code}
use Rattle.portal_store.proofs.Base.{IsNow, Office, Round, cases_Bool, inl, inr, is_setup, reads_any, reads_both, version}
use Rattle.portal_store.proofs.Base.{reads_handed, reads_more, reads_open, reads_then, state, subst, sym, world_of}
use Rattle.portal_store.proofs.Rounds.{now_first, now_second, tells_phase}
use Rattle.portal_store.proofs.reading.round.current_round.Goals as goal

pub returns-in_err-office : goal.returns-in_err-office
returns-in_err-office g c =
    reads_handed c.from_residual-in_err-office.ensures.1
    (reads_any (reads_then c.in_ok-second.ensures (reads_open (reads_both c.in_err-office.ensures))))
    (λ own sound told round damaged stands. told.1 stands.office damaged (office_code round version _ stands.office stands.good))

pub returns-in_err-second : goal.returns-in_err-second
returns-in_err-second g c =
    reads_handed c.from_residual.ensures.1 (reads_any c.in_err-second.ensures)
    (λ own sound told round damaged stands. let it = tells_phase round _ stands.second in told it.0 damaged it.1)

pub returns : goal.returns
returns g c =
    let s = c.in_ok-second in
    let f = c.in_ok-office in
    let db = (state g.S.Store c.args.conn.now).now.trees in
    reads_more tt (reads_any (reads_then s.ensures (reads_open (reads_both f.ensures))))
    (λ own sound told. elim (cases_Bool (is_setup s.second)) [
      | inl setup ↦ subst (λ (n : Round × Office). IsNow (world_of db) n.0 n.1) (sym (c.now_of.ensures.first setup))
          (now_first db s.second (told.0 sound) f.office (told.1 sound) setup)
      | inr other ↦ subst (λ (n : Round × Office). IsNow (world_of db) n.0 n.1) (sym (c.now_of.ensures.second other))
          (now_second db s.second (told.0 sound) f.office (told.1 sound) other)
    ])
