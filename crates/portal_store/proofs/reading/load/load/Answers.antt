use Rattle.portal_tables.proofs.InTurn.{its_own}
use Rattle.portal_store.proofs.Base.{◌∙◌, First, LoadsIn, MatchResult-weaker, Second, reads_as, reads_both, reads_open}
use Rattle.portal_store.proofs.Base.{reads_then, state, subst, sym}
use Rattle.portal_store.proofs.Rounds.{stands_in}
use Rattle.portal_store.proofs.reading.load.load.Goals as goal

pub returns-in-First : goal.returns-in-First
returns-in-First g c =
    let db = (state g.S.Store c.args.conn.now).now.trees in
    reads_as (its_own _ c.load_first.result) (reads_then c.in_ok-round_in.ensures (reads_open (reads_both c.load_first.ensures))) (λ no. no)
    (λ own sound told. let is = told.0 ∙ c.in-First.is in
    MatchResult-weaker c.load_first.result told.1 (λ rows. subst (λ r. LoadsIn r db rows) (sym is))
    (λ fault no apart damaged stands. let s = stands_in First db stands is in
    no damaged (record { office = s.office; whole = s.whole; good = s.good })))

pub returns-in-Second : goal.returns-in-Second
returns-in-Second g c =
    let db = (state g.S.Store c.args.conn.now).now.trees in
    reads_as (its_own _ c.load_second.result) (reads_then c.in_ok-round_in.ensures (reads_open c.load_second.ensures)) (λ no. no)
    (λ own sound told. let is = told.0 ∙ c.in-Second.is in
    MatchResult-weaker c.load_second.result told.1 (λ rows. subst (λ r. LoadsIn r db rows) (sym is))
    (λ fault no apart damaged stands. no apart damaged (stands_in Second db stands is)))
