use Rattle.portal_tables.proofs.InTurn.{unsaid}
use Rattle.portal_store.proofs.Base.{◌∙◌, First, MatchResult-weaker, Second, reads_any, reads_as, reads_both}
use Rattle.portal_store.proofs.Base.{reads_open, reads_then, state, sym}
use Rattle.portal_store.proofs.Asked.{denied_of, denies_more, reads_said, of_told}
use Rattle.portal_store.proofs.Rounds.{first_by, second_by, none_told, one_told, stands_in, tells_phase}
use Rattle.portal_store.proofs.Explained.{converted}
use Rattle.portal_store.proofs.opening.open.see_second.Goals as goal

pub returns-in_err-second_in-clause-reads : goal.returns-in_err-second_in-clause-reads
returns-in_err-second_in-clause-reads g c =
    reads_said c.from_residual.ensures.1 (reads_any c.in_err-second_in.ensures)
    (λ own sound told f so. denied_of f _ _ so.1.1 so.0 (λ e stands. let it = tells_phase stands.0 _ stands.1.second in told it.0 e it.1))

pub returns-then-is_setup-clause-reads : goal.returns-then-is_setup-clause-reads
returns-then-is_setup-clause-reads g c =
    let db = (state g.S.Store c.args.conn.now).now.trees in
    let phase = c.in_ok-second_in.field-0 in
    let setup = sym c.is_setup.ensures ∙ c.if-is_setup.true in
    reads_as (unsaid _ _) (reads_then (reads_any c.in_ok-second_in.ensures) (reads_open (reads_any c.see_nothing.ensures.reads))) (λ no. no)
    (λ own sound told. MatchResult-weaker c.see_nothing.result told.1 (λ _ none. none_told db phase (told.0 sound) setup none)
    (λ fault. denies_more fault _ _ (λ s. (stands_in First db s (first_by db phase (told.0 sound) setup)).second.says)))

pub returns-else-is_setup-clause-reads : goal.returns-else-is_setup-clause-reads
returns-else-is_setup-clause-reads g c =
    let db = (state g.S.Store c.args.conn.now).now.trees in
    let phase = c.in_ok-second_in.field-0 in
    let other = sym c.is_setup.ensures ∙ c.if-is_setup.false in
    reads_as (unsaid _ _) (reads_then (reads_any c.in_ok-second_in.ensures) (reads_open (reads_both c.see_published.ensures.reads)))
    (λ no. no)
    (λ own sound told. MatchResult-weaker c.see_published.result told.1 (λ _ first. one_told db phase (told.0 sound) other first)
    (λ fault. denies_more fault _ _ (λ s. stands_in Second db s (second_by db phase (told.0 sound) other))))

pub returns-in_err-second_in-clause-refused : goal.returns-in_err-second_in-clause-refused
returns-in_err-second_in-clause-refused g c = converted _ c.from_residual.ensures.1 (λ f so. of_told f _ so.1.1 so.0)
