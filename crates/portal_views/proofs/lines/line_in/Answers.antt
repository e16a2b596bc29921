use Rattle.portal_tables.proofs.InTurn.{its_own}
use Rattle.portal_views.proofs.Base.{◌∙◌, Err, MatchResult-weaker, Some, ap, reads_as, reads_handed, reads_then_of}
use Rattle.portal_views.proofs.Base.{state}
use Rattle.portal_views.proofs.Turns.{reads_first, reads_rejected}
use Rattle.portal_views.proofs.LineRows.{line_told}
use Rattle.portal_views.proofs.ToldLines.{told_fine, lines_once, line_row}
use Rattle.portal_views.proofs.lines.line_in.Goals as goal

pub returns-in_err-lines : goal.returns-in_err-lines
returns-in_err-lines g c =
    let round = c.args.round in
    reads_handed c.from_residual.ensures.1 (reads_first c.in_err-lines.ensures.reads)
    (λ own tables no damaged known. no damaged (told_fine (state g.S.Store c.args.conn.now).now c.args.key.now round known.0))

pub returns-in_err-line : goal.returns-in_err-line
returns-in_err-line g c =
    reads_rejected c.in_err-line.field-0.0 (λ its. c.in_err-line.ensures.store (ap Err its)) c.from_residual-in_err-line.ensures.1
    (reads_first c.in_ok-lines.ensures.reads)
    (λ own tables told damaged known. c.in_err-line.ensures.damaged (ap Err damaged)
    (lines_once (state g.S.Store c.args.conn.now).now c.args.key.now tables known.1 c.in_ok-lines.lines.items told))

pub returns : goal.returns
returns g c =
    let r = c.line_of_round.result in
    let db = (state g.S.Store c.args.conn.now).now in
    let round = c.args.round in
    let key = c.args.key.now in
    let lines = c.in_ok-lines.lines.items in
    let line = c.in_ok-line.line in
    let only = c.in_ok-line.ensures.ok in
    reads_as (its_own _ r)
    (reads_then_of (λ own on tables told. tables.sound) (reads_first c.in_ok-lines.ensures.reads) c.line_of_round.ensures) (λ no. no)
    (λ own tables told. MatchResult-weaker r told.1 (λ l is. ap Some is ∙ line_told round db tables key lines told.0 line only)
    (λ fault no damaged known. let row = line_row db key round known.0 lines told.0 line only in no row.0 row.1 damaged row.2))
