use Rattle.portal_tables.proofs.Base.{state, roll_tree, columns_of, OfRoll}
use Rattle.portal_tables.proofs.InTurn.{reads_as, told_more, its_own}
use Rattle.portal_tables.proofs.Listed.{roll_rises, roll_shown}
use Rattle.portal_tables.proofs.Texts.{key_texts}
use Rattle.portal_tables.proofs.reading.sorted_rolls.roll_in.Goals as goal

pub returns : goal.returns
returns g c =
    let now = (state g.S.Store c.args.conn.now).now in
    let columns = columns_of c.args.roll in
    let table = now.trees (roll_tree c.args.roll) in
    reads_as (its_own _ c.read_in_order.result) c.read_in_order.ensures.reads (λ no. no)
    (λ own right told. told_more c.read_in_order.result _ _ _ _ _ c.read_in_order.ensures.rise told
    (λ v up shown. roll_shown columns table v.items shown up)
    (λ e no blamed it. no blamed (λ rows shown. roll_rises columns table rows shown (key_texts now (OfRoll c.args.roll) own it.0) it.1)))
