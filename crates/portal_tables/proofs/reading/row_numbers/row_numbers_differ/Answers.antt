use Rattle.portal_tables.proofs.Base.{◌≡◌, None, true, subst, state, table_tree, rises}
use Rattle.portal_tables.proofs.InTurn.{reads_more}
use Rattle.portal_tables.proofs.Rises.{apart_of}
use Rattle.portal_tables.proofs.reading.row_numbers.row_numbers_differ.Goals as goal

pub returns : goal.returns
returns g c =
    reads_more tt c.in_ok-rows.ensures.reads
    (λ own any shown right. apart_of ((state g.S.Store c.args.conn.now).now.trees (table_tree c.args.table)) c.in_ok-rows.rows.items shown
    (subst (λ rows. rises None rows ≡ true) c.deref.ensures.value (c.numbers_rise.ensures right)))
