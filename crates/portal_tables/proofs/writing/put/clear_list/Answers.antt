use Rattle.portal_tables.proofs.Runs.{does_more}
use Rattle.portal_tables.proofs.Statements.{list_cleared}
use Rattle.portal_tables.proofs.writing.put.clear_list.Goals as goal

pub returns : goal.returns
returns g c = does_more g.S.Store _ _ _ _ _ (rw c.clear_text.ensures at c.write.ensures) (list_cleared c.args.lists _ _ c.args.owner.now)
