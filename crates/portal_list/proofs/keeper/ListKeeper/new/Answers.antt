use Rattle.portal_list.proofs.Fresh.{fresh_good}
use Rattle.portal_list.proofs.keeper.ListKeeper.new.Goals as goal

pub returns-clause-good : goal.returns-clause-good
returns-clause-good c = rw (c.new.ensures.items, c.new-2.ensures.items, c.new-3.ensures.items)
    (fresh_good c.args.office c.formed_code.ensures)
