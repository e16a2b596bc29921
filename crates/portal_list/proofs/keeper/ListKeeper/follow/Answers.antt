use Rattle.portal_list.proofs.Base.{rules}
use Rattle.portal_list.proofs.Followed.{catalogue_after}
use Rattle.portal_list.proofs.keeper.ListKeeper.follow.Goals as goal

pub invariant_of-self-2 : goal.invariant_of-self-2
invariant_of-self-2 c = search (rules, catalogue_after)
