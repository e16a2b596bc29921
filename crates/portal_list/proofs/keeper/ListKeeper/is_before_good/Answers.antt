use Rattle.portal_list.proofs.Base.{sym, subst, RollsOf}
use Rattle.portal_list.proofs.Parted.{rolls_first}
use Rattle.portal_list.proofs.keeper.ListKeeper.is_before_good.Goals as goal

pub is_round-requires : goal.is_round-requires
is_round-requires c = subst RollsOf (sym c.in_ok-first-in-Second.ensures) (rolls_first c.args.self.now c.requires)
