use Rattle.portal_list.proofs.Base.{false≢true, iff_false}
use Rattle.portal_list.proofs.keeper.ListKeeper.is_good.Goals as goal

pub returns-then-not-branch : goal.returns-then-not-branch
returns-then-not-branch c = (
  λ e. absurd (false≢true e),
  λ good. absurd (iff_false c.in_ok-has_stable_result.ensures c.if-not-branch.true good.stable),
)
