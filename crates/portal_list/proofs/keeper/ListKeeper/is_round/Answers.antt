use Rattle.portal_list.proofs.Base.{IfOk-weaker, false≢true, iff_false}
use Rattle.portal_list.proofs.keeper.ListKeeper.is_round.Goals as goal

pub returns-then-not-branch : goal.returns-then-not-branch
returns-then-not-branch c = (
  λ e. absurd (false≢true e),
  λ round. absurd (iff_false c.in_ok-is_sound.ensures c.if-not-branch.true round.sound),
)

pub has_stable_result-requires : goal.has_stable_result-requires
has_stable_result-requires c = c.in_ok-is_sound.ensures.0 c.if-not-branch.false

pub returns : goal.returns
returns c =
    IfOk-weaker c.has_stable_result.result _ _
    (λ yes same. (
      λ e. record { sound = c.in_ok-is_sound.ensures.0 c.if-not-branch.false; stable = same.0 e },
      λ round. same.1 round.stable,
    )) c.has_stable_result.ensures
