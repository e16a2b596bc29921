use Rattle.portal_core.proofs.ShorterLists.{shorter_never_harm}
use Rattle.portal_core.proofs.laws.shorter_never_harm.Goals as goal

pub returns : goal.returns
returns c = λ w v code a b other one sees_a sees_b differ cut. shorter_never_harm w v other one code a b sees_a sees_b differ cut
