use Rattle.portal_answer.proofs.OneAnswer.{answer_is_one}
use Rattle.portal_answer.proofs.laws.answer_is_one.Goals as goal

pub returns : goal.returns
returns c = answer_is_one
