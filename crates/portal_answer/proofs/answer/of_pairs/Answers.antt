use Rattle.portal_answer.proofs.Refused.{pairs_refused}
use Rattle.portal_answer.proofs.answer.of_pairs.Goals as goal

pub returns-in-Err : goal.returns-in-Err
returns-in-Err c = pairs_refused c.args.task c.args.instance.now c.args.pairs.items c.in-Err.bad.fault c.in-Err.bad.row c.refused_matching.result
    c.in-Err.ensures.err c.refused_matching.ensures.told c.refused_matching.ensures.memory
