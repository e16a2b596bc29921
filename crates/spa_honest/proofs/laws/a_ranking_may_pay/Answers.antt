use Rattle.spa_honest.proofs.Varied.{a_ranking_may_pay, ranked_lawful, judged_best, paid_best, judged_alone}
use Rattle.spa_honest.proofs.Varied.{unpaid_alone}
use Rattle.spa_honest.proofs.laws.a_ranking_may_pay.Goals as goal

pub returns : goal.returns
returns c = record {
  pays = a_ranking_may_pay;
  lawful = ranked_lawful;
  honest = judged_best;
  dishonest = paid_best;
  honest_alone = judged_alone;
  dishonest_alone = unpaid_alone;
}
