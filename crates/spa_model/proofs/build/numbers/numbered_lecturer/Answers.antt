use Rattle.spa_model.proofs.Base.{rules}
use Rattle.spa_model.proofs.build.numbers.numbered_lecturer.Goals as goal

pub returns : goal.returns
returns c = λ keys long are. record {
  key = search rules;
  capacity = search rules;
  ranking = rw c.in_ok-own.ensures.items are;
  ranks = rw (c.in_ok-own.ensures.items, long) c.in_ok-ranks.ensures;
}
