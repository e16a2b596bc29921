use Rattle.spa_model.proofs.Ranks.{AreRanksBelow}
use Rattle.spa_model.proofs.build.numbers.ranks_of.Given as goal

-- the places so far
abbrev pub invariant-loop-place : goal.invariant-loop-place
invariant-loop-place l = AreRanksBelow l.count l.ranking l.place l.ranks.items
