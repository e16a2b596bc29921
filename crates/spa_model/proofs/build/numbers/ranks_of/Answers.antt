use Rattle.spa_model.proofs.Base.{◌≤◌, length, get_or, ℕ, arith, get_or_default}
use Rattle.spa_model.proofs.Ranks.{one_rank, at_most}
use Rattle.spa_model.proofs.build.numbers.ranks_of.Goals as goal

pub overflow_cast-place : goal.overflow_cast-place
overflow_cast-place c = let few : length c.args.ranking.now ≤ c.args.count =
    at_most c.args.ranking.now c.args.count c.requires.distinct c.requires.below in omega arith

pub loop-place-preserved : goal.loop-place-preserved
loop-place-preserved c =
    let student : ℕ = get_or c.args.ranking.now c.loop-place.place 0 in
    one_rank c.args.count c.args.ranking.now c.loop-place.place student c.loop-place.ranks.items c.requires.distinct c.loop-place-test.true
    (get_or_default c.args.ranking.now c.loop-place.place 0 student c.loop-place-test.true)
    (c.requires.below c.loop-place.place 0 c.loop-place-test.true) c.loop-place.invariant
