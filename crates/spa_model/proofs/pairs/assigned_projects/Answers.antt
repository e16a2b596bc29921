use Rattle.spa_model.proofs.Base.{refl}
use Rattle.spa_model.proofs.AssignedPairs.{assigned_more}
use Rattle.spa_model.proofs.pairs.assigned_projects.Goals as goal

pub loop-j-preserved : goal.loop-j-preserved
loop-j-preserved c = assigned_more _ c.args.students.now c.args.projects.now c.loop-j.own.items c.loop-j.j _ _ c.requires.apart
    c.loop-j-test.true c.requires.size refl refl (c.requires.known c.loop-j.j 0 c.loop-j-test.true) c.loop-j.invariant
