use Rattle.spa_model.proofs.Base.{take, AreAssigned}
use Rattle.spa_model.proofs.pairs.assigned_projects.Given as goal

-- the pairs so far
abbrev pub invariant-loop-j : goal.invariant-loop-j
invariant-loop-j l = AreAssigned l.count (take l.j l.students) (take l.j l.projects) l.own.items
