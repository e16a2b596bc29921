use Rattle.spa_model.proofs.Base.{◌≡◌, take, at_lecturer}
use Rattle.spa_model.proofs.fits.count_with.Given as goal

-- the number among the students so far
abbrev pub invariant-loop-s : goal.invariant-loop-s
invariant-loop-s l = l.count ≡ at_lecturer l.instance (take l.s l.projects) l.l
