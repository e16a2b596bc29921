use Rattle.spa_model.proofs.Base.{take, AllZip, keys_of_lecturers, IsProjectOf}
use Rattle.spa_model.proofs.build.numbers.number_projects.Given as goal

-- the rows so far
abbrev pub invariant-loop-line : goal.invariant-loop-line
invariant-loop-line l = AllZip (IsProjectOf (keys_of_lecturers l.lecturers)) (take l.line-index l.lines) l.projects.items
