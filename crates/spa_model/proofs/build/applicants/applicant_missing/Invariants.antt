use Rattle.spa_model.proofs.Base.{IsLeastOf, MissesBelow}
use Rattle.spa_model.proofs.build.applicants.applicant_missing.Given as goal

-- the least row so far
abbrev pub invariant-loop-number : goal.invariant-loop-number
invariant-loop-number l = IsLeastOf (MissesBelow l.lines l.lecturers l.projects l.students l.number) l.best
