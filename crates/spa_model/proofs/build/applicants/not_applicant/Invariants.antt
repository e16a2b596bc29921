use Rattle.spa_model.proofs.Base.{Any, IsLeastOf, BadBelow, IsApplicantNumber, numbers_at}
use Rattle.spa_model.proofs.build.applicants.not_applicant.Given as goal

-- the least row so far
abbrev pub invariant-loop-number : goal.invariant-loop-number
invariant-loop-number l = IsLeastOf (BadBelow l.lecturers (λ x. x.row)
    (λ k _. Any (λ n. IsApplicantNumber l.students l.projects k n → ⊥) (numbers_at l.rankings k)) l.number) l.best
