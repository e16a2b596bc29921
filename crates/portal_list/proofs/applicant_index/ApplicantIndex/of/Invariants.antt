use Rattle.portal_list.proofs.Base.{take, IsApplicantIndex}
use Rattle.portal_list.proofs.applicant_index.ApplicantIndex.of.Given as goal

abbrev pub invariant-loop-place : goal.invariant-loop-place
invariant-loop-place l = IsApplicantIndex (take l.place l.students) l.places
