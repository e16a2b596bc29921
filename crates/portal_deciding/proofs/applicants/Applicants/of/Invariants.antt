use Rattle.portal_rules.proofs.Base.{take, is_applicant, by_project, HasKeys}
use Rattle.portal_deciding.proofs.applicants.Applicants.of.Given as goal

-- the applicants to the projects so far are there
abbrev pub invariant-loop-persons : goal.invariant-loop-persons
invariant-loop-persons l = HasKeys (is_applicant (by_project (take l.persons-index l.projects))) l.keys
