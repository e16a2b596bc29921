use Rattle.portal_rules.proofs.Base.{◌≡◌, false, take, lacks_one, by_project}
use Rattle.portal_deciding.proofs.applicants.lacks_one.Given as goal

abbrev pub invariant-loop-persons : goal.invariant-loop-persons
invariant-loop-persons l = lacks_one (by_project (take l.persons-index l.applicants)) l.keys ≡ false
