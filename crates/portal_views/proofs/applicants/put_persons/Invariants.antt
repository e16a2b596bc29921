use Rattle.portal_views.proofs.Base.{◌≡◌, put_all, person_key}
use Rattle.portal_views.proofs.applicants.put_persons.Given as goal

abbrev pub invariant-loop-person : goal.invariant-loop-person
invariant-loop-person l = l.persons.items ≡ put_all person_key l.yielded l.initial.persons.items
