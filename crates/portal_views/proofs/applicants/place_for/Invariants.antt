use Rattle.portal_views.proofs.Base.{◌≡◌, ◌++◌, person_key, take, drop, put, Person}
use Rattle.portal_views.proofs.applicants.place_for.Given as goal

abbrev pub invariant-loop-i : goal.invariant-loop-i
invariant-loop-i l = (person : Person) → person.key ≡ l.key
    → take l.i l.persons ++ put person_key person (drop l.i l.persons) ≡ put person_key person l.persons
