use Rattle.portal_rules.proofs.Base.{Bool, take, ◌||◌, list_any, Key, equals, HasKeys}
use Rattle.portal_deciding.proofs.applicants.add_persons.Given as goal

-- the keys of the persons so far are there
abbrev pub invariant-loop-person : goal.invariant-loop-person
invariant-loop-person l = (known : Key → Bool) → HasKeys known l.initial.keys
    → HasKeys (λ k. known k || list_any (λ s. equals s.key k) (take l.person-index l.persons)) l.keys
