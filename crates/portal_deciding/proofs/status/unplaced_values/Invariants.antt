use Rattle.portal_rules.proofs.Base.{◌≡◌, map, take, filter, not, string, is_assigned, data_of}
use Rattle.portal_deciding.proofs.status.unplaced_values.Given as goal

-- the students so far who have no project
abbrev pub invariant-loop-student : goal.invariant-loop-student
invariant-loop-student l = map data_of l.values.items
    ≡ map string (map (λ s. s.key) (filter (λ s. not (is_assigned l.placings.pairs s.key)) (take l.student-index l.students)))
