use Rattle.portal_rolls.proofs.Base.{◌≡◌, drop, map, fields_of, same_record}
use Rattle.portal_rolls.proofs.fields.has_names.Given as goal

abbrev pub invariant-loop-i : goal.invariant-loop-i
invariant-loop-i l = same_record (drop l.i (map (λ n. n.now) l.names)) (drop l.i (fields_of l.row))
    ≡ same_record (map (λ n. n.now) l.names) (fields_of l.row)
