use Rattle.portal_desk.proofs.Base.{◌≡◌, ◌++◌, drop, pairs_by}
use Rattle.portal_desk.proofs.playing.pairs_of.Given as goal

abbrev pub invariant-loop-s : goal.invariant-loop-s
invariant-loop-s l =
    l.pairs.items ++ pairs_by (drop l.s l.instance.student_keys) l.instance.project_keys (drop l.s l.matching)
    ≡ pairs_by l.instance.student_keys l.instance.project_keys l.matching
