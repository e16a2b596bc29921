use Rattle.portal_tables.proofs.Base.{take, Ok, Does, GoesOn, Assigns}
use Rattle.portal_tables.proofs.writing.results.assign_all.Given as goal

abbrev pub invariant-loop-a : goal.invariant-loop-a
invariant-loop-a g l = Does g.S.Store (GoesOn (Assigns (take l.a-index l.all))) (Ok (tt {0})) l.fn.tx l.tx
