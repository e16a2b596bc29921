use Rattle.portal_tables.proofs.Base.{Ok, map, take, Does, GoesOn, MakesEach}
use Rattle.portal_tables.proofs.writing.make.make_each.Given as goal

abbrev pub invariant-loop-text : goal.invariant-loop-text
invariant-loop-text g l = Does g.S.Store (GoesOn (MakesEach (map (λ t. t.now) (take l.text-index l.texts)))) (Ok (tt {0})) l.fn.tx l.tx
