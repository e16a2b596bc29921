use Rattle.spa_rows.proofs.Base.{take, HasNumber}
use Rattle.std.specs.List.{AllZip}
use Rattle.spa_rows.proofs.index.LineIndex.numbers.Given as goal

-- the numbers so far
abbrev pub invariant-loop-text : goal.invariant-loop-text
invariant-loop-text g l = AllZip (λ text n. HasNumber l.self g.L.Line.key_of text.items n) (take l.text-index l.list) l.numbers.items
