use Rattle.portal_rolls.proofs.Base.{List, Record, Has, IsSetUp}
use Rattle.portal_rolls.proofs.Run.{Progress}
use Rattle.portal_rolls.proofs.reading.read_lines.Given as goal

abbrev pub invariant-loop-number : goal.invariant-loop-number
invariant-loop-number g l = IsSetUp l.rdr
    × ((rows : List Record) → Has l.fn.rdr rows → Progress g.T.FromRecord.format rows l.number l.rdr l.lines.items)
