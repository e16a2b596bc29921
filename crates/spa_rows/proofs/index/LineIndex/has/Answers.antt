use Rattle.spa_rows.proofs.Indexed.{known_found}
use Rattle.spa_rows.proofs.index.LineIndex.has.Goals as goal

pub returns : goal.returns
returns g c = rw c.is_some.ensures (known_found c.args.self.now g.L.Line.key_of c.args.key.now c.find.result c.find.ensures.found
    c.find.ensures.none)
