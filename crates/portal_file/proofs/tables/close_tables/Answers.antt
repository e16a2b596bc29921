use Rattle.std.proofs.Common.{sym, ap, ◌∙◌}
use Rattle.sqlite.specs.Effect.{Database}
use Rattle.portal_file.proofs.tables.close_tables.Goals as goal

pub returns-clause-closes : goal.returns-clause-closes
returns-clause-closes g c =
    let is = c.into_connection-conn.ensures in
    record {
      same = is.same;
      kept = is.kept;
      only = λ on db may. g.met.S.Store.settled c.into_connection-conn.result.store db on may
          ∙ ap (λ (d : Database). d.trees) (sym (c.outside_transaction.ensures.committed on));
      left = is.left;
    }
