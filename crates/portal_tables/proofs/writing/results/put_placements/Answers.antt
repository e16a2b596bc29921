use Rattle.portal_tables.proofs.Runs.{does_then}
use Rattle.portal_tables.proofs.SecondRound.{places_put}
use Rattle.portal_tables.proofs.Statements.{places_dropped}
use Rattle.portal_tables.proofs.writing.results.put_placements.Goals as goal

pub returns : goal.returns
returns g c =
    does_then g.S.Store _ _ _ _ _ _ _ _ c.in_ok-write.ensures c.add_all.ensures
    (λ gone come. record {
      mode = λ on. come.mode gone.shown.mode;
      changed = places_put c.args.pairs.now _ _ _ (places_dropped _ _ gone) come.changed;
    })
