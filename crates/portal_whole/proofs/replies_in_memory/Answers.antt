use Rattle.sqlite.specs.Steps.{over_memory}
use Rattle.portal_store.specs.Kept.{kept_state}
use Rattle.portal_store.specs.World.{first_world}
use Rattle.std.proofs.lemmas.Option.{IfSome_then}
use Rattle.portal_whole.proofs.Promised.{promised}
use Rattle.portal_whole.proofs.replies_in_memory.Goals as goal

pub returns : goal.returns
returns c = record {
  promised = IfSome_then c.serve_streams.result c.serve_streams.ensures.served (λ texts each.
      promised c.run_good.ensures c.published_best.ensures.step c.published_best.ensures.run
      (kept_state over_memory)
      c.new-desk.result.keeper c.serve_streams.new.desk.keeper (first_world c.args.office) _ _ each
      (rw c.new-desk.ensures.keeper c.in-Ok.ensures.clean)
      (rw c.new-desk.ensures.keeper c.in-Ok.ensures.good) c.disk_in_memory.ensures c.unbroken_in_memory.ensures
      (rw c.new-desk.ensures.keeper c.in-Ok.ensures.world));
}
