use Rattle.portal_serve.proofs.Base.{rules, ◌∙◌}
use Rattle.portal_serve.proofs.Dropping.{dropped_more}
use Rattle.portal_serve.proofs.timeouts.ConnectionReader.drop_rest.Goals as goal

pub loop-room-preserved : goal.loop-room-preserved
loop-room-preserved g c =
    let x = c.loop-room.invariant in
    record {
      dropped = dropped_more _ _ _ c.loop-room.room c.in_ok-n.n c.read_again.new.buf x.dropped (search rules) c.in_ok-n.ensures.bytes.0;
      named = c.read_again.ensures.same_device ∙ x.named;
    }
