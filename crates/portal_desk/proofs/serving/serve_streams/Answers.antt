use Rattle.portal_desk.proofs.Base.{last}
use Rattle.portal_desk.proofs.Promised.{each_next}
use Rattle.portal_desk.proofs.serving.serve_streams.Goals as goal

pub loop-stream-preserved : goal.loop-stream-preserved
loop-stream-preserved g c =
    rw c.in-Ok-push.ensures.items (each_next g.K.Keeper.state _ _ _ (λ stream. stream.now) (λ text. text.items)
    c.args.streams.now c.loop-stream.stream-index _ c.loop-stream.texts.items c.pipe.new.writer c.in-Ok.field-0.requests
    (last c.in-Ok.field-0.ending)
    c.loop-stream-test.true c.loop-stream.invariant (rw c.new-text.ensures.items at c.in-Ok.ensures.serves.served))
