use Rattle.portal_desk.proofs.Base.{map, take, ServesEach}
use Rattle.portal_desk.proofs.serving.serve_streams.Given as goal

abbrev pub invariant-loop-stream : goal.invariant-loop-stream
invariant-loop-stream g l =
    ServesEach g.K.Keeper.state l.initial.desk.keeper l.desk.keeper
    (map (λ stream. stream.now) (take l.stream-index l.streams)) (map (λ text. text.items) l.texts.items)
