use Rattle.portal_wire.proofs.Base.{List, ℕ, subst, Item, Opens, below_more}
use Rattle.portal_wire.proofs.Exist.{ended, fronts_of}
use Rattle.portal_wire.specs.Conversation.{connection_limit}
use Rattle.portal_wire.proofs.laws.stream_some.Goals as goal

pub loop-start-preserved : goal.loop-start-preserved
loop-start-preserved c =
    below_more _ _ c.loop-start.invariant (subst
    (λ (rest : List ℕ). (item : Item) × Opens rest item) c.split_at.ensures.back c.opens_some.ensures)

pub returns : goal.returns
returns c =
    let e = ended connection_limit c.args.bytes.now
    (fronts_of c.args.bytes.now c.loop-start.start c.loop-start-test.false c.loop-start.invariant c.opens_some-2.ensures) in
    (e.0, e.1, e.2, (e.3, e.4, e.5))
