use Rattle.portal_rolls.proofs.Base.{arith, rules, ◌∙◌, map-append}
use Rattle.portal_rolls.proofs.Cut.{before_nil, last_piece, list_is_cut, step_blank, step_other}
use Rattle.portal_rolls.proofs.fields.list_of.Goals as goal
use Rattle.portal_rolls.proofs.fields.list_of.Goals.{then-byte-eq32+in_ok-push, else-byte-eq32+in_ok-push-2}

pub loop-byte-init : goal.loop-byte-init
loop-byte-init c = rw (c.new-list.ensures.items, c.new-piece.ensures.items) (before_nil c.args.field.now)

pub loop-byte-preserved : goal.loop-byte-preserved
loop-byte-preserved c = search (rules, then-byte-eq32+in_ok-push, map-append, step_blank, else-byte-eq32+in_ok-push-2, step_other)

pub returns : goal.returns
returns c =
    rw (c.in_ok-push-3.ensures.items, map-append)
    (last_piece _ c.loop-byte.piece.items c.args.field.now c.loop-byte.byte-index _ (omega arith) c.loop-byte.invariant
    ∙ list_is_cut c.args.field.now (search rules))
