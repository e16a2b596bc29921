use Rattle.portal_answer.proofs.Base.{◌≡◌, take, flat_map, block_line}
use Rattle.portal_answer.proofs.blocking.lines.Given as goal

abbrev pub invariant-loop-block : goal.invariant-loop-block
invariant-loop-block l = l.text.items ≡ flat_map (block_line l.instance) (take l.block-index l.blocks)
