use Rattle.portal_list.proofs.Base.{◌≡◌, map, take}
use Rattle.portal_list.proofs.keys.bytes_of.Given as goal

abbrev pub invariant-loop-key : goal.invariant-loop-key
invariant-loop-key l = map (λ text. text.now) l.texts.items ≡ take l.key-index l.keys
