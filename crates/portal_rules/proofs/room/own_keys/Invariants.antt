use Rattle.portal_rules.proofs.Base.{◌≡◌, map, take, own_keys}
use Rattle.portal_rules.proofs.room.own_keys.Given as goal

abbrev pub invariant-loop-project : goal.invariant-loop-project
invariant-loop-project l = map (λ k. k.now) l.own.items ≡ own_keys (take l.project-index l.projects) l.lecturer
