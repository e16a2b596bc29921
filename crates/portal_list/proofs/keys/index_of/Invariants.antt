use Rattle.portal_list.proofs.Base.{◌≡◌, take, false, list_any, equals}
use Rattle.portal_list.proofs.keys.index_of.Given as goal

abbrev pub invariant-loop-i : goal.invariant-loop-i
invariant-loop-i g l = list_any (λ row. equals (g.T.Keyed.key_of row) l.key) (take l.i l.rows) ≡ false
