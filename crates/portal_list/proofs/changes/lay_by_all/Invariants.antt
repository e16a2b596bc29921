use Rattle.portal_list.proofs.Base.{◌≡◌, ◌++◌, take, drop, map}
use Rattle.portal_list.proofs.changes.lay_by_all.Given as goal

abbrev pub invariant-loop-entry : goal.invariant-loop-entry
invariant-loop-entry g l = l.entries ≡ map g.T.Entry.laid_by (take l.entry-index l.initial.entries) ++ drop l.entry-index l.initial.entries
