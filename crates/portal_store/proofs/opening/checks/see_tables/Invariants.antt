use Rattle.portal_store.proofs.Base.{OnlyLooks, HasCleanDisk, IsCommitted, AllByRecursion, take, state}
use Rattle.portal_store.specs.Crash.{IsAnswered}
use Rattle.portal_store.proofs.opening.checks.see_tables.Given as goal

abbrev pub invariant-loop-query : goal.invariant-loop-query
invariant-loop-query g l =
    OnlyLooks (state g.S.Store l.fn.conn) (state g.S.Store l.conn)
    × (IsCommitted (state g.S.Store l.fn.conn) → HasCleanDisk (state g.S.Store l.conn)
    → AllByRecursion (IsAnswered (state g.S.Store l.fn.conn)) (take l.query-index l.queries))
