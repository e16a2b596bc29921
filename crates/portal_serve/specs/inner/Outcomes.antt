-- Which outcomes are faults.
use Rattle.std.specs.Prelude.{Bool}
use Rattle.portal_serve.specs.Hall.{is_own_fault}
use Rattle.portal_serve.specs.declared.server.Outcome.{Outcome}

-- the connection ended by a fault of its own
abbrev pub is_faulty : Outcome → Bool
is_faulty outcome = is_own_fault outcome.ended
