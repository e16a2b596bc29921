use Rattle.std.proofs.Common.{rules}
use Rattle.sqlite.specs.Steps.{over_memory}
use Rattle.portal_store.specs.Kept.{IsCleanStore}
use Rattle.portal_store.proofs.opening.create.Store+MemStore.create_memory.Goals as goal

pub returns-in-Ok-create-clause-empty : goal.returns-in-Ok-create-clause-empty
returns-in-Ok-create-clause-empty c = search rules

pub returns-in-Ok-create-clause-settled : goal.returns-in-Ok-create-clause-settled
returns-in-Ok-create-clause-settled c =
    let clean : IsCleanStore over_memory c.in-Ok-create.store = search rules in
    c.in-Ok-create.ensures.creates.makes.settled clean
