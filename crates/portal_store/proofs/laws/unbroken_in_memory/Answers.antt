use Rattle.portal_store.proofs.Keeps.{unbroken_in_memory}
use Rattle.portal_store.proofs.laws.unbroken_in_memory.Goals as goal

pub returns : goal.returns
returns c = unbroken_in_memory
