use Rattle.portal_store.proofs.Keeps.{disk_in_memory}
use Rattle.portal_store.proofs.laws.disk_in_memory.Goals as goal

pub returns : goal.returns
returns c = disk_in_memory
