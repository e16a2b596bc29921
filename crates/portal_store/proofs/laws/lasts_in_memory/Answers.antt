use Rattle.portal_store.proofs.Keeps.{lasts_in_memory}
use Rattle.portal_store.proofs.laws.lasts_in_memory.Goals as goal

pub returns : goal.returns
returns c = lasts_in_memory
