use Rattle.portal_core.proofs.Saved as proofs
use Rattle.portal_core.proofs.laws.saved_counts.Goals as goal

pub returns : goal.returns
returns c = record { kept = proofs.saved_counts; new = proofs.saved_since_new }
