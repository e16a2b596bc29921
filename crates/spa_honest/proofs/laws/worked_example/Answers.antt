use Rattle.spa_honest.proofs.Worked.{honest_lawful, safe_lawful, short_lawful, honest_best, safe_best, short_best}
use Rattle.spa_honest.proofs.laws.worked_example.Goals as goal

pub returns : goal.returns
returns c = record { lawful = (honest_lawful, safe_lawful, short_lawful); honest = honest_best; safe = safe_best; short = short_best }
