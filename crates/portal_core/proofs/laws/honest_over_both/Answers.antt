use Rattle.portal_core.proofs.OverGroups.{honest_over_both}
use Rattle.portal_core.proofs.OverRuns.{honest_over_runs}
use Rattle.portal_core.proofs.laws.honest_over_both.Goals as goal

pub returns : goal.returns
returns c = record { worlds = honest_over_both; runs = honest_over_runs }
