use Rattle.portal_core.proofs.OverGroups.{no_group_gains_over_both}
use Rattle.portal_core.proofs.OverRuns.{no_group_over_runs}
use Rattle.portal_core.proofs.laws.no_group_gains_over_both.Goals as goal

pub returns : goal.returns
returns c = record { worlds = no_group_gains_over_both; runs = no_group_over_runs }
