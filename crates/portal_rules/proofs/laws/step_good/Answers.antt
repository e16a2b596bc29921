use Rattle.portal_rules.proofs.Steps as steps
use Rattle.portal_rules.proofs.Opened as stays
use Rattle.portal_rules.proofs.Capacities as capacities
use Rattle.portal_rules.proofs.laws.step_good.Goals as goal

pub returns : goal.returns
returns c = record {
  good = steps.step_good;
  first = stays.first_stays;
  capacities = λ w v code ask reply good step. capacities.keeps v (steps.step_good w v code ask reply good step);
}
