use Rattle.portal_rules.proofs.Lasting as lasting
use Rattle.portal_rules.proofs.laws.results_stay.Goals as goal

pub returns : goal.returns
returns c = record {
  step = lasting.step_still;
  run = λ w c asked told after good run. lasting.run_still c w asked told after good run;
  first = lasting.first_still;
}
