use Rattle.portal_rules.proofs.Base.{answer, view}
use Rattle.portal_core.proofs.Going.{step_there, run_there, run_only}
use Rattle.portal_core.proofs.laws.run_exists.Goals as goal

pub returns : goal.returns
returns c = record {
  step = λ w code ask good form. let one = step_there w good code ask form in (answer (view w code) ask, one.0, one.1);
  run = λ w asked good. (λ some. run_only w asked some.0 some.1 some.2 some.3, run_there w asked good);
}
