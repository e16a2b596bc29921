use Rattle.portal_rules.proofs.Opening as opening
use Rattle.portal_rules.proofs.laws.round_opens.Goals as goal

pub returns : goal.returns
returns c = record {
  step = opening.step_turns;
  run = opening.run_turns;
  opens = opening.opens_so;
  kept = opening.first_kept;
}
