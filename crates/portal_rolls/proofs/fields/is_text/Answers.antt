use Rattle.portal_rolls.proofs.Base.{◌∙◌}
use Rattle.portal_rolls.proofs.Cut.{text_test}
use Rattle.portal_rolls.proofs.fields.is_text.Goals as goal

pub returns : goal.returns
returns c = c.is_ok.ensures.value ∙ text_test c.from_utf8.result _ c.args.field.now c.from_utf8.ensures.cases
