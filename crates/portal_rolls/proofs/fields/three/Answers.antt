use Rattle.portal_rolls.proofs.Base.{fields_of}
use Rattle.portal_rolls.proofs.Cut.{three_is}
use Rattle.portal_rolls.proofs.fields.three.Goals as goal

pub returns : goal.returns
returns c = three_is (fields_of c.args.row.now) _ _ _ c.requires c.field.ensures c.field-2.ensures c.field-3.ensures
