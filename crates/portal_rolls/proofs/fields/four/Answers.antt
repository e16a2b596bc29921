use Rattle.portal_rolls.proofs.Base.{fields_of}
use Rattle.portal_rolls.proofs.Cut.{four_is}
use Rattle.portal_rolls.proofs.fields.four.Goals as goal

pub returns : goal.returns
returns c = four_is (fields_of c.args.row.now) _ _ _ _ c.requires c.field.ensures c.field-2.ensures c.field-3.ensures c.field-4.ensures
