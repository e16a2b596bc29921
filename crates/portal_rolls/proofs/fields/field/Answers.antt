use Rattle.portal_rolls.proofs.Base.{fields_of}
use Rattle.portal_rolls.proofs.Cut.{field_there}
use Rattle.portal_rolls.proofs.fields.field.Goals as goal

pub unreachable-requires : goal.unreachable-requires
unreachable-requires c = field_there (fields_of c.args.row.now) c.args.at c.requires c.in_default.ensures.value
