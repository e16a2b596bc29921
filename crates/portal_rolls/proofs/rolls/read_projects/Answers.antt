use Rattle.portal_rolls.proofs.Forms.{given, project_form}
use Rattle.portal_rolls.proofs.Base.{records_of, project_format}
use Rattle.portal_rolls.specs.Views as view
use Rattle.portal_rolls.proofs.rolls.read_projects.Goals as goal

pub returns-clause-formed : goal.returns-clause-formed
returns-clause-formed c = given view.items project_format _ project_form (records_of c.args.text.now) c.read_text.result c.read_text.ensures
