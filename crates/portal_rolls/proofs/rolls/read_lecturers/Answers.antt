use Rattle.portal_rolls.proofs.Forms.{given, lecturer_form}
use Rattle.portal_rolls.proofs.Base.{records_of, lecturer_format}
use Rattle.portal_rolls.specs.Views as view
use Rattle.portal_rolls.proofs.rolls.read_lecturers.Goals as goal

pub returns-clause-formed : goal.returns-clause-formed
returns-clause-formed c = given view.items lecturer_format _ lecturer_form
    (records_of c.args.text.now) c.read_text.result c.read_text.ensures
