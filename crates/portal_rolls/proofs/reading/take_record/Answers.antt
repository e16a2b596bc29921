use Rattle.portal_rolls.proofs.Base.{fields_of}
use Rattle.portal_rolls.proofs.Rest.{takes_next}
use Rattle.portal_rolls.proofs.reading.take_record.Goals as goal

pub returns-in-Ok-clause-took : goal.returns-in-Ok-clause-took
returns-in-Ok-clause-took c rows h =
    takes_next c.args.rdr.now c.read_byte_record.new.self rows _ (fields_of c.read_byte_record.new.row) h c.requires.config
    (c.in-Ok.ensures.reads c.requires.trim c.requires.ready)
