use Rattle.portal_rolls.proofs.Base.{rules, length-map}
use Rattle.portal_rolls.proofs.Quotes.{appended, plain, record-text}
use Rattle.portal_rolls.proofs.allocation.put_record.Goals as goal

pub returns : goal.returns
returns c = search (rules, length-map, record-text, appended, plain)
