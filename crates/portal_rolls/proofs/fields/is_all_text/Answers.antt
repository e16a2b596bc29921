use Rattle.portal_rolls.proofs.Base.{fields_of}
use Rattle.portal_rolls.proofs.Header.{ends_text, one_text}
use Rattle.portal_rolls.proofs.fields.is_all_text.Goals as goal

pub returns-then-not-is_text : goal.returns-then-not-is_text
returns-then-not-is_text c = ends_text (fields_of c.args.row.now) c.loop-i.i c.field.result.now c.field.ensures c.if-not-is_text.ensures
    c.loop-i.invariant

pub loop-i-preserved : goal.loop-i-preserved
loop-i-preserved c = one_text (fields_of c.args.row.now) c.loop-i.i c.field.result.now c.field.ensures c.if-not-is_text.ensures
    c.loop-i.invariant
