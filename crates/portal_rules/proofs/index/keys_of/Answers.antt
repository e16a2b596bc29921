use Rattle.portal_rules.proofs.Base.{[], arith, ◌∙◌}
use Rattle.portal_rules.proofs.Tables.{text_more, text_all}
use Rattle.portal_rules.proofs.index.keys_of.Goals as goal

pub loop-row-preserved : goal.loop-row-preserved
loop-row-preserved g c =
    text_more c.args.rows.now g.X.Keyed.key_of [] c.loop-row.keys c.insert.new.self c.as_bytes.result c.loop-row.row-index c.row-item.result
    c.in_ok-insert.ensures.updates (c.as_bytes.ensures.bytes ∙ c.key.ensures) (omega arith)
    c.row-item.is c.loop-row.invariant

pub returns : goal.returns
returns g c = text_all c.args.rows.now g.X.Keyed.key_of c.loop-row.keys c.loop-row.row-index (omega arith) c.loop-row.invariant
