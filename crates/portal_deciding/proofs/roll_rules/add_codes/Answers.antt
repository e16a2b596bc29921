use Rattle.portal_rules.proofs.Base.{arith, ◌∙◌}
use Rattle.portal_rules.proofs.Tables.{text_more}
use Rattle.portal_deciding.proofs.roll_rules.add_codes.Goals as goal

pub loop-row-preserved : goal.loop-row-preserved
loop-row-preserved g c = λ given was.
    text_more c.args.rows.now g.X.Coded.code_of given c.loop-row.codes c.insert.new.self c.as_bytes.result c.loop-row.row-index
    c.row-item.result c.in_ok-insert.ensures.updates (c.as_bytes.ensures.bytes ∙ c.code.ensures) (omega arith)
    c.row-item.is (c.loop-row.invariant given was)
