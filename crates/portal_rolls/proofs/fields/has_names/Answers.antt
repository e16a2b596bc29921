use Rattle.portal_rolls.proofs.Base.{length-map, ◌∙◌, sym, arith, fields_of, rules}
use Rattle.portal_rolls.proofs.Header.{all_names, name_differs, name_same, other_count}
use Rattle.portal_rolls.proofs.fields.has_names.Goals as goal

pub returns-then-len-names : goal.returns-then-len-names
returns-then-len-names c = other_count _ (fields_of c.args.row.now)
    (λ e. c.if-len-names.true (c.len.ensures ∙ sym e ∙ length-map c.args.names.now (λ n. n.now)))

pub returns-then-ne : goal.returns-then-ne
returns-then-ne c = search (rules, name_differs)

pub loop-i-preserved : goal.loop-i-preserved
loop-i-preserved c = search (rules, name_same)

pub returns : goal.returns
returns c = all_names c.args.names.now (fields_of c.args.row.now) c.loop-i.i (omega arith) (omega arith) c.loop-i.invariant
