use Rattle.portal_rules.proofs.Base.{List, ap, sym, ◌∙◌, arith, ◌||◌, not, list_any, has}
use Rattle.portal_deciding.proofs.Persons.{passed_at, passed_more}
use Rattle.portal_rules.proofs.Tables.{left_out}
use Rattle.portal_deciding.proofs.applicants.lacks_one.Goals as goal
use Rattle.portal_rules.specs.declared.rows.Person.{Person}

pub returns-then-leaves_out : goal.returns-then-leaves_out
returns-then-leaves_out c =
    let test = λ (ps : List Person). list_any (λ s. not (has c.args.keys.now s.key)) ps in
    sym (passed_at test c.args.applicants.now c.loop-persons.persons-index c.loop-persons-item.result (omega arith) c.loop-persons-item.is
    (ap test (sym c.deref.ensures.value) ∙ sym (left_out c.args.keys.now c.in_ok-texts.texts c.in_ok-texts.ensures c.deref.result.now)
    ∙ sym c.leaves_out.ensures ∙ c.if-leaves_out.true))

pub loop-persons-preserved : goal.loop-persons-preserved
loop-persons-preserved c =
    let test = λ (ps : List Person). list_any (λ s. not (has c.args.keys.now s.key)) ps in
    passed_more test c.args.applicants.now c.loop-persons.persons-index c.loop-persons-item.result (omega arith) c.loop-persons-item.is
    ∙ ap (λ b. b || test c.loop-persons-item.result.1.items) c.loop-persons.invariant
    ∙ ap test (sym c.deref.ensures.value) ∙ sym (left_out c.args.keys.now c.in_ok-texts.texts c.in_ok-texts.ensures c.deref.result.now)
    ∙ sym c.leaves_out.ensures ∙ c.if-leaves_out.false
