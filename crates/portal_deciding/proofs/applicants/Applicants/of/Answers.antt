use Rattle.portal_rules.proofs.Base.{List, take, arith, sym, ap, ◌∙◌, ◌||◌, list_any, equals, is_applicant}
use Rattle.portal_rules.proofs.Base.{by_project}
use Rattle.portal_deciding.proofs.Persons.{passed_more}
use Rattle.portal_rules.proofs.Tables.{known_alike}
use Rattle.portal_deciding.proofs.applicants.Applicants.of.Goals as goal
use Rattle.portal_rules.specs.declared.rows.Person.{Person}

pub loop-persons-preserved : goal.loop-persons-preserved
loop-persons-preserved c =
    let before = by_project (take c.loop-persons.persons-index c.args.projects.now) in
    known_alike _ _ c.add_persons.new.keys
    (λ k. let test = λ (ps : List Person). list_any (λ s. equals s.key k) ps in
    ap (λ (ps : List Person). is_applicant before k || test ps) c.deref.ensures.value
    ∙ sym (passed_more test c.args.projects.now c.loop-persons.persons-index c.loop-persons-item.result
    (omega arith) c.loop-persons-item.is))
    (c.in_ok-add_persons.ensures (is_applicant before) c.loop-persons.invariant)
