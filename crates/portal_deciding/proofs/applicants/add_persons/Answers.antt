use Rattle.portal_rules.proofs.Base.{refl, arith}
use Rattle.portal_rules.proofs.Tables.{person_more, person_all}
use Rattle.portal_deciding.proofs.applicants.add_persons.Goals as goal

pub loop-person-preserved : goal.loop-person-preserved
loop-person-preserved c = λ known was.
    person_more known c.args.persons.now c.loop-person.keys c.insert.new.self c.as_bytes.result _ c.loop-person.person-index
    c.person-item.result c.in_ok-insert.ensures.updates c.as_bytes.ensures.bytes refl (omega arith) c.person-item.is
    (c.loop-person.invariant known was)

pub returns : goal.returns
returns c = λ known was. person_all known c.args.persons.now c.loop-person.keys c.loop-person.person-index (omega arith)
    (c.loop-person.invariant known was)
