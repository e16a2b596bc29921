use Rattle.portal_views.proofs.Base.{◌∙◌, ap, sym, put, person_key, put_all_more}
use Rattle.portal_views.proofs.applicants.put_persons.Goals as goal

pub loop-person-preserved : goal.loop-person-preserved
loop-person-preserved c = c.in_ok-put_person.ensures ∙ ap (put person_key c.in-Some.person) c.loop-person.invariant
    ∙ sym (put_all_more person_key c.loop-person.yielded c.in-Some.person c.args.persons.now.items)
