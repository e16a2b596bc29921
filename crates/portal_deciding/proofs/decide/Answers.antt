use Rattle.std.proofs.lemmas.Result.{IfOk-weaker}
use Rattle.portal_rules.proofs.Base.{call_model, decision_model}
use Rattle.portal_deciding.proofs.Numbers.{whole_office, whole_lecturer, whole_student}
use Rattle.portal_deciding.proofs.decide.Goals as goal

pub returns-in-Office-clause-whole : goal.returns-in-Office-clause-whole
returns-in-Office-clause-whole c = IfOk-weaker c.decide_office.result _ _
    (λ d e. whole_office c.in-Office.office (call_model c.args.call.now) (decision_model d) e) c.decide_office.ensures

pub returns-in-Lecturer-clause-whole : goal.returns-in-Lecturer-clause-whole
returns-in-Lecturer-clause-whole c = IfOk-weaker c.decide_lecturer.result _ _
    (λ d e. whole_lecturer c.in-Lecturer.lecturer (call_model c.args.call.now) (decision_model d) e) c.decide_lecturer.ensures

pub returns-in-Student-clause-whole : goal.returns-in-Student-clause-whole
returns-in-Student-clause-whole c = IfOk-weaker c.decide_student.result _ _
    (λ d e. whole_student c.in-Student.student (call_model c.args.call.now) (decision_model d) e) c.decide_student.ensures
