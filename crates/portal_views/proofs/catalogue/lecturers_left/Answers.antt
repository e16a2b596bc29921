use Rattle.portal_views.proofs.Base.{◌∙◌, lecturer_left, next_given}
use Rattle.portal_views.proofs.catalogue.lecturers_left.Goals as goal

pub loop-lecturer-preserved : goal.loop-lecturer-preserved
loop-lecturer-preserved c =
    c.in_ok-push_some.ensures
    ∙ next_given (lecturer_left c.args.projects.now c.args.pairs.now) c.args.lecturers.now c.loop-lecturer.lecturer-index
    c.lecturer-item.result c.loop-lecturer.found.items c.in_ok-left.left
    c.lecturer-item.is c.loop-lecturer-test.true c.loop-lecturer.invariant c.in_ok-left.ensures
