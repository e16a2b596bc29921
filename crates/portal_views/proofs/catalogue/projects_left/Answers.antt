use Rattle.portal_views.proofs.Base.{◌∙◌, project_left, next_given}
use Rattle.portal_views.proofs.catalogue.projects_left.Goals as goal

pub loop-project-preserved : goal.loop-project-preserved
loop-project-preserved c =
    c.in_ok-push_some.ensures
    ∙ next_given (project_left c.args.pairs.now) c.args.projects.now c.loop-project.project-index c.project-item.result
    c.loop-project.found.items c.in_ok-left.left
    c.project-item.is c.loop-project-test.true c.loop-project.invariant c.in_ok-left.ensures
