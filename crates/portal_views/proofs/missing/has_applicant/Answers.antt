use Rattle.portal_views.proofs.Base.{◌∙◌, Bool, List, Row, arith, at_drop_all, common_steps, first_cell}
use Rattle.portal_views.proofs.Base.{is_wanted_shown, map, reads_handed, reads_more, reads_then, shown_project, state}
use Rattle.portal_views.proofs.Base.{sym}
use Rattle.portal_views.proofs.missing.has_applicant.Goals as goal

pub returns-in_err-is_chosen_in-clause-reads : goal.returns-in_err-is_chosen_in-clause-reads
returns-in_err-is_chosen_in-clause-reads g c =
    reads_handed c.from_residual.ensures.1 (reads_then c.loop-project.invariant c.in_err-is_chosen_in.ensures.reads) (λ own lists told. tt)

pub returns-then-branch-clause-reads : goal.returns-then-branch-clause-reads
returns-then-branch-clause-reads g c =
    reads_more tt (reads_then c.loop-project.invariant c.in_ok-is_chosen_in.ensures.reads)
    (λ own lists told. let before = told.0 in let here = told.1 in grind (arith, common_steps, before, here))

pub loop-project-preserved : goal.loop-project-preserved
loop-project-preserved g c =
    reads_more tt (reads_then c.loop-project.invariant c.in_ok-is_chosen_in.ensures.reads)
    (λ own lists told. let before = told.0 in let here = told.1 in grind (arith, common_steps, before, here))

pub returns-clause-reads : goal.returns-clause-reads
returns-clause-reads g c =
    let wanted : List Row → Bool = λ ps. is_wanted_shown c.args.round (state g.S.Store c.args.conn.now).now.trees (map shown_project ps)
    (first_cell c.args.lecturer.now) in
    reads_more tt c.loop-project.invariant (λ own lists told. sym
    (at_drop_all wanted c.args.projects.now c.loop-project.project-index (omega (arith, c.loop-project-test.false))) ∙ told)
