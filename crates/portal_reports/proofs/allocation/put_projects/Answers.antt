use Rattle.portal_reports.proofs.Base.{◌≡◌, ◌<◌, ◌++◌, ◌∙◌, List, length, ap, codes, decimal, project_line, padded_left}
use Rattle.portal_reports.proofs.Base.{padded_right, Vec, Global, get_or, subst, line_feed, students_at, one_more}
use Rattle.portal_rules.specs.declared.rows.ProjectRow.{ProjectRow}
use Rattle.portal_reports.proofs.allocation.put_projects.Goals as goal

pub loop-project-preserved : goal.loop-project-preserved
loop-project-preserved c =
    let v = c.args.view.now in
    let i = c.loop-project.project-index in
    let p = c.project-item.result in
    let items : c.deref-project-items.result.now ≡ v.projects = c.deref-project-items.ensures.value
    ∙ ap (λ (shared : Vec ProjectRow Global). shared.items) c.deref.ensures ∙ ap (λ w. w.projects) c.view.view_is in
    let inside : i < length v.projects = subst (λ xs. i < length xs) items c.loop-project-test.true in
    let here : p ≡ get_or v.projects i p = subst (λ (xs : List ProjectRow). p ≡ get_or xs i p) items c.project-item.is in
    let pairs : c.deref-in-loop-project.result.now ≡ v.pairs = c.deref-in-loop-project.ensures.value ∙ ap (λ w. w.pairs) c.view.view_is in
    let students = c.students_at-students.ensures ∙ ap (λ xs. students_at xs p.key) pairs in
    let line = c.as_bytes.ensures.value ∙ (c.in_ok-line.ensures
    ∙ ap (λ n. padded_left 16 p.key ++ padded_right 4 (decimal n) ++ codes " of "
    ++ padded_right 4 (decimal p.capacity) ++ line_feed) students) in
    c.in_ok-extend_from_slice.ensures.items ∙ ((λ j. c.loop-project.invariant j ++ line j)
    ∙ one_more (project_line v) c.args.text.now.items v.projects i p inside here)
