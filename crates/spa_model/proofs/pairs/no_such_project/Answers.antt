use Rattle.spa_model.proofs.Base.{◌≡◌, get_or, sym, ◌∙◌, ap, arith, NoSuchProject, project_in, HasPairFault, IsLeastOf}
use Rattle.spa_model.proofs.Base.{least_step, least_all}
use Rattle.spa_model.proofs.PairFaults.{IsBadPair, number_at, past_number, projects_below, if_none}
use Rattle.spa_model.proofs.pairs.no_such_project.Goals as goal

pub loop-j-preserved : goal.loop-j-preserved
loop-j-preserved c =
    let number : get_or c.args.projects.now c.loop-j.j 0
    ≡ project_in c.args.instance.now c.index-lines-j.result =
    number_at (project_in c.args.instance.now) c.args.lines.now c.args.projects.now c.loop-j.j c.index-lines-j.result c.requires
    c.loop-j-test.true (sym c.index-lines-j.is) in
    least_step c.args.lines.now (λ x. x.row)
    (IsBadPair c.args.instance.now c.args.lines.now NoSuchProject) c.loop-j.j c.index-lines-j.result c.loop-j.best _ _ _
    c.least_with-best.ensures (ap (λ x. x.row) c.line.view_is) c.loop-j-test.true (sym c.index-lines-j.is)
    (past_number c.args.instance.now.project_keys c.index-lines-j.result.project c.projects-count.result _
    (c.projects-count.ensures.count ∙ sym c.projects-count.ensures.lawful.project_key_rows) number) c.loop-j.invariant

pub returns-clause-least : goal.returns-clause-least
returns-clause-least c = least_all c.args.lines.now (λ x. x.row)
    (IsBadPair c.args.instance.now c.args.lines.now NoSuchProject) c.loop-j.j c.loop-j.best (omega arith) c.loop-j.invariant

pub returns-clause-known : goal.returns-clause-known
returns-clause-known c =
    let least : IsLeastOf (HasPairFault c.args.instance.now c.args.lines.now NoSuchProject) c.loop-j.best =
    least_all c.args.lines.now (λ x. x.row) (IsBadPair c.args.instance.now c.args.lines.now NoSuchProject) c.loop-j.j c.loop-j.best
    (omega arith) c.loop-j.invariant in
    if_none _ _ c.loop-j.best (λ none. projects_below c.args.instance.now c.args.lines.now c.args.projects.now
    c.projects-count.ensures.lawful none c.requires) least
