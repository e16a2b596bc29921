use Rattle.spa_model.proofs.Base.{◌≡◌, get_or, sym, ap, arith, NotAcceptable, student_in, project_in, length-map}
use Rattle.spa_model.proofs.Base.{least_step, least_all, rules}
use Rattle.spa_model.proofs.PairFaults.{IsBadPair, number_at}
use Rattle.spa_rows.proofs.Deciding.{not_iff}
use Rattle.spa_model.proofs.pairs.not_acceptable.Goals as goal

pub choices-requires : goal.choices-requires
choices-requires c = search (rules, c.requires.known, length-map)

pub loop-j-preserved : goal.loop-j-preserved
loop-j-preserved c =
    let s : get_or c.args.students.now c.loop-j.j 0
    ≡ student_in c.args.instance.now c.index-lines-j.result =
    number_at (student_in c.args.instance.now) c.args.lines.now c.args.students.now c.loop-j.j c.index-lines-j.result
    c.requires.students c.loop-j-test.true (sym c.index-lines-j.is) in
    let p : get_or c.args.projects.now c.loop-j.j 0
    ≡ project_in c.args.instance.now c.index-lines-j.result =
    number_at (project_in c.args.instance.now) c.args.lines.now c.args.projects.now c.loop-j.j c.index-lines-j.result
    c.requires.projects c.loop-j-test.true (sym c.index-lines-j.is) in
    least_step c.args.lines.now (λ x. x.row)
    (IsBadPair c.args.instance.now c.args.lines.now NotAcceptable) c.loop-j.j c.index-lines-j.result c.loop-j.best _ _ _
    c.least_with-best.ensures (ap (λ x. x.row) c.line.view_is) c.loop-j-test.true (sym c.index-lines-j.is)
    (not_iff _ _ (rw (c.choices.ensures.gives, s, p) at c.is_on-is_listed.ensures)) c.loop-j.invariant

pub returns : goal.returns
returns c = least_all c.args.lines.now (λ x. x.row) (IsBadPair c.args.instance.now c.args.lines.now NotAcceptable) c.loop-j.j c.loop-j.best
    (omega arith) c.loop-j.invariant
