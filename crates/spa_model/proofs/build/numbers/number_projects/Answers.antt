use Rattle.spa_model.proofs.Base.{subst, AllZip, take_all, keys_of_lecturers, IsProjectOf, rules}
use Rattle.spa_model.proofs.Zips.{zip_more}
use Rattle.spa_model.proofs.build.numbers.number_projects.Goals as goal

pub loop-line-preserved : goal.loop-line-preserved
loop-line-preserved c = search (rules, zip_more)

pub returns : goal.returns
returns c = subst (λ lines. AllZip (IsProjectOf (keys_of_lecturers c.args.lecturers.now)) lines c.loop-line.projects.items)
    (take_all c.loop-line.line-index c.args.lines.now c.loop-line-test.false) c.loop-line.invariant

pub numbered_project-requires-clause-known : goal.numbered_project-requires-clause-known
numbered_project-requires-clause-known c =
    rw (c.in_ok-places.ensures, c.line-item.is) (c.requires.known c.loop-line.line-index c.line-item.result c.loop-line-test.true)
