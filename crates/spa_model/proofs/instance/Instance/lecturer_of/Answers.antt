use Rattle.spa_model.proofs.Base.{◌≡◌, subst, arith, lecturer_of, IsLawful}
use Rattle.std.proofs.lemmas.Grind.{common_steps}
use Rattle.spa_model.proofs.instance.Instance.lecturer_of.Goals as goal

-- each project's lecturer is there
pub returns-clause-in_range : goal.returns-clause-in_range
returns-clause-in_range c =
    let gives : c.index.result.now.lecturer ≡ lecturer_of c.args.self.now c.args.p = grind (arith, common_steps) in
    rw gives ((subst IsLawful c.self.view_is c.self.invariant.0).offered c.args.p c.requires)
