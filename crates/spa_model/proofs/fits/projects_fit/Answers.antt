use Rattle.spa_model.proofs.Base.{refl, arith}
use Rattle.spa_model.proofs.Fitting.{projects_all}
use Rattle.spa_model.proofs.fits.projects_fit.Goals as goal

pub returns : goal.returns
returns c = (
  λ _. projects_all c.args.instance.now c.args.projects.now c.projects-p-end.ensures.lawful c.requires
      (λ q h. c.loop-p.invariant q (omega arith)),
  λ _. refl,
)
