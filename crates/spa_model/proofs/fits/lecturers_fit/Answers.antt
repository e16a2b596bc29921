use Rattle.spa_model.proofs.Base.{refl, arith}
use Rattle.spa_model.proofs.Fitting.{lecturers_all}
use Rattle.spa_model.proofs.fits.lecturers_fit.Goals as goal

pub returns : goal.returns
returns c = (
  λ _. lecturers_all c.args.instance.now c.args.projects.now c.lecturers-l-end.ensures.lawful c.requires
      (λ q h. c.loop-l.invariant q (omega arith)),
  λ _. refl,
)
