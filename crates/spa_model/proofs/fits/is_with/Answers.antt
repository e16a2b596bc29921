use Rattle.spa_model.proofs.Base.{arith}
use Rattle.spa_model.proofs.fits.is_with.Goals as goal

pub prove-unreachable-requires : goal.prove-unreachable-requires
prove-unreachable-requires c = omega (
  arith,
  c.projects.ensures.lawful.known c.args.s c.in-Some.p (c.requires.acceptable c.args.s c.in-Some.p cc),
)
