use Rattle.portal_rolls.proofs.Base.{◌≡◌}
use Rattle.portal_rolls.specs.Lines as spec
use Rattle.portal_rolls.specs.inner.AsRead as form
use Rattle.portal_rolls.proofs.instance.file_of.Given as goal

abbrev pub invariant-loop-line : goal.invariant-loop-line
invariant-loop-line l = form.file l.file ≡ spec.file_of l.yielded
