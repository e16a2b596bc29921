use Rattle.portal_rolls.proofs.Base.{◌≡◌, ◌++◌, drop}
use Rattle.portal_rolls.specs.Lines as spec
use Rattle.portal_rolls.specs.inner.AsRead as form
use Rattle.portal_rolls.proofs.Cut.{before}
use Rattle.portal_rolls.proofs.fields.list_of.Given as goal

abbrev pub invariant-loop-byte : goal.invariant-loop-byte
invariant-loop-byte l = form.text_views l.list.items ++ before l.piece.items (spec.cut_at_blanks (drop l.byte-index l.field))
    ≡ spec.cut_at_blanks l.field
