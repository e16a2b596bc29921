-- The opening of the second round.
use Rattle.std.specs.Prelude.{◌≡◌, Bool, true, false}
use Rattle.sqlite.specs.Effect.{Database}
use Rattle.portal_rules.specs.declared.phase.Phase.TheVariants.{Published}
use Rattle.portal_rules.specs.declared.phase.Round.TheVariants.{First}
use Rattle.portal_rules.specs.World.{Change, SecondRound}
use Rattle.portal_store.specs.World.{phase_in}
use Rattle.portal_store.specs.Kept.{IsConsistentIn}
use Rattle.portal_store.specs.inner.Keeping.{HasChangedFrom}

-- where the first round is published, the tables turn to the world in which the second is open
abbrev pub OpensSecondRound : Database → Database → Type 0
OpensSecondRound old new =
    IsConsistentIn First old → phase_in First old.trees ≡ Published → HasChangedFrom First SecondRound old new

abbrev pub is_opening : Change → Bool
is_opening SecondRound = true
is_opening _ = false
