-- Keepers and small worlds that the refutations share.
use Rattle.std.proofs.Common.{◌≡◌, ℕ, [], ◌∷◌}
use Rattle.std.specs.Prelude.{codes}
use Rattle.portal_rules.specs.declared.phase.Phase.TheVariants.{Setup, Choosing}
use Rattle.portal_rules.specs.declared.phase.Round.TheVariants.{First}
use Rattle.portal_rules.specs.Keeping.{KeeperState}
use Rattle.portal_rules.specs.World.{World, Choices, changed}
use Rattle.portal_rules.specs.declared.rows.StudentRow.{StudentRow}
use Rattle.portal_rules.specs.examples.Worked.{listed}

-- lists in memory with this world, after so many faults of a store
abbrev pub lists : World → ℕ → KeeperState
lists w n = record { world = w; clean = Unit {0}; disk = Unit {0}; broken = ⊥; leaves = λ v. v ≡ w; faults = n }

-- a keeper that gave up because its disk failed
abbrev pub broken : World → ℕ → KeeperState
broken w n = record { world = w; clean = ⊥; disk = Unit {0}; broken = Unit {0}; leaves = λ v. v ≡ w; faults = n }

-- a keeper that shows nothing, though its disk did not fail
abbrev pub shut : World → ℕ → KeeperState
shut w n = record { world = w; clean = ⊥; disk = Unit {0}; broken = ⊥; leaves = λ v. v ≡ w; faults = n }

abbrev pub empty : World
empty =
    record { round = First; phase = Setup; office = codes "office-code-0"; lecturers = []; projects = []; students = [] }

abbrev pub cyr : StudentRow
cyr = record { key = codes "S3"; name = codes "Cyr"; code = codes "cyr-code-3" }

abbrev pub dan : StudentRow
dan = record { key = codes "S4"; name = codes "Dan"; code = codes "dan-code-4" }

-- the example while lists are open
abbrev pub choosing : World
choosing = record listed { phase = Choosing }

-- the example with the first student's list turned round
abbrev pub turned : World
turned = changed listed (Choices (codes "S1") (codes "P2" ∷ codes "P1" ∷ []))
