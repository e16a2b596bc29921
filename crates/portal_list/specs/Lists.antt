-- What contracts of keepers say of lists, which have no disk.
use Rattle.std.specs.Prelude.{◌≡◌}
use Rattle.portal_rules.specs.World.{World}
use Rattle.portal_rules.specs.Keeping.{KeeperState}

-- the state of lists with this world
pub record IsOfLists (w : World) (s : KeeperState) : Type 0 where
  -- this is its world
  pub world : s.world ≡ w
  -- it is clean, and so is the disk
  pub clean : s.clean
  pub disk : s.disk
  -- it is not broken
  pub unbroken : s.broken → ⊥
  -- a stop leaves no world
  pub none : (v : World) → s.leaves v → ⊥
  -- no fault of a store is counted
  pub faults : s.faults ≡ 0

-- it is so, whatever the lists hold
abbrev pub AreLists : (World → KeeperState) → Type 0
AreLists state = (w : World) → IsOfLists w (state w)
