-- The state of a keeper, as contracts see it, and what each kind of call does to it.
use Rattle.std.specs.Prelude.{ℕ, ◌≡◌, ◌⊎◌, ◌+◌, Result, Ok, Err, OnOk, OnErr}
use Rattle.portal_rules.specs.World.{World}
use Rattle.portal_rules.specs.Good.{Good}
use Rattle.portal_rules.specs.declared.keeper.KeepFault.{KeepFault}
use Rattle.portal_rules.specs.declared.keeper.KeepFault.TheVariants.{Memory, Store}

pub record KeeperState : Type 1 where
  -- the stored world
  pub world : World
  -- the keeper is clean: `world` is what it stores; a clean store has its own tables and an open
  -- connection, and is not broken
  pub clean : Type 0
  -- the disk, if there is one, has returned only what was written so far (it may have reported
  -- errors)
  pub disk : Type 0
  -- the disk reported an error and the keeper gave up: each view and each change fails from then on
  pub broken : Type 0
  -- a stop of the machine at this moment may leave this world to the next process
  pub leaves : World → Type 0
  -- how many calls returned a fault of the store
  pub faults : ℕ

-- a stop leaves only the keeper's world
abbrev pub IsSettled : KeeperState → Type 0
IsSettled s = (w : World) → s.leaves w → w ≡ s.world

-- a disk that is clean after a call was clean before it, and then a clean keeper stayed clean
abbrev pub StaysClean : KeeperState → KeeperState → Type 0
StaysClean old new = new.disk → old.disk × (old.clean → new.clean)

-- if the disk is clean after a call: it was before, a clean keeper stayed clean or broke, and a
-- broken one is still broken
abbrev pub LastsOrBreaks : KeeperState → KeeperState → Type 0
LastsOrBreaks old new = new.disk → old.disk × (old.clean → new.clean ⊎ new.broken) × (old.broken → new.broken)

-- a clean keeper has a good world
abbrev pub KeepsGood : KeeperState → Type 0
KeepsGood s = s.clean → Good s.world

-- on a clean disk, the keeper is not broken
abbrev pub IsAlive : KeeperState → Type 0
IsAlive s = s.disk → s.broken → ⊥

-- a stop after a call leaves what one before it left, or what the call makes
abbrev pub LeavesBy : KeeperState → KeeperState → (World → Type 0) → Type 0
LeavesBy old new makes = new.disk → (w : World) → new.leaves w → old.leaves w ⊎ makes w

-- only a call that ends with a fault of the store is counted, once
abbrev pub CountsFaults : {A : Type 0} → Result A KeepFault → ℕ → ℕ → Type 0
CountsFaults (Ok answer) old new = new ≡ old
CountsFaults (Err Memory) old new = new ≡ old
CountsFaults (Err Store) old new = new ≡ old + 1

-- what every call does to a keeper, where `makes` holds of the worlds that it may make
pub record AfterCall {A E : Type 0} (r : Result A E) (old new : KeeperState) (makes : World → Type 0) : Type 0 where
  -- it makes no keeper clean
  pub clean : new.clean → old.clean
  -- if it succeeds, a clean keeper stays clean, on a clean disk
  pub lasts : OnOk r (StaysClean old new)
  -- in any case, on a clean disk: a clean keeper stays clean or breaks, a broken one stays broken
  pub breaks : LastsOrBreaks old new
  -- if the keeper is clean, a stop after it leaves only its world
  pub settled : new.clean → IsSettled new
  -- on a clean disk, a stop leaves what one before it left, or what the call makes
  pub leaves : LeavesBy old new makes

-- a call that looks at the world
pub record Looks {A : Type 0} (r : Result A KeepFault) (old new : KeeperState) : Type 0 where
  pub uses : AfterCall r old new (λ _. ⊥)
  -- it changes nothing
  pub same : new.clean → new.world ≡ old.world
  -- a fault of the store is counted
  pub counts : CountsFaults r old.faults new.faults

-- a call that changes the world to one of which `makes` holds
pub record Changes {A : Type 0} (r : Result A KeepFault) (old new : KeeperState) (makes : World → Type 0) : Type 0 where
  pub uses : AfterCall r old new (λ w. old.clean → makes w)
  -- it fails on a broken keeper
  pub alive : OnOk r (IsAlive new)
  -- after `Ok` the world is changed
  pub made : OnOk r (new.clean → makes new.world)
  -- after an error it is not
  pub same : OnErr r (new.clean → new.world ≡ old.world)
  -- a fault of the store is counted
  pub counts : CountsFaults r old.faults new.faults
