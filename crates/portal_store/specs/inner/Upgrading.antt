-- How the tables of version 1 are upgraded, before a store is made of them.
use Rattle.std.specs.Prelude.{◌≡◌, false}
use Rattle.sqlite.specs.Held.{Held, state}
use Rattle.sqlite.specs.State.{HasCleanDisk, Survives}
use Rattle.sqlite.specs.Store.{Ghosts}
use Rattle.portal_rules.specs.declared.phase.Round.TheVariants.{First}
use Rattle.portal_list.specs.Rows.{AllEntries, HasEntries}
use Rattle.portal_tables.specs.Making.{Upgrades, has_names}
use Rattle.portal_tables.specs.Steps.{Commits, LeavesOnly}
use Rattle.portal_tables.specs.Tables.{IsFirstSchema, first_version}
use Rattle.portal_tables.specs.declared.sql.names.Names.TheVariants.{OfSecond}
use Rattle.portal_store.specs.Crash.{AreFirst, IsUpgradedFrom, LeavesUpgraded}
use Rattle.portal_store.specs.World.{world_in}
use Rattle.portal_store.specs.inner.Asked.{AdmitsAs}

-- tables of version 1 were upgraded, whose world has these entries
pub record UpgradesWithEntries {S : Type 0} (g : Ghosts S) (entries : AllEntries) (old new : Held S) : Type 0 where
  pub idle : new.in_transaction ≡ false
  -- no table had one of the five new names
  pub free : has_names OfSecond old.schema ≡ false
  -- the tables were such as an upgrade looks for
  pub first : HasCleanDisk (state g new) → AreFirst (state g old)
  -- own tables were admitted
  pub admitted : IsFirstSchema old.schema → HasCleanDisk (state g new) → AdmitsAs first_version (state g old).now.trees
  -- and the entries are those of their world
  pub entered : IsFirstSchema old.schema → HasCleanDisk (state g new)
      → HasEntries entries (world_in First (state g old).now.trees)
  -- they were upgraded in one commit
  pub commits : HasCleanDisk (state g new) → Commits Upgrades (state g old) (state g new)
  -- a crash leaves only what was committed
  pub durable : HasCleanDisk (state g new) → LeavesOnly (state g new)
  -- or, if it came before, what it left then
  pub crash : Survives (state g old) (state g new) (LeavesUpgraded (state g old))
  -- of own tables, whatever it leaves has the same world
  pub left : IsFirstSchema old.schema → Survives (state g old) (state g new) (IsUpgradedFrom (state g old).now.trees)
