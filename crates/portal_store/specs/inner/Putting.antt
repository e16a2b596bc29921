-- What putting rankings into their table does to the world.
use Rattle.std.specs.Prelude.{◌≡◌, true, List, [], ◌∷◌, map}
use Rattle.std.specs.List.{AllByRecursion}
use Rattle.sqlite.specs.Effect.{Database}
use Rattle.portal_rules.specs.Words.{Key, has, Rise}
use Rattle.portal_rules.specs.World.{World, lecturer_key, Ranks, changed}
use Rattle.portal_tables.specs.Tables.{lecturer_tree}
use Rattle.portal_rules.specs.declared.phase.Round.{Round}
use Rattle.portal_store.specs.World.{world_in}
use Rattle.portal_tables.specs.Rows.{row_key}
use Rattle.portal_store.specs.Kept.{IsConsistentIn}
use Rattle.portal_store.specs.inner.Keeping.{HasChangedIn}

-- where the lecturer is on the roll, whose keys rise, the tables of the round turn to the world
-- with this ranking
abbrev pub TurnsThere : Round → Key → List Key → Database → Database → Type 0
TurnsThere round k list old new =
    has (map row_key (old.trees lecturer_tree)) k ≡ true → IsConsistentIn round old → Rise (map lecturer_key (world_in round old.trees).lecturers)
    → HasChangedIn round (Ranks k list) old new

-- the world with these rankings, one after the other
abbrev pub with_rankings : World → List (Key × List Key) → World
with_rankings w [] = w
with_rankings w (f ∷ fs) = with_rankings (changed w (Ranks f.0 f.1)) fs

-- where these lecturers are on the roll, whose keys rise, the tables turn to the world with these
-- rankings
pub record HasRankings (round : Round) (fills : List (Key × List Key)) (old new : Database) : Type 0 where
  pub holds : IsConsistentIn round new
  pub world : world_in round new.trees ≡ with_rankings (world_in round old.trees) fills

abbrev pub TurnsAll : Round → List (Key × List Key) → Database → Database → Type 0
TurnsAll round fills old new =
    IsConsistentIn round old → Rise (map lecturer_key (world_in round old.trees).lecturers)
    → AllByRecursion (λ f. has (map lecturer_key (world_in round old.trees).lecturers) f.0 ≡ true) fills → HasRankings round fills old new
