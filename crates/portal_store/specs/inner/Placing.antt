-- The result: the students' places, and then the phase.
use Rattle.std.specs.Prelude.{◌≡◌, if◌then◌else◌, is_none, Option, None, option_map, List, [], ◌∷◌}
use Rattle.sqlite.specs.Order.{Row, column}
use Rattle.sqlite.specs.Effect.{Database}
use Rattle.portal_rules.specs.Words.{Key}
use Rattle.portal_rules.specs.World.{Placements, placement_in}
use Rattle.portal_tables.specs.Tables.{student_tree}
use Rattle.portal_tables.specs.inner.Changes.{ListsBy, every, columns}
use Rattle.portal_tables.specs.Rows.{text_or_none}
use Rattle.portal_tables.specs.inner.RowChanges.{Assigned}
use Rattle.portal_tables.specs.inner.Shown.{first_cell}
use Rattle.std.specs.List.{filter_map}
use Rattle.portal_rules.specs.declared.phase.Round.{Round}
use Rattle.portal_rules.specs.declared.phase.Round.TheVariants.{Second}
use Rattle.portal_store.specs.inner.Keeping.{IsTransitionIn}

-- what the pairs say of the student of whom a row is shown
abbrev pub assigned_of : List (Key × Key) → Row → Assigned
assigned_of pairs shown = (first_cell shown, placement_in pairs (first_cell shown))

-- what they say of a student of whom a row is shown, who has no project of the first round
abbrev pub pair_left : List (Key × Key) → Row → Option (Key × Key)
pair_left pairs shown = if is_none (text_or_none (column shown 3)) then option_map (λ p. (first_cell shown, p)) (placement_in pairs (first_cell shown)) else None

-- these rows are the roll of students, as a query shows it
abbrev pub ShowsRoll : List Row → Database → Type 0
ShowsRoll shown db = ListsBy (1 ∷ []) every (columns (1 ∷ 2 ∷ 3 ∷ 4 ∷ [])) (db.trees student_tree) shown

-- the places and the phase, where the rows are the roll
abbrev pub TurnsShown : Round → List (Key × Key) → List Row → Database → Database → Type 0
TurnsShown round pairs shown old new = ShowsRoll shown old → IsTransitionIn round (Placements pairs) old new

-- the places of the second round and its phase, where these are what pairs say of the roll
abbrev pub TurnsLeft : List (Key × Key) → Database → Database → Type 0
TurnsLeft left old new =
    (pairs : List (Key × Key)) (shown : List Row) → left ≡ filter_map (pair_left pairs) shown
    → TurnsShown Second pairs shown old new
