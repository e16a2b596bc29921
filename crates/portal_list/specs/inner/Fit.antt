-- Rows put together to entries: each roll in its order takes what stands next for it, until nothing
-- is left.
use Rattle.std.specs.Prelude.{◌&&◌, if◌then◌else◌, List, [], ◌∷◌, Option, Some, None, option_map, ◌≡◌}
use Rattle.portal_rules.specs.declared.phase.Round.{Round}
use Rattle.portal_rules.specs.declared.phase.Round.TheVariants.{First, Second}
use Rattle.portal_rules.specs.declared.rows.LecturerRow.{LecturerRow}
use Rattle.portal_rules.specs.declared.rows.StudentRow.{StudentRow}
use Rattle.portal_rules.specs.Words.{Key, equals, is_empty}
use Rattle.portal_rules.specs.World.{Lecturer, Student, World}
use Rattle.portal_rules.specs.Good.{Sound}
use Rattle.portal_list.specs.Rows.{RowsOfWorld, world_rows}

-- what stands next, if it is for this key
abbrev pub next_for : {V : Type 0} → Key → List (Key × V) → Option V
next_for k [] = None
next_for k (x ∷ xs) = if equals x.0 k then Some x.1 else None

-- the rest, without it
abbrev pub rest_for : {V : Type 0} → Key → List (Key × V) → List (Key × V)
rest_for k [] = []
rest_for k (x ∷ xs) = if equals x.0 k then xs else x ∷ xs

-- the list of the earlier round: in the second round the one that stands next, in the first an
-- empty one
abbrev pub earlier_for : Round → Key → List (Key × List Key) → Option (List Key)
earlier_for First k xs = Some []
earlier_for Second k xs = next_for k xs

abbrev pub earlier_rest : Round → Key → List (Key × List Key) → List (Key × List Key)
earlier_rest First k xs = xs
earlier_rest Second k xs = rest_for k xs

-- by the rankings, and those of the earlier round
abbrev pub lecturers_fitting : List LecturerRow → List (Key × List Key) → List (Key × List Key) → Option (List Lecturer)
lecturers_fitting [] rankings earlier = if is_empty rankings && is_empty earlier then Some [] else None
lecturers_fitting (r ∷ rs) rankings earlier =
    option_map (λ ls. record { row = r; ranking = next_for r.key rankings; earlier_ranking = next_for r.key earlier } ∷ ls)
    (lecturers_fitting rs (rest_for r.key rankings) (rest_for r.key earlier))

-- a student with the lists, if they are there, before other students
abbrev pub with_lists : StudentRow → Option (List Key) → Option Key → Option (List Key) → Option Key
    → Option (List Student) → Option (List Student)
with_lists r (Some list) place (Some earlier) earlier_placement others =
    option_map (λ ss. record { row = r; choice = list; placed = place; earlier_choice = earlier; earlier_placement = earlier_placement } ∷ ss) others
with_lists r _ place _ earlier_placement others = None

-- by the lists and the places, and those of the earlier round
abbrev pub students_fitting : Round → List StudentRow → List (Key × List Key) → List (Key × Key) → List (Key × List Key)
    → List (Key × Key) → Option (List Student)
students_fitting round [] choices pairs earlier earlier_pairs =
    if is_empty choices && is_empty pairs && is_empty earlier && is_empty earlier_pairs then Some [] else None
students_fitting round (r ∷ rs) choices pairs earlier earlier_pairs =
    with_lists r (next_for r.key choices) (next_for r.key pairs) (earlier_for round r.key earlier) (next_for r.key earlier_pairs)
    (students_fitting round rs (rest_for r.key choices) (rest_for r.key pairs) (earlier_rest round r.key earlier) (rest_for r.key earlier_pairs))

-- these are the rows of the world, and of no other that is sound
pub record IsFitted (rows : RowsOfWorld) (w : World) : Type 0 where
  pub rows_are : rows ≡ world_rows w
  pub once : (v : World) → rows ≡ world_rows v → Sound v → w ≡ v
