-- The project that a round's result gives to a student: of the first round in the student's row, of
-- the second in `assigned2`.
use Rattle.std.specs.Prelude.{◌≡◌, ◌≤◌, ◌∷◌, if◌then◌else◌, is_none}
use Rattle.portal_tables.specs.inner.Base.{List, [], map, filter_map, Option, Some, None, option_map, IfSome, true}
use Rattle.portal_tables.specs.inner.Base.{length, Row, bytes, column, Trees, Round, First, Second, Phase, Key, is_key}
use Rattle.portal_tables.specs.inner.Base.{is_published}
use Rattle.portal_tables.specs.Rows.{of_key, second_placement, text_or_none}
use Rattle.portal_tables.specs.inner.Shown.{first_cell}
use Rattle.portal_tables.specs.Tables.{student_tree, assigned2_tree}
use Rattle.portal_tables.specs.inner.Changes.{columns}
use Rattle.portal_tables.specs.inner.Rolls.{by_key}

-- the project in a row of `assigned2`
abbrev pub placed_project : Row → Key
placed_project a = bytes (column a 2)

-- the place in a round of the student whose row is shown
abbrev pub placement_shown : Round → Trees → Row → Option Key
placement_shown First db c = text_or_none (column c 3)
placement_shown Second db c = second_placement db (first_cell c)

-- the place that the round before gave to that student
abbrev pub placement_before : Round → Row → Option Key
placement_before First c = None
placement_before Second c = text_or_none (column c 3)

-- the place that the student is shown: of the round before, or of the round once it is published
abbrev pub result_shown : Round → Trees → Phase → Row → Option Key
result_shown round db phase c = if is_none (placement_before round c) then (if is_published phase then placement_shown round db c else None) else placement_before round c

-- that of a round, or with a phase the one that is shown in it
abbrev pub placement_asked : Round → Option Phase → Trees → Row → Option Key
placement_asked round None db c = placement_shown round db c
placement_asked round (Some phase) db c = result_shown round db phase c

-- the same as a pair of the student and the project
abbrev pub pair_shown : Round → Option Phase → Trees → Row → Option (Key × Key)
pair_shown round phase db c = option_map (λ p. (first_cell c, p)) (placement_asked round phase db c)

-- the first round's place, if there is one, has the form of a key
abbrev pub HasFirstPlace : Row → Type 0
HasFirstPlace c = IfSome (text_or_none (column c 3)) (λ p. is_key p ≡ true)

-- what the reading of a place asks: it has the form of a key, and in the second round there is no
-- more than one row of the student with this key
abbrev pub HasSecondPlace : Trees → Key → Type 0
HasSecondPlace db student =
    IfSome (second_placement db student) (λ p. is_key p ≡ true) × (length (of_key student (db assigned2_tree)) ≤ 1)

abbrev pub HasPlacement : Round → Trees → Row → Type 0
HasPlacement First db c = HasFirstPlace c
HasPlacement Second db c = HasSecondPlace db (first_cell c)

-- the same of the place that is asked for
abbrev pub HasPlacementAsked : Round → Option Phase → Trees → Row → Type 0
HasPlacementAsked round None db c = HasPlacement round db c
HasPlacementAsked round (Some phase) db c = HasFirstPlace c × HasPlacement round db c

-- of the first round alone: the key and the place of each student, by key
abbrev pub places_shown : Trees → List Row
places_shown db = map (columns (1 ∷ 4 ∷ [])) (by_key (db student_tree))

-- the pair of a student who has a place
abbrev pub first_pair : Row → Option (Key × Key)
first_pair c = option_map (λ p. (first_cell c, p)) (text_or_none (column c 1))

-- key and place have the form of a key
abbrev pub HasPairKeys : Row → Type 0
HasPairKeys c = (is_key (first_cell c) ≡ true) × IfSome (text_or_none (column c 1)) (λ p. is_key p ≡ true)

-- the result of the first round
abbrev pub first_pairs : Trees → List (Key × Key)
first_pairs db = filter_map first_pair (places_shown db)
