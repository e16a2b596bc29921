-- What the pairs of the first round's result leave of a row, a matching's pairs, and the persons
-- at each project.
use Rattle.std.specs.Prelude.{ℕ, ◌-◌, nat_lt, if◌then◌else◌, count_by, List, map, filter, Option, Some, None}
use Rattle.std.specs.Prelude.{option_map, Vec, [], ◌∷◌, codes, slice_index_or}
use Rattle.portal_rules.specs.declared.rows.LecturerRow.{LecturerRow}
use Rattle.portal_rules.specs.declared.rows.ProjectRow.{ProjectRow}
use Rattle.portal_rules.specs.Words.{Key, equals, has}
use Rattle.serde_json.specs.Data.{Data, object, string, put as with_member}
use Rattle.portal_rules.specs.Bodies.{members, person, several, students_at}
use Rattle.portal_rules.specs.World.{project_key}
use Rattle.std.specs.declared.alloc.Global.{Global}
use Rattle.spa_rows.specs.declared.key.Key as kept
use Rattle.portal_rules.specs.declared.rows.Person.{Person}

-- how many pairs give one of these projects
abbrev pub pairs_among : List (Key × Key) → List Key → ℕ
pairs_among pairs keys = count_by (λ (x : Key × Key). has keys x.1) pairs

-- the keys of a lecturer's projects
abbrev pub own_keys : List ProjectRow → Key → List Key
own_keys projects lecturer = map project_key (filter (λ p. equals p.lecturer lecturer) projects)

-- what is left of a number, if anything is
abbrev pub room_of : ℕ → ℕ → Option ℕ
room_of capacity given = if nat_lt 0 (capacity - given) then Some (capacity - given) else None

abbrev pub project_left : List (Key × Key) → ProjectRow → Option ProjectRow
project_left pairs p = option_map (λ n. record p { capacity = n }) (room_of p.capacity (students_at pairs p.key))

abbrev pub lecturer_left : List ProjectRow → List (Key × Key) → LecturerRow → Option LecturerRow
lecturer_left projects pairs l =
    option_map (λ n. record l { capacity = n }) (room_of l.capacity (pairs_among pairs (own_keys projects l.key)))

-- the persons at each project
abbrev pub by_project : List (kept.Key × Vec Person Global) → List (Key × List Person)
by_project ps = map (λ p. (p.0, p.1.items)) ps

-- a project as JSON, with its persons as a member of this name
abbrev pub project_and_persons : List ℕ → Key × List Person → Data
project_and_persons name p =
    object (with_member name (several (map person p.1)) (members ((codes "id", string p.0) ∷ [])))

-- the pairs of a matching by numbers, for these students and projects, by student
abbrev pub pairs_by : List Key → List Key → List (Option ℕ) → List (Key × Key)
pairs_by (s ∷ ss) projects (Some p ∷ places) = (s, slice_index_or projects p []) ∷ pairs_by ss projects places
pairs_by (s ∷ ss) projects (None ∷ places) = pairs_by ss projects places
pairs_by _ _ _ = []
