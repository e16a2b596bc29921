-- Tables of texts and of rows, to be asked by the bytes of a text.
use Rattle.std.specs.Prelude.{◌≡◌, Bool, List, is_some, option_map, IfSome}
use Rattle.std.specs.Borrow.{Bor}
use Rattle.std.specs.List.{find}
use Rattle.std.specs.HashMap as map
use Rattle.std.specs.HashMap.{HashMap}
use Rattle.std.specs.HashSet as set
use Rattle.std.specs.HashSet.{HashSet}
use Rattle.spa_rows.specs.inner.Index.{text_eq}
use Rattle.portal_rules.specs.declared.rows.ProjectRow.{ProjectRow}
use Rattle.portal_rules.specs.Words.{Key, equals, has}
use Rattle.portal_rules.specs.Calls.{OfficeSees}

-- the table has just these texts
abbrev pub HasTexts : {S : Type 0} → List Key → HashSet (Bor Key) S → Type 0
HasTexts texts table = (q : Bor Key) → set.contains text_eq table q ≡ has texts q.now

-- the table has at each key the first of the rows with that key
abbrev pub HasRows : {X S : Type 0} → (X → Key) → List X → HashMap (Bor Key) (Bor X) S → Type 0
HasRows key rows table =
    (q : Bor Key) → option_map (λ row. row.now) (map.get text_eq table q) ≡ find (λ x. equals (key x) q.now) rows

-- the table has at each known text the key that it is the text of, and nothing at another
abbrev pub HasKeys : {S : Type 0} → (Key → Bool) → HashMap (Bor Key) (Bor Key) S → Type 0
HasKeys known table =
    (q : Bor Key) → (is_some (map.get text_eq table q) ≡ known q.now)
    × IfSome (map.get text_eq table q) (λ key. key.now ≡ q.now)

-- the pairs are those of the result, and the table has the projects by their keys
abbrev pub HasPlacings : {S : Type 0} → OfficeSees → List (Key × Key) → HashMap (Bor Key) (Bor ProjectRow) S → Type 0
HasPlacings v pairs projects = (pairs ≡ v.pairs) × HasRows (λ row. row.key) v.projects projects
