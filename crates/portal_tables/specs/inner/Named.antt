-- The names of the portal's tables one by one, and which tables and views have them.
use Rattle.std.specs.Prelude.{◌||◌, ◌&&◌}
use Rattle.portal_tables.specs.Base.{View, same_name}
use Rattle.portal_tables.specs.Making.{stands_for_table}
use Rattle.portal_tables.specs.inner.Base.{ℕ, Bool, List, Table, codes}
use Rattle.portal_tables.specs.declared.sql.names.Names.{Names}
use Rattle.portal_tables.specs.declared.sql.names.Names.TheVariants.{All, OfSecond}

abbrev pub has_first_name : List ℕ → Bool
has_first_name n =
    same_name n (codes "portal") || (same_name n (codes "lecturer") || (same_name n (codes "project")
    || (same_name n (codes "student") || (same_name n (codes "choice") || same_name n (codes "ranking")))))

abbrev pub has_second_name : List ℕ → Bool
has_second_name n =
    same_name n (codes "second") || (same_name n (codes "choice2") || (same_name n (codes "ranked2")
    || (same_name n (codes "ranking2") || same_name n (codes "assigned2"))))

abbrev pub is_name : Names → List ℕ → Bool
is_name All n = has_first_name n || has_second_name n
is_name OfSecond n = has_second_name n

abbrev pub is_named_table : Names → Table → Bool
is_named_table names t = is_name names t.name

abbrev pub is_named_view : Names → View → Bool
is_named_view names v = is_name names v.name && stands_for_table v.name v.foreign
