-- A catalogue of rows alone.
use Rattle.std.specs.Prelude.{List, Option, option_map}
use Rattle.std.specs.List.{filter_map, find}
use Rattle.portal_rules.specs.Words.{Key, equals}
use Rattle.portal_rules.specs.View.{listing_with}
use Rattle.portal_rules.specs.declared.rows.LecturerRow.{LecturerRow}
use Rattle.portal_rules.specs.declared.rows.Listing.{Listing}
use Rattle.portal_rules.specs.declared.rows.ProjectRow.{ProjectRow}

-- the name of the lecturer with this key
abbrev pub name_of : List LecturerRow → Key → Option Key
name_of ls k = option_map (λ (l : LecturerRow). l.name) (find (λ l. equals l.key k) ls)

-- each project with its lecturer's name
abbrev pub offered : List LecturerRow → List ProjectRow → List Listing
offered ls ps = filter_map (λ p. option_map (listing_with p) (name_of ls p.lecturer)) ps
