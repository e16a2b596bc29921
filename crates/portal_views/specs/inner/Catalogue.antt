-- The catalogue of the projects, of the rows of the rolls.
use Rattle.std.specs.Prelude.{◌≡◌, ⊤}
use Rattle.portal_rules.specs.inner.Room.{lecturer_left, project_left}
use Rattle.portal_rules.specs.inner.Offers.{offered}
use Rattle.portal_views.specs.inner.Base.{List, map, filter, filter_map, AllByRecursion, Trees, Database, IsDatabase}
use Rattle.portal_views.specs.inner.Base.{Round, First, Second, LecturerRow, ProjectRow, Listing, Key, equals}
use Rattle.portal_views.specs.inner.Base.{IsLecturer, IsProject}
use Rattle.portal_tables.specs.declared.sql.select.RollTable.TheVariants.{Lecturers, Projects, Students}
use Rattle.portal_tables.specs.inner.Placements.{first_pairs, places_shown, HasPairKeys}
use Rattle.portal_tables.specs.inner.Rolls.{RollRises, lecturers_shown, projects_shown}
use Rattle.portal_tables.specs.inner.Shown.{shown_lecturer, shown_project}

-- Of these rows, each project with its lecturer's name. In the second round those with room alone,
-- each with the room that is left where the first gave these pairs.
abbrev pub offered_in : Round → List LecturerRow → List ProjectRow → List (Key × Key) → List Listing
offered_in First ls ps pairs = offered ls ps
offered_in Second ls ps pairs = offered (filter_map (lecturer_left ps pairs) ls) (filter_map (project_left pairs) ps)

-- of the tables
abbrev pub catalogue_shown : Round → Trees → List Listing
catalogue_shown round db =
    offered_in round (map shown_lecturer (lecturers_shown db)) (map shown_project (projects_shown db)) (first_pairs db)

-- what the reading of the rolls asks: they are sound, their keys rise, and each cell has its form
pub record HasOffers (db : Database) : Type 0 where
  pub sound : IsDatabase db
  pub lecturers_rise : RollRises Lecturers db.trees
  pub projects_rise : RollRises Projects db.trees
  pub lecturers : AllByRecursion (λ c. IsLecturer (shown_lecturer c)) (lecturers_shown db.trees)
  pub projects : AllByRecursion (λ c. IsProject (shown_project c)) (projects_shown db.trees)

-- what the reading of the first round's result asks, where it is read
abbrev pub HasFirstPairs : Round → Trees → Type 0
HasFirstPairs First db = ⊤
HasFirstPairs Second db = RollRises Students db × AllByRecursion HasPairKeys (places_shown db)

-- in the first round this is the catalogue of the tables; of another round nothing is said
abbrev pub IsCatalogue : Round → Trees → List Listing → Type 0
IsCatalogue round db offers = round ≡ First → offers ≡ catalogue_shown First db

-- the keys of the projects that a catalogue has of a lecturer
abbrev pub own_listed : List Listing → Key → List Key
own_listed offers lecturer = map (λ p. p.key) (filter (λ p. equals p.lecturer lecturer) offers)
