-- What is shown of rows: applicants, placements, who is still to rank, the catalogue.
use Rattle.std.specs.Prelude.{Bool, if◌then◌else◌, ◌&&◌, List, [], map, filter, is_none}
use Rattle.std.specs.List.{list_any}
use Rattle.portal_rules.specs.Words.{Key, equals, has}
use Rattle.portal_rules.specs.World.{Student, Lecturer, is_at, shown_placement, lecturers_in, projects_in}
use Rattle.portal_rules.specs.View.{persons, listings}
use Rattle.portal_rules.specs.declared.phase.Phase.{Phase}
use Rattle.portal_rules.specs.declared.rows.Listing.{Listing}
use Rattle.portal_rules.specs.declared.rows.ProjectRow.{ProjectRow}
use Rattle.portal_rules.specs.declared.rows.Person.{Person}
use Rattle.portal_list.specs.Rows.{AllEntries}

-- a lecturer's projects, with the applicants once the lists are closed
abbrev pub applicants_shown : Bool → List Student → Key → List ProjectRow → List (Key × List Person)
applicants_shown closed ss l ps = map (λ p. (p.key, if closed then persons (filter (λ s. has s.choice p.key) ss) else [])) (filter (λ p. equals p.lecturer l) ps)

-- a lecturer's projects, with the students whom the results that are shown place there
abbrev pub placements_shown : Phase → List Student → Key → List ProjectRow → List (Key × List Person)
placements_shown phase ss l ps = map (λ p. (p.key, persons (filter (λ s. is_at p.key (shown_placement phase s)) ss))) (filter (λ p. equals p.lecturer l) ps)

-- some list holds a project of the lecturer
abbrev pub is_wanted : List Student → List ProjectRow → Key → Bool
is_wanted ss ps l = list_any (λ p. equals p.lecturer l && list_any (λ s. has s.choice p.key) ss) ps

-- there is no ranking, and an applicant
abbrev pub is_waiting : List Student → List ProjectRow → Lecturer → Bool
is_waiting ss ps l = is_none l.ranking && is_wanted ss ps l.row.key

-- the catalogue of a round
abbrev pub catalogue_in : AllEntries → List Listing
catalogue_in e = listings (lecturers_in e.round e.lecturers e.projects e.students) (projects_in e.round e.lecturers e.projects e.students)
