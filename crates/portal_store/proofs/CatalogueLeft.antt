-- The catalogue of the tables is that of the world: in the second round of what the first left.
use Rattle.portal_store.proofs.Base.{◌≡◌, Bool, true, false, cond, List, [], ◌∷◌, map, refl, sym, ap, ap₂, ◌∙◌, filter}
use Rattle.portal_store.proofs.Base.{◌&&◌, Option, Some, None, option_map, find, filter_map, cons_option, Trees}
use Rattle.portal_store.proofs.Base.{map-map, filter-map, Round, First, Second, LecturerRow, ProjectRow, Key, equals}
use Rattle.portal_store.proofs.Base.{has, World, Lecturer, Student, lecturer_key, pairs_with, catalogue, is_sym}
use Rattle.portal_store.proofs.Base.{first_plays, student_tree, columns, by_key, AllRows, world_in, student_stored}
use Rattle.portal_store.proofs.Base.{nat_lt, ◌-◌, or_parts, given_with, lowered_lecturer, lowered_project}
use Rattle.portal_store.proofs.Base.{lecturers_left, projects_left, name_in, listing_with, listings, offered}
use Rattle.portal_store.proofs.Base.{first_pairs, first_pair, catalogue_shown}
use Rattle.portal_rules.specs.inner.Room.{lecturer_left, project_left}
use Rattle.portal_rules.proofs.Rooms.{project_left_is, lecturer_left_is, each_left}
use Rattle.portal_list.proofs.Listings.{row_of, offered_rows}
use Rattle.portal_store.proofs.Loaded.{found_alike, students_by_key, round_rows, world_first}

-- a lecturer who is not there has no name
no_name : (ls : List Lecturer) (k : Key) → has (map lecturer_key ls) k ≡ false → name_in ls k ≡ None
no_name [] k none = refl
no_name (l ∷ ls) k none =
    let p = or_parts _ _ none in
    ap (λ b. option_map (λ (x : Lecturer). x.row.name) (cond b (Some l) (find (λ (x : Lecturer). equals x.row.key k) ls)))
    (is_sym l.row.key k ∙ p.0) ∙ no_name ls k p.1

-- what gives nothing may pass
may_pass : {X Y : Type 0} (g : X → Option Y) (a b : X → Bool) → ((x : X) → b x ≡ false → g x ≡ None) → (xs : List X)
    → filter_map g (filter (λ x. a x && b x) xs) ≡ filter_map g (filter a xs)
may_pass g a b none [] = refl
may_pass {X} g a b none (x ∷ xs) = at (a x) (b x) (none x) (may_pass g a b none xs)
  where
    both : List X
    both = filter (λ x. a x && b x) xs

    one : List X
    one = filter a xs

    at : (c d : Bool) → (d ≡ false → g x ≡ None) → filter_map g both ≡ filter_map g one
        → filter_map g (cond (c && d) (x ∷ both) both) ≡ filter_map g (cond c (x ∷ one) one)
    at true true nothing rest = ap (cons_option (g x)) rest
    at true false nothing rest = rest ∙ sym (ap (λ o. cons_option o (filter_map g one)) (nothing refl))
    at false true nothing rest = rest
    at false false nothing rest = rest

module _ (ls : List Lecturer) (ps : List ProjectRow) (ss : List Student) where
  abbrev pairs : List (Key × Key)
  pairs = pairs_with (λ s. s.earlier_placement) ss

  abbrev left : List Lecturer
  left = lecturers_left ls ps ss

  abbrev lowered : LecturerRow → LecturerRow
  lowered r = record r { capacity = r.capacity - given_with ps ss r.key }

  rows_are : filter_map (lecturer_left ps pairs) (map row_of ls) ≡ map row_of left
  rows_are =
      each_left (lecturer_left ps pairs) (λ r. nat_lt 0 r.capacity) lowered (lecturer_left_is ss ps) (map row_of ls)
      ∙ ap (filter (λ (r : LecturerRow). nat_lt 0 r.capacity))
      (map-map lowered row_of ls ∙ sym (map-map row_of (lowered_lecturer ps ss) ls))
      ∙ filter-map (λ (r : LecturerRow). nat_lt 0 r.capacity) row_of (map (lowered_lecturer ps ss) ls)

  -- one whose lecturer has no room is in no catalogue
  told : offered (filter_map (lecturer_left ps pairs) (map row_of ls)) (filter_map (project_left pairs) ps)
      ≡ listings left (projects_left ls ps ss)
  told =
      let has_room : ProjectRow → Bool = λ p. nat_lt 0 p.capacity in
      let taught : ProjectRow → Bool = λ p. has (map lecturer_key left) p.lecturer in
      ap₂ offered rows_are (each_left (project_left pairs) has_room (lowered_project ss) (project_left_is ss) ps)
      ∙ offered_rows left (filter has_room (map (lowered_project ss) ps))
      ∙ sym (may_pass (λ p. option_map (listing_with p) (name_in left p.lecturer)) has_room taught
      (λ p none. ap (option_map (listing_with p)) (no_name left p.lecturer none)) (map (lowered_project ss) ps))

pairs_told : (db : Trees) → first_pairs db ≡ pairs_with (λ s. s.earlier_placement) (world_in Second db).students
unfolding world_in
pairs_told db =
    found_alike first_pair (λ (s : Student). option_map (λ p. (s.row.key, p)) s.earlier_placement) (columns (1 ∷ 4 ∷ []))
    (student_stored Second db) (by_key (db student_tree)) _ _ refl (students_by_key Second db) (λ r. refl)

left_told : (db : Trees) → catalogue_shown Second db ≡ catalogue (world_in Second db)
unfolding world_in
left_told db =
    let w = world_in Second db in
    let rows = round_rows Second db in
    let ls = ap (λ (r : AllRows). r.lecturers) rows in
    let ps = ap (λ (r : AllRows). r.projects) rows in
    let pairs = pairs_told db in
    (λ i. offered (filter_map (lecturer_left (ps i) (pairs i)) (ls i)) (filter_map (project_left (pairs i)) (ps i)))
    ∙ told w.lecturers w.projects w.students

pub catalogue_told : (round : Round) (db : Trees) → catalogue_shown round db ≡ catalogue (world_in round db)
catalogue_told First db =
    let rows = round_rows First db in
    ap₂ offered (ap (λ (r : AllRows). r.lecturers) rows) (ap (λ (r : AllRows). r.projects) rows)
    ∙ offered_rows (world_in First db).lecturers (world_in First db).projects
    ∙ ap (λ (u : World). listings u.lecturers u.projects) (sym (first_plays (world_in First db) (world_first db)))
catalogue_told Second db = left_told db
