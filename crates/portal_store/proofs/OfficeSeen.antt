-- What the office sees, of what queries show.
use Rattle.portal_store.proofs.Base.{◌≡◌, Bool, true, false, ◌&&◌, cond, Option, Some, None, option_map, List, [], ◌∷◌}
use Rattle.portal_store.proofs.Base.{map, filter, refl, sym, ap, ◌∙◌, if◌then◌else◌, is_none, list_any, filter_map}
use Rattle.portal_store.proofs.Base.{cons_option, Row, Trees, Database, filter-map, map-map, Phase, Listing, ProjectRow}
use Rattle.portal_store.proofs.Base.{Key, equals, has, is_empty, Lecturer, Student, students_in, is_left}
use Rattle.portal_store.proofs.Base.{is_still_to_rank, is_from_ranking, shown_placement, catalogue, all_weaker, Round}
use Rattle.portal_store.proofs.Base.{First, Second, ranking_table, tree_of, has_list, choice_shown, lecturer_tree}
use Rattle.portal_store.proofs.Base.{student_tree, row_key, by_key, lecturers_shown, projects_shown, students_shown}
use Rattle.portal_store.proofs.Base.{lecturer_columns, roll_columns, chosen, first_cell, shown_project, pair_shown}
use Rattle.portal_store.proofs.Base.{office_shown, IsConsistentIn, Whole, world_in, is_ranked, lecturer_stored}
use Rattle.portal_store.proofs.Base.{student_stored, student_from, pairs_of, office_sees, any_map, is_wanted}
use Rattle.portal_store.proofs.Base.{is_waiting, filter_alike, HasWholeLists, is_chosen_shown, is_wanted_shown}
use Rattle.portal_store.proofs.Base.{waiting_key, waiting_keys, unlisted, AreWhole, filter-filter}
use Rattle.portal_list.proofs.Waiting.{waiting_lecturers}
use Rattle.portal_store.proofs.Holding.{has_tables}
use Rattle.portal_store.proofs.Loaded.{none_earlier, lecturers_by_key, students_by_key, round_rows, has_ranked}
use Rattle.portal_store.proofs.Loaded.{found_alike, some_mapped}
use Rattle.portal_store.proofs.Queried.{student_is}

-- consistent tables have whole lists
pub own_whole : (round : Round) (db : Trees) → AreWhole round db → Whole round db
own_whole First db h = h
own_whole Second db h = h.1

pub has_whole_lists : (round : Round) (db : Database) → IsConsistentIn round db → HasWholeLists round db
has_whole_lists round db holds = record { tables = has_tables db holds; whole = (own_whole round db.trees holds.whole).choices }

-- whose projects are chosen

chosen_told : (round : Round) (db : Trees) (k : Key)
    → is_chosen_shown round db k ≡ list_any (λ (s : Student). has s.choice k) (world_in round db).students
unfolding world_in
chosen_told round db k =
    let rows = by_key (db student_tree) in
    any_map (λ c. has (choice_shown round db c) k) roll_columns rows
    ∙ (λ i. list_any (λ r. has (student_is round db r i).choice k) rows)
    ∙ sym (ap (list_any (λ (s : Student). has s.choice k)) (students_by_key round db)
    ∙ any_map (λ (s : Student). has s.choice k) (student_stored round db) rows)

wanted_told : (round : Round) (db : Trees) (ps : List ProjectRow) (l : Key)
    → is_wanted_shown round db ps l ≡ is_wanted (world_in round db).students ps l
wanted_told round db ps l = λ i. list_any (λ (p : ProjectRow). equals p.lecturer l && chosen_told round db p.key i) ps

-- the parts of what is seen

-- those that pass, by their keys
passing : {X Y Z : Type 0} (p : Y → Bool) (key : Y → Z) (of : X → Y) (f : X → Option Z)
    → ((x : X) → f x ≡ cond (p (of x)) (Some (key (of x))) None) → (xs : List X)
    → filter_map f xs ≡ map key (filter p (map of xs))
passing p key of f same [] = refl
passing {X} {Y} {Z} p key of f same (x ∷ xs) =
    ap (λ o. cons_option o (filter_map f xs)) (same x)
    ∙ ap (cons_option (cond (p (of x)) (Some (key (of x))) None)) (passing p key of f same xs)
    ∙ elim (p (of x)) as (λ b. cons_option (cond {A = Option Z} b (Some (key (of x))) None) (map key (filter p (map of xs)))
    ≡ map key (cond b (of x ∷ filter p (map of xs)) (filter p (map of xs)))) [ true ↦ refl | false ↦ refl ]

ranking_there : (b wanted : Bool) (k : Key) (list : List Key)
    → cond b None (cond wanted (Some k) None) ≡ cond (is_none (cond b (Some list) None) && wanted) (Some k) None
ranking_there true wanted k list = refl
ranking_there false wanted k list = refl

waiting_told : (round : Round) (db : Trees)
    → waiting_keys round db (world_in round db).projects (lecturers_shown db)
    ≡ map (λ (l : Lecturer). l.row.key) (filter (is_still_to_rank (world_in round db)) (world_in round db).lecturers)
unfolding world_in
waiting_told round db =
    let w = world_in round db in
    let rows = by_key (db lecturer_tree) in
    let wanted : Row → Bool = λ r. is_wanted w.students w.projects (row_key r) in
    some_mapped (waiting_key round db w.projects) lecturer_columns rows
    ∙ (λ i. filter_map (λ r. if has_list (ranking_table round) db (lecturer_columns r) then None
    else (if wanted_told round db w.projects (row_key r) i then Some (row_key r) else None)) rows)
    ∙ passing (is_waiting w.students w.projects) (λ (l : Lecturer). l.row.key) (lecturer_stored round db)
    (λ r. if has_list (ranking_table round) db (lecturer_columns r) then None else (if wanted r then Some (row_key r) else None))
    (λ r. ap (λ b. cond {A = Option Key} b None (cond (wanted r) (Some (row_key r)) None)) (has_ranked round db r)
    ∙ ranking_there (is_ranked round db r) (wanted r) (row_key r) (chosen (db (tree_of (ranking_table round))) (row_key r))) rows
    ∙ ap (λ ls. map (λ (l : Lecturer). l.row.key) (filter (is_waiting w.students w.projects) ls)) (sym (lecturers_by_key round db))
    ∙ waiting_lecturers w

-- those who take part are those who are left
abbrev is_idle : Student → Bool
is_idle s = is_left s && is_empty s.choice

idle_in : (round : Round) (db : Trees)
    → filter (λ (s : Student). is_empty s.choice) (students_in round (world_in round db).students)
    ≡ filter is_idle (world_in round db).students
idle_in First db = filter_alike (λ (s : Student). is_empty s.choice) is_idle (world_in First db).students
    (all_weaker _ _ (λ s none. ap (λ (o : Option Key). is_none o && is_empty s.choice) (sym none)) (world_in First db).students
    (none_earlier db))
idle_in Second db = filter-filter (λ (s : Student). is_empty s.choice) is_left (world_in Second db).students

unlisted_told : (round : Round) (db : Trees)
    → unlisted round db (students_shown db) ≡ map (λ (s : Student). s.row.key)
    (filter (λ s. is_empty s.choice) (students_in round (world_in round db).students))
unfolding world_in
unlisted_told round db =
    let rows = by_key (db student_tree) in
    ap (map first_cell) (filter-map (λ c. is_idle (student_from round db c)) roll_columns rows)
    ∙ map-map first_cell roll_columns (filter (λ r. is_idle (student_from round db (roll_columns r))) rows)
    ∙ (λ i. map row_key (filter (λ r. is_idle (student_is round db r i)) rows))
    ∙ sym (ap (λ ss. map (λ (s : Student). s.row.key) (filter is_idle ss)) (students_by_key round db)
    ∙ ap (map (λ (s : Student). s.row.key)) (filter-map is_idle (student_stored round db) rows)
    ∙ map-map (λ (s : Student). s.row.key) (student_stored round db) (filter (λ r. is_idle (student_stored round db r)) rows))
    ∙ ap (map (λ (s : Student). s.row.key)) (sym (idle_in round db))

pairs_told : (round : Round) (db : Trees) (phase : Phase)
    → filter_map (pair_shown round (Some phase) db) (students_shown db)
    ≡ filter_map (λ (s : Student). option_map (λ p. (s.row.key, p)) (shown_placement phase s)) (world_in round db).students
unfolding world_in
pairs_told round db phase =
    let pair : Student → Option (Key × Key) = λ s. option_map (λ p. (s.row.key, p)) (shown_placement phase s) in
    found_alike (pair_shown round (Some phase) db) pair roll_columns (student_stored round db) (by_key (db student_tree)) _ _ refl
    (students_by_key round db) (λ r. ap pair (student_is round db r))

pub office_told : (round : Round) (db : Trees) (phase : Phase) (code : Key) (offers : List Listing)
    → phase ≡ (world_in round db).phase → code ≡ (world_in round db).office → offers ≡ catalogue (world_in round db)
    → office_shown round db phase code offers ≡ office_sees (world_in round db)
unfolding world_in
office_told round db phase code offers at_phase known listed =
    let w = world_in round db in
    let rows = round_rows round db in
    let pairs : filter_map (pair_shown round (Some phase) db) (students_shown db)
    ≡ pairs_of w = (λ i. filter_map (pair_shown round (Some (at_phase i)) db) (students_shown db)) ∙ pairs_told round db w.phase in
    let still : (if is_from_ranking phase then waiting_keys round db (map shown_project (projects_shown db)) (lecturers_shown db) else [])
    ≡ (if is_from_ranking w.phase then map (λ (l : Lecturer). l.row.key) (filter (is_still_to_rank w) w.lecturers) else [])
    = (λ i. if is_from_ranking (at_phase i) then waiting_keys round db (rows i).projects (lecturers_shown db) else [])
    ∙ ap (λ (ks : List Key). if is_from_ranking w.phase then ks else []) (waiting_told round db) in
    λ i. record {
      round = round;
      phase = at_phase i;
      office_code = known i;
      lecturers = (rows i).lecturers;
      projects = (rows i).projects;
      students = (rows i).students;
      catalogue = listed i;
      without_list = unlisted_told round db i;
      still_to_rank = still i;
      pairs = pairs i;
    }
