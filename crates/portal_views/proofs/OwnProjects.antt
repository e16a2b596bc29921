-- A query by lecturer and the catalogue show exactly the lecturer's projects that are on the roll.
use Rattle.portal_views.proofs.Base.{◌≡◌, ◌∷◌, ◌||◌, IsText, filter_all, filter_alike, OnRoll, has_text_of}
use Rattle.portal_views.proofs.Base.{project_rows_formed, all_permuted, permutes, First, Bool, List, [], map, filter}
use Rattle.portal_views.proofs.Base.{sym, ap, subst, ◌∙◌, map-map, filter-map, IsPermutation, IsPermutation-filter, Row}
use Rattle.portal_views.proofs.Base.{column, bytes, Database, Key, equals, Rise, all_weaker, rise_kept, Projects}
use Rattle.portal_views.proofs.Base.{columns_of, project_tree, ListsBy, every, columns, has_text, row_key, by_key}
use Rattle.portal_views.proofs.Base.{first_cell, HasTables, own_keys_shown, AllByRecursion, true, false, cond, refl}
use Rattle.portal_views.proofs.Base.{Some, None, option_map, find, has, is_sym, all_map, LecturerRow, ProjectRow}
use Rattle.portal_views.proofs.Base.{Listing, listing_with, name_of, offered, own_listed, catalogue_shown}
use Rattle.portal_views.proofs.Base.{shown_lecturer, shown_project, lecturers_shown, projects_shown, Lecturers}
use Rattle.portal_views.proofs.Base.{lecturer_tree, is_some, cons_option, roll_shown, in_order}
use Rattle.portal_views.proofs.OneKey.{roll_keys_rise}
use Rattle.portal_views.proofs.Owners.{lecturers_known, shown_there}

pub own_found : (db : Database) → HasTables db → (k : Key) (shown : List Row)
    → ListsBy (1 ∷ []) (has_text 2 k) (columns (1 ∷ [])) (db.trees project_tree) shown → Rise (map first_cell shown)
    → map first_cell shown ≡ own_keys_shown db.trees k
own_found db tables k shown lists up =
    let table = db.trees project_tree in
    let p = has_text 2 k in
    let q : Row → Bool = λ r. equals (bytes (column r 2)) k in
    let cells : Row → Row = columns (1 ∷ columns_of Projects) in
    let pair : Row → Row × Row = λ r. (columns (1 ∷ []) r, columns (1 ∷ []) r) in
    let mine : List Row = filter p table in
    let whole : ListsBy (1 ∷ []) every (columns (1 ∷ [])) mine shown =
    record {
      keyed = lists.keyed;
      same = subst (λ rows. IsPermutation (map pair rows) lists.keyed) (sym (filter_all mine)) lists.same;
      sorted = lists.sorted;
      is = lists.is;
    } in
    let agree : mine ≡ filter q table = filter_alike p q table
    (all_weaker (λ r. IsText (column r 2)) _ (λ r text. has_text_of 2 k r text.0 text.1 ∙ ap (λ v. equals (bytes v) k) (sym text.1)) table
    (project_rows_formed db tables.own tables.sound tables.apart.1.1.0)) in
    let order : filter q (by_key table) ≡ by_key (filter q table) =
    in_order row_key (filter q table) (filter q (by_key table)) (IsPermutation-filter q table (by_key table) (permutes row_key table))
    (rise_kept row_key q (by_key table) (roll_keys_rise db Projects tables.current tables.sound tables.apart.1.1.0)) in
    ap (map first_cell) (roll_shown [] mine shown whole up) ∙ map-map first_cell (columns (1 ∷ [])) (by_key mine)
    ∙ ap (λ rows. map row_key (by_key rows)) agree ∙ ap (map row_key) (sym order)
    ∙ sym (ap (map first_cell) (filter-map (λ c. equals (bytes (column c 1)) k) cells (by_key table))
    ∙ map-map first_cell cells (filter q (by_key table)))

-- a lecturer on the roll has a name
name_known : (ls : List LecturerRow) (k : Key) → has (map (λ (l : LecturerRow). l.key) ls) k ≡ true
    → is_some (name_of ls k) ≡ true
name_known [] k h = absurd (cc)
name_known (l ∷ ls) k h =
    (elim (equals l.key k) as (λ b. (b || has (map (λ (x : LecturerRow). x.key) ls) k) ≡ true
    → is_some (option_map (λ (x : LecturerRow). x.name) (cond b (Some l) (find (λ (x : LecturerRow). equals x.key k) ls))) ≡ true) [
      | true ↦ λ e. refl
      | false ↦ λ e. name_known ls k e
    ]) (ap (λ b. b || has (map (λ (x : LecturerRow). x.key) ls) k) (is_sym l.key k) ∙ h)

-- where each project's lecturer has one, the catalogue leaves none out
none_left_out : (ls : List LecturerRow) (k : Key) (ps : List ProjectRow)
    → AllByRecursion (λ p. is_some (name_of ls p.lecturer) ≡ true) ps
    → own_listed (offered ls ps) k ≡ map (λ (p : ProjectRow). p.key) (filter (λ p. equals p.lecturer k) ps)
none_left_out ls k [] all = refl
none_left_out ls k (p ∷ ps) all =
    let rest : List Listing = offered ls ps in
    let mine : List ProjectRow = filter (λ q. equals q.lecturer k) ps in
    let back = none_left_out ls k ps all.1 in
    (elim (name_of ls p.lecturer) as (λ o. is_some o ≡ true
    → own_listed (cons_option (option_map (listing_with p) o) rest) k
    ≡ map (λ (q : ProjectRow). q.key) (cond (equals p.lecturer k) (p ∷ mine) mine)) [
      | None ↦ λ e. absurd (cc)
      | Some name ↦ λ e. elim (equals p.lecturer k) as
          (λ b. map (λ (q : Listing). q.key) (cond b (listing_with p name ∷ filter (λ q. equals q.lecturer k) rest)
          (filter (λ q. equals q.lecturer k) rest)) ≡ map (λ (q : ProjectRow). q.key) (cond b (p ∷ mine) mine)) [
            | true ↦ ap (λ ks. p.key ∷ ks) back
            | false ↦ back
          ]
    ]) all.0

pub listed_are : (db : Database) → HasTables db → (k : Key)
    → own_listed (catalogue_shown First db.trees) k ≡ own_keys_shown db.trees k
listed_are db tables k =
    let table = db.trees project_tree in
    let roll = db.trees lecturer_tree in
    let rows = projects_shown db.trees in
    let ls : List LecturerRow = map shown_lecturer (lecturers_shown db.trees) in
    let IsKnown : ProjectRow → Type 0 = λ p. is_some (name_of ls p.lecturer) ≡ true in
    let known : AllByRecursion (λ r. OnRoll roll (bytes (column r 2))) (by_key table) =
    all_permuted _ table (by_key table) (permutes row_key table) (lecturers_known db tables.own tables.sound tables.apart.1.1.0) in
    let named : (r : Row) → OnRoll roll (bytes (column r 2)) → IsKnown (shown_project (columns (1 ∷ columns_of Projects) r)) =
    λ r on. name_known ls (bytes (column r 2))
    (ap (λ ks. has ks (bytes (column r 2))) (map-map (λ (l : LecturerRow). l.key) shown_lecturer (lecturers_shown db.trees))
    ∙ shown_there (columns_of Lecturers) roll (bytes (column r 2)) on) in
    let all : AllByRecursion IsKnown (map shown_project rows) =
    all_map IsKnown shown_project rows (all_map (λ c. IsKnown (shown_project c)) (columns (1 ∷ columns_of Projects)) (by_key table)
    (all_weaker _ _ named (by_key table) known)) in
    none_left_out ls k (map shown_project rows) all
    ∙ ap (map (λ (p : ProjectRow). p.key)) (filter-map (λ (p : ProjectRow). equals p.lecturer k) shown_project rows)
    ∙ map-map (λ (p : ProjectRow). p.key) shown_project (filter (λ c. equals (bytes (column c 1)) k) rows)
