-- A query tells whether a lecturer is on the roll; a ranking by one who is not changes nothing.
use Rattle.portal_store.proofs.Base.{◌≡◌, ◌≢◌, ℕ, Bool, true, false, ◌||◌, cond, List, [], ◌∷◌, map, filter, length}
use Rattle.portal_store.proofs.Base.{refl, sym, ap, ◌∙◌, or-true, AllByRecursion, length_permutation, Row, bytes}
use Rattle.portal_store.proofs.Base.{Database, Round, Key, equals, has, put_all, Lecturer, lecturer_key, Ranks}
use Rattle.portal_store.proofs.Base.{with_ranking, is_own, lecturer_tree, has_text, row_key, ListsBy, columns}
use Rattle.portal_store.proofs.Base.{ranking_elsewhere, world_in, lecturer_stored, IsTransitionIn, TurnsThere}
use Rattle.portal_store.proofs.Base.{put_all_map, map_twice, IsLecturerRow, lecturer_rows_formed, all_map_on}
use Rattle.portal_store.proofs.Base.{length-map, text_there, all_two, is_empty, nil_from_length, none_passes}
use Rattle.portal_store.proofs.RankTurns.{key_test, same_key}
use Rattle.portal_store.proofs.Rounds.{key_in}

-- a query shows as many rows as pass
pub as_many : (keys : List ℕ) (p : Row → Bool) (show : Row → Row) (table shown : List Row)
    → ListsBy keys p show table shown
    → length shown ≡ length (filter p table)
as_many keys p show table shown h =
    let keyed : Row → Row × Row = λ r. (columns keys r, show r) in
    ap length h.is ∙ length-map h.keyed (λ k. k.1) ∙ length_permutation (map keyed (filter p table)) h.keyed h.same
    ∙ length-map (filter p table) keyed

-- some row has the text, so the key is on the roll
there_if : (k : Key) (table : List Row) → length (filter (has_text 1 k) table) ≢ 0 → has (map row_key table) k ≡ true
there_if k [] some = absurd (some refl)
there_if k (r ∷ table) some = go (has_text 1 k r) refl some (there_if k table)
  where
    passing : List Row
    passing = filter (has_text 1 k) table

    go : (b : Bool) → has_text 1 k r ≡ b → length (cond b (r ∷ passing) passing) ≢ 0
        → (length passing ≢ 0 → has (map row_key table) k ≡ true)
        → has (map row_key (r ∷ table)) k ≡ true
    go true so some later = ap (λ b. b || has (map row_key table) k) (ap (λ v. equals k (bytes v)) (text_there 1 k r so) ∙ is_own k)
    go false other some later = ap (λ b. equals k (row_key r) || b) (later some) ∙ or-true (equals k (row_key r))

-- no row has the text, so no lecturer has the key
nobody : (k : Key) (table : List Row) → AllByRecursion IsLecturerRow table → length (filter (has_text 1 k) table) ≡ 0
    → AllByRecursion (λ r. equals (row_key r) k ≡ false) table
nobody k table all none =
    all_two IsLecturerRow (λ r. has_text 1 k r ≡ false) (λ r. equals (row_key r) k ≡ false) (λ r f e. sym (key_test k r f) ∙ e) table all
    (none_passes (λ r. r) (has_text 1 k) table
    (ap (λ (l : List Row). is_empty (map (λ r. r) l)) (nil_from_length (filter (has_text 1 k) table) none)))

ranks_nobody : (round : Round) (k : Key) (list : List Key) (db : Database)
    → length (filter (has_text 1 k) (db.trees lecturer_tree)) ≡ 0 → IsTransitionIn round (Ranks k list) db db
unfolding world_in
ranks_nobody round k list db none holds good then =
    let show : Row → Lecturer = lecturer_stored round db.trees in
    let rows = db.trees lecturer_tree in
    let all = nobody k rows (lecturer_rows_formed db holds.own holds.sound holds.apart.1.0) none in
    let turn : Lecturer → Lecturer = with_ranking k list in
    let still : map show rows ≡ map turn (map show rows) =
    all_map_on (λ r. equals (row_key r) k ≡ false) show (λ r. turn (show r)) rows all
    (λ r other. sym (ranking_elsewhere k list (show r) (ap (λ key. equals key k) (key_in round db.trees r) ∙ other)))
    ∙ map_twice turn show rows in
    let roll : put_all lecturer_key (map show rows) [] ≡ map turn (put_all lecturer_key (map show rows) []) =
    ap (λ l. put_all lecturer_key l []) still ∙ put_all_map lecturer_key lecturer_key turn (same_key k list) (map show rows) [] in
    let w = world_in round db.trees in
    record {
      holds = holds;
      world = λ i. record {
        round = round;
        phase = w.phase;
        office = w.office;
        lecturers = roll i;
        projects = w.projects;
        students = w.students;
      };
    }

-- where the lecturer is on the roll of a good world
turns_there : (round : Round) (k : Key) (list : List Key) (first now : Database)
    → length (filter (has_text 1 k) (first.trees lecturer_tree)) ≢ 0
    → TurnsThere round k list first now → IsTransitionIn round (Ranks k list) first now
turns_there round k list first now some turns holds good
    then = turns (there_if k (first.trees lecturer_tree) some) holds good.sound.lecturers_rise

-- the same, where a query for the lecturer showed a row
pub turns_shown : (round : Round) (k asked : Key) (list : List Key) (show : Row → Row) (rows : List Row) (first now : Database)
    → asked ≡ k → length rows ≢ 0
    → ListsBy (1 ∷ []) (has_text 1 asked) show (first.trees lecturer_tree) rows → TurnsThere round k list first now
    → IsTransitionIn round (Ranks k list) first now
turns_shown round k asked list show rows first now same some shown =
    turns_there round k list first now
    (λ none. some (as_many (1 ∷ []) (has_text 1 asked) show (first.trees lecturer_tree) rows shown
    ∙ ap (λ t. length (filter (has_text 1 t) (first.trees lecturer_tree))) same ∙ none))

-- where it showed none
pub turns_none : (round : Round) (k asked : Key) (list : List Key) (show : Row → Row) (rows : List Row) (db : Database)
    → asked ≡ k → length rows ≡ 0
    → ListsBy (1 ∷ []) (has_text 1 asked) show (db.trees lecturer_tree) rows → IsTransitionIn round (Ranks k list) db db
turns_none round k asked list show rows db same none shown =
    ranks_nobody round k list db
    (ap (λ t. length (filter (has_text 1 t) (db.trees lecturer_tree))) (sym same)
    ∙ sym (as_many (1 ∷ []) (has_text 1 asked) show (db.trees lecturer_tree) rows shown) ∙ none)
