-- From what was read to the world.
use Rattle.portal_store.proofs.Base.{◌∙◌, ◌∷◌, ◌≡◌, AllByRecursion, AllRows, AreRead, Bool, First, HasRead}
use Rattle.portal_store.proofs.Base.{IsPermutation-sym, IsWhole, Key, Lecturer, List, LoadsIn, None, Option, Phase}
use Rattle.portal_store.proofs.Base.{Round, Row, RowsOfWorld, Second, Some, Student, Trees, Whole, World, [], all_map}
use Rattle.portal_store.proofs.Base.{all_of, all_permuted, all_unmap, all_weaker, alone, alone_student, ap, by_key}
use Rattle.portal_store.proofs.Base.{bytes, choice_table, chosen, column, cond, cons_option, false, filter_map}
use Rattle.portal_store.proofs.Base.{has_list, is_ranked, is_second, lecturer_columns, lecturer_key, lecturer_stored}
use Rattle.portal_store.proofs.Base.{lecturer_tree, lecturers_shown, map, map-map, map_alike, number_in}
use Rattle.portal_store.proofs.Base.{number_of_phase, of_key, option_map, pair_shown, pairs_with, permutes}
use Rattle.portal_store.proofs.Base.{phase_numbered, portal_row, portal_tree, pos, project_key, project_row}
use Rattle.portal_store.proofs.Base.{project_tree, projects_shown, put_all, put_all_map, ranking_table, refl}
use Rattle.portal_store.proofs.Base.{roll_columns, row_key, rows_from, second_row, second_tree, shown_lecturer}
use Rattle.portal_store.proofs.Base.{shown_project, shown_student, slice_index_or, student_key, student_stored}
use Rattle.portal_store.proofs.Base.{student_tree, students_shown, subst, sym, tree_of, true, version, world_in}
use Rattle.portal_store.proofs.Base.{world_rows, ℕ, alone_lecturer, choices_in, rankings_with, second_phase, Loads}
use Rattle.portal_store.proofs.Base.{after_first, rows_with_earlier, entry, IsRead, HasNothingBefore}
use Rattle.portal_store.proofs.Rounds.{phase_back}
use Rattle.portal_store.proofs.RowsOnce.{nothing_before}

pub some_mapped : {X Y Z : Type 0} (f : Y → Option Z) (g : X → Y) (xs : List X)
    → filter_map f (map g xs) ≡ filter_map (λ x. f (g x)) xs
some_mapped f g [] = refl
some_mapped f g (x ∷ xs) = ap (cons_option (f (g x))) (some_mapped f g xs)

pub some_alike : {X Z : Type 0} (f g : X → Option Z) (xs : List X) → ((x : X) → f x ≡ g x)
    → filter_map f xs ≡ filter_map g xs
some_alike f g [] h = refl
some_alike f g (x ∷ xs) h = λ i. cons_option (h x i) (some_alike f g xs h i)

each_some : {X Z : Type 0} (f : X → Z) (xs : List X) → filter_map (λ x. Some (f x)) xs ≡ map f xs
each_some f [] = refl
each_some f (x ∷ xs) = ap (λ l. f x ∷ l) (each_some f xs)

none_some : {X Z : Type 0} (f : X → Option Z) (xs : List X) → ((x : X) → f x ≡ None) → filter_map f xs ≡ []
none_some f [] none = refl
none_some f (x ∷ xs) none = (λ i. cons_option (none x i) (filter_map f xs)) ∙ none_some f xs none

ranked_pair : (b : Bool) (key : Key) (list : List Key)
    → cond {A = Option (Key × List Key)} b (Some (key, list)) None ≡ option_map (λ l. (key, l)) (cond b (Some list) None)
ranked_pair true key list = refl
ranked_pair false key list = refl

-- what two ways to make entries of rows make of them

each_alike : {X Y Z : Type 0} (f : Y → X) (g : Z → X) (one : Row → Y) (other : Row → Z) (rows : List Row) (all : List Y) (more : List Z)
    → all ≡ map one rows → more ≡ map other rows → ((r : Row) → f (one r) ≡ g (other r)) → map f all ≡ map g more
each_alike f g one other rows all more is also same = ap (map f) is ∙ map-map f one rows
    ∙ map_alike (λ r. f (one r)) (λ r. g (other r)) rows same ∙ sym (ap (map g) also ∙ map-map g other rows)

pub found_alike : {X Y Z : Type 0} (f : Y → Option X) (g : Z → Option X) (one : Row → Y) (other : Row → Z) (rows : List Row) (all : List Y)
    (more : List Z)
    → all ≡ map one rows → more ≡ map other rows → ((r : Row) → f (one r) ≡ g (other r))
    → filter_map f all ≡ filter_map g more
found_alike f g one other rows all more is also same = ap (filter_map f) is ∙ some_mapped f one rows
    ∙ some_alike (λ r. f (one r)) (λ r. g (other r)) rows same ∙ sym (ap (filter_map g) also ∙ some_mapped g other rows)

-- what is made of an entry

abbrev chosen_pair : Student → Key × List Key
chosen_pair s = (s.row.key, s.choice)

abbrev earlier_choice_pair : Student → Key × List Key
earlier_choice_pair s = (s.row.key, s.earlier_choice)

abbrev ranking_entry : Lecturer → Option (Key × List Key)
ranking_entry l = option_map (λ list. (l.row.key, list)) l.ranking

abbrev placed_pair : Student → Option (Key × Key)
placed_pair s = option_map (λ p. (s.row.key, p)) s.placed

abbrev earlier_entry : Lecturer → Option (Key × List Key)
earlier_entry l = option_map (λ list. (l.row.key, list)) l.earlier_ranking

abbrev earlier_pair : Student → Option (Key × Key)
earlier_pair s = option_map (λ p. (s.row.key, p)) s.earlier_placement

-- what the tables of a round show of it

pub has_choice : (round : Round) (db : Trees) (r : Row) → has_list (choice_table round) db (roll_columns r) ≡ true
has_choice First db r = refl
has_choice Second db r = refl

pub has_ranked : (round : Round) (db : Trees) (r : Row)
    → has_list (ranking_table round) db (lecturer_columns r) ≡ is_ranked round db r
has_ranked First db r = refl
has_ranked Second db r = refl

choice_shown : (round : Round) (db : Trees) (r : Row)
    → entry (choice_table round) db (roll_columns r) ≡ Some (chosen_pair (student_stored round db r))
choice_shown First db r = refl
choice_shown Second db r = refl

ranking_shown : (round : Round) (db : Trees) (r : Row)
    → entry (ranking_table round) db (lecturer_columns r) ≡ ranking_entry (lecturer_stored round db r)
ranking_shown round db r =
    let list = chosen (db (tree_of (ranking_table round))) (row_key r) in
    ap (λ b. cond {A = Option (Key × List Key)} b (Some (row_key r, list)) None) (has_ranked round db r)
    ∙ ranked_pair (is_ranked round db r) (row_key r) list

place_told : (round : Round) (db : Trees) (r : Row)
    → pair_shown round None db (roll_columns r) ≡ placed_pair (student_stored round db r)
place_told First db r = refl
place_told Second db r = refl

-- what the rows of a world say of its own round
abbrev pub rows_now : World → AllRows
rows_now w =
    record {
      lecturers = map (λ l. l.row) w.lecturers;
      projects = w.projects;
      students = map (λ s. s.row) w.students;
      choices = choices_in w.students;
      rankings = rankings_with (λ l. l.ranking) w.lecturers;
      pairs = pairs_with (λ s. s.placed) w.students;
    }

module _ (round : Round) (db : Trees) where
  pub lecturers_by_key : put_all lecturer_key (map (lecturer_stored round db) (db lecturer_tree)) []
      ≡ map (lecturer_stored round db) (by_key (db lecturer_tree))
  lecturers_by_key = put_all_map row_key lecturer_key (lecturer_stored round db) (λ r. refl) (db lecturer_tree) []

  pub projects_by_key : put_all project_key (map project_row (db project_tree)) [] ≡ map project_row (by_key (db project_tree))
  projects_by_key = put_all_map row_key project_key project_row (λ r. refl) (db project_tree) []

  pub students_by_key : put_all student_key (map (student_stored round db) (db student_tree)) []
      ≡ map (student_stored round db) (by_key (db student_tree))
  students_by_key = put_all_map row_key student_key (student_stored round db) (λ r. refl) (db student_tree) []

  pub round_rows : rows_from round db (lecturers_shown db) (projects_shown db) (students_shown db) ≡ rows_now (world_in round db)
  unfolding world_in
  round_rows =
      let L = by_key (db lecturer_tree) in
      let S = by_key (db student_tree) in
      let lecturers = each_alike shown_lecturer (λ (l : Lecturer). l.row) lecturer_columns
      (lecturer_stored round db) L _ _ refl lecturers_by_key (λ r. refl) in
      let projects = map-map shown_project roll_columns (by_key (db project_tree)) ∙ sym projects_by_key in
      let students = each_alike shown_student (λ (s : Student). s.row) roll_columns (student_stored round db) S _ _ refl students_by_key
      (λ r. refl) in
      let choices = some_mapped (entry (choice_table round) db) roll_columns S
      ∙ some_alike (λ r. entry (choice_table round) db (roll_columns r)) (λ r. Some (chosen_pair (student_stored round db r))) S
      (choice_shown round db) ∙ each_some (λ r. chosen_pair (student_stored round db r)) S
      ∙ sym (ap (map chosen_pair) students_by_key ∙ map-map chosen_pair (student_stored round db) S) in
      let rankings = found_alike (entry (ranking_table round) db) ranking_entry lecturer_columns
      (lecturer_stored round db) L _ _ refl lecturers_by_key (ranking_shown round db) in
      let pairs = found_alike (pair_shown round None db) placed_pair roll_columns (student_stored round db) S _ _ refl students_by_key
      (place_told round db) in
      λ i. record {
        lecturers = lecturers i;
        projects = projects i;
        students = students i;
        choices = choices i;
        rankings = rankings i;
        pairs = pairs i;
      }

  -- what was found of the rows in their order holds of the table
  back : (P : Row → Type 0) (table : List Row) → AllByRecursion P (by_key table) → AllByRecursion P table
  back P table all = all_permuted P (by_key table) table (IsPermutation-sym _ _ (permutes row_key table)) all

  pub whole_is : AreRead round db (lecturers_shown db) (students_shown db) → Whole round db
  whole_is read =
      let C = choice_table round in
      let R = ranking_table round in
      let L = by_key (db lecturer_tree) in
      let S = by_key (db student_tree) in
      let lists = all_unmap (IsRead C db) roll_columns S read.choices in
      let ranks = all_unmap (IsRead R db) lecturer_columns L read.rankings in
      record {
        choices = back (λ r. IsWhole (of_key (row_key r) (db (tree_of C)))) (db student_tree)
            (all_weaker (λ r. IsRead C db (roll_columns r)) (λ r. IsWhole (of_key (row_key r) (db (tree_of C)))) (λ r x. x.whole) S lists);
        rankings = back (λ r. IsWhole (of_key (row_key r) (db (tree_of R)))) (db lecturer_tree)
            (all_weaker (λ r. IsRead R db (lecturer_columns r)) (λ r. IsWhole (of_key (row_key r) (db (tree_of R))))
            (λ r x. x.whole) L ranks);
        ranked = back (λ r. is_ranked round db r ≡ false → of_key (row_key r) (db (tree_of R)) ≡ []) (db lecturer_tree)
            (all_weaker (λ r. IsRead R db (lecturer_columns r))
            (λ r. is_ranked round db r ≡ false → of_key (row_key r) (db (tree_of R)) ≡ [])
            (λ r x e. x.none (has_ranked round db r ∙ e)) L ranks);
      }

module _ (db : Trees) where
  abbrev by_lecturer : List Row
  by_lecturer = by_key (db lecturer_tree)

  abbrev by_student : List Row
  by_student = by_key (db student_tree)

  -- nothing was before
  pub world_alone : alone (world_in First db) ≡ world_in First db
  unfolding world_in
  world_alone = λ i. record (world_in First db) {
    lecturers = (ap (map alone_lecturer) (lecturers_by_key First db) ∙ map-map alone_lecturer (lecturer_stored First db) by_lecturer
        ∙ sym (lecturers_by_key First db)) i;
    students = (ap (map alone_student) (students_by_key First db) ∙ map-map alone_student (student_stored First db) by_student
        ∙ sym (students_by_key First db)) i;
  }

  pub world_first : (world_in First db).round ≡ First
  unfolding world_in
  world_first = refl

  pub none_earlier : AllByRecursion (λ (s : Student). s.earlier_placement ≡ None) (world_in First db).students
  none_earlier =
      subst (λ w. AllByRecursion (λ (s : Student). s.earlier_placement ≡ None) w.students) world_alone
      (all_map (λ (s : Student). s.earlier_placement ≡ None) alone_student (world_in First db).students
      (all_of _ (λ s. refl) (world_in First db).students))

  pub rows_are : (of : ℕ) (phase : Phase) (code : Key)
      → db portal_tree ≡ portal_row (pos of) (pos (number_of_phase phase)) code ∷ []
      → rows_with_earlier First phase code (rows_from First db (lecturers_shown db) (projects_shown db) (students_shown db)) [] [] []
      ≡ world_rows (world_in First db)
  unfolding world_in
  rows_are of phase code office =
      let phase_is : phase ≡ phase_numbered (number_in (column (slice_index_or (db portal_tree) 0 []) 3)) =
      sym (ap (λ rows. phase_numbered (number_in (column (slice_index_or rows 0 []) 3))) office ∙ phase_back phase) in
      let code_is : code ≡ bytes (column (slice_index_or (db portal_tree) 0 []) 4) =
      sym (ap (λ rows. bytes (column (slice_index_or rows 0 []) 4)) office) in
      let earlier_rankings : filter_map earlier_entry (put_all lecturer_key (map (lecturer_stored First db) (db lecturer_tree)) []) ≡ [] =
      ap (filter_map earlier_entry) (lecturers_by_key First db) ∙ some_mapped earlier_entry (lecturer_stored First db) by_lecturer
      ∙ none_some (λ r. earlier_entry (lecturer_stored First db r)) by_lecturer (λ r. refl) in
      let earlier_pairs : filter_map earlier_pair (put_all student_key (map (student_stored First db) (db student_tree)) []) ≡ [] =
      ap (filter_map earlier_pair) (students_by_key First db) ∙ some_mapped earlier_pair (student_stored First db) by_student
      ∙ none_some (λ r. earlier_pair (student_stored First db r)) by_student (λ r. refl) in
      λ i. rows_with_earlier First (phase_is i) (code_is i) (round_rows First db i) [] (sym earlier_rankings i) (sym earlier_pairs i)

  pub loads : (of : ℕ) (phase : Phase) (code : Key)
      → db portal_tree ≡ portal_row (pos of) (pos (number_of_phase phase)) code ∷ [] → (rows : AllRows)
      → HasRead First rows db → Loads of First db (rows_with_earlier First phase code rows [] [] [])
  loads of phase code office rows read = record {
    office = record { phase = phase; office = code; is = office };
    whole = whole_is First db read.1;
    rows_are = ap (λ (all : AllRows). rows_with_earlier First phase code all [] [] []) read.0 ∙ rows_are of phase code office;
  }

  -- after the rows of the first round, those of the second
  after_rows : (first : RowsOfWorld) (phase : Phase) → first ≡ world_rows (world_in First db)
      → db second_tree ≡ second_row (pos (number_of_phase phase)) ∷ []
      → after_first first phase (rows_from Second db (lecturers_shown db) (projects_shown db) (students_shown db))
      ≡ world_rows (world_in Second db)
  unfolding world_in
  after_rows first phase is row =
      let phase_is : phase ≡ phase_numbered (second_phase db) =
      sym (ap (λ rows. phase_numbered (number_in (column (slice_index_or rows 0 []) 2))) row ∙ phase_back phase) in
      let choices = ap (λ (r : RowsOfWorld). r.choices) is
      ∙ each_alike chosen_pair earlier_choice_pair (student_stored First db) (student_stored Second db) by_student _ _
      (students_by_key First db) (students_by_key Second db) (λ r. refl) in
      let rankings = ap (λ (r : RowsOfWorld). r.rankings) is
      ∙ found_alike ranking_entry earlier_entry (lecturer_stored First db) (lecturer_stored Second db) by_lecturer _ _
      (lecturers_by_key First db) (lecturers_by_key Second db) (λ r. refl) in
      let pairs = ap (λ (r : RowsOfWorld). r.pairs) is
      ∙ found_alike placed_pair earlier_pair (student_stored First db) (student_stored Second db) by_student _ _
      (students_by_key First db) (students_by_key Second db) (λ r. refl) in
      λ i. rows_with_earlier Second (phase_is i) (is i).office (round_rows Second db i) (choices i) (rankings i) (pairs i)

  pub loads_after : (first : RowsOfWorld) (phase : Phase) → Loads version First db first
      → db second_tree ≡ second_row (pos (number_of_phase phase)) ∷ [] → (rows : AllRows) → HasRead Second rows db
      → LoadsIn Second db (after_first first phase rows)
  loads_after first phase loads row rows read = record {
    office = loads.office;
    whole = (loads.whole, whole_is Second db read.1);
    rows_are = ap (after_first first phase) read.0 ∙ after_rows first phase loads.rows_are row;
  }

-- in the first round nothing was before
pub nothing_earlier : (round : Round) (db : Trees) → is_second (world_in round db).round ≡ false
    → HasNothingBefore (world_in round db)
unfolding world_in
nothing_earlier First db e = nothing_before (world_in First db) (world_alone db)
nothing_earlier Second db e = absurd (cc)
