-- Tables that stand for a good world are fine to read.
use Rattle.portal_store.proofs.Base.{◌≡◌, inl, inr, ℕ, ◌<◌, ◌+◌, Bool, true, false, cond, ◌||◌, IfSome, Option, Some}
use Rattle.portal_store.proofs.Base.{None, option_map, List, [], ◌∷◌, map, filter, length, get_or, arith, refl, sym, ap}
use Rattle.portal_store.proofs.Base.{subst, ◌∙◌, ◌==◌, slice_index_or, AllByRecursion, or-true, cases_Bool, nat_tests}
use Rattle.portal_store.proofs.Base.{Row, column, bytes, Trees, is_code, Good, ProjectRow, Key, equals, has, Rise}
use Rattle.portal_store.proofs.Base.{World, Lecturer, Student, alone, alone_student, first_placed, is_left, is_second}
use Rattle.portal_store.proofs.Base.{students_in, lecturer_key, project_key, student_key, applicants_of, is_published}
use Rattle.portal_store.proofs.Base.{Published, all_weaker, all_map, is_same, is_own, all_unmap, first_plays, Round}
use Rattle.portal_store.proofs.Base.{First, Second, lecturer_tree, project_tree, student_tree, assigned2_tree, version}
use Rattle.portal_store.proofs.Base.{tree_of, row_key, by_key, RollsRise, lecturers_shown, projects_shown}
use Rattle.portal_store.proofs.Base.{students_shown, lecturer_columns, roll_columns, world_in, phase_in, choice_table}
use Rattle.portal_store.proofs.Base.{ranking_table, is_ranked, lecturer_stored, student_stored, lecturer_row}
use Rattle.portal_store.proofs.Base.{student_row, project_row, of_key, chosen, list_in_order, IsWhole, HasGoodFirst}
use Rattle.portal_store.proofs.Base.{HasGoodWorldIn, Whole, shown_lecturer, shown_project, shown_student, AreFine}
use Rattle.portal_store.proofs.Base.{all_permuted, all_two, permutes, map-map, suc, ◌≤◌, get_or-map, IsLecturer}
use Rattle.portal_store.proofs.Base.{IsProject, IsStudent, IsChoice, IsRanking, instance_of, places_of, project_keys}
use Rattle.portal_store.proofs.Base.{first, first_published, in_play, all_both, ranking_in, choice_in}
use Rattle.portal_store.proofs.Base.{placement_in_round, HasPlacement, IsFine, all-filter, HasOffice, portal_tree}
use Rattle.std.proofs.lemmas.List.Elements.{recursion_from_All}
use Rattle.spa_rows.specs.Lines.{is_key}
use Rattle.spa_model.specs.Pairs.{number_in}
use Rattle.spa_model.specs.Spa.{IsStable, IsOn, place}
use Rattle.spa_model.proofs.Numbers.{number_is}
use Rattle.portal_rules.proofs.Alone.{played_alone}
use Rattle.portal_rules.proofs.Only.{on_roll}
use Rattle.portal_store.proofs.Loaded.{has_choice, has_ranked, lecturers_by_key, projects_by_key, students_by_key}

abbrev IsKey : Key → Type 0
IsKey k = is_key k ≡ true

-- a key that is among keys
among : (ks : List Key) → AllByRecursion IsKey ks → (k : Key) → has ks k ≡ true → IsKey k
among [] all k h = absurd (cc)
among (x ∷ xs) all k h = elim (cases_Bool (equals k x)) [
  | inl same ↦ subst IsKey (sym (is_same k x same)) all.0
  | inr other ↦ among xs all.1 k (ap (λ b. b || has xs k) (sym other) ∙ h)
]

-- who is placed at a project on a list of keys is placed at a key
placed_key : (choice : List Key) → AllByRecursion IsKey choice → (o : Option Key) → IfSome o (λ p. has choice p ≡ true)
    → IfSome o IsKey
placed_key choice all None on = tt
placed_key choice all (Some p) on = among choice all p on

-- in a good world of the first round whoever is placed is so at a project on the list
module _ (w : World) (one : w.round ≡ First) (good : Good w) where
  known_choices : AllByRecursion (λ s. IsChoice (project_keys w) s.choice) w.students
  known_choices = subst (λ u. AllByRecursion (λ s. IsChoice (project_keys u) s.choice) w.students) (first_plays w one) good.sound.choices

  stable : is_published w.phase ≡ true → IsStable (instance_of w) (places_of w)
  stable so = subst (λ u. IsStable (instance_of u) (places_of u)) (first_plays w one) (good.stable so)

  known_projects : AllByRecursion IsKey (project_keys w)
  known_projects = all_map IsKey project_key w.projects
      (all_weaker IsProject (λ p. IsKey (project_key p)) (λ p x. x.key) w.projects good.sound.project_forms)

  abbrev place_of : Student → Option ℕ
  place_of s = option_map (number_in (project_keys w)) s.placed

  -- a number on a list of known keys is that of a key on it
  listed : (choice : List Key) (k : Key) → number_in (project_keys w) k < length (project_keys w)
      → IsOn (map (number_in (project_keys w)) choice) (number_in (project_keys w) k) → has choice k ≡ true
  listed [] k low on = absurd (omega (arith, on))
  listed (c ∷ cs) k low on =
      (elim (number_in (project_keys w) c == number_in (project_keys w) k) as
      (λ b. (number_in (project_keys w) c == number_in (project_keys w) k) ≡ b
      → cond b 0 (1 + place (map (number_in (project_keys w)) cs) (number_in (project_keys w) k)) < suc
      (length (map (number_in (project_keys w)) cs)) → has (c ∷ cs) k ≡ true) [
        | true ↦ λ e f.
            let same : number_in (project_keys w) c ≡ number_in (project_keys w) k = grind (arith, nat_tests) in
            let key : c ≡ k = sym (number_is (project_keys w) c (subst (λ n. n < length (project_keys w)) (sym same) low))
            ∙ ap (λ n. get_or (project_keys w) n []) same ∙ number_is (project_keys w) k low in
            ap (λ b. b || has cs k) (subst (λ x. equals k x ≡ true) (sym key) (is_own k))
        | false ↦ λ e f. ap (λ b. equals k c || b) (listed cs k low (omega arith)) ∙ or-true (equals k c)
      ]) refl on

  is_listed : IsStable (instance_of w) (places_of w) → (i : ℕ) (d : Student) → i < length w.students → (o : Option Key)
      → (get_or w.students i d).placed ≡ o → IfSome o (λ p. has (get_or w.students i d).choice p ≡ true)
  is_listed held i d low None e = tt
  is_listed held i d low (Some p) e =
      let here : get_or (places_of w) i None ≡ Some (number_in (project_keys w) p) = get_or-map place_of w.students i d None low
      ∙ ap (option_map (number_in (project_keys w))) e in
      let on = held.matching.acceptable i (number_in (project_keys w) p) here in
      listed (get_or w.students i d).choice p (on_roll (project_keys w) w.students known_choices i (number_in (project_keys w) p) on)
      (subst (λ l. IsOn l (number_in (project_keys w) p))
      (get_or-map (λ (s : Student). map (number_in (project_keys w)) s.choice) w.students i d [] low) on)

  -- who is placed has the project on the list
  pub placed_listed : AllByRecursion (λ s. IfSome s.placed (λ p. has s.choice p ≡ true)) w.students
  placed_listed = elim (cases_Bool (is_published w.phase)) [
    | inl so ↦ recursion_from_All (λ s. IfSome s.placed (λ p. has s.choice p ≡ true)) w.students
        (λ i d low. is_listed (stable so) i d low (get_or w.students i d).placed refl)
    | inr other ↦ all_weaker (λ s. s.placed ≡ None) (λ s. IfSome s.placed (λ p. has s.choice p ≡ true))
        (λ s e. subst (λ o. IfSome o (λ p. has s.choice p ≡ true)) (sym e) tt) w.students (good.sound.no_result_yet other)
  ]

-- who is left has what is so of those who are, and who is not has nothing
filtered : (P : Student → Type 0) (ss : List Student) → AllByRecursion (λ s. is_left s ≡ false → P s) ss
    → AllByRecursion P (filter is_left ss) → AllByRecursion P ss
filtered P [] others all = tt
filtered P (s ∷ ss) others all =
    (elim (is_left s) as (λ b. is_left s ≡ b → AllByRecursion P (cond b (s ∷ filter is_left ss) (filter is_left ss))
    → AllByRecursion P (s ∷ ss)) [
      | true ↦ λ e h. (h.0, filtered P ss others.1 h.1)
      | false ↦ λ e h. (others.0 e, filtered P ss others.1 h)
    ]) refl all

of_all : (round : Round) (P : Student → Type 0) (ss : List Student) → AllByRecursion (λ s. is_left s ≡ false → P s) ss
    → AllByRecursion P (students_in round ss) → AllByRecursion P ss
of_all First P ss others all = all
of_all Second P ss others all = filtered P ss others all

-- in a good world whatever is told of a student or a lecturer is a key
module _ (w : World) (good : Good w) where
  abbrev as_one : Good (alone (in_play w))
  as_one = (played_alone w good).0

  -- who is placed has the project on the list
  pub placed_on_lists : AllByRecursion (λ s. IfSome s.placed (λ p. has s.choice p ≡ true)) w.students
  placed_on_lists =
      let OnList : Student → Type 0 = λ s. IfSome s.placed (λ p. has s.choice p ≡ true) in
      of_all w.round OnList w.students
      (all_weaker (λ s. is_left s ≡ false → (s.choice ≡ []) × (s.placed ≡ None)) (λ s. is_left s ≡ false → OnList s)
      (λ s h e. subst (λ o. IfSome o (λ p. has s.choice p ≡ true)) (sym (h e).1) tt) w.students good.sound.only_left)
      (all_unmap OnList alone_student (students_in w.round w.students) (placed_listed (alone (in_play w)) refl as_one))

  pub choice_keys : AllByRecursion (λ s. AllByRecursion IsKey s.choice) w.students
  choice_keys = all_weaker (λ s. IsChoice (project_keys (in_play w)) s.choice) (λ s. AllByRecursion IsKey s.choice)
      (λ s x. all_weaker (λ p. has (project_keys (in_play w)) p ≡ true) IsKey
      (λ p known. among (project_keys (in_play w)) (known_projects (alone (in_play w)) refl as_one) p known) s.choice x.known)
      w.students good.sound.choices

  pub placed_keys : AllByRecursion (λ s. IfSome s.placed IsKey) w.students
  placed_keys = all_two (λ s. IfSome s.placed (λ p. has s.choice p ≡ true)) (λ s. AllByRecursion IsKey s.choice)
      (λ s. IfSome s.placed IsKey) (λ s on keys. placed_key s.choice keys s.placed on) w.students placed_on_lists choice_keys

  known_students : AllByRecursion (λ s. IsKey (student_key s)) w.students
  known_students = all_weaker (λ s. IsStudent s.row) (λ s. IsKey (student_key s)) (λ s x. x.key) w.students good.sound.student_forms

  applicant_keys : (l : Key) → AllByRecursion IsKey (map student_key (applicants_of w l))
  applicant_keys l = all_map IsKey student_key (applicants_of w l) (all-filter (λ s. IsKey (student_key s)) _ w.students known_students)

  ranked_keys : (l : Key) (o : Option (List Key)) → IfSome o (IsRanking (map student_key (applicants_of w l)))
      → IfSome o (AllByRecursion IsKey)
  ranked_keys l None h = tt
  ranked_keys l (Some list) h = all_weaker (λ s. has (map student_key (applicants_of w l)) s ≡ true) IsKey
      (λ s known. among (map student_key (applicants_of w l)) (applicant_keys l) s known) list h.only

  pub ranking_keys : AllByRecursion (λ l. IfSome l.ranking (AllByRecursion IsKey)) w.lecturers
  ranking_keys = all_weaker (λ l. IfSome l.ranking (IsRanking (map student_key (applicants_of w l.row.key))))
      (λ l. IfSome l.ranking (AllByRecursion IsKey)) (λ l h. ranked_keys l.row.key l.ranking h) w.lecturers good.sound.rankings

-- a student has one row of the second round's result
abbrev pub PlacesOnce : Round → Trees → Type 0
PlacesOnce First db = Unit {0}
PlacesOnce Second db = (k : Key) → length (of_key k (db assigned2_tree)) ≤ 1

has_place : (round : Round) (db : Trees) → PlacesOnce round db → (r : Row)
    → IfSome (placement_in_round round db r) IsKey → HasPlacement round db (roll_columns r)
has_place First db once r key = key
has_place Second db once r key = (key, once (row_key r))

-- what is said of the world's rows, of the tables' rows in their order
module _ (round : Round) (db : Trees) (whole : Whole round db) (good : Good (world_in round db)) where
  of_lecturers : (P : Lecturer → Type 0) → AllByRecursion P (world_in round db).lecturers
      → AllByRecursion (λ r. P (lecturer_stored round db r)) (by_key (db lecturer_tree))
  unfolding world_in
  of_lecturers P all = all_unmap P (lecturer_stored round db) (by_key (db lecturer_tree))
      (subst (AllByRecursion P) (lecturers_by_key round db) all)

  of_students : (P : Student → Type 0) → AllByRecursion P (world_in round db).students
      → AllByRecursion (λ r. P (student_stored round db r)) (by_key (db student_tree))
  unfolding world_in
  of_students P all = all_unmap P (student_stored round db) (by_key (db student_tree))
      (subst (AllByRecursion P) (students_by_key round db) all)

  of_projects : (P : ProjectRow → Type 0) → AllByRecursion P (world_in round db).projects
      → AllByRecursion (λ r. P (project_row r)) (by_key (db project_tree))
  unfolding world_in
  of_projects P all = all_unmap P project_row (by_key (db project_tree)) (subst (AllByRecursion P) (projects_by_key round db) all)

  pub rolls_rise : RollsRise db
  unfolding world_in
  rolls_rise = record {
    lecturers_rise = subst Rise (ap (map lecturer_key) (lecturers_by_key round db)
        ∙ map-map lecturer_key (lecturer_stored round db) (by_key (db lecturer_tree))) good.sound.lecturers_rise;
    projects_rise = subst Rise (ap (map project_key) (projects_by_key round db)
        ∙ map-map project_key project_row (by_key (db project_tree))) good.sound.projects_rise;
    students_rise = subst Rise (ap (map student_key) (students_by_key round db)
        ∙ map-map student_key (student_stored round db) (by_key (db student_tree))) good.sound.students_rise;
  }

  in_order : (P : Row → Type 0) (table : List Row) → AllByRecursion P table → AllByRecursion P (by_key table)
  in_order P table all = all_permuted P table (by_key table) (permutes row_key table) all

  fine_choice : (r : Row) → IsStudent (student_row r) × AllByRecursion IsKey (choice_in round db r)
      → IsWhole (of_key (row_key r) (db (tree_of (choice_table round))))
      → IsFine (choice_table round) db (roll_columns r)
  fine_choice r forms whole = record {
    key = forms.0.key;
    read = record { whole = whole; none = λ e. absurd (let both : true ≡ false = sym (has_choice round db r) ∙ e in cc) };
    names = forms.1;
  }

  names_of : (b : Bool) (key : Key) → (b ≡ false → of_key key (db (tree_of (ranking_table round))) ≡ [])
      → IfSome (cond b (Some (chosen (db (tree_of (ranking_table round))) key)) None) (AllByRecursion IsKey)
      → AllByRecursion IsKey (chosen (db (tree_of (ranking_table round))) key)
  names_of true key none h = h
  names_of false key none h = subst (λ rows. AllByRecursion IsKey (list_in_order rows)) (sym (none refl)) tt

  fine_ranking : (r : Row) → IsLecturer (lecturer_row r) × IfSome (ranking_in round db r) (AllByRecursion IsKey)
      → IsWhole (of_key (row_key r) (db (tree_of (ranking_table round))))
      × (is_ranked round db r ≡ false → of_key (row_key r) (db (tree_of (ranking_table round))) ≡ [])
      → IsFine (ranking_table round) db (lecturer_columns r)
  fine_ranking r forms lists = record {
    key = forms.0.key;
    read = record { whole = lists.0; none = λ e. lists.1 (sym (has_ranked round db r) ∙ e) };
    names = names_of (is_ranked round db r) (row_key r) lists.1 forms.1;
  }

  pub all_fine : PlacesOnce round db → AreFine round db (lecturers_shown db) (projects_shown db) (students_shown db)
  all_fine once =
      let w = world_in round db in
      let C = choice_table round in
      let R = ranking_table round in
      let S = by_key (db student_tree) in
      let L = by_key (db lecturer_tree) in
      let lecturers = of_lecturers (λ l. IsLecturer l.row) good.sound.lecturer_forms in
      let students = of_students (λ s. IsStudent s.row) good.sound.student_forms in
      let choices = of_students (λ s. AllByRecursion IsKey s.choice) (choice_keys w good) in
      let rankings = of_lecturers (λ l. IfSome l.ranking (AllByRecursion IsKey)) (ranking_keys w good) in
      let places = of_students (λ s. IfSome s.placed IsKey) (placed_keys w good) in
      let whole_choices = in_order _ (db student_tree) whole.choices in
      let whole_rankings = in_order _ (db lecturer_tree) whole.rankings in
      let ranked = in_order _ (db lecturer_tree) whole.ranked in
      record {
        lecturer_forms = all_map (λ c. IsLecturer (shown_lecturer c)) lecturer_columns L lecturers;
        project_forms = all_map (λ c. IsProject (shown_project c)) roll_columns (by_key (db project_tree))
            (of_projects IsProject good.sound.project_forms);
        student_forms = all_map (λ c. IsStudent (shown_student c)) roll_columns S students;
        places = all_map (HasPlacement round db) roll_columns S
            (all_weaker (λ r. IfSome (placement_in_round round db r) IsKey) (λ r. HasPlacement round db (roll_columns r))
            (has_place round db once) S places);
        choices = all_map (IsFine C db) roll_columns S
            (all_two (λ r. IsStudent (student_row r) × AllByRecursion IsKey (choice_in round db r))
            (λ r. IsWhole (of_key (row_key r) (db (tree_of C)))) (λ r. IsFine C db (roll_columns r)) fine_choice S
            (all_both (λ r. IsStudent (student_row r)) (λ r. AllByRecursion IsKey (choice_in round db r)) S students choices)
            whole_choices);
        rankings = all_map (IsFine R db) lecturer_columns L
            (all_two (λ r. IsLecturer (lecturer_row r) × IfSome (ranking_in round db r) (AllByRecursion IsKey))
            (λ r. IsWhole (of_key (row_key r) (db (tree_of R))) × (is_ranked round db r ≡ false → of_key (row_key r) (db (tree_of R)) ≡ []))
            (λ r. IsFine R db (lecturer_columns r)) fine_ranking L
            (all_both (λ r. IsLecturer (lecturer_row r)) (λ r. IfSome (ranking_in round db r) (AllByRecursion IsKey)) L lecturers rankings)
            (all_both (λ r. IsWhole (of_key (row_key r) (db (tree_of R))))
            (λ r. is_ranked round db r ≡ false → of_key (row_key r) (db (tree_of R)) ≡ []) L whole_rankings ranked));
      }

pub office_code : (round : Round) (of : ℕ) (db : Trees) (office : HasOffice of (db portal_tree))
    → Good (world_in round db) → is_code office.office ≡ true
unfolding world_in
office_code round of db office good = subst
    (λ rows. is_code (bytes (column (slice_index_or rows 0 []) 4)) ≡ true) office.is good.sound.office_form

-- the first round's tables stand for what the second round's world says of the first

pub first_left : (db : Trees) → phase_in First db ≡ Published → first (world_in Second db) ≡ world_in First db
unfolding world_in
first_left db published = λ i. record (world_in First db) {
  phase = sym published i;
  lecturers = (ap (map first_published) (lecturers_by_key Second db)
      ∙ map-map first_published (lecturer_stored Second db) (by_key (db lecturer_tree)) ∙ sym (lecturers_by_key First db)) i;
  students = (ap (map first_placed) (students_by_key Second db) ∙ map-map first_placed (student_stored Second db) (by_key (db student_tree))
      ∙ sym (students_by_key First db)) i;
}

pub good_before : (w : World) → is_second w.round ≡ true → Good w → Good (first w)
good_before w second good = let before = good.before second in
    record { sound = before.sound; stable = before.stable; before = λ e. absurd (cc) }

pub stands_before : (db : Trees) → HasGoodWorldIn Second db → HasGoodFirst version db
unfolding world_in
stands_before db stands = record {
  office = stands.office;
  whole = stands.whole.0;
  good = subst Good (first_left db stands.second.first) (good_before (world_in Second db) refl stands.good);
}
