-- Applicants and placed students, of what queries show.
use Rattle.portal_store.proofs.Base.{◌≡◌, Bool, true, false, ◌&&◌, ◌||◌, List, [], ◌∷◌, ◌++◌, map, filter, Option, refl}
use Rattle.portal_store.proofs.Base.{sym, ap, subst, ◌∙◌, if◌then◌else◌, cond, is_none, IfSome, None, Some}
use Rattle.portal_store.proofs.Base.{AllByRecursion, IsPermutation, IsPermutation-cons, IsPermutation-middle}
use Rattle.portal_store.proofs.Base.{IsPermutation-refl, IsPermutation-sym, IsPermutation-trans, Row, column, bytes}
use Rattle.portal_store.proofs.Base.{Trees, filter-map, filter_none, map-map, all_of, Phase, Setup, Choosing, Ranking}
use Rattle.portal_store.proofs.Base.{Published, Round, First, Second, Listing, ProjectRow, Key, Rise, equals, has}
use Rattle.portal_store.proofs.Base.{put_all, World, Student, first_placed, project_key, student_key, is_left}
use Rattle.portal_store.proofs.Base.{is_from_ranking, is_published, is_second, shown_placement, catalogue, Good}
use Rattle.portal_store.proofs.Base.{is_same, all_weaker, project_tree, student_tree, HasSecond, choice_shown, by_key}
use Rattle.portal_store.proofs.Base.{roll_columns, world_in, student_stored, project_row, first_cell, lecturer_shown}
use Rattle.portal_store.proofs.Base.{lecturer_from, distinct_permuted, map_alike, permutes_more, put_all_map}
use Rattle.portal_store.proofs.Base.{rise_distinct, and-false, or-false, projects_of, applicants_to, placed_at, is_at}
use Rattle.portal_store.proofs.Base.{persons, lecturer_sees, shown_line, applicant_lines, person_key, lines_shown}
use Rattle.portal_store.proofs.Base.{persons_at, persons_before, placed_among, placed_at_shown, applicants_of_projects}
use Rattle.portal_store.proofs.Base.{placed_of_projects, own_keys_shown, one_rise, rise_put_all, arith}
use Rattle.portal_rules.specs.declared.rows.Person.{Person}
use Rattle.portal_rules.proofs.Fills.{rise_kept}
use Rattle.portal_views.specs.declared.lines.ApplicantLine.{ApplicantLine}
use Rattle.portal_store.proofs.Loaded.{none_earlier, projects_by_key, students_by_key}
use Rattle.portal_store.proofs.Fine.{first_left, good_before, placed_on_lists}

-- the own projects

own_told : (round : Round) (db : Trees) (k : Key)
    → own_keys_shown db k ≡ map project_key (projects_of (world_in round db) k)
unfolding world_in
own_told round db k =
    let rows = by_key (db project_tree) in
    ap (map first_cell) (filter-map (λ c. equals (bytes (column c 1)) k) roll_columns rows)
    ∙ map-map first_cell roll_columns (filter (λ r. equals (bytes (column r 2)) k) rows)
    ∙ sym (ap (λ ps. map project_key (filter (λ (p : ProjectRow). equals p.lecturer k) ps)) (projects_by_key round db)
    ∙ ap (map project_key) (filter-map (λ (p : ProjectRow). equals p.lecturer k) project_row rows)
    ∙ map-map project_key project_row (filter (λ r. equals (bytes (column r 2)) k) rows))

-- the lines of applicants

abbrev person_of : Student → Person
person_of s = record { key = s.row.key; name = s.row.name }

-- what a lecturer may be told of a student
abbrev line_of : Student → ApplicantLine
line_of s = record { person = record { key = s.row.key; name = s.row.name }; placed = s.placed }

line_is : (round : Round) (db : Trees) (r : Row)
    → shown_line round db (roll_columns r) ≡ line_of (student_stored round db r)
line_is First db r = refl
line_is Second db r = refl

-- the lines that the tables tell of a project are those of its applicants
lines_told : (round : Round) (db : Trees) (p : Key)
    → applicant_lines round db p ≡ map line_of (applicants_to (world_in round db) p)
unfolding world_in
lines_told round db p =
    let rows = by_key (db student_tree) in
    let of : Row → Student = student_stored round db in
    let q : Student → Bool = λ s. has s.choice p in
    let mine : List Row = filter (λ r. q (of r)) rows in
    ap (map (shown_line round db)) (filter-map (λ c. has (choice_shown round db c) p) roll_columns rows)
    ∙ map-map (shown_line round db) roll_columns mine ∙ map_alike _ _ mine (line_is round db)
    ∙ sym (ap (λ ss. map line_of (filter q ss)) (students_by_key round db) ∙ ap (map line_of) (filter-map q of rows)
    ∙ map-map line_of of mine)

persons_of : (p : ApplicantLine → Bool) (ss : List Student)
    → map (λ (l : ApplicantLine). l.person) (filter p (map line_of ss)) ≡ persons (filter (λ s. p (line_of s)) ss)
persons_of p ss = ap (map (λ (l : ApplicantLine). l.person)) (filter-map p line_of ss)
    ∙ map-map (λ (l : ApplicantLine). l.person) line_of (filter (λ s. p (line_of s)) ss)

-- who passes a test passes one before it, too
filter_twice : (p q : Student → Bool) (ss : List Student) → AllByRecursion (λ s. p s ≡ true → q s ≡ true) ss
    → filter p (filter q ss) ≡ filter p ss
filter_twice p q [] all = refl
filter_twice p q (s ∷ ss) all = grind (arith, all.0, filter_twice p q ss all.1)

-- who is at a project has it on the list
at_listed : (k : Key) (choice : List Key) (o : Option Key) → IfSome o (λ p. has choice p ≡ true) → is_at k o ≡ true
    → has choice k ≡ true
at_listed k choice None on e = absurd (cc)
at_listed k choice (Some p) on e = subst (λ x. has choice x ≡ true) (is_same p k e) on

placed_by_lines : (w : World) → Good w → (k : Key)
    → persons_at k (map line_of (applicants_to w k)) ≡ persons (filter (λ s. is_at k s.placed) w.students)
placed_by_lines w good k =
    persons_of (λ (l : ApplicantLine). is_at k l.placed) (applicants_to w k)
    ∙ ap persons (filter_twice (λ s. is_at k s.placed) (λ s. has s.choice k) w.students
    (all_weaker _ _ (λ s on. at_listed k s.choice s.placed on) w.students (placed_on_lists w good)))

-- told of one project, by the lines that the phase shows

persons_shown : (w : World) (k : Key)
    → map (λ (l : ApplicantLine). l.person) (if is_from_ranking w.phase then map line_of (applicants_to w k) else [])
    ≡ (if is_from_ranking w.phase then persons (applicants_to w k) else [])
persons_shown w k =
    elim (is_from_ranking w.phase) as (λ b. map (λ (l : ApplicantLine). l.person) (if b then map line_of (applicants_to w k) else [])
    ≡ (if b then persons (applicants_to w k) else [])) [
      | true ↦ map-map (λ (l : ApplicantLine). l.person) line_of (applicants_to w k)
      | false ↦ refl
    ]

-- whom the round's result places at the project, once it is published
abbrev is_placed : World → Key → Student → Bool
is_placed w k s = is_published w.phase && is_at k s.placed

now_told : (w : World) → Good w → (k : Key)
    → placed_among w.phase k (if is_from_ranking w.phase then map line_of (applicants_to w k) else [])
    ≡ persons (filter (is_placed w k) w.students)
now_told w good k =
    let none : [] ≡ persons (filter (λ (s : Student). false) w.students) =
    ap persons (sym (filter_none (λ (s : Student). false) w.students (all_of _ (λ s. refl) w.students))) in
    elim w.phase as (λ (f : Phase). placed_among f k (if is_from_ranking f then map line_of (applicants_to w k) else [])
    ≡ persons (filter (λ (s : Student). is_published f && is_at k s.placed) w.students)) [
      | Setup ↦ none
      | Choosing ↦ none
      | Ranking ↦ none
      | Published ↦ placed_by_lines w good k
    ]

world_round : (round : Round) (db : Trees) → (world_in round db).round ≡ round
unfolding world_in
world_round round db = refl

-- whom the round before placed there
before_told : (round : Round) (db : Trees) → HasSecond round db → Good (world_in round db) → (k : Key)
    → persons_before round db k ≡ persons (filter (λ s. is_at k s.earlier_placement) (world_in round db).students)
before_told First db second good k =
    ap persons (sym (filter_none (λ (s : Student). is_at k s.earlier_placement) (world_in First db).students
    (all_weaker _ _ (λ s none. ap (is_at k) none) (world_in First db).students (none_earlier db))))
before_told Second db second good k =
    let left = first_left db second.first in
    let was : Good (world_in First db) = subst Good left (good_before (world_in Second db) (ap is_second (world_round Second db)) good) in
    let ss = (world_in Second db).students in
    ap (persons_at k) (lines_told First db k) ∙ placed_by_lines (world_in First db) was k
    ∙ ap (λ (w : World). persons (filter (λ s. is_at k s.placed) w.students)) (sym left)
    ∙ ap persons (filter-map (λ (s : Student). is_at k s.placed) first_placed ss)
    ∙ map-map (λ (s : Student). person_of s) first_placed (filter (λ s. is_at k s.earlier_placement) ss)

-- both together, by key

module _ {X : Type 0} (key : X → Key) (f g h : X → Bool) where
  abbrev Parts : X → Type 0
  Parts x = (h x ≡ (f x || g x)) × ((f x && g x) ≡ false)

  both_permuted : (xs : List X) → AllByRecursion Parts xs → IsPermutation (filter f xs ++ filter g xs) (filter h xs)
  both_permuted [] all = IsPermutation-refl []
  both_permuted (x ∷ xs) all =
      let F = filter f xs in
      let G = filter g xs in
      let H = filter h xs in
      let rest : IsPermutation (F ++ G) H = both_permuted xs all.1 in
      (elim (f x) as (λ a. ((h x ≡ (a || g x)) × ((a && g x) ≡ false))
      → IsPermutation (cond a (x ∷ F) F ++ cond (g x) (x ∷ G) G) (cond (h x) (x ∷ H) H)) [
        | true ↦ elim (g x) as (λ b. ((h x ≡ true) × (b ≡ false)) → IsPermutation (x ∷ F ++ cond b (x ∷ G) G) (cond (h x) (x ∷ H) H)) [
          | true ↦ λ e. absurd (let no = e.1 in cc)
          | false ↦ λ e. subst (λ c. IsPermutation (x ∷ F ++ G) (cond c (x ∷ H) H)) (sym e.0) (IsPermutation-cons x _ _ rest)
        ]
        | false ↦ elim (g x) as (λ b. ((h x ≡ b) × (false ≡ false)) → IsPermutation (F ++ cond b (x ∷ G) G) (cond (h x) (x ∷ H) H)) [
          | true ↦ λ e. subst (λ c. IsPermutation (F ++ x ∷ G) (cond c (x ∷ H) H)) (sym e.0)
              (IsPermutation-trans _ _ _ (IsPermutation-middle F x G) (IsPermutation-cons x _ _ rest))
          | false ↦ λ e. subst (λ c. IsPermutation (F ++ G) (cond c (x ∷ H) H)) (sym e.0) rest
        ]
      ]) all.0

  -- those who pass the one test put to those who pass the other are those who pass either
  pub put_passing : (xs : List X) → Rise (map key xs) → AllByRecursion Parts xs
      → put_all key (filter f xs) (filter g xs) ≡ filter h xs
  put_passing xs up all =
      let F = filter f xs in
      let G = filter g xs in
      let H = filter h xs in
      let same = both_permuted xs all in
      let risen : Rise (map key H) = rise_kept key h xs up in
      let apart = distinct_permuted key H (F ++ G) (IsPermutation-sym _ _ same) (rise_distinct (map key H) risen) in
      one_rise key (put_all key F G) H (IsPermutation-trans _ _ _ (IsPermutation-sym _ _ (permutes_more key F G)) same)
      (rise_put_all key F G apart (rise_kept key g xs up)) risen

-- a place that is shown is that of the round before, or of the round once it is published
shown_parts : (w : World) (k : Key) (s : Student) (o : Option Key) → s.earlier_placement ≡ o
    → (is_none o ≡ false → s.placed ≡ None)
    → (is_at k (shown_placement w.phase s) ≡ (is_placed w k s || is_at k s.earlier_placement))
    × ((is_placed w k s && is_at k s.earlier_placement) ≡ false)
shown_parts w k s None e none =
    subst (λ o. (is_at k (if is_none o then (if is_published w.phase then s.placed else None) else o) ≡ (is_placed w k s || is_at k o))
    × ((is_placed w k s && is_at k o) ≡ false)) (sym e)
    (elim (is_published w.phase) as (λ b. (is_at k (if b then s.placed else None) ≡ ((b && is_at k s.placed) || false))
    × (((b && is_at k s.placed) && false) ≡ false)) [
      | true ↦ (sym (or-false (is_at k s.placed)), and-false (is_at k s.placed))
      | false ↦ (refl, refl)
    ])
shown_parts w k s (Some q) e none =
    subst (λ o. (is_at k (if is_none o then (if is_published w.phase then s.placed else None) else o) ≡ (is_placed w k s || is_at k o))
    × ((is_placed w k s && is_at k o) ≡ false)) (sym e)
    (subst (λ p. (equals q k ≡ ((is_published w.phase && is_at k p) || equals q k))
    × (((is_published w.phase && is_at k p) && equals q k) ≡ false)) (sym (none refl))
    (elim (is_published w.phase) as (λ b. (equals q k ≡ ((b && false) || equals q k))
    × (((b && false) && equals q k) ≡ false)) [ true ↦ (refl, refl) | false ↦ (refl, refl) ]))

placed_all : (w : World) → Good w → (k : Key)
    → put_all person_key (persons (filter (is_placed w k) w.students)) (persons (filter (λ s. is_at k s.earlier_placement) w.students))
    ≡ persons (placed_at w k)
placed_all w good k =
    let ss = w.students in
    put_all_map student_key person_key person_of (λ s. refl) (filter (is_placed w k) ss) (filter (λ s. is_at k s.earlier_placement) ss)
    ∙ ap persons (put_passing student_key (is_placed w k) (λ s. is_at k s.earlier_placement)
    (λ s. is_at k (shown_placement w.phase s)) ss good.sound.students_rise
    (all_weaker (λ s. is_left s ≡ false → (s.choice ≡ []) × (s.placed ≡ None)) _
    (λ s only. shown_parts w k s s.earlier_placement refl (λ e. (only e).1)) ss good.sound.only_left))

-- what a lecturer sees, of what was read
pub lecturer_told : (round : Round) (db : Trees) → HasSecond round db → Good (world_in round db)
    → (row : Row) (phase : Phase) (offers : List Listing) → phase ≡ (world_in round db).phase
    → offers ≡ catalogue (world_in round db)
    → lecturer_shown round db phase row offers ≡ lecturer_sees (world_in round db) (lecturer_from round db row)
unfolding world_in
lecturer_told round db second good row phase offers at_phase all =
    let w = world_in round db in
    let own = projects_of w (first_cell row) in
    let listed : own_keys_shown db (first_cell row) ≡ map project_key own = own_told round db (first_cell row) in
    let shown : List ApplicantLine → List ApplicantLine = λ ls. if is_from_ranking w.phase then ls else [] in
    let placed_of : (k : Key) → placed_at_shown round db w.phase k (shown (map line_of (applicants_to w k))) ≡ persons (placed_at w k) =
    λ k. (λ i. put_all person_key (now_told w good k i) (before_told round db second good k i)) ∙ placed_all w good k in
    let applicants = ap (applicants_of_projects round db w.phase) listed
    ∙ map-map (λ k. (k, map (λ (l : ApplicantLine). l.person) (lines_shown round db w.phase k))) project_key own
    ∙ (λ i. map (λ (p : ProjectRow). (p.key, map (λ (l : ApplicantLine). l.person) (shown (lines_told round db p.key i)))) own)
    ∙ (λ i. map (λ (p : ProjectRow). (p.key, persons_shown w p.key i)) own) in
    let placed = ap (placed_of_projects round db w.phase) listed
    ∙ map-map (λ k. (k, placed_at_shown round db w.phase k (lines_shown round db w.phase k))) project_key own
    ∙ (λ i. map (λ (p : ProjectRow). (p.key, placed_at_shown round db w.phase p.key (shown (lines_told round db p.key i)))) own)
    ∙ (λ i. map (λ (p : ProjectRow). (p.key, placed_of p.key i)) own) in
    let from = lecturer_shown round db w.phase row (catalogue w) in
    (λ i. lecturer_shown round db (at_phase i) row (all i)) ∙ (λ i. record from { applicants = applicants i; placed = placed i })
