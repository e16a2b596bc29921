-- What a change leaves of those who take part in a round.
use Rattle.portal_rules.proofs.Base.{◌≡◌, ◌-◌, Bool, true, false, cond, List, [], ◌∷◌, length, refl, sym, ◌∙◌, ap, map}
use Rattle.portal_rules.proofs.Base.{filter, count_by, nat_lt, ◌&&◌, Some, None, is_none, length-filter, list_any}
use Rattle.portal_rules.proofs.Base.{count_by-map, Key, equals, has, put, put_all, World, in_play, applicants_of}
use Rattle.portal_rules.proofs.Base.{is_still_to_rank, lecturer_key, student_key, is_at, is_left, given_to, given_with}
use Rattle.portal_rules.proofs.Base.{lowered_lecturer, lowered_project, lecturers_left, lecturers_in, projects_in}
use Rattle.portal_rules.proofs.Base.{students_in, Choices, Ranks, Placements, Fill, changed, with_choice, with_ranking}
use Rattle.portal_rules.proofs.Base.{with_place, with_fill, placement_in, new_student, with_students, Round, First}
use Rattle.portal_rules.proofs.Base.{Second, ProjectRow, StudentRow, arith}
use Rattle.portal_rules.specs.World as rows
use Rattle.portal_rules.proofs.AllLaws.{map_same}

-- a filter after a change that keeps the test
pub filter_kept : {X : Type 0} (f : X → X) (q : X → Bool) → ((x : X) → q (f x) ≡ q x) → (xs : List X)
    → filter q (map f xs) ≡ map f (filter q xs)
filter_kept f q alike [] = refl
filter_kept f q alike (x ∷ xs) = grind (arith, alike x, filter_kept f q alike xs)

pub map_swap : {X : Type 0} (f g : X → X) → ((x : X) → g (f x) ≡ f (g x)) → (xs : List X)
    → map g (map f xs) ≡ map f (map g xs)
map_swap f g alike [] = refl
map_swap f g alike (x ∷ xs) = λ i. alike x i ∷ map_swap f g alike xs i

-- what takes part goes by what the first round gave
module _ (new old : List rows.Student) (to : (p : Key) → given_to new p ≡ given_to old p)
    (with' : (ps : List ProjectRow) (l : Key) → given_with ps new l ≡ given_with ps old l) where
  pub lecturers_given : (r : Round) (ls : List rows.Lecturer) (ps : List ProjectRow)
      → lecturers_in r ls ps new ≡ lecturers_in r ls ps old
  lecturers_given First ls ps = refl
  lecturers_given Second ls ps = λ i. filter (λ l. nat_lt 0 l.row.capacity)
      (map {A = rows.Lecturer} {B = rows.Lecturer}
      (λ l. record l { row = record l.row { capacity = l.row.capacity - with' ps l.row.key i } }) ls)

  pub projects_given : (r : Round) (ls : List rows.Lecturer) (ps : List ProjectRow)
      → projects_in r ls ps new ≡ projects_in r ls ps old
  projects_given First ls ps = refl
  projects_given Second ls ps = λ i.
      filter (λ p. nat_lt 0 p.capacity && has (map lecturer_key (lecturers_given Second ls ps i)) p.lecturer)
      (map {A = ProjectRow} {B = ProjectRow} (λ p. record p { capacity = p.capacity - to p.key i }) ps)

-- a change of students that keeps the place of the earlier round
module _ (f : rows.Student → rows.Student) (keeps : (s : rows.Student) → (f s).earlier_placement ≡ s.earlier_placement) where
  given_to_kept : (ss : List rows.Student) (p : Key) → given_to (map f ss) p ≡ given_to ss p
  given_to_kept ss p = count_by-map (λ (s : rows.Student). is_at p s.earlier_placement) f ss ∙ (λ i. count_by (λ s. is_at p (keeps s i)) ss)

  given_with_kept : (ps : List ProjectRow) (ss : List rows.Student) (l : Key)
      → given_with ps (map f ss) l ≡ given_with ps ss l
  given_with_kept ps ss l =
      count_by-map (λ (s : rows.Student). list_any (λ p. equals p.lecturer l && is_at p.key s.earlier_placement) ps) f ss
      ∙ (λ i. count_by (λ s. list_any (λ p. equals p.lecturer l && is_at p.key (keeps s i)) ps) ss)

  pub lecturers_kept : (r : Round) (ls : List rows.Lecturer) (ps : List ProjectRow) (ss : List rows.Student)
      → lecturers_in r ls ps (map f ss) ≡ lecturers_in r ls ps ss
  lecturers_kept r ls ps ss = lecturers_given (map f ss) ss (given_to_kept ss) (λ ps l. given_with_kept ps ss l) r ls ps

  pub projects_kept : (r : Round) (ls : List rows.Lecturer) (ps : List ProjectRow) (ss : List rows.Student)
      → projects_in r ls ps (map f ss) ≡ projects_in r ls ps ss
  projects_kept r ls ps ss = projects_given (map f ss) ss (given_to_kept ss) (λ ps l. given_with_kept ps ss l) r ls ps

  pub students_kept : (r : Round) (ss : List rows.Student) → students_in r (map f ss) ≡ map f (students_in r ss)
  students_kept First ss = refl
  students_kept Second ss = filter_kept f is_left (λ s. ap is_none (keeps s)) ss

-- a change of lecturers that keeps the row, and goes by it
module _ (f : rows.Lecturer → rows.Lecturer) (keeps : (l : rows.Lecturer) → (f l).row ≡ l.row)
    (goes : (ps : List ProjectRow) (ss : List rows.Student) (l : rows.Lecturer)
    → lowered_lecturer ps ss (f l) ≡ f (lowered_lecturer ps ss l)) where
  pub lecturers_of : (r : Round) (ls : List rows.Lecturer) (ps : List ProjectRow) (ss : List rows.Student)
      → lecturers_in r (map f ls) ps ss ≡ map f (lecturers_in r ls ps ss)
  lecturers_of First ls ps ss = refl
  lecturers_of Second ls ps ss =
      ap (filter (λ l. nat_lt 0 l.row.capacity)) (map_swap f (lowered_lecturer ps ss) (goes ps ss) ls)
      ∙ filter_kept f (λ l. nat_lt 0 l.row.capacity) (λ l. ap (λ r. nat_lt 0 r.capacity) (keeps l)) (map (lowered_lecturer ps ss) ls)

  pub projects_of : (r : Round) (ls : List rows.Lecturer) (ps : List ProjectRow) (ss : List rows.Student)
      → projects_in r (map f ls) ps ss ≡ projects_in r ls ps ss
  projects_of First ls ps ss = refl
  projects_of Second ls ps ss =
      let keys : map lecturer_key (lecturers_left (map f ls) ps ss) ≡ map lecturer_key (lecturers_left ls ps ss)
      = ap (map lecturer_key) (lecturers_of Second ls ps ss)
      ∙ map_same lecturer_key f (λ l. ap (λ r. r.key) (keeps l)) (lecturers_left ls ps ss) in
      λ i. filter (λ p. nat_lt 0 p.capacity && has (keys i) p.lecturer) (map (lowered_project ss) ps)

-- the changes

pub choice_earlier : (k : Key) (list : List Key) (s : rows.Student)
    → (with_choice k list s).earlier_placement ≡ s.earlier_placement
choice_earlier k list s = elim (equals s.row.key k) as
    (λ b. (cond b (record s { choice = list }) s).earlier_placement ≡ s.earlier_placement) [ true ↦ refl | false ↦ refl ]

pub place_earlier : (pairs : List (Key × Key)) (s : rows.Student)
    → (with_place pairs s).earlier_placement ≡ s.earlier_placement
place_earlier pairs s = elim (is_left s) as
    (λ b. (cond b (record s { placed = placement_in pairs s.row.key }) s).earlier_placement
    ≡ s.earlier_placement) [ true ↦ refl | false ↦ refl ]

pub ranking_row : (k : Key) (list : List Key) (l : rows.Lecturer) → (with_ranking k list l).row ≡ l.row
ranking_row k list l = elim (equals l.row.key k) as
    (λ b. (cond b (record l { ranking = Some list }) l).row ≡ l.row) [ true ↦ refl | false ↦ refl ]

ranking_lowered : (k : Key) (list : List Key) (ps : List ProjectRow) (ss : List rows.Student) (l : rows.Lecturer)
    → lowered_lecturer ps ss (with_ranking k list l) ≡ with_ranking k list (lowered_lecturer ps ss l)
ranking_lowered k list ps ss l =
    elim (equals l.row.key k) as (λ b. lowered_lecturer ps ss (cond b (record l { ranking = Some list }) l)
    ≡ cond b (record (lowered_lecturer ps ss l) { ranking = Some list }) (lowered_lecturer ps ss l)) [ true ↦ refl | false ↦ refl ]

pub fill_row : (w : World) (l : rows.Lecturer) → (with_fill w l).row ≡ l.row
fill_row w l = elim (is_still_to_rank w l) as
    (λ b. (cond b (record l { ranking = Some (map student_key (applicants_of w l.row.key)) }) l).row ≡ l.row) [ true ↦ refl | false ↦ refl ]

fill_lowered : (w : World) (ps : List ProjectRow) (ss : List rows.Student) (l : rows.Lecturer)
    → lowered_lecturer ps ss (with_fill w l) ≡ with_fill w (lowered_lecturer ps ss l)
fill_lowered w ps ss l =
    elim (is_still_to_rank w l) as (λ b. lowered_lecturer ps ss
    (cond b (record l { ranking = Some (map student_key (applicants_of w l.row.key)) }) l)
    ≡ cond b (record (lowered_lecturer ps ss l) { ranking = Some (map student_key (applicants_of w l.row.key)) })
    (lowered_lecturer ps ss l)) [ true ↦ refl | false ↦ refl ]

-- a student who is new was given nothing

filter_put : {X : Type 0} (key : X → Key) (x : X) (q : X → Bool) → q x ≡ false → (ys : List X)
    → filter q (put key x ys) ≡ filter q ys
filter_put key x q no' [] = grind arith
filter_put key x q no' (y ∷ ys) = grind (arith, filter_put key x q no' ys)

count_new : (q : rows.Student → Bool) → ((r : StudentRow) → q (new_student r) ≡ false)
    → (rs : List StudentRow) (ss : List rows.Student)
    → count_by q (put_all student_key (map new_student rs) ss) ≡ count_by q ss
count_new q none [] ss = refl
count_new q none (r ∷ rs) ss =
    count_new q none rs (put student_key (new_student r) ss) ∙ sym (length-filter q (put student_key (new_student r) ss))
    ∙ ap length (filter_put student_key (new_student r) q (none r) ss) ∙ length-filter q ss

pub given_none : (ps : List ProjectRow) (l : Key) → list_any (λ p. equals p.lecturer l && is_at p.key None) ps ≡ false
given_none [] l = refl
given_none (p ∷ ps) l = grind (arith, given_none ps l)

-- the round after a change is the change of the round

pub play_chosen : (w : World) (k : Key) (list : List Key)
    → in_play (changed w (Choices k list)) ≡ changed (in_play w) (Choices k list)
play_chosen w k list = λ i. record w {
  lecturers = lecturers_kept (with_choice k list) (choice_earlier k list) w.round w.lecturers w.projects w.students i;
  projects = projects_kept (with_choice k list) (choice_earlier k list) w.round w.lecturers w.projects w.students i;
  students = students_kept (with_choice k list) (choice_earlier k list) w.round w.students i;
}

pub play_ranked : (w : World) (k : Key) (list : List Key)
    → in_play (changed w (Ranks k list)) ≡ changed (in_play w) (Ranks k list)
play_ranked w k list = λ i. record w {
  lecturers = lecturers_of (with_ranking k list) (ranking_row k list) (ranking_lowered k list) w.round w.lecturers w.projects w.students i;
  projects = projects_of (with_ranking k list) (ranking_row k list) (ranking_lowered k list) w.round w.lecturers w.projects w.students i;
  students = students_in w.round w.students;
}

pub play_placed : (w : World) (pairs : List (Key × Key))
    → in_play (changed w (Placements pairs)) ≡ changed (in_play w) (Placements pairs)
play_placed w pairs = λ i. record (changed w (Placements pairs)) {
  lecturers = lecturers_kept (with_place pairs) (place_earlier pairs) w.round w.lecturers w.projects w.students i;
  projects = projects_kept (with_place pairs) (place_earlier pairs) w.round w.lecturers w.projects w.students i;
  students = students_kept (with_place pairs) (place_earlier pairs) w.round w.students i;
}

pub play_filled : (w : World) → in_play (changed w Fill) ≡ record (in_play w) { lecturers = map (with_fill w) (in_play w).lecturers }
play_filled w = λ i. record w {
  lecturers = lecturers_of (with_fill w) (fill_row w) (fill_lowered w) w.round w.lecturers w.projects w.students i;
  projects = projects_of (with_fill w) (fill_row w) (fill_lowered w) w.round w.lecturers w.projects w.students i;
  students = students_in w.round w.students;
}

-- of new students the lecturers and the projects that take part know nothing
pub play_joined : (w : World) (rs : List StudentRow)
    → in_play (with_students w rs) ≡ record (in_play w) { students = students_in w.round (with_students w rs).students }
play_joined w rs =
    let to : (p : Key) → given_to (with_students w rs).students p
    ≡ given_to w.students p = λ p. count_new (λ s. is_at p s.earlier_placement) (λ r. refl) rs w.students in
    let by : (ps : List ProjectRow) (l : Key) → given_with ps (with_students w rs).students l ≡ given_with ps w.students l
    = λ ps l. count_new (λ s. list_any (λ p. equals p.lecturer l && is_at p.key s.earlier_placement) ps)
    (λ r. given_none ps l) rs w.students in
    λ i. record w {
      lecturers = lecturers_given (with_students w rs).students w.students to by w.round w.lecturers w.projects i;
      projects = projects_given (with_students w rs).students w.students to by w.round w.lecturers w.projects i;
      students = students_in w.round (with_students w rs).students;
    }
