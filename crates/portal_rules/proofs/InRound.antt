-- What holds of those who take part in a round of a sound world. The catalogue shows each project.
use Rattle.portal_rules.proofs.Base.{◌≡◌, Bool, true, false, List, [], ◌∷◌, refl, sym, ap, subst, map, filter, nat_lt}
use Rattle.portal_rules.proofs.Base.{◌&&◌, is_none, AllByRecursion, has, Rise, World, in_play, lecturer_key}
use Rattle.portal_rules.proofs.Base.{project_key, student_key, is_left, is_second, lowered_project, lecturers_left}
use Rattle.portal_rules.proofs.Base.{students_left, projects_in, students_in, project_keys, student_keys, Round, First}
use Rattle.portal_rules.proofs.Base.{Second, ProjectRow, Sound, IsChoice, arith, cond, ◌∙◌, ◌||◌, Some, list_any, find}
use Rattle.portal_rules.proofs.Base.{Key, equals, lecturers_in, Listing, listings, catalogue}
use Rattle.portal_rules.specs.World as rows
use Rattle.portal_rules.proofs.Fills.{rise_kept}
use Rattle.portal_rules.proofs.AllLaws.{all_weaker, map_same, any_map, any_alike, is_sym}

pub all_filter : {X : Type 0} (P : X → Type 0) (q : X → Bool) (xs : List X) → AllByRecursion P xs
    → AllByRecursion P (filter q xs)
all_filter P q [] all = tt
all_filter P q (x ∷ xs) all = grind (arith, all_filter P q xs all.1)

all_left : (ss : List rows.Student) → AllByRecursion (λ s. is_left s ≡ true) (students_left ss)
all_left [] = tt
all_left (s ∷ ss) = grind (arith, all_left ss)

students_rise_by : (r : Round) (ss : List rows.Student) → Rise (map student_key ss)
    → Rise (map student_key (students_in r ss))
students_rise_by First ss rise = rise
students_rise_by Second ss rise = rise_kept student_key is_left ss rise

projects_rise_by : (r : Round) (ls : List rows.Lecturer) (ps : List ProjectRow) (ss : List rows.Student)
    → Rise (map project_key ps) → Rise (map project_key (projects_in r ls ps ss))
projects_rise_by First ls ps ss rise = rise
projects_rise_by Second ls ps ss rise =
    rise_kept project_key (λ p. nat_lt 0 p.capacity && has (map lecturer_key (lecturers_left ls ps ss)) p.lecturer)
    (map (lowered_project ss) ps)
    (subst Rise (sym (map_same project_key (lowered_project ss) (λ p. refl) ps)) rise)

all_by : (P : rows.Student → Type 0) (r : Round) (ss : List rows.Student) → AllByRecursion P ss
    → AllByRecursion P (students_in r ss)
all_by P First ss all = all
all_by P Second ss all = all_filter P is_left ss all

left_by : (r : Round) (ss : List rows.Student) → (is_second r ≡ false → AllByRecursion (λ s. is_left s ≡ true) ss)
    → AllByRecursion (λ s. is_left s ≡ true) (students_in r ss)
left_by First ss all = all refl
left_by Second ss all = all_left ss

pub students_rise_in : (w : World) → Sound w → Rise (student_keys (in_play w))
students_rise_in w g = students_rise_by w.round w.students g.students_rise

pub projects_rise_in : (w : World) → Sound w → Rise (project_keys (in_play w))
projects_rise_in w g = projects_rise_by w.round w.lecturers w.projects w.students g.projects_rise

pub choices_in : (w : World) → Sound w
    → AllByRecursion (λ s. IsChoice (project_keys (in_play w)) s.choice) (in_play w).students
choices_in w g = all_by (λ s. IsChoice (project_keys (in_play w)) s.choice) w.round w.students g.choices

pub left_in : (w : World) → Sound w → AllByRecursion (λ s. is_left s ≡ true) (in_play w).students
left_in w g = left_by w.round w.students (λ e. all_weaker _ _ (λ s h. ap is_none h.1) w.students (g.no_earlier_lists e))

pub finds_one : {X : Type 0} (p : X → Bool) (xs : List X) → list_any p xs ≡ true → (x : X) × (find p xs ≡ Some x)
finds_one p [] h = cc
finds_one {X} p (x ∷ xs) h =
    (elim (p x) as (λ b. (b || list_any p xs) ≡ true → (y : X) × (cond b (Some x) (find p xs) ≡ Some y)) [
      | true ↦ λ t. (x, refl)
      | false ↦ λ t. finds_one p xs t
    ]) h

whole : (ls : List rows.Lecturer) (ps : List ProjectRow)
    → AllByRecursion (λ p. has (map lecturer_key ls) p.lecturer ≡ true) ps
    → map (λ (l : Listing). l.key) (listings ls ps) ≡ map project_key ps
whole ls [] known = refl
whole ls (p ∷ ps) known =
    let found : (l : rows.Lecturer) × (find (λ l. equals l.row.key p.lecturer) ls ≡ Some l)
    = finds_one (λ (l : rows.Lecturer). equals l.row.key p.lecturer) ls
    (any_alike (λ (l : rows.Lecturer). equals l.row.key p.lecturer) (λ l. equals p.lecturer l.row.key) (λ l. is_sym l.row.key p.lecturer) ls
    ∙ sym (any_map (equals p.lecturer) lecturer_key ls) ∙ known.0) in
    rw found.1 (ap (λ ks. p.key ∷ ks) (whole ls ps known.1))

pub known_left : (q : ProjectRow → Bool) (ks : List Key) (ps : List ProjectRow)
    → AllByRecursion (λ p. has ks p.lecturer ≡ true) (filter (λ p. q p && has ks p.lecturer) ps)
known_left q ks [] = tt
known_left q ks (p ∷ ps) = grind (arith, known_left q ks ps)

-- each project of a round is of a lecturer of the round
known_in : (r : Round) (ls : List rows.Lecturer) (ps : List ProjectRow) (ss : List rows.Student)
    → AllByRecursion (λ p. has (map lecturer_key ls) p.lecturer ≡ true) ps
    → AllByRecursion (λ p. has (map lecturer_key (lecturers_in r ls ps ss)) p.lecturer ≡ true) (projects_in r ls ps ss)
known_in First ls ps ss known = known
known_in Second ls ps ss known = known_left (λ p. nat_lt 0 p.capacity) (map lecturer_key (lecturers_left ls ps ss))
    (map (lowered_project ss) ps)

pub catalogue_whole : (w : World) → Sound w
    → map (λ (l : Listing). l.key) (catalogue w) ≡ map project_key (in_play w).projects
catalogue_whole w g = whole (in_play w).lecturers (in_play w).projects
    (known_in w.round w.lecturers w.projects w.students g.lecturers_known)
