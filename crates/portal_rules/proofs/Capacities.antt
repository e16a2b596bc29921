-- The results of both rounds together keep the capacities of the rolls.
use Rattle.portal_rules.proofs.Base.{◌≡◌, ℕ, suc, ◌-◌, ◌<◌, ◌≤◌, Bool, true, false, cond, List, [], ◌∷◌, map, length}
use Rattle.portal_rules.proofs.Base.{get_or, refl, sym, ◌∙◌, ap, subst, arith, filter, count_by, nat_lt, ◌==◌, ◌&&◌}
use Rattle.portal_rules.proofs.Base.{◌||◌, Option, Some, None, option_map, list_any, AllByRecursion, length-filter}
use Rattle.portal_rules.proofs.Base.{IsMatching, is_project, is_lecturer, at_project, at_lecturer, number_in}
use Rattle.portal_rules.proofs.Base.{count_by-map, Key, equals, is_before, has, Rise, World, in_play, first}
use Rattle.portal_rules.proofs.Base.{first_placed, first_published, lecturer_key, project_key, is_at, is_left}
use Rattle.portal_rules.proofs.Base.{is_second, is_published, given_to, given_with, lowered_lecturer, lowered_project}
use Rattle.portal_rules.proofs.Base.{lecturers_left, projects_left, students_left, instance, instance_of, matching_of}
use Rattle.portal_rules.proofs.Base.{places_of, lecturer_keys, project_keys, ProjectRow, Round, First, Second, Good}
use Rattle.portal_rules.proofs.Base.{IsRound, Sound, placed_to, placed_with, slice_index_or, KeepsCapacities, eq-eqb}
use Rattle.portal_rules.specs.World as rows
use Rattle.portal_rules.proofs.Keys.{is_same, is_own, all_unmap}
pub use Rattle.portal_rules.proofs.AllLaws.{each_one}
use Rattle.portal_rules.proofs.AllLaws.{all_map, all_weaker, all_both, any_map, is_sym, none_is, map_same}
use Rattle.portal_rules.proofs.InPlay.{given_none}
use Rattle.portal_rules.proofs.Only.{on_roll}
use Rattle.portal_rules.proofs.Fills.{before_other}
use Rattle.portal_rules.proofs.InRound.{all_filter, choices_in}

-- counts

-- what passes a test passes a weaker one
sizes : {X : Type 0} (a b : X → Bool) (xs : List X) → AllByRecursion (λ x. a x ≡ true → b x ≡ true) xs
    → length (filter a xs) ≤ length (filter b xs)
sizes a b [] all = omega arith
sizes a b (x ∷ xs) all = grind (arith, all.0, sizes a b xs all.1)

-- a count is the length of a filter
pub count_mono : {X : Type 0} (a b : X → Bool) (xs : List X) → AllByRecursion (λ x. a x ≡ true → b x ≡ true) xs
    → count_by a xs ≤ count_by b xs
count_mono a b xs all = omega (arith, sizes a b xs all, length-filter a xs, length-filter b xs)

filter_none : {X : Type 0} (a : X → Bool) (xs : List X) → AllByRecursion (λ x. a x ≡ false) xs → filter a xs ≡ []
filter_none a [] all = refl
filter_none a (x ∷ xs) all = grind (arith, filter_none a xs all.1)

pub count_none : {X : Type 0} (a : X → Bool) (xs : List X) → AllByRecursion (λ x. a x ≡ false) xs → count_by a xs ≡ 0
count_none a xs all = sym (length-filter a xs) ∙ ap length (filter_none a xs all)

-- a filter that drops none of those that count
filter_twice : {X : Type 0} (a q : X → Bool) (xs : List X) → AllByRecursion (λ x. q x ≡ false → a x ≡ false) xs
    → filter a (filter q xs) ≡ filter a xs
filter_twice a q [] all = refl
filter_twice a q (x ∷ xs) all = grind (arith, all.0, filter_twice a q xs all.1)

count_filter : {X : Type 0} (a q : X → Bool) (xs : List X) → AllByRecursion (λ x. q x ≡ false → a x ≡ false) xs
    → count_by a (filter q xs) ≡ count_by a xs
count_filter a q xs all = sym (length-filter a (filter q xs)) ∙ ap length (filter_twice a q xs all) ∙ length-filter a xs

-- what stands at a key

module _ {X : Type 0} (key : X → Key) (f : X → ℕ) where
  abbrev look : List X → Key → ℕ
  look [] k = 0
  look (x ∷ xs) k = cond (equals (key x) k) (f x) (look xs k)

  look_is : (xs : List X) (k : Key) → slice_index_or (map f xs) (number_in (map key xs) k) 0 ≡ look xs k
  look_is [] k = refl
  look_is (x ∷ xs) k = grind (arith, look_is xs k)

  look_none : (xs : List X) (k : Key) → AllByRecursion (λ x. equals (key x) k ≡ false) xs → look xs k ≡ 0
  look_none [] k all = refl
  look_none (x ∷ xs) k all = rw all.0 (look_none xs k all.1)

  later_differ : (x : X) (xs : List X) → AllByRecursion (λ y. is_before (key x) (key y) ≡ true) xs
      → AllByRecursion (λ y. equals (key y) (key x) ≡ false) xs
  later_differ x xs all = all_weaker _ _ (λ y h. is_sym (key y) (key x) ∙ before_other (key x) (key y) h) xs all

  look_filter : (q : X → Bool) (xs : List X) → Rise (map key xs)
      → AllByRecursion (λ x. look (filter q xs) (key x) ≤ f x) xs
  look_filter q [] rise = tt
  look_filter q (x ∷ xs) rise =
      let later : AllByRecursion (λ y. is_before (key x) (key y) ≡ true) xs = all_unmap (λ l. is_before (key x) l ≡ true) key xs rise.0 in
      let rest : AllByRecursion (λ y. look (filter q xs) (key y) ≤ f y) xs = look_filter q xs rise.1 in
      elim (q x) as (λ b. AllByRecursion (λ y. look (cond b (x ∷ filter q xs) (filter q xs)) (key y) ≤ f y) (x ∷ xs)) [
        | true ↦ (
          rw (is_own (key x)) (omega arith),
          all_weaker (λ y. (is_before (key x) (key y) ≡ true) × (look (filter q xs) (key y) ≤ f y))
              (λ y. look (x ∷ filter q xs) (key y) ≤ f y) (λ y h. rw (before_other (key x) (key y) h.0) h.1) xs
              (all_both (λ y. is_before (key x) (key y) ≡ true) (λ y. look (filter q xs) (key y) ≤ f y) xs later rest),
        )
        | false ↦ (
          (let none : look (filter q xs) (key x) ≡ 0 = look_none (filter q xs) (key x)
              (all_filter (λ y. equals (key y) (key x) ≡ false) q xs (later_differ x xs later)) in omega arith),
          rest,
        )
      ]

  filter_all : (xs : List X) → filter (λ x. true) xs ≡ xs
  filter_all [] = refl
  filter_all (x ∷ xs) = ap (λ ys. x ∷ ys) (filter_all xs)

  look_each : (xs : List X) → Rise (map key xs) → AllByRecursion (λ x. look xs (key x) ≤ f x) xs
  look_each xs rise = subst (λ ys. AllByRecursion (λ x. look ys (key x) ≤ f x) xs) (filter_all xs) (look_filter (λ x. true) xs rise)

-- one matching and the rows that it is of

placed_at_most : (u : World) (k : Key) → IsMatching (instance_of u) (places_of u)
    → placed_to u.students k ≤ look project_key (λ p. p.capacity) u.projects k
placed_at_most u k m =
    let n : ℕ = number_in (project_keys u) k in
    let few : count_by (λ (s : rows.Student). is_at k s.placed) u.students ≤ count_by
    (λ s. is_project n (option_map (number_in (project_keys u)) s.placed)) u.students
    = count_mono _ _ u.students (each_one _ (λ s. one s.placed) u.students) in
    let counted : at_project (places_of u) n ≡ count_by (λ s. is_project n (option_map (number_in (project_keys u)) s.placed)) u.students
    = count_by-map (is_project n) (λ (s : rows.Student). option_map (number_in (project_keys u)) s.placed) u.students in
    let room = m.projects n in
    let value = look_is project_key (λ p. p.capacity) u.projects k in
    omega (arith, few, counted, room, value)
  where
    one : (o : Option Key) → is_at k o ≡ true
        → is_project (number_in (project_keys u) k) (option_map (number_in (project_keys u)) o) ≡ true
    one None h = cc
    one (Some q) h = subst (λ x. (number_in (project_keys u) q == number_in (project_keys u) x) ≡ true) (is_same q k h)
        (eq-eqb (number_in (project_keys u) q) (number_in (project_keys u) q) refl)

-- who is placed has a project that takes part

placed_known : (keys : List Key) (ss : List rows.Student)
    → ((s n : ℕ) → get_or (map (λ (s : rows.Student). option_map (number_in keys) s.placed) ss) s None ≡ Some n → n < length keys)
    → AllByRecursion (λ s. (q : Key) → s.placed ≡ Some q → number_in keys q < length keys) ss
placed_known keys [] low = tt
placed_known keys (s ∷ ss) low = (
  λ q e. low 0 (number_in keys q) (ap (option_map (number_in keys)) e),
  placed_known keys ss (λ t n e. low (suc t) n e),
)

pub number_has : (keys : List Key) (q : Key) → number_in keys q < length keys → has keys q ≡ true
number_has [] q low = absurd (omega (arith, low))
number_has (k ∷ ks) q low = grind (arith, is_sym k q, number_has ks q)

none_later : (k : Key) (ps : List ProjectRow) → AllByRecursion (λ p. equals p.key k ≡ false) ps → (l : Key)
    → list_any (λ p. equals p.lecturer l && equals k p.key) ps ≡ false
none_later k [] all l = refl
none_later k (p ∷ ps) all l = grind (arith, is_sym k p.key, none_later k ps all.1 l)

pub none_has : (k : Key) (t : ProjectRow → Bool) (ps : List ProjectRow)
    → AllByRecursion (λ p. equals p.key k ≡ false) ps → has (map project_key (filter t ps)) k ≡ false
none_has k t ps all = none_is k (map project_key (filter t ps))
    (all_map (λ l. equals l k ≡ false) project_key (filter t ps) (all_filter (λ p. equals p.key k ≡ false) t ps all))

first_holds : (a b c : Bool) → ((a && b) || c) ≡ true → b ≡ true → c ≡ false → a ≡ true
first_holds a b c any e none = grind arith

-- the lecturer at a project that takes part
offered : (g : Key → ℕ) (t : ProjectRow → Bool) (ps : List ProjectRow) (l q : Key) → Rise (map project_key ps)
    → list_any (λ p. equals p.lecturer l && equals q p.key) ps ≡ true → has (map project_key (filter t ps)) q ≡ true
    → look project_key (λ (p : ProjectRow). g p.lecturer) (filter t ps) q ≡ g l
offered g t [] l q rise any there = cc
offered g t (p ∷ ps) l q rise any there =
    let later : AllByRecursion (λ y. is_before (project_key p) (project_key y) ≡ true) ps =
    all_unmap (λ k. is_before (project_key p) k ≡ true) project_key ps rise.0 in
    let apart : equals q p.key ≡ true → AllByRecursion (λ (y : ProjectRow). equals y.key q ≡ false) ps
    = λ e. subst (λ k. AllByRecursion (λ (y : ProjectRow). equals y.key k ≡ false) ps) (sym (is_same q p.key e))
    (later_differ project_key (λ (p : ProjectRow). g p.lecturer) p ps later) in
    let none_there : equals q p.key ≡ true → has (map project_key (filter t ps)) q ≡ false = λ e. none_has q t ps (apart e) in
    let of_l : equals q p.key ≡ true → g p.lecturer
    ≡ g l = λ e. ap g (is_same p.lecturer l (first_holds (equals p.lecturer l) (equals q p.key) _ any e
    (none_later q ps (apart e) l))) in
    (elim (t p) as (λ b. has (map project_key (cond b (p ∷ filter t ps) (filter t ps))) q ≡ true
    → look project_key (λ (p : ProjectRow). g p.lecturer) (cond b (p ∷ filter t ps) (filter t ps)) q ≡ g l) [
      | true ↦ λ h. grind (arith, of_l, is_sym p.key q, offered g t ps l q rise.1)
      | false ↦ λ h. grind (arith, none_there, offered g t ps l q rise.1)
    ]) there

-- a lecturer's students, of one matching; `t` filters the rolls and `low` lowers them
module _ (u : World) (m : IsMatching (instance_of u) (places_of u))
    (known : AllByRecursion (λ s. (q : Key) → s.placed ≡ Some q → number_in (project_keys u) q < length (project_keys u)) u.students)
    (ps : List ProjectRow) (t : ProjectRow → Bool) (rise : Rise (map project_key ps)) (these : filter t ps ≡ u.projects) where
  with_at_most : (l : Key)
      → placed_with ps u.students l ≤ look lecturer_key (λ (x : rows.Lecturer). x.row.capacity) u.lecturers l
  with_at_most l =
      let n : ℕ = number_in (lecturer_keys u) l in
      let few : placed_with ps u.students l ≤ count_by (λ s. is_lecturer (instance_of u) n (option_map (number_in (project_keys u)) s.placed)) u.students = count_mono _ _ u.students (all_weaker _ _ (λ s low. one s.placed low) u.students known) in
      let counted : at_lecturer (instance_of u) (places_of u) n
      ≡ count_by (λ s. is_lecturer (instance_of u) n (option_map (number_in (project_keys u)) s.placed)) u.students
      = count_by-map (is_lecturer (instance_of u) n) (λ (s : rows.Student). option_map (number_in (project_keys u)) s.placed) u.students in
      let room = m.lecturers n in
      let value = look_is lecturer_key (λ (x : rows.Lecturer). x.row.capacity) u.lecturers l in
      omega (arith, few, counted, room, value)
    where
      one : (o : Option Key) → ((q : Key) → o ≡ Some q → number_in (project_keys u) q < length (project_keys u))
          → list_any (λ p. equals p.lecturer l && is_at p.key o) ps ≡ true
          → is_lecturer (instance_of u) (number_in (lecturer_keys u) l) (option_map (number_in (project_keys u)) o) ≡ true
      one None low h = let none : list_any (λ p. equals p.lecturer l && false) ps ≡ false = given_none ps l in cc
      one (Some q) low h =
          let there : has (map project_key (filter t ps)) q
          ≡ true = subst (λ xs. has (map project_key xs) q ≡ true) (sym these) (number_has (project_keys u) q (low q refl)) in
          let at : look project_key (λ (p : ProjectRow). number_in (lecturer_keys u) p.lecturer) u.projects q
          ≡ number_in (lecturer_keys u) l
          = subst (λ xs. look project_key (λ (p : ProjectRow). number_in (lecturer_keys u) p.lecturer) xs q ≡ number_in (lecturer_keys u) l)
          these (offered (number_in (lecturer_keys u)) t ps l q rise h there) in
          subst (λ n. (n == number_in (lecturer_keys u) l) ≡ true)
          (sym (look_is project_key (λ (p : ProjectRow). number_in (lecturer_keys u) p.lecturer) u.projects q ∙ at))
          (eq-eqb (number_in (lecturer_keys u) l) (number_in (lecturer_keys u) l) refl)

-- one round that is published, by what takes part
module _ (w : World) (sound : Sound w) (m : IsMatching (instance w) (matching_of w)) where
  pub known_in : AllByRecursion (λ s. (q : Key) → s.placed ≡ Some q
      → number_in (project_keys (in_play w)) q < length (project_keys (in_play w))) (in_play w).students
  known_in = placed_known (project_keys (in_play w)) (in_play w).students
      (λ s n e. on_roll (project_keys (in_play w)) (in_play w).students (choices_in w sound) s n (m.acceptable s n e))

-- a result is within the room of each project and lecturer
record Fits (place : rows.Student → Option Key) (room : ProjectRow → ℕ) (staff : rows.Lecturer → ℕ) (w : World) : Type 0 where
  projects : AllByRecursion (λ p. rows.count_at place w.students p.key ≤ room p) w.projects
  lecturers : AllByRecursion (λ l. rows.count_with place w.projects w.students l.row.key ≤ staff l) w.lecturers

abbrev FitsRolls : (rows.Student → Option Key) → World → Type 0
FitsRolls place w = Fits place (λ p. p.capacity) (λ l. l.row.capacity) w

-- the room that the first round left
abbrev FitsLeft : World → Type 0
FitsLeft w = Fits (λ s. s.placed) (λ p. p.capacity - given_to w.students p.key)
    (λ l. l.row.capacity - given_with w.projects w.students l.row.key) w

pub first_plays : (w : World) → w.round ≡ First → in_play w ≡ w
first_plays w one = λ i. record w {
  lecturers = rows.lecturers_in (one i) w.lecturers w.projects w.students;
  projects = rows.projects_in (one i) w.lecturers w.projects w.students;
  students = rows.students_in (one i) w.students;
}

first_fits : (w : World) → Sound w → w.round ≡ First → IsMatching (instance w) (matching_of w)
    → FitsRolls (λ s. s.placed) w
first_fits w g one m =
    let m' : IsMatching (instance_of w) (places_of w) = subst (λ u. IsMatching (instance_of u) (places_of u)) (first_plays w one) m in
    let known : AllByRecursion (λ s. (q : Key) → s.placed ≡ Some q → number_in (project_keys w) q < length (project_keys w)) w.students
    = subst (λ u. AllByRecursion (λ s. (q : Key) → s.placed ≡ Some q → number_in (project_keys u) q < length (project_keys u)) u.students)
    (first_plays w one) (known_in w g m) in
    record {
      projects = all_weaker (λ p. look project_key (λ (x : ProjectRow). x.capacity) w.projects p.key ≤ p.capacity) _
          (λ p h. let few = placed_at_most w p.key m' in omega (arith, few, h)) w.projects
          (look_each project_key (λ (x : ProjectRow). x.capacity) w.projects g.projects_rise);
      lecturers = all_weaker (λ l. look lecturer_key (λ (x : rows.Lecturer). x.row.capacity) w.lecturers l.row.key ≤ l.row.capacity) _
          (λ l h. let few = with_at_most w m' known w.projects (λ p. true) g.projects_rise
          (filter_all project_key (λ (x : ProjectRow). x.capacity) w.projects) l.row.key in omega (arith, few, h))
          w.lecturers (look_each lecturer_key (λ (x : rows.Lecturer). x.row.capacity) w.lecturers g.lecturers_rise);
    }

-- no place, no count

not_with : (l : Key) (ps : List ProjectRow) (o : Option Key) → o ≡ None
    → list_any (λ p. equals p.lecturer l && is_at p.key o) ps ≡ false
not_with l ps o e = ap (λ x. list_any (λ p. equals p.lecturer l && is_at p.key x) ps) e ∙ given_none ps l

none_counted : (place : rows.Student → Option Key) (ps : List ProjectRow) (ss : List rows.Student)
    → AllByRecursion (λ s. place s ≡ None) ss
    → ((k : Key) → rows.count_at place ss k ≡ 0) × ((l : Key) → rows.count_with place ps ss l ≡ 0)
none_counted place ps ss all = (
  λ k. count_none (λ s. is_at k (place s)) ss (all_weaker (λ s. place s ≡ None) _ (λ s e. ap (is_at k) e) ss all),
  λ l. count_none (λ s. list_any (λ p. equals p.lecturer l && is_at p.key (place s)) ps) ss
      (all_weaker (λ s. place s ≡ None) _ (λ s e. not_with l ps (place s) e) ss all),
)

none_fits : (place : rows.Student → Option Key) (room : ProjectRow → ℕ) (staff : rows.Lecturer → ℕ) (w : World)
    → AllByRecursion (λ s. place s ≡ None) w.students → Fits place room staff w
none_fits place room staff w all =
    let none : ((k : Key) → rows.count_at place w.students k ≡ 0)
    × ((l : Key) → rows.count_with place w.projects w.students l ≡ 0) = none_counted place w.projects w.students all in
    record {
      projects = each_one _ (λ p. let zero' : rows.count_at place w.students p.key ≡ 0 = none.0 p.key in omega (arith, zero')) w.projects;
      lecturers = each_one _ (λ l. let zero' : rows.count_with place w.projects w.students l.row.key ≡ 0 = none.1 l.row.key in
          omega (arith, zero')) w.lecturers;
    }

abbrev pub left_of : World → World
left_of w = record w {
  lecturers = lecturers_left w.lecturers w.projects w.students;
  projects = projects_left w.lecturers w.projects w.students;
  students = students_left w.students;
}

pub second_plays : (w : World) → w.round ≡ Second → in_play w ≡ left_of w
second_plays w two = λ i. record w {
  lecturers = rows.lecturers_in (two i) w.lecturers w.projects w.students;
  projects = rows.projects_in (two i) w.lecturers w.projects w.students;
  students = rows.students_in (two i) w.students;
}

second_fits : (w : World) → Sound w → w.round ≡ Second → IsMatching (instance w) (matching_of w) → FitsLeft w
second_fits w g two m =
    let u : World = left_of w in
    let m' : IsMatching (instance_of (left_of w)) (places_of (left_of w)) =
    subst (λ u. IsMatching (instance_of u) (places_of u)) (second_plays w two) m in
    let known : AllByRecursion (λ s. (q : Key) → s.placed ≡ Some q
    → number_in (project_keys (left_of w)) q < length (project_keys (left_of w))) (left_of w).students
    = subst (λ u. AllByRecursion (λ s. (q : Key) → s.placed ≡ Some q → number_in (project_keys u) q < length (project_keys u)) u.students)
    (second_plays w two) (known_in w g m) in
    let lowered : List ProjectRow = map (lowered_project w.students) w.projects in
    let rise : Rise (map project_key (map (lowered_project w.students) w.projects)) =
    subst Rise (sym (map_same project_key (lowered_project w.students) (λ p. refl) w.projects)) g.projects_rise in
    let staff : Rise (map lecturer_key (map (lowered_lecturer w.projects w.students) w.lecturers)) =
    subst Rise (sym (map_same lecturer_key (lowered_lecturer w.projects w.students) (λ l. refl) w.lecturers)) g.lecturers_rise in
    record {
      projects = all_weaker (λ p. look project_key (λ (x : ProjectRow). x.capacity)
          (left_of w).projects p.key ≤ p.capacity - given_to w.students p.key) _
          (λ p h.
          let few = placed_at_most (left_of w) p.key m' in
          let same : placed_to (students_left w.students) p.key
          ≡ placed_to w.students p.key = count_filter (λ s. is_at p.key s.placed) is_left w.students
          (all_weaker _ _ (λ s out e. ap (is_at p.key) (out e).1) w.students g.only_left) in
          omega (arith, few, same, h)) w.projects
          (all_unmap (λ x. look project_key (λ (x : ProjectRow). x.capacity) (left_of w).projects x.key ≤ x.capacity)
          (lowered_project w.students) w.projects
          (look_filter project_key (λ (x : ProjectRow). x.capacity)
          (λ p. nat_lt 0 p.capacity && has (map lecturer_key (lecturers_left w.lecturers w.projects w.students)) p.lecturer)
          (map (lowered_project w.students) w.projects) rise));
      lecturers = all_weaker (λ l. look lecturer_key (λ (x : rows.Lecturer). x.row.capacity)
          (left_of w).lecturers l.row.key ≤ l.row.capacity - given_with w.projects w.students l.row.key) _
          (λ l h.
          let few = with_at_most (left_of w) m' known (map (lowered_project w.students) w.projects)
          (λ p. nat_lt 0 p.capacity && has (map lecturer_key (lecturers_left w.lecturers w.projects w.students)) p.lecturer) rise refl
          l.row.key in
          let unlowered : placed_with (map (lowered_project w.students) w.projects) (students_left w.students) l.row.key
          ≡ placed_with w.projects (students_left w.students) l.row.key
          = λ i. count_by (λ s. any_map (λ p. equals p.lecturer l.row.key && is_at p.key s.placed)
          (lowered_project w.students) w.projects i) (students_left w.students) in
          let same : placed_with w.projects (students_left w.students) l.row.key ≡ placed_with w.projects w.students l.row.key
          = count_filter (λ s. list_any (λ p. equals p.lecturer l.row.key && is_at p.key s.placed) w.projects) is_left w.students
          (all_weaker _ _ (λ s out e. not_with l.row.key w.projects s.placed (out e).1) w.students g.only_left) in
          omega (arith, few, unlowered, same, h)) w.lecturers
          (all_unmap (λ x. look lecturer_key (λ (x : rows.Lecturer). x.row.capacity) (left_of w).lecturers x.row.key ≤ x.row.capacity)
          (lowered_lecturer w.projects w.students) w.lecturers
          (look_filter lecturer_key (λ (x : rows.Lecturer). x.row.capacity) (λ l. nat_lt 0 l.row.capacity)
          (map (lowered_lecturer w.projects w.students) w.lecturers) staff));
    }

-- the two rounds together

before_fits : (w : World) → IsRound (first w) → FitsRolls (λ s. s.earlier_placement) w
before_fits w b =
    let f : FitsRolls (λ s. s.placed) (first w) = first_fits (first w) b.sound refl (b.stable refl).matching in
    record {
      projects = all_weaker (λ p. placed_to (map first_placed w.students) p.key ≤ p.capacity) _
          (λ p h. subst (λ n. n ≤ p.capacity) (count_by-map (λ s. is_at p.key s.placed) first_placed w.students) h) w.projects f.projects;
      lecturers = all_weaker (λ l. placed_with w.projects (map first_placed w.students) l.row.key ≤ l.row.capacity) _
          (λ l h. subst (λ n. n ≤ l.row.capacity) (count_by-map
          (λ s. list_any (λ p. equals p.lecturer l.row.key && is_at p.key s.placed) w.projects) first_placed w.students) h) w.lecturers
          (all_unmap (λ l. placed_with w.projects (map first_placed w.students) l.row.key ≤ l.row.capacity) first_published w.lecturers
          f.lecturers);
    }

together : (w : World) → FitsRolls (λ s. s.earlier_placement) w → FitsLeft w → KeepsCapacities w
together w f l =
    record {
      projects = all_weaker (λ p. (given_to w.students p.key ≤ p.capacity)
          × (placed_to w.students p.key ≤ p.capacity - given_to w.students p.key)) _ (λ p h. omega (arith, h.0, h.1)) w.projects
          (all_both _ _ w.projects f.projects l.projects);
      lecturers = all_weaker (λ l. (given_with w.projects w.students l.row.key ≤ l.row.capacity)
          × (placed_with w.projects w.students l.row.key ≤ l.row.capacity - given_with w.projects w.students l.row.key)) _
          (λ l h. omega (arith, h.0, h.1)) w.lecturers (all_both _ _ w.lecturers f.lecturers l.lecturers);
    }

pub keeps : (w : World) → Good w → KeepsCapacities w
keeps w g = by_round w.round refl
  where
    left : (room : ProjectRow → ℕ) (staff : rows.Lecturer → ℕ) (out : Bool) → is_published w.phase ≡ out
        → (IsMatching (instance w) (matching_of w) → Fits (λ s. s.placed) room staff w)
        → Fits (λ s. s.placed) room staff w
    left room staff true e fits = fits (g.stable e).matching
    left room staff false e fits = none_fits (λ s. s.placed) room staff w (g.sound.no_result_yet e)

    by_round : (r : Round) → w.round ≡ r → KeepsCapacities w
    by_round First one =
        let none : ((k : Key) → given_to w.students k ≡ 0) × ((l : Key) → given_with w.projects w.students l ≡ 0)
        = none_counted (λ s. s.earlier_placement) w.projects w.students
        (all_weaker _ _ (λ s h. h.1) w.students (g.sound.no_earlier_lists (ap is_second one))) in
        let f : FitsRolls (λ s. s.placed) w = left _ _ (is_published w.phase) refl (first_fits w g.sound one) in
        record {
          projects = all_weaker _ _ (λ p h. let zero' : given_to w.students p.key ≡ 0 = none.0 p.key in omega (arith, zero', h))
              w.projects f.projects;
          lecturers = all_weaker _ _ (λ l h. let zero' : given_with w.projects w.students l.row.key ≡ 0 = none.1 l.row.key in
              omega (arith, zero', h)) w.lecturers f.lecturers;
        }
    by_round Second two = together w (before_fits w (g.before (ap is_second two)))
        (left _ _ (is_published w.phase) refl (second_fits w g.sound two))
