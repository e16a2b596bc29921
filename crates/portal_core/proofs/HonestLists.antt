-- Instances and worlds that differ in lists: from numbers to keys, and from a round to its world.
use Rattle.portal_rules.proofs.Base.{◌≡◌, ℕ, zero, suc, ◌-◌, ◌<◌, ◌≤◌, Bool, true, false, not, inl, inr, List, [], ◌∷◌}
use Rattle.portal_rules.proofs.Base.{map, length, get_or, refl, sym, ◌∙◌, ap, subst, arith, Option, Some, None, IfSome}
use Rattle.portal_rules.proofs.Base.{option_map, unwrap_or, is_none, nat_lt, ◌&&◌, filter, AllByRecursion, AllZip}
use Rattle.portal_rules.proofs.Base.{list_any, find, eqb-true, get_or-map, length-map, AllZip-get_or, AllZip-long}
use Rattle.portal_rules.proofs.Base.{list_any_at, IsBest, IsStable, place, project_of, lecturer_of, IsOn, IsAcceptable}
use Rattle.portal_rules.proofs.Base.{number_in, number_is, number_known, Key, equals, has, is_empty}
use Rattle.portal_rules.proofs.Base.{AreDistinct, World, lecturer_key, project_key, student_key, projects_of}
use Rattle.portal_rules.proofs.Base.{applicants_of, is_published, is_left, given_with, lowered_lecturer}
use Rattle.portal_rules.proofs.Base.{lowered_project, lecturers_left, students_left, lecturers_in, projects_in}
use Rattle.portal_rules.proofs.Base.{students_in, in_play, alone, alone_lecturer, alone_student}
use Rattle.portal_rules.proofs.Base.{instance, instance_of, places_of, lecturer_keys, project_keys, student_keys}
use Rattle.portal_rules.proofs.Base.{student_with, view, student_sees, Good, Sound, IsChoice, IsRanking, StudentSees}
use Rattle.portal_rules.proofs.Base.{cases_lt, get_or_past, choices_of, ranking_of, IsAsGood, IsDistinct, and_from}
use Rattle.portal_core.specs.Honest.{HasBest, ListAlike, DifferInLists, OrderAlike, RankAlike}
use Rattle.spa_student.specs.inner.Machine.{IsRanked}
use Rattle.spa_student.proofs.CutSteps.{acceptable_in_range}
use Rattle.spa_honest.specs.Honest as instances
use Rattle.portal_rules.specs.World.{Lecturer, Student}
use Rattle.portal_rules.specs.declared.view.View.TheVariants as sees
use Rattle.portal_rules.proofs.Keys.{is_same, is_own}
use Rattle.portal_rules.proofs.AllLaws.{all_at, any_map, filtered_any}
use Rattle.portal_rules.proofs.Only.{has_contains, on_roll}
use Rattle.portal_rules.proofs.Published.{number_back}
use Rattle.portal_rules.proofs.Capacities.{first_plays, number_has}
use Rattle.portal_rules.proofs.Zips.{zip_same, zip_mapped, zip_kept, zip_in, zip_lecturers, zip_projects}
use Rattle.portal_rules.proofs.Alone.{played_alone, rows_alone, places_alone}
use Rattle.portal_rules.specs.declared.rows.ProjectRow.{ProjectRow}
use Rattle.portal_rules.specs.declared.phase.Round.{Round}
use Rattle.portal_rules.specs.declared.phase.Round.TheVariants.{First, Second}

-- numbers of keys

pub has_number : (keys : List Key) (k : Key) → has keys k ≡ true → number_in keys k < length keys
has_number keys k h = number_known keys k (has_contains keys k h)

module _ (keys : List Key) where
  same_key : (a b : Key) → number_in keys a ≡ number_in keys b → number_in keys b < length keys → a ≡ b
  same_key a b e low = sym (number_is keys a (subst (λ n. n < length keys) (sym e) low)) ∙ ap (λ n. get_or keys n []) e
      ∙ number_is keys b low

  -- the numbers stand on a list as the keys do
  pub place_number : (list : List Key) (k : Key) → number_in keys k < length keys
      → place (map (number_in keys) list) (number_in keys k) ≡ number_in list k
  place_number [] k low = refl
  place_number (c ∷ cs) k low = grind (
    arith,
    same_key c k,
    eqb-true (number_in keys c) (number_in keys k),
    is_same c k,
    is_own k,
    place_number cs k low,
  )

  pub on_number : (list : List Key) (k : Key) → number_in keys k < length keys → has list k ≡ true
      → IsOn (map (number_in keys) list) (number_in keys k)
  on_number list k low h = omega (arith, place_number list k low, has_number list k h, length-map list (number_in keys))

  pub number_on : (list : List Key) (k : Key) → number_in keys k < length keys
      → IsOn (map (number_in keys) list) (number_in keys k) → has list k ≡ true
  number_on list k low on = number_has list k (omega (arith, place_number list k low, length-map list (number_in keys)))

  -- what stands among the numbers is the number of a key
  pub key_of : (list : List Key) (n : ℕ) → IsOn (map (number_in keys) list) n
      → (k : Key) × (has list k ≡ true) × (number_in keys k ≡ n)
  key_of [] n on = absurd (omega (arith, on))
  key_of (c ∷ cs) n on = grind (arith, is_own c, key_of cs n)

  -- keys that differ have numbers that differ
  not_again : (cs : List Key) (c : Key) → AllByRecursion (λ l. has keys l ≡ true) cs → has cs c ≡ false → (k d : ℕ)
      → k < length (map (number_in keys) cs) → number_in keys c ≡ get_or (map (number_in keys) cs) k d → ⊥
  not_again [] c known new k d h e = omega arith
  not_again (x ∷ cs) c known new zero d h e = let same : c ≡ x = same_key c x e (has_number keys x known.0) in grind (arith, is_own x)
  not_again (x ∷ cs) c known new (suc k) d h e = not_again cs c known.1 (grind arith) k d (omega arith) e

  numbers_distinct : (list : List Key) → AllByRecursion (λ l. has keys l ≡ true) list → AreDistinct list
      → IsDistinct (map (number_in keys) list)
  numbers_distinct (c ∷ cs) known once zero (suc k) d less h e = not_again cs c known.1 once.0 k d (omega arith) e
  numbers_distinct (c ∷ cs) known once (suc j) (suc k) d less h e = numbers_distinct cs known.1 once.1 j k d (omega arith) (omega arith) e
  numbers_distinct list known once j k d less h e = omega arith

-- rows by number

pub no_student : Student
no_student = record {
  row = record { key = []; name = []; code = [] };
  choice = [];
  placed = None;
  earlier_choice = [];
  earlier_placement = None;
}

pub no_project : ProjectRow
no_project = record { key = []; lecturer = []; title = []; capacity = 0 }

pub no_lecturer : Lecturer
no_lecturer = record { row = record { key = []; name = []; code = []; capacity = 0 }; ranking = None; earlier_ranking = None }

-- an applicant stands on the ranking, where nobody is still to rank
on_ranking : (apps : List Student) (k : Key) (o : Option (List Key)) → IfSome o (IsRanking (map student_key apps))
    → (not (is_empty apps) && is_none o) ≡ false → has (map student_key apps) k ≡ true → has (unwrap_or o []) k ≡ true
on_ranking apps k None ranks ranked there = grind arith
on_ranking apps k (Some r) ranks ranked there =
    let at = has_contains (map student_key apps) k there in
    subst (λ x. has r x ≡ true) at.2 (all_at (λ x. has r x ≡ true) (map student_key apps) at.0 k ranks.all at.1)

module _ (w : World) (sound : Sound w) (one : w.round ≡ First) (published : is_published w.phase ≡ true) where
  chosen : AllByRecursion (λ (x : Student). IsChoice (project_keys w) x.choice) w.students
  chosen = subst (λ u. AllByRecursion (λ (x : Student). IsChoice (project_keys u) x.choice) w.students) (first_plays w one) sound.choices

  pub choices : (s : ℕ) (d : Student) → s < length w.students
      → choices_of (instance_of w) s ≡ map (number_in (project_keys w)) (get_or w.students s d).choice
  choices s d h = get_or-map (λ (x : Student). map (number_in (project_keys w)) x.choice) w.students s d [] h

  pub choice : (s : ℕ) (d : Student) → s < length w.students → IsChoice (project_keys w) (get_or w.students s d).choice
  choice s d h = all_at (λ (x : Student). IsChoice (project_keys w) x.choice) w.students s d chosen h

  in_range : (s p : ℕ) → IsAcceptable (instance_of w) s p → s < length w.students
  in_range s p on = omega (
    arith,
    acceptable_in_range (instance_of w) s p on,
    length-map w.students (λ (x : Student). map (number_in (project_keys w)) x.choice),
  )

  pub known_key : (s p : ℕ) → IsAcceptable (instance_of w) s p → p < length (project_keys w)
  known_key s p on = on_roll (project_keys w) w.students chosen s p on

  known : (s p : ℕ) → IsAcceptable (instance_of w) s p → p < length w.projects
  known s p on = omega (arith, known_key s p on, length-map w.projects project_key)

  pub lecturer_at : (p : ℕ) → p < length w.projects
      → lecturer_of (instance_of w) p ≡ number_in (lecturer_keys w) (get_or w.projects p no_project).lecturer
  lecturer_at p h = get_or-map (λ (q : ProjectRow). number_in (lecturer_keys w) q.lecturer) w.projects p no_project 0 h

  pub lecturer_known : (p : ℕ) → p < length w.projects
      → number_in (lecturer_keys w) (get_or w.projects p no_project).lecturer < length (lecturer_keys w)
  lecturer_known p h = has_number (lecturer_keys w) (get_or w.projects p no_project).lecturer
      (all_at (λ (q : ProjectRow). has (lecturer_keys w) q.lecturer ≡ true) w.projects p no_project sound.lecturers_known h)

  -- a student whose list holds a project is an applicant of its lecturer
  applies : (s p : ℕ) (l : Key) → s < length w.students → p < length w.projects
      → (get_or w.projects p no_project).lecturer ≡ l
      → has (get_or w.students s no_student).choice (get_or w.projects p no_project).key ≡ true
      → has (map student_key (applicants_of w l)) (get_or w.students s no_student).row.key ≡ true
  applies s p l s_in p_in own there =
      let x : Student = get_or w.students s no_student in
      let wants : list_any (λ (q : ProjectRow). has x.choice q.key) (projects_of w l) ≡ true =
      filtered_any (λ (q : ProjectRow). has x.choice q.key) (λ (q : ProjectRow). equals q.lecturer l) w.projects
      ∙ list_any_at (λ (q : ProjectRow). equals q.lecturer l && has x.choice q.key) w.projects p no_project p_in
      (and_from (equals (get_or w.projects p no_project).lecturer l) (has x.choice (get_or w.projects p no_project).key)
      (rw own (is_own l)) there) in
      any_map (equals x.row.key) student_key (applicants_of w l)
      ∙ filtered_any (λ (y : Student). equals x.row.key y.row.key)
      (λ (y : Student). list_any (λ (q : ProjectRow). has y.choice q.key) (projects_of w l)) w.students
      ∙ list_any_at (λ (y : Student). list_any (λ (q : ProjectRow). has y.choice q.key) (projects_of w l) && equals x.row.key y.row.key)
      w.students s no_student s_in
      (and_from (list_any (λ (q : ProjectRow). has x.choice q.key) (projects_of w l)) (equals x.row.key x.row.key) wants (is_own x.row.key))

  ranked : (s p : ℕ) → IsAcceptable (instance_of w) s p
      → IsOn (ranking_of (instance_of w) (lecturer_of (instance_of w) p)) s
  ranked s p on =
      let s_in : s < length w.students = in_range s p on in
      let p_in : p < length w.projects = known s p on in
      let x : Student = get_or w.students s no_student in
      let prj : ProjectRow = get_or w.projects p no_project in
      let found = key_of (project_keys w) x.choice p (rw (choices s no_student s_in) at on) in
      let p_key : prj.key ≡ found.0 =
      sym (get_or-map project_key w.projects p no_project [] p_in) ∙ ap (λ n. get_or (project_keys w) n []) (sym found.2)
      ∙ number_is (project_keys w) found.0 (subst (λ n. n < length (project_keys w)) (sym found.2) (known_key s p on)) in
      let l : ℕ = number_in (lecturer_keys w) prj.lecturer in
      let l_low : l < length (lecturer_keys w) = lecturer_known p p_in in
      let l_in : l < length w.lecturers = omega (arith, l_low, length-map w.lecturers lecturer_key) in
      let row : Lecturer = get_or w.lecturers l no_lecturer in
      let own : prj.lecturer ≡ row.row.key = sym (number_is (lecturer_keys w) prj.lecturer l_low)
      ∙ get_or-map lecturer_key w.lecturers l no_lecturer [] l_in in
      let there : has (unwrap_or row.ranking []) x.row.key ≡ true =
      on_ranking (applicants_of w row.row.key) x.row.key row.ranking
      (all_at (λ (y : Lecturer). IfSome y.ranking (IsRanking (map student_key (applicants_of w y.row.key)))) w.lecturers l no_lecturer
      sound.rankings l_in)
      (all_at (λ (y : Lecturer). (not (is_empty (applicants_of w y.row.key)) && is_none y.ranking) ≡ false) w.lecturers l no_lecturer
      (sound.all_ranked published) l_in)
      (applies s p row.row.key s_in p_in own (subst (λ k. has x.choice k ≡ true) (sym p_key) found.1)) in
      let s_key : get_or (student_keys w) s [] ≡ x.row.key = get_or-map student_key w.students s no_student [] s_in in
      let s_low : s < length (student_keys w) = omega (arith, length-map w.students student_key) in
      let s_number : number_in (student_keys w) x.row.key ≡ s = ap (number_in (student_keys w)) (sym s_key)
      ∙ number_back (student_keys w) s sound.students_rise s_low in
      let ranking : ranking_of (instance_of w) l ≡ map (number_in (student_keys w)) (unwrap_or row.ranking []) =
      get_or-map (λ (y : Lecturer). map (number_in (student_keys w)) (unwrap_or y.ranking [])) w.lecturers l no_lecturer [] l_in in
      let stands : IsOn (map (number_in (student_keys w)) (unwrap_or row.ranking [])) s =
      subst (IsOn (map (number_in (student_keys w)) (unwrap_or row.ranking []))) s_number
      (on_number (student_keys w) (unwrap_or row.ranking []) x.row.key
      (subst (λ n. n < length (student_keys w)) (sym s_number) s_low) there) in
      subst (λ n. IsOn (ranking_of (instance_of w) n) s) (sym (lecturer_at p p_in)) (subst (λ list. IsOn list s) (sym ranking) stands)

  -- the instance of a sound world in published is ranked
  pub world_ranked : IsRanked (instance_of w)
  world_ranked = record {
    known = λ s p on. omega (arith, known s p on, length-map w.projects (λ (q : ProjectRow). number_in (lecturer_keys w) q.lecturer));
    offered = λ p h. offered p (omega (arith, length-map w.projects (λ (q : ProjectRow). number_in (lecturer_keys w) q.lecturer)));
    ranked = ranked;
    choices_distinct = distinct w.students chosen;
  } where
    offered : (p : ℕ) → p < length w.projects → lecturer_of (instance_of w) p < length (instance_of w).rankings
    offered p h = rw (lecturer_at p h) (omega (
      arith,
      lecturer_known p h,
      length-map w.lecturers lecturer_key,
      length-map w.lecturers (λ (y : Lecturer). map (number_in (student_keys w)) (unwrap_or y.ranking [])),
    ))

    distinct : (ss : List Student) → AllByRecursion (λ x. IsChoice (project_keys w) x.choice) ss → (s : ℕ)
        → IsDistinct (get_or (map (λ (x : Student). map (number_in (project_keys w)) x.choice) ss) s [])
    distinct [] all s = λ j k d less h. absurd (omega arith)
    distinct (x ∷ ss) all zero = numbers_distinct (project_keys w) x.choice all.0.known all.0.once
    distinct (x ∷ ss) all (suc s) = distinct ss all.1 s

  -- the project that the matching gives is the place in the result
  pub given : (s : ℕ) (d : Student) → s < length w.students
      → project_of (places_of w) s ≡ option_map (number_in (project_keys w)) (get_or w.students s d).placed
  given s d h = get_or-map (λ (x : Student). option_map (number_in (project_keys w)) x.placed) w.students s d None h

-- the student of this number on the roll
pub record IsStudentNumber (w : World) (s : ℕ) (x : Student) : Type 0 where
  pub in_range : s < length w.students
  pub is : get_or w.students s x ≡ x

-- from numbers to keys
module _ (w : World) (sound : Sound w) (one : w.round ≡ First) (published : is_published w.phase ≡ true) (s : ℕ) (x : Student)
    (is_x : IsStudentNumber w s x) where
  x_choices : choices_of (instance_of w) s ≡ map (number_in (project_keys w)) x.choice
  x_choices = subst (λ (y : Student). choices_of (instance_of w) s ≡ map (number_in (project_keys w)) y.choice) is_x.is
      (choices w sound one published s x is_x.in_range)

  pub x_given : project_of (places_of w) s ≡ option_map (number_in (project_keys w)) x.placed
  x_given = subst (λ (y : Student). project_of (places_of w) s ≡ option_map (number_in (project_keys w)) y.placed) is_x.is
      (given w sound one published s x is_x.in_range)

  x_no_worse : (p : Key) → number_in (project_keys w) p < length (project_keys w) → has x.choice p ≡ true
      → (o : Option Key) → ((q : Key) → o ≡ Some q → IsAcceptable (instance_of w) s (number_in (project_keys w) q))
      → IsAsGood (instance_of w) s (option_map (number_in (project_keys w)) o) (Some (number_in (project_keys w) p))
      → (q : Key) × (o ≡ Some q) × (has x.choice q ≡ true) × (number_in x.choice q ≤ number_in x.choice p)
  x_no_worse p low there None on good = absurd good
  x_no_worse p low there (Some q) on good =
      let keys : List Key = project_keys w in
      let q_on : IsOn (map (number_in (project_keys w)) x.choice) (number_in (project_keys w) q) = rw x_choices at (on q refl) in
      let q_low : number_in (project_keys w) q < length (project_keys w) =
      known_key w sound one published s (number_in (project_keys w) q) (on q refl) in
      let at_p : place (map (number_in (project_keys w)) x.choice) (number_in (project_keys w) p)
      ≡ number_in x.choice p = place_number (project_keys w) x.choice p low in
      let at_q : place (map (number_in (project_keys w)) x.choice) (number_in (project_keys w) q)
      ≡ number_in x.choice q = place_number (project_keys w) x.choice q q_low in (
        q,
        refl,
        number_on (project_keys w) x.choice q q_low q_on,
        elim good [
          | inl same ↦ let level : place (map (number_in (project_keys w)) x.choice) (number_in (project_keys w) q)
              ≡ place (map (number_in (project_keys w)) x.choice) (number_in (project_keys w) p) =
              ap (place (map (number_in (project_keys w)) x.choice)) same in
              omega arith
          | inr before ↦ let less : place (map (number_in (project_keys w)) x.choice) (number_in (project_keys w) q) < place (map (number_in (project_keys w)) x.choice) (number_in (project_keys w) p) = (rw x_choices at before).0 in
              omega arith
        ],
      )

-- from rows to instances

-- who passes a test is on the roll
kept_has : (f : Student → Bool) (ss : List Student) (k : Key) → has (map student_key (filter f ss)) k ≡ true
    → has (map student_key ss) k ≡ true
kept_has f [] k h = h
kept_has f (s ∷ ss) k h = grind (arith, kept_has f ss k)

-- who stands on a ranking is on the roll
rank_known : (w : World) → Sound w → (l : ℕ) (d : Lecturer) → l < length w.lecturers → (k : Key)
    → has (unwrap_or (get_or w.lecturers l d).ranking []) k ≡ true
    → number_in (student_keys w) k < length (student_keys w)
rank_known w sound l d l_in k there =
    has_number (student_keys w) k (by_ranking (get_or w.lecturers l d).ranking
    (all_at (λ (y : Lecturer). IfSome y.ranking (IsRanking (map student_key (applicants_of w y.row.key)))) w.lecturers l d
    sound.rankings l_in) there)
  where
    by_ranking : (o : Option (List Key))
        → IfSome o (IsRanking (map student_key (applicants_of w (get_or w.lecturers l d).row.key)))
        → has (unwrap_or o []) k ≡ true → has (student_keys w) k ≡ true
    by_ranking None ranks h = absurd (cc)
    by_ranking (Some r) ranks h =
        let at = has_contains r k h in
        let apps : List Key = map student_key (applicants_of w (get_or w.lecturers l d).row.key) in
        kept_has (λ (s : Student). list_any (λ (q : ProjectRow). has s.choice q.key) (projects_of w (get_or w.lecturers l d).row.key))
        w.students k
        (subst (λ x. has apps x ≡ true) at.2 (all_at (λ x. has apps x ≡ true) r at.0 k ranks.only at.1))

-- rankings of keys that order alike do so by number
order_numbers : (keys xs ys : List Key) → ((k : Key) → has ys k ≡ true → number_in keys k < length keys)
    → OrderAlike xs ys → instances.OrderAlike (map (number_in keys) xs) (map (number_in keys) ys)
order_numbers keys xs ys low alike a b on_a on_b before =
    let key_a = key_of keys ys a on_a in
    let key_b = key_of keys ys b on_b in
    let low_a : number_in keys key_a.0 < length keys = low key_a.0 key_a.1 in
    let low_b : number_in keys key_b.0 < length keys = low key_b.0 key_b.1 in
    let x_a : place (map (number_in keys) xs) a ≡ number_in xs key_a.0 = ap (place (map (number_in keys) xs)) (sym key_a.2)
    ∙ place_number keys xs key_a.0 low_a in
    let x_b : place (map (number_in keys) xs) b ≡ number_in xs key_b.0 = ap (place (map (number_in keys) xs)) (sym key_b.2)
    ∙ place_number keys xs key_b.0 low_b in
    let y_a : place (map (number_in keys) ys) a ≡ number_in ys key_a.0 = ap (place (map (number_in keys) ys)) (sym key_a.2)
    ∙ place_number keys ys key_a.0 low_a in
    let y_b : place (map (number_in keys) ys) b ≡ number_in ys key_b.0 = ap (place (map (number_in keys) ys)) (sym key_b.2)
    ∙ place_number keys ys key_b.0 low_b in
    let b_there : has xs key_b.0 ≡ true = number_on keys xs key_b.0 low_b (subst (IsOn (map (number_in keys) xs)) (sym key_b.2) before.1) in
    let after = alike key_a.0 key_b.0 key_a.1 key_b.1 (b_there, omega (arith, before.0, x_a, x_b)) in
    (omega (arith, after.1, y_a, y_b), on_b)

-- where those whose lists may differ by key may do so by number
module _ (w v : World) (good : Sound v) (May : Key → Type 0) (ByNumber : ℕ → Type 0) (differ : DifferInLists w v May)
    (may : (t : ℕ) → t < length w.students → May (get_or (student_keys w) t []) → ByNumber t) where
  count_students : length v.students ≡ length w.students
  count_students = AllZip-long (ListAlike May) w.students v.students differ.students

  count_lecturers : length v.lecturers ≡ length w.lecturers
  count_lecturers = AllZip-long RankAlike w.lecturers v.lecturers differ.lecturers

  choices_in : (x : World) (t : ℕ) → t < length x.students
      → choices_of (instance_of x) t ≡ map (number_in (project_keys x)) (get_or x.students t no_student).choice
  choices_in x t h = get_or-map (λ (y : Student). map (number_in (project_keys x)) y.choice) x.students t no_student [] h

  ranking_in : (x : World) (l : ℕ) → l < length x.lecturers
      → ranking_of (instance_of x) l ≡ map (number_in (student_keys x)) (unwrap_or (get_or x.lecturers l no_lecturer).ranking [])
  ranking_in x l h = get_or-map (λ (y : Lecturer). map (number_in (student_keys x)) (unwrap_or y.ranking [])) x.lecturers l no_lecturer [] h

  pub differ_by_number : instances.DifferInLists (instance_of w) (instance_of v) ByNumber
  differ_by_number = record {
    students = length-map v.students _ ∙ count_students ∙ sym (length-map w.students _);
    lecturers = λ i. map (λ (p : ProjectRow). number_in
        (zip_same RankAlike lecturer_key (λ x y r. ap (λ row. row.key) r.0) w.lecturers v.lecturers differ.lecturers i) p.lecturer)
        (differ.projects i);
    capacities = ap (map (λ (p : ProjectRow). p.capacity)) differ.projects;
    limits = zip_same RankAlike (λ (l : Lecturer). l.row.capacity)
        (λ x y r. ap (λ row. row.capacity) r.0) w.lecturers v.lecturers differ.lecturers;
    others = others;
    orders = orders;
  } where
    others : (t : ℕ) → (ByNumber t → ⊥) → choices_of (instance_of v) t ≡ choices_of (instance_of w) t
    others t other = elim (cases_lt t (length w.students)) [
      | inl t_in ↦
          let alike = AllZip-get_or (ListAlike May) w.students v.students t no_student no_student differ.students t_in in
          let t_key : get_or (student_keys w) t []
          ≡ (get_or w.students t no_student).row.key = get_or-map student_key w.students t no_student [] t_in in
          choices_in v t (omega (arith, count_students))
          ∙ (λ i. map (number_in (map project_key (differ.projects i))) (alike.1 (λ m. other (may t t_in (subst May (sym t_key) m))) i))
          ∙ sym (choices_in w t t_in)
      | inr past ↦ get_or_past (instance_of v).choices t []
          (omega (arith, count_students, length-map v.students (λ (y : Student). map (number_in (project_keys v)) y.choice)))
          ∙ sym (get_or_past (instance_of w).choices t []
          (omega (arith, length-map w.students (λ (y : Student). map (number_in (project_keys w)) y.choice))))
    ]

    orders : (l : ℕ) → instances.OrderAlike (ranking_of (instance_of w) l) (ranking_of (instance_of v) l)
    orders l = elim (cases_lt l (length w.lecturers)) [
      | inl l_in ↦
          let alike = AllZip-get_or RankAlike w.lecturers v.lecturers l no_lecturer no_lecturer differ.lecturers l_in in
          let v_in : l < length v.lecturers = omega (arith, count_lecturers) in
          let by_keys = order_numbers (student_keys v) (unwrap_or (get_or w.lecturers l no_lecturer).ranking [])
          (unwrap_or (get_or v.lecturers l no_lecturer).ranking []) (rank_known v good l no_lecturer v_in) alike.1 in
          let first : map (number_in (student_keys v)) (unwrap_or (get_or w.lecturers l no_lecturer).ranking [])
          ≡ ranking_of (instance_of w) l =
          ap (λ keys. map (number_in keys) (unwrap_or (get_or w.lecturers l no_lecturer).ranking []))
          (zip_same (ListAlike May) student_key (λ x y r. ap (λ row. row.key) r.0) w.students v.students differ.students)
          ∙ sym (ranking_in w l l_in) in
          subst (λ xs. instances.OrderAlike xs (ranking_of (instance_of v) l)) first
          (subst (instances.OrderAlike (map (number_in (student_keys v)) (unwrap_or (get_or w.lecturers l no_lecturer).ranking [])))
          (sym (ranking_in v l v_in)) by_keys)
      | inr past ↦
          let none : ranking_of (instance_of v) l ≡ [] =
          get_or_past (instance_of v).rankings l []
          (omega (
            arith,
            count_lecturers,
            length-map v.lecturers
                (λ (y : Lecturer). map (number_in (student_keys v)) (unwrap_or y.ranking [])),
          )) in
          λ a b on_a on_b before. absurd (let off : IsOn [] a = rw none at on_a in omega (arith, off))
    ]

-- who is shown what

pub shown_student : (w : World) (code : Key) (a : StudentSees) → view w code ≡ sees.Student a
    → (x : Student) × (student_with w code ≡ Some x) × (student_sees w x ≡ a)
shown_student w code a e = grind arith

-- a world of one round in published, whose result is the best for the students
pub record IsBestRound (w : World) : Type 0 where
  pub sound : Sound w
  pub one : w.round ≡ First
  pub published : is_published w.phase ≡ true
  pub best : IsBest (instance_of w) (places_of w)

-- or is stable alone
pub record IsStableRound (w : World) : Type 0 where
  pub sound : Sound w
  pub one : w.round ≡ First
  pub published : is_published w.phase ≡ true
  pub stable : IsStable (instance_of w) (places_of w)

-- from what is as good by number to what is no worse by key
pub no_worse_by_number : (w : World) (s : ℕ) (x : Student) → IsBestRound w → IsStudentNumber w s x → (p : Key)
    → has x.choice p ≡ true
    → (IsAcceptable (instance_of w) s (number_in (project_keys w) p)
    → IsAsGood (instance_of w) s (project_of (places_of w) s) (Some (number_in (project_keys w) p)))
    → (q : Key) × (x.placed ≡ Some q) × (has x.choice q ≡ true) × (number_in x.choice q ≤ number_in x.choice p)
no_worse_by_number w s x one is_x p there good =
    x_no_worse w one.sound one.one one.published s x is_x p low there x.placed
    (λ q e. one.best.stable.matching.acceptable s (number_in (project_keys w) q)
    (x_given w one.sound one.one one.published s x is_x ∙ ap (option_map (number_in (project_keys w))) e))
    (subst (λ o. IsAsGood (instance_of w) s o (Some (number_in (project_keys w) p))) (x_given w one.sound one.one one.published s x is_x)
    (good (rw (x_choices w one.sound one.one one.published s x is_x) (on_number (project_keys w) x.choice p low there))))
  where
    low : number_in (project_keys w) p < length (project_keys w)
    low =
        let at = has_contains x.choice p there in
        let x_choice : IsChoice (project_keys w) x.choice =
        subst (λ (z : Student). IsChoice (project_keys w) z.choice) is_x.is
        (choice w one.sound one.one one.published s x is_x.in_range) in
        has_number (project_keys w) p (subst (λ k. has (project_keys w) k ≡ true) at.2
        (all_at (λ k. has (project_keys w) k ≡ true) x.choice at.0 p x_choice.known at.1))

-- from a round to the world that it is played in

module _ (ps : List ProjectRow) (ss : List Student) where
  staff_zip : (r : Round) (ls ks : List Lecturer) → AllZip RankAlike ls ks
      → AllZip RankAlike (lecturers_in r ls ps ss) (lecturers_in r ks ps ss)
  staff_zip First ls ks z = z
  staff_zip Second ls ks z =
      zip_kept RankAlike (λ l. nat_lt 0 l.row.capacity) (λ l k r. ap (λ row. nat_lt 0 row.capacity) r.0) (map (lowered_lecturer ps ss) ls)
      (map (lowered_lecturer ps ss) ks)
      (zip_mapped RankAlike (lowered_lecturer ps ss) (lowered_lecturer ps ss)
      (λ l k r. ((λ i. record (r.0 i) { capacity = (r.0 i).capacity - given_with ps ss (r.0 i).key }), r.1)) ls ks z)

  offers_same : (r : Round) (ls ks : List Lecturer) → AllZip RankAlike ls ks
      → projects_in r ks ps ss ≡ projects_in r ls ps ss
  offers_same First ls ks z = refl
  offers_same Second ls ks z =
      let keys : map lecturer_key (lecturers_left ks ps ss) ≡ map lecturer_key (lecturers_left ls ps ss) =
      zip_same RankAlike lecturer_key (λ l k r. ap (λ row. row.key) r.0) (lecturers_left ls ps ss) (lecturers_left ks ps ss)
      (staff_zip Second ls ks z) in
      λ i. filter (λ p. nat_lt 0 p.capacity && has (keys i) p.lecturer) (map (lowered_project ss) ps)

-- two rounds that differ in some lists are so when each stands alone
module _ (w v : World) (May : Key → Type 0) (differ : DifferInLists w v May) where
  placed_alike : (x y : Student) → ListAlike May x y → y.earlier_placement ≡ x.earlier_placement
  placed_alike x y r = r.2

  pub differ_alone : DifferInLists (alone (in_play w)) (alone (in_play v)) May
  differ_alone = record {
    round = refl;
    lecturers = zip_mapped RankAlike alone_lecturer alone_lecturer (λ l k r. r) (in_play w).lecturers (in_play v).lecturers
        (subst (AllZip RankAlike (in_play w).lecturers)
        (sym ((λ i. lecturers_in (differ.round i) v.lecturers (differ.projects i) v.students)
        ∙ zip_lecturers (ListAlike May) placed_alike w.students v.students differ.students w.round v.lecturers w.projects))
        (staff_zip w.projects w.students w.round w.lecturers v.lecturers differ.lecturers));
    projects = (λ i. projects_in (differ.round i) v.lecturers (differ.projects i) v.students)
        ∙ zip_projects (ListAlike May) placed_alike w.students v.students differ.students w.round v.lecturers w.projects
        ∙ offers_same w.projects w.students w.round w.lecturers v.lecturers differ.lecturers;
    students = zip_mapped (ListAlike May) alone_student alone_student (λ x y r. (r.0, r.1, refl)) (in_play w).students (in_play v).students
        (subst (λ r. AllZip (ListAlike May) (students_in w.round w.students) (students_in r v.students)) (sym differ.round)
        (zip_in (ListAlike May) placed_alike w.round w.students v.students differ.students));
  }

pub best_alone : (w : World) → HasBest w → IsBestRound (alone (in_play w))
best_alone w h = record {
  sound = (played_alone w h.good).0.sound;
  one = refl;
  published = h.published;
  best = subst (λ i. IsBest i (places_of (alone (in_play w)))) (sym (rows_alone (in_play w)))
      (subst (IsBest (instance w)) (sym (places_alone (in_play w))) h.best);
}

pub stable_alone : (v : World) → Good v → is_published v.phase ≡ true → IsStableRound (alone (in_play v))
stable_alone v good published = record {
  sound = (played_alone v good).0.sound;
  one = refl;
  published = published;
  stable = (played_alone v good).0.stable published;
}

-- who is left by the first round is found among those who are
pub find_left : (q : Student → Bool) (ss : List Student) (x : Student) → find q ss ≡ Some x → is_left x ≡ true
    → find q (students_left ss) ≡ Some x
find_left q [] x e left = absurd (cc)
find_left q (s ∷ ss) x e left = grind (arith, find_left q ss x)

-- who is left is shown the place of the round
pub shown : (w : World) (x : Student) → is_published w.phase ≡ true → x.earlier_placement ≡ None
    → (student_sees w x).result ≡ x.placed
shown w x published left = rw (left, published) refl
