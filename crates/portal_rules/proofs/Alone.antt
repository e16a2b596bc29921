-- What a round is played in is a good world of one round.
use Rattle.portal_rules.proofs.Base.{◌≡◌, ℕ, ◌≤◌, Bool, true, false, cond, List, [], ◌∷◌, ◌++◌, length, refl, sym, ◌∙◌}
use Rattle.portal_rules.proofs.Base.{ap, subst, arith, map, filter, nat_lt, unwrap_or, option_map, not, ◌&&◌, ◌||◌}
use Rattle.portal_rules.proofs.Base.{Option, None, IfSome, is_none, list_any, AllByRecursion, nat_tests, length-map}
use Rattle.portal_rules.proofs.Base.{Key, equals, is_before, has, is_empty, Rise, AreDistinct, World, in_play, alone}
use Rattle.portal_rules.proofs.Base.{alone_lecturer, alone_student, lecturer_key, project_key, student_key}
use Rattle.portal_rules.proofs.Base.{applicants_of, projects_of, is_still_to_rank, is_left, lowered_lecturer}
use Rattle.portal_rules.proofs.Base.{lowered_project, lecturers_left, students_left, instance, instance_of, places_of}
use Rattle.portal_rules.proofs.Base.{lecturer_keys, project_keys, student_keys, ProjectRow, Round, First, Second}
use Rattle.portal_rules.proofs.Base.{IsStable, number_in, Good, Sound, IsChoice, IsRanking, IsLecturer, IsProject}
use Rattle.portal_rules.proofs.Base.{IsStudent, All-from_recursion, and_parts, count_by-le-length, length-filter}
use Rattle.portal_rules.proofs.Base.{map_fixed}
use Rattle.portal_rules.specs.World as rows
use Rattle.portal_rules.proofs.Keys.{is_same, all_unmap}
use Rattle.portal_rules.proofs.AllLaws.{all_map, all_weaker, all_both, map_same, any_map, any_nowhere, is_sym}
use Rattle.portal_rules.proofs.AllLaws.{kept_filtered}
use Rattle.portal_rules.proofs.Kept.{empty_map}
use Rattle.portal_rules.proofs.InPlay.{filter_kept}
use Rattle.portal_rules.proofs.InRound.{all_filter, known_left}
use Rattle.portal_rules.proofs.Fills.{before_other, rise_kept}
use Rattle.portal_rules.proofs.Capacities.{left_of, second_plays, first_plays, each_one, none_has}

-- filters

pub passes : {X : Type 0} (P R : X → Type 0) (q : X → Bool) → ((x : X) → P x → q x ≡ true → R x) → (xs : List X)
    → AllByRecursion P xs → AllByRecursion R (filter q xs)
passes P R q k [] all = tt
passes P R q k (x ∷ xs) all = grind (arith, k x all.0, passes P R q k xs all.1)

fewer : {X : Type 0} (q : X → Bool) (xs : List X) → length (filter q xs) ≤ length xs
fewer q xs = omega (arith, length-filter q xs, count_by-le-length q xs)

none_kept : {X : Type 0} (code : X → Key) (q : X → Bool) (xs : List X) (rest : List Key) (k : Key)
    → has (map code xs ++ rest) k ≡ false → has (map code (filter q xs) ++ rest) k ≡ false
none_kept code q [] rest k h = h
none_kept code q (x ∷ xs) rest k h = grind (arith, none_kept code q xs rest k)

apart_front : {X : Type 0} (code : X → Key) (q : X → Bool) (xs : List X) (rest : List Key)
    → AreDistinct (map code xs ++ rest) → AreDistinct (map code (filter q xs) ++ rest)
apart_front code q [] rest d = d
apart_front code q (x ∷ xs) rest d = grind (arith, none_kept code q xs rest (code x) d.0, apart_front code q xs rest d.1)

none_back : {X : Type 0} (code : X → Key) (q : X → Bool) (ks : List Key) (xs : List X) (k : Key)
    → has (ks ++ map code xs) k ≡ false → has (ks ++ map code (filter q xs)) k ≡ false
none_back code q [] [] k h = h
none_back code q [] (x ∷ xs) k h = grind (arith, none_back code q [] xs k)
none_back code q (l ∷ ks) xs k h = grind (arith, none_back code q ks xs k)

apart_back : {X : Type 0} (code : X → Key) (q : X → Bool) (ks : List Key) (xs : List X)
    → AreDistinct (ks ++ map code xs) → AreDistinct (ks ++ map code (filter q xs))
apart_back code q [] [] d = d
apart_back code q [] (x ∷ xs) d = grind (arith, none_back code q [] xs (code x) d.0, apart_back code q [] xs d.1)
apart_back code q (k ∷ ks) xs d = (none_back code q ks xs k d.0, apart_back code q ks xs d.1)

some_room : (n : ℕ) → nat_lt 0 n ≡ true → 1 ≤ n
some_room n h = grind (arith, nat_tests)

-- who applies to a lecturer is the same

-- a project that is left out stands under no key of those that are left
out_not_in : (t : ProjectRow → Bool) (zs : List ProjectRow) → Rise (map project_key zs)
    → AllByRecursion (λ z. t z ≡ false → has (map project_key (filter t zs)) z.key ≡ false) zs
out_not_in t [] rise = tt
out_not_in t (z ∷ zs) rise =
    let later : AllByRecursion (λ y. is_before (project_key z) (project_key y) ≡ true) zs =
    all_unmap (λ k. is_before (project_key z) k ≡ true) project_key zs rise.0 in
    let rest : AllByRecursion (λ y. t y ≡ false → has (map project_key (filter t zs)) y.key ≡ false) zs = out_not_in t zs rise.1 in (
      (λ e. ap (λ b. has (map project_key (cond b (z ∷ filter t zs) (filter t zs))) z.key) e
          ∙ none_has z.key t zs (all_weaker _ _ (λ y h. is_sym y.key z.key ∙ before_other z.key y.key h) zs later)),
      (elim (t z) as (λ b. AllByRecursion (λ y. t y ≡ false → has (map project_key (cond b (z ∷ filter t zs) (filter t zs))) y.key ≡ false)
          zs) [
            | true ↦ all_weaker (λ y. (is_before (project_key z) (project_key y) ≡ true)
                × (t y ≡ false → has (map project_key (filter t zs)) y.key ≡ false)) _
                (λ y h e. ap (λ b. b || has (map project_key (filter t zs)) y.key) (is_sym y.key z.key ∙ before_other z.key y.key h.0)
                ∙ h.1 e)
                zs
                (all_both (λ y. is_before (project_key z) (project_key y) ≡ true)
                (λ y. t y ≡ false → has (map project_key (filter t zs)) y.key ≡ false) zs later rest)
            | false ↦ rest
          ]),
    )

listed_in : (choice known : List Key) (k : Key) → AllByRecursion (λ c. has known c ≡ true) choice → has known k ≡ false
    → has choice k ≡ false
listed_in [] known k all h = refl
listed_in (c ∷ cs) known k all h = grind (arith, is_same k c, listed_in cs known k all.1 h)

any_of_left : (f own t : ProjectRow → Bool) (zs : List ProjectRow) → AllByRecursion (λ z. t z ≡ false → f z ≡ false) zs
    → list_any f (filter own (filter t zs)) ≡ list_any f (filter own zs)
any_of_left f own t [] all = refl
any_of_left f own t (z ∷ zs) all = grind (arith, all.0, any_of_left f own t zs all.1)

filter_of_left : {X : Type 0} (a b q : X → Bool) (xs : List X)
    → AllByRecursion (λ x. (q x ≡ true → a x ≡ b x) × (q x ≡ false → b x ≡ false)) xs
    → filter a (filter q xs) ≡ filter b xs
filter_of_left a b q [] all = refl
filter_of_left a b q (x ∷ xs) all = grind (arith, all.0, filter_of_left a b q xs all.1)

module _ (w : World) (g : Sound w) (two : w.round ≡ Second) where
  abbrev taken : ProjectRow → Bool
  taken p = nat_lt 0 p.capacity && has (map lecturer_key (lecturers_left w.lecturers w.projects w.students)) p.lecturer

  abbrev lowered : List ProjectRow
  lowered = map (lowered_project w.students) w.projects

  rise : Rise (map project_key lowered)
  rise = subst Rise (sym (map_same project_key (lowered_project w.students) (λ p. refl) w.projects)) g.projects_rise

  abbrev wants : World → Key → rows.Student → Bool
  wants u l s = list_any (λ p. has s.choice p.key) (projects_of u l)

  -- of a student whose list is over what is left
  wants_same : (l : Key) (s : rows.Student) → IsChoice (project_keys (left_of w)) s.choice
      → wants (left_of w) l s ≡ wants w l s
  wants_same l s c =
      any_of_left (λ p. has s.choice p.key) (λ p. equals p.lecturer l) taken lowered
      (all_weaker _ _ (λ z out e. listed_in s.choice (project_keys (left_of w)) z.key c.known (out e)) lowered
      (out_not_in taken lowered rise))
      ∙ ap (list_any (λ p. has s.choice p.key)) (filter_kept (lowered_project w.students) (λ p. equals p.lecturer l) (λ p. refl) w.projects)
      ∙ any_map (λ p. has s.choice p.key) (lowered_project w.students) (projects_of w l)

  -- the choices, as the round's
  choices_are : AllByRecursion (λ s. IsChoice (project_keys (left_of w)) s.choice) w.students
  choices_are = subst (λ u. AllByRecursion (λ s. IsChoice (project_keys u) s.choice) w.students) (second_plays w two) g.choices

  pub applicants_alone : (l : Key)
      → map student_key (applicants_of (alone (left_of w)) l) ≡ map student_key (applicants_of w l)
  applicants_alone l =
      kept_filtered student_key alone_student (wants (left_of w) l) (λ s. refl) (λ s. refl) (students_left w.students)
      ∙ ap (map student_key) (filter_of_left (wants (left_of w) l) (wants w l) is_left w.students
      (all_weaker (λ s. IsChoice (project_keys (left_of w)) s.choice × (is_left s ≡ false → (s.choice ≡ []) × (s.placed ≡ None))) _
      (λ s h. (
        (λ e. wants_same l s h.0),
        (λ e. ap (λ c. list_any (λ p. has c p.key) (projects_of w l)) (h.1 e).0
            ∙ any_nowhere (projects_of w l)),
      )) w.students
      (all_both (λ s. IsChoice (project_keys (left_of w)) s.choice)
      (λ s. is_left s ≡ false → (s.choice ≡ []) × (s.placed ≡ None)) w.students choices_are g.only_left)))

  pub still_alone : (l : rows.Lecturer) → is_still_to_rank (alone (left_of w)) l ≡ is_still_to_rank w l
  still_alone l =
      ap (λ b. not b && is_none l.ranking)
      (sym (empty_map student_key (applicants_of (alone (left_of w)) l.row.key)) ∙ ap is_empty (applicants_alone l.row.key)
      ∙ empty_map student_key (applicants_of w l.row.key))

  -- what holds of each lecturer by key and ranking, holds of those that are left
  staff : (P : Key → Option (List Key) → Type 0) → AllByRecursion (λ l. P l.row.key l.ranking) w.lecturers
      → AllByRecursion (λ l. P l.row.key l.ranking) (alone (left_of w)).lecturers
  staff P all =
      all_map (λ l. P l.row.key l.ranking) alone_lecturer (lecturers_left w.lecturers w.projects w.students)
      (all_filter (λ l. P l.row.key l.ranking) (λ l. nat_lt 0 l.row.capacity) (map (lowered_lecturer w.projects w.students) w.lecturers)
      (all_map (λ l. P l.row.key l.ranking) (lowered_lecturer w.projects w.students) w.lecturers all))

  group : (P : rows.Student → Type 0) → ((s : rows.Student) → P s → P (alone_student s)) → AllByRecursion P w.students
      → AllByRecursion P (alone (left_of w)).students
  group P k all = all_map P alone_student (students_left w.students)
      (all_weaker _ _ k (students_left w.students) (all_filter P is_left w.students all))

  staff_keys : lecturer_keys (alone (left_of w)) ≡ map lecturer_key (lecturers_left w.lecturers w.projects w.students)
  staff_keys = map_same lecturer_key alone_lecturer (λ l. refl) (lecturers_left w.lecturers w.projects w.students)

  pub alone_sound : Sound (alone (left_of w))
  alone_sound =
      let many : length (alone (left_of w)).students
      ≡ length (students_left w.students) = length-map (students_left w.students) alone_student in
      let few_s : length (students_left w.students) ≤ length w.students = fewer is_left w.students in
      let few_p : length (filter taken lowered) ≤ length lowered = fewer taken lowered in
      let all_p : length lowered ≡ length w.projects = length-map w.projects (lowered_project w.students) in
      let some_l : length (alone (left_of w)).lecturers
      ≡ length (lecturers_left w.lecturers w.projects w.students) =
      length-map (lecturers_left w.lecturers w.projects w.students) alone_lecturer in
      let few_l : length (lecturers_left w.lecturers w.projects w.students) ≤ length (map (lowered_lecturer w.projects w.students) w.lecturers) = fewer (λ l. nat_lt 0 l.row.capacity) (map (lowered_lecturer w.projects w.students) w.lecturers) in
      let all_l : length (map (lowered_lecturer w.projects w.students) w.lecturers)
      ≡ length w.lecturers = length-map w.lecturers (lowered_lecturer w.projects w.students) in
      let lecturer_codes : map (λ (l : rows.Lecturer). l.row.code) (alone (left_of w)).lecturers
      ≡ map (λ l. l.row.code) (lecturers_left w.lecturers w.projects w.students) =
      map_same _ alone_lecturer (λ l. refl) (lecturers_left w.lecturers w.projects w.students) in
      let lowered_codes : map (λ (l : rows.Lecturer). l.row.code) (map (lowered_lecturer w.projects w.students) w.lecturers)
      ≡ map (λ l. l.row.code) w.lecturers = map_same _ (lowered_lecturer w.projects w.students) (λ l. refl) w.lecturers in
      let student_codes : map (λ (s : rows.Student). s.row.code) (alone (left_of w)).students
      ≡ map (λ s. s.row.code) (students_left w.students) = map_same _ alone_student (λ s. refl) (students_left w.students) in
      let apart : AreDistinct (w.office ∷ map (λ (l : rows.Lecturer). l.row.code) (map (lowered_lecturer w.projects w.students) w.lecturers)
      ++ map (λ (s : rows.Student). s.row.code) (students_left w.students))
      = subst (λ cs. AreDistinct (w.office ∷ cs ++ map (λ (s : rows.Student). s.row.code) (students_left w.students))) (sym lowered_codes)
      (apart_back (λ (s : rows.Student). s.row.code) is_left
      (w.office ∷ map (λ (l : rows.Lecturer). l.row.code) w.lecturers) w.students g.codes) in
      let fronts : AreDistinct (w.office ∷ map (λ (l : rows.Lecturer). l.row.code) (lecturers_left w.lecturers w.projects w.students)
      ++ map (λ (s : rows.Student). s.row.code) (students_left w.students))
      = (
        none_kept (λ (l : rows.Lecturer). l.row.code) (λ l. nat_lt 0 l.row.capacity)
            (map (lowered_lecturer w.projects w.students) w.lecturers)
            (map (λ (s : rows.Student). s.row.code) (students_left w.students)) w.office apart.0,
        apart_front (λ (l : rows.Lecturer). l.row.code) (λ l. nat_lt 0 l.row.capacity)
            (map (lowered_lecturer w.projects w.students) w.lecturers)
            (map (λ (s : rows.Student). s.row.code) (students_left w.students)) apart.1,
      ) in
      record {
        lecturers_rise = subst Rise (sym staff_keys)
            (rise_kept lecturer_key (λ l. nat_lt 0 l.row.capacity) (map (lowered_lecturer w.projects w.students) w.lecturers)
            (subst Rise (sym (map_same lecturer_key (lowered_lecturer w.projects w.students) (λ l. refl) w.lecturers)) g.lecturers_rise));
        projects_rise = rise_kept project_key taken lowered rise;
        students_rise = subst Rise (sym (map_same student_key alone_student (λ s. refl) (students_left w.students)))
            (rise_kept student_key is_left w.students g.students_rise);
        lecturer_forms = all_map (λ l. IsLecturer l.row) alone_lecturer (lecturers_left w.lecturers w.projects w.students)
            (passes (λ (l : rows.Lecturer). (1 ≤ l.row.capacity → IsLecturer l.row)) (λ l. IsLecturer l.row) (λ l. nat_lt 0 l.row.capacity)
            (λ l h e. h (some_room l.row.capacity e)) (map (lowered_lecturer w.projects w.students) w.lecturers)
            (all_map (λ (l : rows.Lecturer). (1 ≤ l.row.capacity → IsLecturer l.row)) (lowered_lecturer w.projects w.students) w.lecturers
            (all_weaker _ _ (λ l h low. record {
              key = h.key;
              name = h.name;
              code = h.code;
              low = low;
              high = let top = h.high in omega (arith, top);
            }) w.lecturers g.lecturer_forms)));
        project_forms = passes (λ (p : ProjectRow). (1 ≤ p.capacity → IsProject p)) IsProject taken
            (λ p h e. h (some_room p.capacity (and_parts (nat_lt 0 p.capacity)
            (has (map lecturer_key (lecturers_left w.lecturers w.projects w.students)) p.lecturer) e).0)) lowered
            (all_map (λ (p : ProjectRow). (1 ≤ p.capacity → IsProject p)) (lowered_project w.students) w.projects
            (all_weaker _ _ (λ p h low. record {
              key = h.key;
              lecturer = h.lecturer;
              title = h.title;
              low = low;
              high = let top = h.high in omega (arith, top);
            }) w.projects g.project_forms));
        student_forms = group (λ s. IsStudent s.row) (λ s h. h) g.student_forms;
        office_form = g.office_form;
        few_lecturers = let top = g.few_lecturers in omega (arith, some_l, few_l, all_l, top);
        few_projects = let top = g.few_projects in omega (arith, few_p, all_p, top);
        few_students = let top = g.few_students in omega (arith, many, few_s, top);
        codes = subst (λ cs. AreDistinct (w.office ∷ cs ++ map (λ (s : rows.Student). s.row.code) (alone (left_of w)).students))
            (sym lecturer_codes)
            (subst (λ cs. AreDistinct (w.office ∷ map (λ (l : rows.Lecturer). l.row.code) (lecturers_left w.lecturers w.projects w.students)
            ++ cs)) (sym student_codes) fronts);
        lecturers_known = subst (λ ks. AllByRecursion (λ p. has ks p.lecturer ≡ true) (filter taken lowered)) (sym staff_keys)
            (known_left (λ p. nat_lt 0 p.capacity) (map lecturer_key (lecturers_left w.lecturers w.projects w.students)) lowered);
        choices = group (λ s. IsChoice (project_keys (left_of w)) s.choice) (λ s h. h) choices_are;
        no_choices_yet = λ h. group (λ s. s.choice ≡ []) (λ s e. e) (g.no_choices_yet h);
        no_rankings_yet = λ h. staff (λ k r. r ≡ None) (g.no_rankings_yet h);
        rankings = staff (λ k r. IfSome r (IsRanking (map student_key (applicants_of (alone (left_of w)) k))))
            (all_weaker _ _ (λ l h. subst (λ ks. IfSome l.ranking (IsRanking ks)) (sym (applicants_alone l.row.key)) h) w.lecturers
            g.rankings);
        no_result_yet = λ h. group (λ s. s.placed ≡ None) (λ s e. e) (g.no_result_yet h);
        all_ranked = λ h. staff (λ k r. (not (is_empty (applicants_of (alone (left_of w)) k)) && is_none r) ≡ false)
            (all_weaker _ _ (λ l e. still_alone l ∙ e) w.lecturers (g.all_ranked h));
        no_earlier_lists = λ h. all_map (λ (s : rows.Student). (s.earlier_choice ≡ []) × (s.earlier_placement ≡ None)) alone_student
            (students_left w.students) (each_one _ (λ s. (refl, refl)) (students_left w.students));
        no_earlier_rankings = λ h. all_map (λ (l : rows.Lecturer). l.earlier_ranking ≡ None) alone_lecturer
            (lecturers_left w.lecturers w.projects w.students) (each_one _ (λ l. refl) (lecturers_left w.lecturers w.projects w.students));
        no_second_setup = λ h. cc;
        only_left = all_map (λ (s : rows.Student). is_left s ≡ false → (s.choice ≡ []) × (s.placed ≡ None)) alone_student
            (students_left w.students) (each_one _ (λ s h. cc) (students_left w.students));
      }

-- the instance and the matching read nothing else

pub rows_alone : (u : World) → instance_of (alone u) ≡ instance_of u
rows_alone u =
    let lecturers : lecturer_keys (alone u) ≡ lecturer_keys u = map_same lecturer_key alone_lecturer (λ l. refl) u.lecturers in
    let students : student_keys (alone u) ≡ student_keys u = map_same student_key alone_student (λ s. refl) u.students in
    let limits : map (λ (l : rows.Lecturer). l.row.capacity) (map alone_lecturer u.lecturers)
    ≡ map (λ l. l.row.capacity) u.lecturers = map_same _ alone_lecturer (λ l. refl) u.lecturers in
    let rankings : map (λ (l : rows.Lecturer). unwrap_or l.ranking []) (map alone_lecturer u.lecturers)
    ≡ map (λ l. unwrap_or l.ranking []) u.lecturers = map_same _ alone_lecturer (λ l. refl) u.lecturers in
    λ i. record (instance_of u) {
      student_keys = students i;
      choices = map_same (λ (s : rows.Student). map (number_in (project_keys u)) s.choice) alone_student (λ s. refl) u.students i;
      lecturers = map (λ (p : ProjectRow). number_in (lecturers i) p.lecturer) u.projects;
      lecturer_keys = lecturers i;
      rankings = map_same (λ (l : rows.Lecturer). map (number_in (students i)) (unwrap_or l.ranking [])) alone_lecturer
          (λ l. refl) u.lecturers i;
      limits = limits i;
    }

pub places_alone : (u : World) → places_of (alone u) ≡ places_of u
places_alone u = map_same (λ (s : rows.Student). option_map (number_in (project_keys u)) s.placed) alone_student (λ s. refl) u.students

pub itself : (w : World) → Sound w → w.round ≡ First → alone w ≡ w
itself w g one = λ i. record w {
  round = sym one i;
  lecturers = map_fixed alone_lecturer w.lecturers
      (All-from_recursion (λ l. alone_lecturer l ≡ l) w.lecturers
      (all_weaker (λ (l : rows.Lecturer). l.earlier_ranking ≡ None) (λ l. alone_lecturer l ≡ l)
      (λ l e j. record l { earlier_ranking = sym e j }) w.lecturers (g.no_earlier_rankings (ap rows.is_second one)))) i;
  students = map_fixed alone_student w.students
      (All-from_recursion (λ s. alone_student s ≡ s) w.students
      (all_weaker (λ (s : rows.Student). (s.earlier_choice ≡ []) × (s.earlier_placement ≡ None)) (λ s. alone_student s ≡ s)
      (λ s e j. record s { earlier_choice = sym e.0 j; earlier_placement = sym e.1 j }) w.students
      (g.no_earlier_lists (ap rows.is_second one)))) i;
}

sound_alone : (w : World) → Sound w → (r : Round) → w.round ≡ r → Sound (alone (in_play w))
sound_alone w g First one = subst (λ u. Sound (alone u)) (sym (first_plays w one)) (subst Sound (sym (itself w g one)) g)
sound_alone w g Second two = subst (λ u. Sound (alone u)) (sym (second_plays w two)) (alone_sound w g two)

-- what a round is played in is, alone, a good world of one round, with the same instance
pub played_alone : (w : World) → Good w → Good (alone (in_play w)) × (instance (alone (in_play w)) ≡ instance w)
played_alone w g = (
  record {
    sound = sound_alone w g.sound w.round refl;
    stable = λ h. subst (λ i. IsStable i (places_of (alone (in_play w)))) (sym (rows_alone (in_play w)))
        (subst (IsStable (instance w)) (sym (places_alone (in_play w))) (g.stable h));
    before = λ h. cc;
  },
  rows_alone (in_play w),
)
