-- No group of students gains over both rounds, nor does one student: of worlds.
use Rattle.portal_rules.proofs.Base.{◌≡◌, inl, inr, ℕ, zero, suc, ◌+◌, ◌<◌, ◌≤◌, Bool, true, false, List, [], ◌∷◌, map}
use Rattle.portal_rules.proofs.Base.{length, get_or, refl, sym, ◌∙◌, ap, subst, arith, Option, Some, None, option_map}
use Rattle.portal_rules.proofs.Base.{is_none, filter, count_by, ◌&&◌, ◌||◌, AllByRecursion, list_any, get_or-map}
use Rattle.portal_rules.proofs.Base.{length-map, length-filter, cases_lt, IsOn, project_of, number_in}
use Rattle.portal_rules.proofs.Base.{Key, equals, has, World, project_key, is_at, is_left, is_published, is_second}
use Rattle.portal_rules.proofs.Base.{shown_placement, students_in, in_play, first, first_placed, first_published}
use Rattle.portal_rules.proofs.Base.{instance_of, places_of, project_keys, student_keys, view, student_sees, Good}
use Rattle.portal_rules.proofs.Base.{Sound, at_lecturer, count_with, KeepsCapacities, given_to, given_with, placed_to}
use Rattle.portal_rules.proofs.Base.{placed_with, limit_of, IsBest, StudentSees}
use Rattle.portal_core.specs.Honest.{HasBest, DifferInLists, ListAlike, IsNoWorse, OneGainsNothing, DifferInOneList}
use Rattle.spa_honest.proofs.Gains.{no_group_gains_over_both as no_group_over_by_number}
use Rattle.spa_honest.specs.ByNumber as instances
use Rattle.portal_rules.specs.declared.view.View.TheVariants as sees
use Rattle.portal_rules.specs.World.{Lecturer, Student}
use Rattle.portal_rules.specs.declared.rows.ProjectRow.{ProjectRow}
use Rattle.portal_rules.proofs.Keys.{all_unmap}
use Rattle.portal_rules.proofs.AllLaws.{all_at, all_weaker, all_both, each_one, map_same}
use Rattle.portal_rules.proofs.Named.{students_named}
use Rattle.portal_rules.proofs.InPlay.{given_none}
use Rattle.portal_rules.proofs.Opened.{the_second}
use Rattle.portal_rules.proofs.Capacities.{number_has, known_in, keeps, first_plays}
use Rattle.portal_core.proofs.HonestLists.{has_number, no_student, no_project, no_lecturer, IsBestRound, IsStableRound}
use Rattle.portal_core.proofs.HonestLists.{world_ranked, differ_by_number, shown, shown_student}
use Rattle.portal_core.proofs.HonestGroups.{kept_key, of_group, IsShown, of_number, own_group, differ_in_group}
use Rattle.portal_core.proofs.HonestGroups.{one_gains_nothing, found_has}
use Rattle.portal_core.proofs.LeftOver.{few_at, few_with, none_at, none_with, placed_known, plays_known, stable_rows}
use Rattle.portal_rules.proofs.Zips.{zip_same}
use Rattle.portal_rules.specs.declared.phase.Round.TheVariants.{Second, First}
use Rattle.portal_rules.specs.declared.phase.Phase.{Phase}

-- ---- what is shown of both rounds

-- a count is at most that of the first round and that of the second
either_sizes : {X : Type 0} (a b c : X → Bool) (xs : List X) → AllByRecursion (λ x. a x ≡ true → (b x || c x) ≡ true) xs
    → length (filter a xs) ≤ length (filter b xs) + length (filter c xs)
either_sizes a b c [] all = omega arith
either_sizes a b c (x ∷ xs) all = grind (arith, all.0, either_sizes a b c xs all.1)

shown_counts : (t : Option Key → Bool) (phase : Phase) → t None ≡ false → (ss : List Student)
    → count_by (λ s. t (shown_placement phase s)) ss ≤ count_by (λ (s : Student). t s.earlier_placement) ss + count_by
    (λ (s : Student). t s.placed) ss
shown_counts t phase off ss =
    omega (
      arith,
      either_sizes (λ s. t (shown_placement phase s)) (λ (s : Student). t s.earlier_placement) (λ (s : Student). t s.placed) ss
          (each_one _ (λ s on. grind (arith, off)) ss),
      length-filter (λ s. t (shown_placement phase s)) ss,
      length-filter (λ (s : Student). t s.earlier_placement) ss,
      length-filter (λ (s : Student). t s.placed) ss,
    )

-- what the first round gave is shown
shown_stays : (keys : List Key) (phase : Phase) (ss : List Student) (s p : ℕ)
    → project_of (map (λ (x : Student). option_map (number_in keys) x.placed) (map first_placed ss)) s ≡ Some p
    → project_of (map (λ x. option_map (number_in keys) (shown_placement phase x)) ss) s ≡ Some p
shown_stays keys phase [] s p e = e
shown_stays keys phase (x ∷ ss) zero p e = by_first x.earlier_placement e
  where
    by_first : (o : Option Key) → option_map (number_in keys) o ≡ Some p
        → option_map (number_in keys) (shown_placement phase (record x { earlier_placement = o })) ≡ Some p
    by_first None e = absurd (cc)
    by_first (Some q) e = e
shown_stays keys phase (x ∷ ss) (suc s) p e = shown_stays keys phase ss s p e

-- who takes part, from those who passed
unfiltered : {X : Type 0} (P : X → Type 0) (q : X → Bool) (xs : List X) → AllByRecursion P (filter q xs)
    → AllByRecursion (λ x. q x ≡ true → P x) xs
unfiltered P q [] all = tt
unfiltered P q (x ∷ xs) all = grind (arith, unfiltered P q xs)

-- by the numbers of the first round
abbrev both_places : World → List (Option ℕ)
both_places u = map (λ (s : Student). option_map (number_in (project_keys u)) (shown_placement u.phase s)) u.students

module _ (u : World) (good : Good u) (second : is_second u.round ≡ true) where
  two : u.round ≡ Second
  two = the_second u.round second

  abbrev Known : Option Key → Type 0
  Known o = (q : Key) → o ≡ Some q → number_in (project_keys u) q < length (project_keys u)

  second_known : AllByRecursion (λ (s : Student). is_left s ≡ true → is_published u.phase ≡ true → Known s.placed) u.students
  second_known = by_phase (is_published u.phase) refl
    where
      by_phase : (out : Bool) → is_published u.phase ≡ out
          → AllByRecursion (λ (s : Student). is_left s ≡ true → is_published u.phase ≡ true → (q : Key) → s.placed ≡ Some q
          → number_in (project_keys u) q < length (project_keys u)) u.students
      by_phase false e = each_one _ (λ s left out. let no : true ≡ false = sym out ∙ e in cc) u.students
      by_phase true e =
          all_weaker _ _ (λ s h left out q shows. has_number (project_keys u) q
          (plays_known u q two (number_has (project_keys (in_play u)) q (h left q shows)))) u.students
          (unfiltered (λ (s : Student). (q : Key) → s.placed ≡ Some q
          → number_in (project_keys (in_play u)) q < length (project_keys (in_play u))) is_left u.students
          (subst (λ r. AllByRecursion (λ (s : Student). (q : Key) → s.placed ≡ Some q
          → number_in (project_keys (in_play u)) q < length (project_keys (in_play u))) (students_in r u.students)) two
          (known_in u good.sound (good.stable e).matching)))

  both_known : AllByRecursion (λ (s : Student). (q : Key) → shown_placement u.phase s ≡ Some q
      → number_in (project_keys u) q < length (project_keys u)) u.students
  both_known =
      all_weaker _ _ (λ s h q shows. here (is_published u.phase) refl s.earlier_placement s.placed h.0 h.1 q shows) u.students
      (all_both _ _ u.students
      (all_unmap (λ (s : Student). (q : Key) → s.placed ≡ Some q → number_in (project_keys u) q < length (project_keys u)) first_placed
      u.students (placed_known (first u) (good.before second).sound refl refl ((good.before second).stable refl)))
      second_known)
    where
      here : (out : Bool) → is_published u.phase ≡ out → (o p : Option Key)
          → ((q : Key) → o ≡ Some q → number_in (project_keys u) q < length (project_keys u))
          → (is_none o ≡ true → is_published u.phase ≡ true → (q : Key) → p ≡ Some q
          → number_in (project_keys u) q < length (project_keys u))
          → (q : Key) → shown_placement u.phase (record no_student { earlier_placement = o; placed = p }) ≡ Some q
          → number_in (project_keys u) q < length (project_keys u)
      here out e (Some z) p one two' q shows = one q shows
      here true e None p one two' q shows = two' refl e q (rw e at shows)
      here false e None p one two' q shows = let none : None ≡ Some q = rw e at shows in absurd (cc)

  -- they keep what the first round gave, and the capacities
  adds : instances.AddsTo (instance_of (first u)) (places_of (first u)) (both_places u)
  adds = record {
    students = length-map u.students _ ∙ sym (length-map u.students first_placed) ∙ sym (length-map (map first_placed u.students) _);
    keeps = shown_stays (project_keys u) u.phase u.students;
    projects = λ k. elim (cases_lt k (length u.projects)) [
      | inr past ↦ omega (arith, none_at (first u) sound refl refl (shown_placement u.phase) u.students both_known k past)
      | inl k_in ↦
          let row : ProjectRow = get_or u.projects k no_project in
          let fits = all_at (λ (p : ProjectRow). given_to u.students p.key + placed_to u.students p.key ≤ p.capacity) u.projects k
          no_project kept.projects k_in in
          omega (
            arith,
            few_at (first u) sound refl refl (shown_placement u.phase) u.students both_known k k_in,
            shown_counts (is_at row.key) u.phase refl u.students,
            fits,
            get_or-map (λ (p : ProjectRow). p.capacity) u.projects k no_project 0 k_in,
          )
    ];
    lecturers = λ h. elim (cases_lt h (length u.lecturers)) [
      | inr past ↦ omega (
        arith,
        none_with (first u) sound refl refl (shown_placement u.phase) u.students both_known h
            (omega (arith, past, length-map u.lecturers first_published)),
      )
      | inl h_in ↦ with_lecturer h h_in
    ];
  } where
    sound : Sound (first u)
    sound = (good.before second).sound

    kept : KeepsCapacities u
    kept = keeps u good

    with_lecturer : (h : ℕ) → h < length u.lecturers
        → at_lecturer (instance_of (first u)) (both_places u) h ≤ limit_of (instance_of (first u)) h
    with_lecturer h h_in =
        let h_first : h < length (first u).lecturers = omega (arith, h_in, length-map u.lecturers first_published) in
        let row : get_or (first u).lecturers h no_lecturer
        ≡ first_published (get_or u.lecturers h no_lecturer) = get_or-map first_published u.lecturers h no_lecturer no_lecturer h_in in
        let fits = all_at (λ (l : Lecturer). given_with u.projects u.students l.row.key + placed_with u.projects u.students
        l.row.key ≤ l.row.capacity) u.lecturers h no_lecturer kept.lecturers h_in in
        let few : at_lecturer (instance_of (first u)) (both_places u) h ≤ count_with (shown_placement u.phase) u.projects u.students
        (get_or u.lecturers h no_lecturer).row.key
        = subst (λ (l : Lecturer). at_lecturer (instance_of (first u)) (both_places u) h ≤ count_with
        (shown_placement u.phase) u.projects u.students l.row.key) row
        (few_with (first u) sound refl refl (shown_placement u.phase) u.students both_known h h_first) in
        let counts = shown_counts (λ o. list_any
        (λ (p : ProjectRow). equals p.lecturer (get_or u.lecturers h no_lecturer).row.key && is_at p.key o) u.projects) u.phase
        (given_none u.projects (get_or u.lecturers h no_lecturer).row.key) u.students in
        let top : limit_of (instance_of (first u)) h
        ≡ (get_or u.lecturers h no_lecturer).row.capacity =
        get_or-map (λ (l : Lecturer). l.row.capacity) (first u).lecturers h no_lecturer 0 h_first
        ∙ ap (λ (l : Lecturer). l.row.capacity) row in
        omega (arith, few, counts, fits, top)

-- a published first round, and one that a second round keeps
honest_round : (w : World) → HasBest w → w.round ≡ First → IsBestRound w
honest_round w best one = record {
  sound = best.good.sound;
  one = one;
  published = best.published;
  best = subst (λ x. IsBest (instance_of x) (places_of x)) (first_plays w one) best.best;
}

stable_first : (u : World) → Good u → is_second u.round ≡ true → IsStableRound (first u)
stable_first u good second = record {
  sound = (good.before second).sound;
  one = refl;
  published = refl;
  stable = stable_rows (first u) (good.before second).sound refl refl ((good.before second).stable refl);
}

-- NO GROUP GAINS
pub no_group_gains_over_both : (w u : World) (group : List Key) (key : Key) → HasBest w → Good u
    → is_second u.round ≡ true → DifferInLists w (first u) (λ k. has group k ≡ true) → has group key ≡ true
    → has (student_keys w) key ≡ true → OneGainsNothing w u group
no_group_gains_over_both w u group key best good second differ in_group there =
    let honest : IsBestRound w = honest_round w best (sym differ.round) in
    let other : IsStableRound (first u) = stable_first u good second in
    let keys : List Key = student_keys w in
    let ours : List Key = filter (has (student_keys w)) group in
    let some : number_in ours key < length ours = has_number ours key (kept_key (has (student_keys w)) group key in_group there) in
    let found =
    no_group_over_by_number (instance_of w) (instance_of (first u)) (map (number_in keys) ours) (places_of w) (places_of (first u))
    (both_places u)
    (world_ranked w honest.sound honest.one honest.published) (world_ranked (first u) other.sound other.one other.published)
    (omega (arith, some, length-map ours (number_in keys)))
    (differ_by_number w (first u) other.sound (λ k. has group k ≡ true) (IsOn (map (number_in keys) ours)) differ
    (of_group w group honest.sound.students_rise))
    honest.best other.stable (adds u good second) in
    let same : map (λ (s : Student). s.row) u.students ≡ map (λ (s : Student). s.row) w.students
    = sym (map_same (λ (s : Student). s.row) first_placed (λ s. refl) u.students)
    ∙ zip_same (ListAlike (λ k. has group k ≡ true)) (λ (s : Student). s.row) (λ x y r. r.0) w.students
    (first u).students differ.students in
    let ones : AllByRecursion (IsShown w (λ s. s.placed)) w.students
    = all_weaker _ _ (λ s h. (student_sees w s, h.0, refl, refl, shown w s best.published h.1.1)) w.students
    (all_both _ _ w.students (students_named w best.good.sound) (best.good.sound.no_earlier_lists (ap is_second (sym differ.round)))) in
    let others : AllByRecursion (IsShown u (shown_placement u.phase)) u.students =
    all_weaker _ _ (λ s h. (student_sees u s, h, refl, refl, refl)) u.students (students_named u good.sound) in
    of_number w u w u honest (shown_placement u.phase) same (ap (map project_key) differ.projects) ones others group found.0 found.1 found.2

-- NO LIST GAINS OVER BOTH ROUNDS
pub honest_over_both : (w u : World) (code : Key) (a b : StudentSees) → HasBest w → Good u → is_second u.round ≡ true
    → DifferInOneList w (first u) a.me.key → view w code ≡ sees.Student a → view u code ≡ sees.Student b
    → IsNoWorse a.choices a.result b.result
honest_over_both w u code a b best good second differ sees_a sees_b =
    let x = shown_student w code a sees_a in
    let there : has (student_keys w) a.me.key
    ≡ true = subst (λ (z : StudentSees). has (student_keys w) z.me.key ≡ true) x.2 (found_has _ w.students x.0 x.1) in
    one_gains_nothing w u code a b best.good.sound sees_a sees_b
    (no_group_gains_over_both w u (a.me.key ∷ []) a.me.key best good second (differ_in_group w (first u) a.me.key differ)
    (own_group a.me.key) there)
