-- The second round: what it opens with, and that the first stays as it was published.
use Rattle.portal_rules.proofs.Base.{◌≡◌, Bool, true, false, cond, List, [], ◌∷◌, ◌++◌, length, refl, sym, ◌∙◌, ap}
use Rattle.portal_rules.proofs.Base.{subst, arith, map, Some, None, IfSome, is_none, find, AllByRecursion, length-map}
use Rattle.portal_rules.proofs.Base.{Key, equals, has, is_before, Rise, AreDistinct, World, lecturer_key, student_key}
use Rattle.portal_rules.proofs.Base.{applicants_of, is_second, is_left, in_play, first, first_placed, first_published}
use Rattle.portal_rules.proofs.Base.{shown_placement, Choices, Ranks, Fill, SecondRound, changed, opened, ranked_before}
use Rattle.portal_rules.proofs.Base.{placed_before, with_choice, with_ranking, with_fill, Published, First}
use Rattle.portal_rules.proofs.Base.{project_keys, Good, IsRound, Sound, IsChoice, IsRanking, IsLecturer, IsStudent}
use Rattle.portal_rules.proofs.Base.{ProjectRow, ◌≤◌, is_still_to_rank, Round, Second, Caller, caller, sight_of}
use Rattle.portal_rules.proofs.Base.{AbstractCall, Answer, Decision, decision, StepLeaves, Step, All-from_recursion}
use Rattle.portal_rules.proofs.Base.{map_fixed}
use Rattle.std.proofs.lemmas.Simd.{map-map}
use Rattle.portal_rules.specs.World as rows
use Rattle.portal_rules.proofs.Keys.{is_same, not_before_itself, found_all, all_unmap}
use Rattle.portal_rules.proofs.AllLaws.{each_one, all_map, all_weaker, map_same}
use Rattle.portal_rules.proofs.InPlay.{fill_row}
use Rattle.portal_rules.proofs.Fills.{fill_first}
use Rattle.portal_rules.proofs.Kept.{choice_first, ranking_first, first_kept}

-- a list or a ranking of the second round changes nothing of the first

pub first_chosen : (w : World) (k : Key) (list : List Key) → first (changed w (Choices k list)) ≡ first w
first_chosen w k list = λ i. record (first w) { students = map_same first_placed (with_choice k list) (choice_first k list) w.students i }

pub first_ranked : (w : World) (k : Key) (list : List Key) → first (changed w (Ranks k list)) ≡ first w
first_ranked w k list = λ i. record (first w) {
  lecturers = map_same first_published (with_ranking k list)
      (ranking_first k list) w.lecturers i;
}

pub first_filled : (w : World) → first (changed w Fill) ≡ first w
first_filled w = λ i. record (first w) { lecturers = map_same first_published (with_fill w) same w.lecturers i }
  where
    same : (l : rows.Lecturer) → first_published (with_fill w l) ≡ first_published l
    same l = λ i. record { row = fill_row w l i; ranking = fill_first w l i; earlier_ranking = None }

-- what was before the second round opened

pub first_back : (w : World) → Sound w → w.round ≡ First → w.phase ≡ Published → first (opened First Published w) ≡ w
first_back w g one out = λ i. record w {
  round = sym one i;
  phase = sym out i;
  lecturers = (map-map first_published ranked_before w.lecturers
      ∙ map_fixed (λ l. first_published (ranked_before l)) w.lecturers
      (All-from_recursion (λ l. first_published (ranked_before l) ≡ l) w.lecturers
      (all_weaker (λ (l : rows.Lecturer). l.earlier_ranking ≡ None) (λ l. first_published (ranked_before l) ≡ l)
      (λ l e j. record l { earlier_ranking = sym e j }) w.lecturers (g.no_earlier_rankings (ap is_second one))))) i;
  students = (map-map first_placed placed_before w.students
      ∙ map_fixed (λ s. first_placed (placed_before s)) w.students
      (All-from_recursion (λ s. first_placed (placed_before s) ≡ s) w.students
      (all_weaker (λ (s : rows.Student). (s.earlier_choice ≡ []) × (s.earlier_placement ≡ None)) (λ s. first_placed (placed_before s) ≡ s)
      (λ s e j. record s { earlier_choice = sym e.0 j; earlier_placement = sym e.1 j }) w.students
      (g.no_earlier_lists (ap is_second one))))) i;
}

opened_sound : (w : World) → Sound w → Sound (opened First Published w)
opened_sound w g =
    let students : map student_key (map placed_before w.students)
    ≡ map student_key w.students = map_same student_key placed_before (λ s. refl) w.students in
    let lecturers : map lecturer_key (map ranked_before w.lecturers)
    ≡ map lecturer_key w.lecturers = map_same lecturer_key ranked_before (λ l. refl) w.lecturers in
    let student_codes : map (λ (s : rows.Student). s.row.code) (map placed_before w.students)
    ≡ map (λ s. s.row.code) w.students = map_same _ placed_before (λ s. refl) w.students in
    let lecturer_codes : map (λ (l : rows.Lecturer). l.row.code) (map ranked_before w.lecturers)
    ≡ map (λ l. l.row.code) w.lecturers = map_same _ ranked_before (λ l. refl) w.lecturers in
    let keys : List Key = project_keys (in_play (opened First Published w)) in
    let lecturers_rise = subst Rise (sym lecturers) g.lecturers_rise in
    let students_rise = subst Rise (sym students) g.students_rise in
    let lecturer_forms = all_map (λ (l : rows.Lecturer). IsLecturer l.row) ranked_before w.lecturers g.lecturer_forms in
    let student_forms = all_map (λ (s : rows.Student). IsStudent s.row) placed_before w.students g.student_forms in
    let few_lecturers : length (map ranked_before w.lecturers) ≤ 300 =
    omega (arith, g.few_lecturers, length-map w.lecturers ranked_before) in
    let few_students : length (map placed_before w.students) ≤ 2000 = omega (arith, g.few_students, length-map w.students placed_before) in
    let apart = subst (λ cs. AreDistinct (w.office ∷ cs ++ map (λ (s : rows.Student). s.row.code) (map placed_before w.students)))
    (sym lecturer_codes)
    (subst (λ cs. AreDistinct (w.office ∷ map (λ (l : rows.Lecturer). l.row.code) w.lecturers ++ cs)) (sym student_codes) g.codes) in
    let lecturers_known = subst (λ ks. AllByRecursion (λ (p : ProjectRow). has ks p.lecturer ≡ true) w.projects)
    (sym lecturers) g.lecturers_known in
    let choices = all_map (λ (s : rows.Student). IsChoice keys s.choice) placed_before w.students
    (each_one _ (λ s. record { few = omega arith; known = tt; once = tt }) w.students) in
    let no_rankings_yet = all_map (λ (l : rows.Lecturer). l.ranking ≡ None) ranked_before w.lecturers
    (each_one _ (λ l. refl) w.lecturers) in
    let rankings = all_map (λ (l : rows.Lecturer). IfSome l.ranking
    (IsRanking (map student_key (applicants_of (opened First Published w) l.row.key)))) ranked_before w.lecturers
    (each_one _ (λ l. tt) w.lecturers) in
    let no_result_yet = all_map (λ (s : rows.Student). s.placed ≡ None) placed_before w.students (each_one _ (λ s. refl) w.students) in
    let only_left = all_map (λ (s : rows.Student). is_left s ≡ false → (s.choice ≡ []) × (s.placed ≡ None)) placed_before w.students
    (each_one _ (λ s h. (refl, refl)) w.students) in
    let no_choices_yet : false ≡ true → AllByRecursion (λ (s : rows.Student). s.choice ≡ []) (map placed_before w.students) = λ h. cc in
    let all_ranked : false ≡ true → AllByRecursion (λ l. is_still_to_rank (opened First Published w) l
    ≡ false) (map ranked_before w.lecturers) = λ h. cc in
    let no_earlier_lists : true ≡ false → AllByRecursion (λ (s : rows.Student). (s.earlier_choice ≡ [])
    × (s.earlier_placement ≡ None)) (map placed_before w.students) = λ h. cc in
    let no_earlier_rankings : true ≡ false → AllByRecursion (λ (l : rows.Lecturer). l.earlier_ranking
    ≡ None) (map ranked_before w.lecturers) = λ h. cc in
    assumption

pub opened_good : (w : World) → Good w → w.round ≡ First → w.phase ≡ Published → Good (opened First Published w)
opened_good w g one out =
    record {
      sound = opened_sound w g.sound;
      stable = λ h. cc;
      before = λ h. subst IsRound (sym (first_back w g.sound one out)) (record { sound = g.sound; stable = g.stable });
    }

-- where the first round is published the second opens
pub opens_to : (w : World) → w.round ≡ First → w.phase ≡ Published → changed w SecondRound ≡ opened First Published w
opens_to w one out = λ i. opened (one i) (out i) w

-- where keys rise, a key is of the one row that was found

pub rows_with : {X : Type 0} (key : X → Key) (p : X → Bool) (xs : List X) (a : X) → Rise (map key xs) → find p xs ≡ Some a
    → AllByRecursion (λ x. key x ≡ key a → x ≡ a) xs
rows_with key p [] a rise e = cc
rows_with {X} key p (x ∷ xs) a rise e =
    let later : AllByRecursion (λ y. is_before (key x) (key y) ≡ true) xs = all_unmap (λ l. is_before (key x) l ≡ true) key xs rise.0 in
    (elim (p x) as (λ b. cond b (Some x) (find p xs) ≡ Some a → AllByRecursion (λ y. key y ≡ key a → y ≡ a) (x ∷ xs)) [
      | true ↦ λ f. let here : x ≡ a = cc in (
        λ same. here,
        all_weaker _ _ (λ y before same. absurd
            (not_before_itself (key x) (subst (λ l. is_before (key x) l ≡ true) (same ∙ sym (ap key here)) before))) xs later,
      )
      | false ↦ λ f. (
        λ same. absurd (not_before_itself (key x) (subst (λ l. is_before (key x) l ≡ true) (sym same) (found_all _ p xs a later f))),
        rows_with key p xs a rise.1 f,
      )
    ]) e

-- a student who is shown no project has none of the first round, and no other student has this key
pub alone_left : (w : World) (p : rows.Student → Bool) (s : rows.Student) → Sound w → find p w.students ≡ Some s
    → is_none (shown_placement w.phase s) ≡ true
    → AllByRecursion (λ t. equals t.row.key s.row.key ≡ true → is_left t ≡ true) w.students
alone_left w p s g found free =
    let left : is_left s ≡ true = grind arith in
    all_weaker _ _ (λ t one same. ap is_left (one (is_same t.row.key s.row.key same)) ∙ left) w.students
    (rows_with student_key p w.students s g.students_rise found)

-- no step of the second round changes the first

module _ (w v : World) (second : w.round ≡ Second) where
  -- an act that leaves the round and the first
  abbrev Keeps : AbstractCall → Decision → Type 0
  Keeps ask d = StepLeaves w d.act v → (v.round ≡ w.round) × (first v ≡ first w)

  stays : (x : Caller) (ask : AbstractCall) → Keeps ask (decision (sight_of w x) ask)
  stays x ask = grind (arith, second, first_chosen w, first_ranked w, first_filled w, first_kept w)

pub the_second : (r : Round) → is_second r ≡ true → r ≡ Second
the_second r e = grind arith

pub first_stays : (w v : World) (code : Key) (ask : AbstractCall) (reply : Answer) → is_second w.round ≡ true
    → Step w code ask reply v → (v.round ≡ w.round) × (first v ≡ first w)
first_stays w v code ask reply e s = stays w v (the_second w.round e) (caller w code) ask s.left
