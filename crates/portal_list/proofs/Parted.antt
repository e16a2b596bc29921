-- A world is sound exactly where its parts fit, and its rows say which world it is.
use Rattle.portal_list.proofs.Base.{◌≡◌, true, false, List, [], ◌∷◌, ◌++◌, map, refl, sym, ◌∙◌, ap, subst, arith}
use Rattle.portal_list.proofs.Base.{Option, Some, None, is_none, option_map, not, ◌&&◌, filter, AllByRecursion}
use Rattle.portal_list.proofs.Base.{length-map, Key, has, is_empty, Rise, AreDistinct, World, Lecturer, Student}
use Rattle.portal_list.proofs.Base.{project_key, student_key, projects_of, applicants_of, is_still_to_rank}
use Rattle.portal_list.proofs.Base.{is_from_ranking, is_second, is_published, Round, Sound, IsLecturer, IsStudent}
use Rattle.portal_list.proofs.Base.{lecturer_keys, student_keys, all_unmap, IsFitted, lecturers_fitting}
use Rattle.portal_list.proofs.Base.{students_fitting, applicant_keys, HasRanking, RollsOf, ListsOf, rules, first}
use Rattle.portal_list.proofs.Base.{codes_of, RowsOfWorld, world_rows, codes_in, lecturer_row_keys, student_row_keys}
use Rattle.portal_list.proofs.Base.{RollsFit, HasNothingEarlier, IsOutIfPlaced}
use Rattle.portal_rules.specs.World.{is_setup}
use Rattle.portal_rules.specs.declared.phase.Phase.{Phase}
use Rattle.portal_list.specs.inner.Parts.{StudentFits, LecturerFits}
use Rattle.portal_rules.proofs.AllLaws as laws
use Rattle.portal_list.proofs.Rising.{map_map}
use Rattle.portal_list.proofs.Fitting.{lecturers_back, lecturers_rows, students_back, students_rows}

lecturer_keys_are : (w : World) → lecturer_row_keys (world_rows w).lecturers ≡ lecturer_keys w
lecturer_keys_are w = map_map (λ r. r.key) (λ l. l.row) w.lecturers

student_keys_are : (w : World) → student_row_keys (world_rows w).students ≡ student_keys w
student_keys_are w = map_map (λ r. r.key) (λ s. s.row) w.students

codes_are : (w : World) → codes_in w.office (world_rows w).lecturers (world_rows w).students ≡ codes_of w
codes_are w = λ i. w.office ∷ map_map (λ r. r.code) (λ l. l.row) w.lecturers i ++ map_map (λ r. r.code) (λ s. s.row) w.students i

pub applicants_are : (w : World) (l : Key)
    → applicant_keys w.projects w.students l ≡ map student_key (applicants_of w l)
applicants_are w l = λ i. map student_key (filter (λ s. laws.any_map (λ p. has s.choice p) project_key (projects_of w l) i) w.students)

still : (xs : List Student) (o : Option (List Key)) → (not (is_empty xs) && is_none o) ≡ false → o ≡ None
    → map student_key xs ≡ []
still [] o e n = refl
still (x ∷ xs) None e n = cc
still (x ∷ xs) (Some r) e n = cc

not_still : (xs : List Student) (o : Option (List Key)) → (o ≡ None → map student_key xs ≡ [])
    → (not (is_empty xs) && is_none o) ≡ false
not_still [] o f = refl
not_still (x ∷ xs) None f = let e : map student_key (x ∷ xs) ≡ [] = f refl in cc
not_still (x ∷ xs) (Some r) f = refl

all_under : {X A : Type 0} (P : X → Type 0) (xs : List X) → (A → AllByRecursion P xs) → AllByRecursion (λ x. A → P x) xs
all_under P [] f = tt
all_under P (x ∷ xs) f = (λ a. (f a).0, all_under P xs (λ a. (f a).1))

students_fit : (phase : Phase) (round : Round) (ss : List Student)
    → (is_setup phase ≡ true → AllByRecursion (λ s. s.choice ≡ []) ss)
    → (is_published phase ≡ false → AllByRecursion (λ s. s.placed ≡ None) ss)
    → (is_second round ≡ false → AllByRecursion HasNothingEarlier ss) → AllByRecursion IsOutIfPlaced ss
    → AllByRecursion (StudentFits phase round) ss
students_fit phase round [] a b c d = tt
students_fit phase round (s ∷ ss) a b c d = (
  record { no_choice_yet = λ e. (a e).0; no_result_yet = λ e. (b e).0; nothing_earlier = λ e. (c e).0; out_if_placed = d.0 },
  students_fit phase round ss (λ e. (a e).1) (λ e. (b e).1) (λ e. (c e).1) d.1,
)

lecturers_fit : (phase : Phase) (round : Round) (ls : List Lecturer)
    → (is_from_ranking phase ≡ false → AllByRecursion (λ l. l.ranking ≡ None) ls)
    → (is_second round ≡ false → AllByRecursion (λ l. l.earlier_ranking ≡ None) ls)
    → AllByRecursion (LecturerFits phase round) ls
lecturers_fit phase round [] a b = tt
lecturers_fit phase round (l ∷ ls) a b = (
  record { no_ranking_yet = λ e. (a e).0; no_earlier_ranking = λ e. (b e).0 },
  lecturers_fit phase round ls (λ e. (a e).1) (λ e. (b e).1),
)

module _ (w : World) where
  pub rolls_of : Sound w → RollsOf w
  rolls_of sound =
      let codes : AreDistinct (codes_in w.office (world_rows w).lecturers (world_rows w).students) =
      subst AreDistinct (sym (codes_are w)) sound.codes in
      search (rules, lecturer_keys_are, student_keys_are, length-map, laws.all_map)

  ranked : Sound w
      → AllByRecursion (λ l. HasRanking (is_published w.phase) (applicant_keys w.projects w.students l.row.key) l.ranking) w.lecturers
  ranked sound =
      laws.all_weaker _ (λ l. HasRanking (is_published w.phase) (applicant_keys w.projects w.students l.row.key) l.ranking)
      (λ l h. subst (λ keys. HasRanking (is_published w.phase) keys l.ranking) (sym (applicants_are w l.row.key)) (record {
        whole = h.0;
        there = λ asked none. still (applicants_of w l.row.key) l.ranking (h.1 asked) none;
      })) w.lecturers
      (laws.all_both _ (λ l. is_published w.phase ≡ true → is_still_to_rank w l ≡ false) w.lecturers sound.rankings
      (all_under (λ l. is_still_to_rank w l ≡ false) w.lecturers sound.all_ranked))

  pub lists_of : Sound w → ListsOf w
  lists_of sound = record {
    entries_fit = record {
      no_second_setup = sound.no_second_setup;
      students_fit = students_fit w.phase w.round w.students sound.no_choices_yet sound.no_result_yet
          sound.no_earlier_lists sound.only_left;
      lecturers_fit = lecturers_fit w.phase w.round w.lecturers sound.no_rankings_yet sound.no_earlier_rankings;
    };
    choices = sound.choices;
    rankings = ranked sound;
  }

  meant : (l : Lecturer) → HasRanking (is_published w.phase) (applicant_keys w.projects w.students l.row.key) l.ranking
      → HasRanking (is_published w.phase) (map student_key (applicants_of w l.row.key)) l.ranking
  meant l h = subst (λ keys. HasRanking (is_published w.phase) keys l.ranking) (applicants_are w l.row.key) h

  pub sound_of : RollsOf w → ListsOf w → Sound w
  sound_of rolls lists = record {
    lecturers_rise = subst Rise (lecturer_keys_are w) rolls.rise.lecturers_rise;
    projects_rise = rolls.rise.projects_rise;
    students_rise = subst Rise (student_keys_are w) rolls.rise.students_rise;
    lecturer_forms = all_unmap IsLecturer (λ l. l.row) w.lecturers rolls.lecturer_forms;
    project_forms = rolls.project_forms;
    student_forms = all_unmap IsStudent (λ s. s.row) w.students rolls.student_forms;
    office_form = rolls.office_form;
    few_lecturers = omega (arith, length-map w.lecturers (λ l. l.row), rolls.few.few_lecturers);
    few_projects = rolls.few.few_projects;
    few_students = omega (arith, length-map w.students (λ s. s.row), rolls.few.few_students);
    codes = subst AreDistinct (codes_are w) rolls.codes;
    lecturers_known = subst (λ keys. AllByRecursion (λ p. has keys p.lecturer ≡ true) w.projects)
        (lecturer_keys_are w) rolls.lecturers_known;
    choices = lists.choices;
    no_choices_yet = λ e. laws.all_weaker _ _ (λ s h. h.no_choice_yet e) w.students lists.entries_fit.students_fit;
    no_rankings_yet = λ e. laws.all_weaker _ _ (λ l h. h.no_ranking_yet e) w.lecturers lists.entries_fit.lecturers_fit;
    rankings = laws.all_weaker _ _ (λ l h. (meant l h).whole) w.lecturers lists.rankings;
    no_result_yet = λ e. laws.all_weaker _ _ (λ s h. h.no_result_yet e) w.students lists.entries_fit.students_fit;
    all_ranked = λ asked. laws.all_weaker _ _
        (λ l h. not_still (applicants_of w l.row.key) l.ranking (λ none. (meant l h).there asked none)) w.lecturers lists.rankings;
    no_earlier_lists = λ e. laws.all_weaker _ _ (λ s h. h.nothing_earlier e) w.students lists.entries_fit.students_fit;
    no_earlier_rankings = λ e. laws.all_weaker _ _ (λ l h. h.no_earlier_ranking e) w.lecturers lists.entries_fit.lecturers_fit;
    no_second_setup = lists.entries_fit.no_second_setup;
    only_left = laws.all_weaker _ _ (λ s h. h.out_if_placed) w.students lists.entries_fit.students_fit;
  }

  -- the rolls of the first round are the same
  pub rolls_first : Sound w → RollsOf (first w)
  rolls_first sound = search (rules, map_map, rolls_of)

module _ (rows : RowsOfWorld) where
  abbrev lecturers_from : Option (List Lecturer)
  lecturers_from = lecturers_fitting rows.lecturers rows.rankings rows.earlier_rankings

  abbrev students_from : Option (List Student)
  students_from = students_fitting rows.round rows.students rows.choices rows.pairs rows.earlier_choices rows.earlier_pairs

  -- the entries of a sound world come again
  pub lecturers_of_sound : (w : World) → rows ≡ world_rows w → Sound w → lecturers_from ≡ Some w.lecturers
  lecturers_of_sound w e sound = ap (λ r. lecturers_fitting r.lecturers r.rankings r.earlier_rankings) e
      ∙ lecturers_back w.lecturers sound.lecturers_rise

  pub students_of_sound : (w : World) → rows ≡ world_rows w → Sound w → students_from ≡ Some w.students
  students_of_sound w e sound = search (rules, students_back)

  module _ (ls : List Lecturer) (ss : List Student) (lecturers : lecturers_from ≡ Some ls) (students : students_from ≡ Some ss) where
    module _ (w : World) (e : rows ≡ world_rows w) (sound : Sound w) where
      same_lecturers : w.lecturers ≡ ls
      same_lecturers = let l : Some w.lecturers ≡ Some ls = sym (lecturers_of_sound w e sound) ∙ lecturers in cc

      same_students : w.students ≡ ss
      same_students = let s : Some w.students ≡ Some ss = sym (students_of_sound w e sound) ∙ students in cc

    pub fitted_rows : IsFitted rows (record {
      round = rows.round;
      phase = rows.phase;
      office = rows.office;
      lecturers = ls;
      projects = rows.projects;
      students = ss;
    })
    fitted_rows = search (rules, lecturers_rows, students_rows, same_lecturers, same_students)

  -- no sound world has rows whose rolls, or whose lists, don't fit
  pub rolls_tell : (RollsFit rows.office rows.lecturers rows.projects rows.students → ⊥) → (w : World)
      → rows ≡ world_rows w → Sound w → ⊥
  rolls_tell unfit w e sound = unfit (subst (λ r. RollsFit r.office r.lecturers r.projects r.students) (sym e) (rolls_of w sound))

  module _ (v : World) (fitted : IsFitted rows v) where
    pub rolls_kept : RollsFit rows.office rows.lecturers rows.projects rows.students → RollsOf v
    rolls_kept rolls = subst (λ r. RollsFit r.office r.lecturers r.projects r.students) fitted.rows_are rolls

    pub sound_tells : (Sound v → ⊥) → (w : World) → rows ≡ world_rows w → Sound w → ⊥
    sound_tells unsound w e sound = unsound (subst Sound (sym (fitted.once w e sound)) sound)

pub nothing_made : {X Y : Type 0} (f : X → Y) (o : Option X) (y : Y) → o ≡ None → option_map f o ≡ Some y → ⊥
nothing_made f None y e h = cc
nothing_made f (Some x) y e h = cc
