-- One new row keeps the rows sound, and so does a whole roll.
use Rattle.portal_rules.proofs.Base.{◌≡◌, ℕ, ◌+◌, ◌≤◌, true, false, List, [], ◌∷◌, ◌++◌, length, refl, sym, ◌∙◌, ap}
use Rattle.portal_rules.proofs.Base.{subst, arith, append-nil, map, ◌||◌, None, AllByRecursion, or_parts, map-id, Key}
use Rattle.portal_rules.proofs.Base.{equals, has, AreDistinct, put, World, lecturer_key, project_key, student_key}
use Rattle.portal_rules.proofs.Base.{applicants_of, is_from_ranking, is_published, is_left, in_play, projects_in, First}
use Rattle.portal_rules.proofs.Base.{with_lecturers, with_projects, with_students, new_lecturer, new_student}
use Rattle.portal_rules.proofs.Base.{lecturer_keys, project_keys, Phase, LecturerRow, ProjectRow, StudentRow}
use Rattle.portal_rules.proofs.Base.{office_sees, Took, take_rows, lecturer_roll, project_roll, student_roll, Sound}
use Rattle.portal_rules.proofs.Base.{IsLecturer, IsProject, IsStudent, IsChoice, IsRanking, codes_of, is_second}
use Rattle.portal_rules.proofs.Base.{is_setup, is_still_to_rank, or_comm, not-false}
use Rattle.std.proofs.lemmas.Simd.{map-map}
use Rattle.portal_rules.specs.World as rows
use Rattle.portal_rules.proofs.Kept.{none_ranked}
use Rattle.portal_rules.proofs.AllLaws.{any_append, all_weaker, is_sym}
use Rattle.portal_rules.proofs.Puts.{all_put, length_put, rise_put, distinct_put, has_put}
use Rattle.portal_rules.proofs.Adds.{Alike, has_alike, taken}

-- before rankings nothing is published
pub open_phase : (phase : Phase) → is_from_ranking phase ≡ false → is_published phase ≡ false
open_phase phase e = grind arith

-- a key stands in either order or in none
has_swap : (xs ys : List Key) (k : Key) → has (xs ++ ys) k ≡ has (ys ++ xs) k
has_swap xs ys k = any_append (equals k) xs ys ∙ or_comm (has xs k) (has ys k) ∙ sym (any_append (equals k) ys xs)

distinct_between : (ys zs : List Key) (x : Key) → AreDistinct (ys ++ zs) → has (ys ++ zs) x ≡ false
    → AreDistinct (ys ++ x ∷ zs)
distinct_between [] zs x d new = (new, d)
distinct_between (y ∷ ys) zs x d new =
    let parts : (equals x y ≡ false) × (has (ys ++ zs) x ≡ false) = or_parts (equals x y) (has (ys ++ zs) x) new in
    let old : (has ys y ≡ false) × (has zs y ≡ false) = or_parts (has ys y) (has zs y) (sym (any_append (equals y) ys zs) ∙ d.0) in (
      any_append (equals y) ys (x ∷ zs) ∙ ap (λ b. b || (equals y x || has zs y)) old.0 ∙ ap (λ b. b || has zs y) (is_sym y x ∙ parts.0)
          ∙ old.1,
      distinct_between ys zs x d.1 parts.1,
    )

-- codes that differ do so in any order
distinct_swap : (xs ys : List Key) → AreDistinct (xs ++ ys) → AreDistinct (ys ++ xs)
distinct_swap [] ys d = rw append-nil d
distinct_swap (x ∷ xs) ys d = distinct_between ys xs x (distinct_swap xs ys d.1) (sym (has_swap xs ys x) ∙ d.0)

-- what a list of keys has, it has with one more
still_has : {X : Type 0} (key : X → Key) (x : X) (ys : List X) (k : Key) → has (map key ys) k ≡ true
    → has (map key (put key x ys)) k ≡ true
still_has key x ys k h = grind (arith, has_put key x key ys k)

module _ (w : World) (early : is_from_ranking w.phase ≡ false) (one : w.round ≡ First) where
  -- in the first round each project takes part
  all_take_part : (ls : List rows.Lecturer) (ps : List ProjectRow) (ss : List rows.Student)
      → project_keys (in_play (record w { lecturers = ls; projects = ps; students = ss })) ≡ map project_key ps
  all_take_part ls ps ss = λ i. map project_key (projects_in (one i) ls ps ss)

  put_student : (ss : List rows.Student) (r : StudentRow) → Sound (record w { students = ss }) → IsStudent r
      → has (map student_key ss) r.key ≡ false
      → (student_roll (office_sees w)).is_bad (map (λ (s : rows.Student). s.row) ss) r ≡ false → length ss + 1 ≤ 2000
      → Sound (record w { students = put student_key (new_student r) ss })
  put_student ss r g form key free room =
      let code : has (codes_of (record w { students = ss })) r.code ≡ false
      = subst (λ ls. has (w.office ∷ ls ++ map (λ (s : rows.Student). s.row.code) ss) r.code ≡ false)
      (map-map (λ (r : LecturerRow). r.code) (λ (l : rows.Lecturer). l.row) w.lecturers)
      (subst (λ cs. has (w.office ∷ map (λ (l : LecturerRow). l.code) (map (λ (l : rows.Lecturer). l.row) w.lecturers) ++ cs) r.code
      ≡ false) (map-map (λ (r : StudentRow). r.code) (λ (s : rows.Student). s.row) ss) free) in
      let students_rise = rise_put student_key (new_student r) ss g.students_rise key in
      let student_forms = all_put student_key (new_student r) (λ s. IsStudent s.row) ss form g.student_forms in
      let few_students : length (put student_key (new_student r) ss) ≤ 2000 = omega (arith, length_put student_key (new_student r) ss) in
      let apart = distinct_put student_key (new_student r) (λ s. s.row.code)
      (w.office ∷ map (λ (l : rows.Lecturer). l.row.code) w.lecturers) ss g.codes code in
      let choices = subst (λ ks. AllByRecursion (λ (s : rows.Student). IsChoice ks s.choice) (put student_key (new_student r) ss))
      (sym (all_take_part w.lecturers w.projects (put student_key (new_student r) ss)))
      (all_put student_key (new_student r) (λ s. IsChoice (project_keys w) s.choice) ss
      (record { few = omega arith; known = tt; once = tt })
      (subst (λ ks. AllByRecursion (λ (s : rows.Student). IsChoice ks s.choice) ss) (all_take_part w.lecturers w.projects ss) g.choices)) in
      let no_choices_yet : is_setup w.phase ≡ true
      → AllByRecursion (λ (s : rows.Student). s.choice ≡ []) (put student_key (new_student r) ss) =
      λ h. all_put student_key (new_student r) _ ss refl (g.no_choices_yet h) in
      let rankings = none_ranked (λ l. IsRanking
      (map student_key (applicants_of (record w { students = put student_key (new_student r) ss }) l.row.key))) w.lecturers
      (g.no_rankings_yet early) in
      let no_result_yet : is_published w.phase ≡ false
      → AllByRecursion (λ (s : rows.Student). s.placed ≡ None) (put student_key (new_student r) ss) =
      λ h. all_put student_key (new_student r) _ ss refl (g.no_result_yet h) in
      let shut : is_published w.phase ≡ false = open_phase w.phase early in
      let all_ranked : is_published w.phase ≡ true
      → AllByRecursion (λ l. is_still_to_rank (record w { students = put student_key (new_student r) ss }) l ≡ false) w.lecturers =
      λ h. cc in
      let no_earlier_lists : is_second w.round ≡ false
      → AllByRecursion (λ (s : rows.Student). (s.earlier_choice ≡ []) × (s.earlier_placement ≡ None))
      (put student_key (new_student r) ss)
      = λ h. all_put student_key (new_student r) _ ss (refl, refl) (g.no_earlier_lists h) in
      let only_left = all_put student_key (new_student r) (λ s. is_left s ≡ false → (s.choice ≡ []) × (s.placed ≡ None)) ss
      (λ h. (refl, refl)) g.only_left in
      assumption

  put_lecturer : (ls : List rows.Lecturer) (r : LecturerRow) → Sound (record w { lecturers = ls }) → IsLecturer r
      → has (map lecturer_key ls) r.key ≡ false
      → (lecturer_roll (office_sees w)).is_bad (map (λ (l : rows.Lecturer). l.row) ls) r ≡ false → length ls + 1 ≤ 300
      → Sound (record w { lecturers = put lecturer_key (new_lecturer r) ls })
  put_lecturer ls r g form key free room =
      let ss : List Key = map (λ (s : rows.Student). s.row.code) w.students in
      let code : has (w.office ∷ ss ++ map (λ (l : rows.Lecturer). l.row.code) ls) r.code ≡ false
      = subst (λ cs. has (w.office ∷ cs ++ map (λ (l : rows.Lecturer). l.row.code) ls) r.code ≡ false)
      (map-map (λ (r : StudentRow). r.code) (λ (s : rows.Student). s.row) w.students)
      (subst (λ cs. has (w.office ∷ map (λ (s : StudentRow). s.code) (map (λ (s : rows.Student). s.row) w.students) ++ cs) r.code ≡ false)
      (map-map (λ (r : LecturerRow). r.code) (λ (l : rows.Lecturer). l.row) ls) free) in
      let turned : AreDistinct (w.office ∷ ss ++ map (λ (l : rows.Lecturer). l.row.code) ls)
      = (
        has_swap ss (map (λ (l : rows.Lecturer). l.row.code) ls) w.office
            ∙ g.codes.0,
        distinct_swap (map (λ (l : rows.Lecturer). l.row.code) ls) ss g.codes.1,
      ) in
      let more : AreDistinct (w.office ∷ ss ++ map (λ (l : rows.Lecturer). l.row.code) (put lecturer_key (new_lecturer r) ls))
      = distinct_put lecturer_key (new_lecturer r) (λ l. l.row.code) (w.office ∷ ss) ls turned code in
      let lecturers_rise = rise_put lecturer_key (new_lecturer r) ls g.lecturers_rise key in
      let lecturer_forms = all_put lecturer_key (new_lecturer r) (λ l. IsLecturer l.row) ls form g.lecturer_forms in
      let few_lecturers : length (put lecturer_key (new_lecturer r) ls) ≤ 300 =
      omega (arith, length_put lecturer_key (new_lecturer r) ls) in
      let apart : AreDistinct (codes_of (record w { lecturers = put lecturer_key (new_lecturer r) ls }))
      = (
        has_swap (map (λ (l : rows.Lecturer). l.row.code) (put lecturer_key (new_lecturer r) ls)) ss w.office
            ∙ more.0,
        distinct_swap ss (map (λ (l : rows.Lecturer). l.row.code) (put lecturer_key (new_lecturer r) ls)) more.1,
      ) in
      let lecturers_known : AllByRecursion (λ (p : ProjectRow). has (map lecturer_key (put lecturer_key (new_lecturer r) ls)) p.lecturer
      ≡ true) w.projects
      = all_weaker _ _ (λ p h. still_has lecturer_key (new_lecturer r) ls p.lecturer h) w.projects g.lecturers_known in
      let choices = subst (λ ks. AllByRecursion (λ (s : rows.Student). IsChoice ks s.choice) w.students)
      (all_take_part ls w.projects w.students ∙ sym (all_take_part (put lecturer_key (new_lecturer r) ls) w.projects w.students))
      g.choices in
      let no_rankings_yet : is_from_ranking w.phase ≡ false
      → AllByRecursion (λ l. l.ranking ≡ None) (put lecturer_key (new_lecturer r) ls) =
      λ h. all_put lecturer_key (new_lecturer r) _ ls refl (g.no_rankings_yet h) in
      let rankings = none_ranked (λ l. IsRanking
      (map student_key (applicants_of (record w { lecturers = put lecturer_key (new_lecturer r) ls }) l.row.key)))
      (put lecturer_key (new_lecturer r) ls) (no_rankings_yet early) in
      let shut : is_published w.phase ≡ false = open_phase w.phase early in
      let all_ranked : is_published w.phase ≡ true
      → AllByRecursion (λ l. is_still_to_rank (record w { lecturers = put lecturer_key (new_lecturer r) ls }) l
      ≡ false) (put lecturer_key (new_lecturer r) ls) = λ h. cc in
      let no_earlier_rankings : is_second w.round ≡ false
      → AllByRecursion (λ (l : rows.Lecturer). l.earlier_ranking ≡ None) (put lecturer_key (new_lecturer r) ls) =
      λ h. all_put lecturer_key (new_lecturer r) _ ls refl (g.no_earlier_rankings h) in
      assumption

  put_project : (ps : List ProjectRow) (r : ProjectRow) → Sound (record w { projects = ps }) → IsProject r
      → has (map project_key ps) r.key ≡ false
      → (project_roll (office_sees w)).is_bad (map (λ (p : ProjectRow). p) ps) r ≡ false → length ps + 1 ≤ 1000
      → Sound (record w { projects = put project_key r ps })
  put_project ps r g form key free room =
      let known : has (lecturer_keys w) r.lecturer ≡ true
      = subst (λ ks. has ks r.lecturer ≡ true) (map-map (λ (r : LecturerRow). r.key) (λ (l : rows.Lecturer). l.row) w.lecturers)
      (not-false _ free) in
      let projects_rise = rise_put project_key r ps g.projects_rise key in
      let project_forms = all_put project_key r IsProject ps form g.project_forms in
      let few_projects : length (put project_key r ps) ≤ 1000 = omega (arith, length_put project_key r ps) in
      let lecturers_known = all_put project_key r (λ p. has (lecturer_keys w) p.lecturer ≡ true) ps known g.lecturers_known in
      let choices = subst (λ ks. AllByRecursion (λ (s : rows.Student). IsChoice ks s.choice) w.students)
      (sym (all_take_part w.lecturers (put project_key r ps) w.students))
      (all_weaker _ _ (λ s c. record {
        few = c.few;
        known = all_weaker _ _ (λ p h. still_has project_key r ps p h) s.choice c.known;
        once = c.once;
      }) w.students
      (subst (λ ks. AllByRecursion (λ (s : rows.Student). IsChoice ks s.choice) w.students)
      (all_take_part w.lecturers ps w.students) g.choices)) in
      let rankings = none_ranked (λ l. IsRanking (map student_key (applicants_of (record w { projects = put project_key r ps }) l.row.key)))
      w.lecturers (g.no_rankings_yet early) in
      let shut : is_published w.phase ≡ false = open_phase w.phase early in
      let all_ranked : is_published w.phase ≡ true
      → AllByRecursion (λ l. is_still_to_rank (record w { projects = put project_key r ps }) l ≡ false) w.lecturers = λ h. cc in
      assumption

  itself : {X : Type 0} (xs : List X) → Alike xs xs
  itself xs = record { tests = λ p. refl; long = refl }

  pub students_added : (rs new : List StudentRow) (same : ℕ) → Sound w → AllByRecursion IsStudent rs
      → take_rows (student_roll (office_sees w)) 1 (office_sees w).students rs ≡ Took new same
      → Sound (with_students w new)
  students_added rs new same g forms e =
      taken (student_roll (office_sees w)) (λ s. s.row) new_student (λ r. refl) IsStudent (λ ss. Sound (record w { students = ss }))
      (λ xs ys r al. has_alike (λ (s : StudentRow). s.code)
      (w.office ∷ map (λ (l : LecturerRow). l.code) (office_sees w).lecturers) xs ys r.code al)
      put_student rs 1 (office_sees w).students w.students new same g (itself _) forms e

  pub lecturers_added : (rs new : List LecturerRow) (same : ℕ) → Sound w → AllByRecursion IsLecturer rs
      → take_rows (lecturer_roll (office_sees w)) 1 (office_sees w).lecturers rs ≡ Took new same
      → Sound (with_lecturers w new)
  lecturers_added rs new same g forms e =
      taken (lecturer_roll (office_sees w)) (λ l. l.row) new_lecturer (λ r. refl) IsLecturer (λ ls. Sound (record w { lecturers = ls }))
      (λ xs ys r al. has_alike (λ (l : LecturerRow). l.code)
      (w.office ∷ map (λ (s : StudentRow). s.code) (office_sees w).students) xs ys r.code al)
      put_lecturer rs 1 (office_sees w).lecturers w.lecturers new same g (itself _) forms e

  pub projects_added : (rs new : List ProjectRow) (same : ℕ) → Sound w → AllByRecursion IsProject rs
      → take_rows (project_roll (office_sees w)) 1 (office_sees w).projects rs ≡ Took new same
      → Sound (with_projects w new)
  projects_added rs new same g forms e =
      subst (λ ps. Sound (with_projects w ps)) (map-id new)
      (taken (project_roll (office_sees w)) (λ p. p) (λ p. p) (λ r. refl) IsProject (λ ps. Sound (record w { projects = ps }))
      (λ xs ys r al. refl)
      put_project rs 1 (office_sees w).projects w.projects new same g
      (subst (λ ps. Alike w.projects ps) (sym (map-id w.projects)) (itself w.projects)) forms e)
