-- The numbered rows of good lines are a lawful instance, which stands for the lines.
use Rattle.spa_model.proofs.Base.{◌≡◌, ◌⊎◌, inl, inr, ℕ, ◌<◌, ◌≤◌, true, eqb, List, [], ◌∷◌, length, get_or, map, None}
use Rattle.spa_model.proofs.Base.{Any, refl, sym, ◌∙◌, ap, subst, arith, AllZip, cases_lt, cases_Bool, eqb-true, eq-eqb}
use Rattle.spa_model.proofs.Base.{get_or_default, get_or_past, length-map, Any-from_list_any, AllZip-long, Text, Rows}
use Rattle.spa_model.proofs.Base.{HasNoneBefore, Repeats, NotApplicant, ApplicantMissing, Memory, at_place, map_at}
use Rattle.spa_model.proofs.Base.{Student, Project, Lecturer, Spa, place, IsOn, IsDistinct, IsLawful, capacity_of}
use Rattle.spa_model.proofs.Base.{limit_of, HasKey, keys_at, StandsFor, StandsStudent, StandsProject, StandsLecturer}
use Rattle.spa_model.proofs.Base.{keys_of_students, keys_of_projects, keys_of_lecturers, AreNumbers, IsStudentOf}
use Rattle.spa_model.proofs.Base.{IsProjectOf}
use Rattle.spa_model.proofs.Base.{IsLecturerOf, choices_at, lecturer_of_row, row_at, rank_at, Finds, MissesBelow, rules}
use Rattle.spa_model.proofs.Base.{list_any, list_any-from_Any, longest_choice, most_places}
use Rattle.spa_rows.specs.Lines
use Rattle.spa_model.specs.inner.Inside.{spa_of, AreRanks, HaveRanks}
use Rattle.spa_model.proofs.Places.{get_or-place, place-get_or-le}
use Rattle.spa_model.proofs.Keys.{one_number, key_number}
use Rattle.spa_model.proofs.Zips.{zip_at, zip_maps, zip_weaker, zip_all}
use Rattle.spa_model.proofs.Ranks.{distinct_numbers}
use Rattle.spa_model.proofs.Good.{AreGood}
use Rattle.spa_model.proofs.Numbered.{AreNumbered}
use Rattle.spa_model.proofs.Numbered
use Rattle.spa_model.proofs.Missing

-- the keys of a list's numbers are its texts
keys_same : (keys texts : List Text) (numbers : List ℕ) → AreNumbers keys texts numbers → keys_at keys numbers ≡ texts
keys_same keys [] [] h = refl
keys_same keys [] (n ∷ ns) h = absurd h
keys_same keys (t ∷ ts) [] h = absurd h
keys_same keys (t ∷ ts) (n ∷ ns) h = let here : get_or keys n [] ≡ t = h.0.1 in
    let rest : keys_at keys ns ≡ ts = keys_same keys ts ns h.1 in cc

-- on the list, at its place
on_at : (list : List ℕ) (p : ℕ) → IsOn list p → get_or list (place list p) p ≡ p
on_at list p on = get_or-place list p p on

pub at_on : (list : List ℕ) (k p : ℕ) → k < length list → get_or list k p ≡ p → IsOn list p
at_on list k p h at = let low : place list (get_or list k p) ≤ k = place-get_or-le list k p h in omega (arith, ap (place list) at)

-- one of the numbers passes, or none does
any_or_none : (f : ℕ → ℕ) (l : ℕ) (list : List ℕ) → Any (λ p. f p ≡ l) list ⊎ (Any (λ p. f p ≡ l) list → ⊥)
any_or_none f l list = elim (cases_Bool (list_any (λ p. eqb (f p) l) list)) [
  | inl pass ↦ let any = Any-from_list_any (λ p. eqb (f p) l) list pass in inl (any.0, any.1, any.2, any.3, eqb-true (f any.1) l any.4)
  | inr fail ↦ inr (λ any. let pass : list_any (λ p. eqb (f p) l) list
      ≡ true = list_any-from_Any (λ p. eqb (f p) l) list (any.0, any.1, any.2, any.3, eq-eqb (f any.1) l any.4) in cc)
]

empty_distinct : IsDistinct []
empty_distinct i j d less h = absurd (omega arith)

module _ (rows : Rows) (students : List Student) (projects : List Project) (lecturers : List Lecturer) (good : AreGood rows)
    (so : AreNumbered rows students projects) (lists : AllZip (IsLecturerOf (keys_of_students rows.students)) rows.lecturers lecturers)
    (faultless : HasNoneBefore rows Memory) where
  no_other : (r : ℕ) → Numbered.OthersAt rows students projects so r → ⊥
  no_other r other = faultless NotApplicant (omega arith) r (Numbered.others_fault rows students projects so r other)

  no_missing : (r : ℕ) → MissesBelow rows.lecturers lecturers projects students (length students) r → ⊥
  no_missing r missing = faultless ApplicantMissing (omega arith) r
      (Missing.misses_fault rows students projects lecturers so lists r missing)

  abbrev built : Spa
  built = spa_of students projects lecturers

  module _ where
    n_students : length students ≡ length rows.students
    n_students = Numbered.student_count rows students projects so

    n_projects : length projects ≡ length rows.projects
    n_projects = Numbered.project_count rows students projects so

    n_lecturers : length lecturers ≡ length rows.lecturers
    n_lecturers = Missing.lecturer_count rows students projects lecturers so lists

    student_column : map (λ s. s.key) students ≡ keys_of_students rows.students
    student_column = zip_maps (λ x. x.key) (λ s. s.key) rows.students students
        (zip_weaker (IsStudentOf (keys_of_projects rows.projects)) (λ x s. s.key ≡ x.key) rows.students students
        (λ x s is. is.key) so.choices)

    project_column : map (λ p. p.key) projects ≡ keys_of_projects rows.projects
    project_column = zip_maps (λ x. x.key) (λ p. p.key) rows.projects projects
        (zip_weaker (IsProjectOf (keys_of_lecturers rows.lecturers)) (λ x p. p.key ≡ x.key) rows.projects projects
        (λ x p is. is.key) so.offers)

    lecturer_column : map (λ l. l.key) lecturers ≡ keys_of_lecturers rows.lecturers
    lecturer_column = zip_maps (λ x. x.key) (λ l. l.key) rows.lecturers lecturers
        (zip_weaker (IsLecturerOf (keys_of_students rows.students)) (λ x l. l.key ≡ x.key) rows.lecturers lecturers
        (λ x l is. is.key) lists)

    capacity_column : map (λ p. p.capacity) projects ≡ map (λ x. x.capacity) rows.projects
    capacity_column = zip_maps (λ x. x.capacity) (λ p. p.capacity) rows.projects projects
        (zip_weaker (IsProjectOf (keys_of_lecturers rows.lecturers)) (λ x p. p.capacity ≡ x.capacity) rows.projects projects
        (λ x p is. is.capacity) so.offers)

    limit_column : map (λ l. l.capacity) lecturers ≡ map (λ x. x.capacity) rows.lecturers
    limit_column = zip_maps (λ x. x.capacity) (λ l. l.capacity) rows.lecturers lecturers
        (zip_weaker (IsLecturerOf (keys_of_students rows.students)) (λ x l. l.capacity ≡ x.capacity) rows.lecturers lecturers
        (λ x l is. is.capacity) lists)

    abbrev ranking_at : ℕ → List ℕ
    ranking_at l = get_or (map (λ z. z.ranking.items) lecturers) l []

    ranking_here : (l : ℕ) (y : Lines.LecturerWithList) → l < length rows.lecturers → get_or rows.lecturers l y ≡ y
        → AreNumbers (keys_of_students rows.students) y.list (ranking_at l)
    ranking_here l y h at =
        let z = Missing.row_of rows students projects lecturers so lists l y h at in
        rw (map_at (λ w. w.ranking.items) lecturers l z.0 [] (omega (arith, n_lecturers)) z.1) z.2.ranking

    -- who has choices is there
    choices_there : (s p : ℕ) → IsOn (choices_at students s) p → s < length rows.students
    choices_there s p on = search (rules, get_or_past, length-map, n_students)

    ranking_there : (l s : ℕ) → IsOn (ranking_at l) s → l < length rows.lecturers
    ranking_there l s on = search (rules, get_or_past, length-map, n_lecturers)

    known : (s p : ℕ) → IsOn (choices_at students s) p → p < length rows.projects
    known s p on =
        let low : s < length rows.students = choices_there s p on in
        let x = at_place rows.students s low in
        Numbered.choice_known rows students projects so s (place (choices_at students s) p) p x.0 low x.1 on
        (on_at (choices_at students s) p on)

    ranks_there : (s p : ℕ) → IsOn (choices_at students s) p → IsOn (ranking_at (lecturer_of_row projects p)) s
    ranks_there s p on = elim (cases_lt (place (ranking_at (lecturer_of_row projects p)) s)
        (length (ranking_at (lecturer_of_row projects p)))) [
          | inl there ↦ there
          | inr past ↦
              let l : ℕ = lecturer_of_row projects p in
              let low : s < length rows.students = choices_there s p on in
              let l_low : l < length rows.lecturers = Numbered.lecturer_known rows students projects so p (known s p on) in
              let y = at_place rows.lecturers l l_low in
              let z = Missing.row_of rows students projects lecturers so lists l y.0 l_low y.1 in
              let here : ranking_at l ≡ z.0.ranking.items =
              map_at (λ w. w.ranking.items) lecturers l z.0 [] (omega (arith, n_lecturers)) z.1 in
              let off : IsOn z.0.ranking.items s → ⊥ = λ there. absurd (omega (arith, subst (λ list. IsOn list s) (sym here) there)) in
              let none : rank_at lecturers l s ≡ None =
              Missing.rank_is rows students projects lecturers so lists l y.0 z.0 s l_low z.1 z.2 low
              ∙ Missing.unranked z.0.ranking.items s off in
              absurd (no_missing (row_at rows.lecturers l)
              (s, omega (arith, n_students), (place (choices_at students s) p, p, on, on, on_at (choices_at students s) p on, refl, none)))
        ]

    applies : (l s : ℕ) → IsOn (ranking_at l) s
        → (p : ℕ) × IsOn (choices_at students s) p × (lecturer_of_row projects p ≡ l)
    applies l s on =
        let low : l < length rows.lecturers = ranking_there l s on in
        let y = at_place rows.lecturers l low in
        let zip : AreNumbers (keys_of_students rows.students) y.0.list (ranking_at l) = ranking_here l y.0 low y.1 in
        let size : length (ranking_at l) ≡ length y.0.list =
        AllZip-long (λ t n. HasKey (keys_of_students rows.students) n t) y.0.list (ranking_at l) zip in
        let i : ℕ = place (ranking_at l) s in
        let text = at_place y.0.list i (omega arith) in
        let mine : HasKey (keys_of_students rows.students) (get_or (ranking_at l) i s) (get_or y.0.list i text.0) =
        zip_at (λ t n. HasKey (keys_of_students rows.students) n t) y.0.list (ranking_at l) i text.0 s (omega arith) zip in
        let key : HasKey (keys_of_students rows.students) s text.0 = rw (on_at (ranking_at l) s on, text.1) at mine in
        elim (any_or_none (lecturer_of_row projects) l (choices_at students s)) [
          | inl any ↦ (any.1, at_on (choices_at students s) any.0 any.1 any.2 any.3, any.4)
          | inr none ↦ absurd (no_other y.0.row (
            l,
            y.0,
            low,
            low,
            y.1,
            refl,
            (
              i,
              text.0,
              omega arith,
              text.1,
              λ found.
                  none (subst (λ n. Finds projects (choices_at students n) l)
                  (one_number (keys_of_students rows.students) found.0 s text.0 so.rise_students found.1 key) found.2),
            ),
          ))
        ]

    distinct_choices : (s : ℕ) → IsDistinct (choices_at students s)
    distinct_choices s = elim (cases_lt s (length rows.students)) [
      | inl low ↦
          let x = at_place rows.students s low in
          distinct_numbers (keys_of_projects rows.projects) x.0.list (choices_at students s)
          (Numbered.choices_numbered rows students projects so s x.0 low x.1)
          (λ twice. good.apart_students s x.0 low (subst (λ w. Repeats w.list) (sym x.1) twice))
      | inr past ↦
          let none : choices_at students s ≡ [] = get_or_past (map (λ x. x.choices.items) students) s []
          (omega (arith, length-map students (λ x. x.choices.items), n_students)) in
          subst IsDistinct (sym none) empty_distinct
    ]

    distinct_ranking : (l : ℕ) → IsDistinct (ranking_at l)
    distinct_ranking l = elim (cases_lt l (length rows.lecturers)) [
      | inl low ↦
          let y = at_place rows.lecturers l low in
          distinct_numbers (keys_of_students rows.students) y.0.list (ranking_at l) (ranking_here l y.0 low y.1)
          (λ twice. good.apart_lecturers l y.0 low (subst (λ w. Repeats w.list) (sym y.1) twice))
      | inr past ↦
          let none : get_or (map (λ z. z.ranking.items) lecturers) l []
          ≡ [] = get_or_past (map (λ z. z.ranking.items) lecturers) l []
          (omega (arith, length-map lecturers (λ z. z.ranking.items), n_lecturers)) in
          subst IsDistinct (sym none) empty_distinct
    ]

    capacity_ok : (p : ℕ) → p < length rows.projects → (1 ≤ capacity_of built p) × (capacity_of built p ≤ most_places)
    capacity_ok p low =
        let x = at_place rows.projects p low in
        rw ((ap (λ column. get_or column p 0) capacity_column ∙ map_at (λ y. y.capacity) rows.projects p x.0 0 low x.1), ← x.1)
        (good.capacities p x.0 low)

    limit_ok : (l : ℕ) → l < length rows.lecturers → (1 ≤ limit_of built l) × (limit_of built l ≤ most_places)
    limit_ok l low =
        let x = at_place rows.lecturers l low in
        rw ((ap (λ column. get_or column l 0) limit_column ∙ map_at (λ y. y.capacity) rows.lecturers l x.0 0 low x.1), ← x.1)
        (good.limits l x.0 low)

    short : (s : ℕ) → length (choices_at students s) ≤ longest_choice
    short s = elim (cases_lt s (length rows.students)) [
      | inl low ↦
          let x = at_place rows.students s low in
          let size : length (choices_at students s)
          ≡ length x.0.list = AllZip-long (λ t n. HasKey (keys_of_projects rows.projects) n t) x.0.list (choices_at students s)
          (Numbered.choices_numbered rows students projects so s x.0 low x.1) in
          omega (arith, subst (λ y. length y.list ≤ longest_choice) x.1 (good.short s x.0 low))
      | inr past ↦
          let none : choices_at students s ≡ [] = get_or_past (map (λ x. x.choices.items) students) s []
          (omega (arith, length-map students (λ x. x.choices.items), n_students)) in
          omega (arith, ap length none)
    ]

    pub lawful : IsLawful (spa_of students projects lecturers)
    lawful = record {
      student_rows = length-map students (λ x. x.key) ∙ sym (length-map students (λ x. x.choices.items));
      project_key_rows = length-map projects (λ x. x.key) ∙ sym (length-map projects (λ x. x.lecturer));
      project_rows = length-map projects (λ x. x.capacity) ∙ sym (length-map projects (λ x. x.lecturer));
      lecturer_key_rows = length-map lecturers (λ x. x.key) ∙ sym (length-map lecturers (λ x. x.ranking.items));
      lecturer_rows = length-map lecturers (λ x. x.capacity) ∙ sym (length-map lecturers (λ x. x.ranking.items));
      student_keys_rise = rw student_column good.rise_students;
      project_keys_rise = rw project_column good.rise_projects;
      lecturer_keys_rise = rw lecturer_column good.rise_lecturers;
      offered = λ p low. omega (
        arith,
        Numbered.lecturer_known rows students projects so p
            (omega (arith, length-map projects (λ x. x.lecturer), n_projects)),
        length-map lecturers (λ x. x.ranking.items),
        n_lecturers,
      );
      known = λ s p on. omega (arith, known s p on, length-map projects (λ x. x.lecturer), n_projects);
      choices_distinct = distinct_choices;
      ranked = ranks_there;
      applicants = applies;
      distinct = distinct_ranking;
      capacities_in_range = λ p low. capacity_ok p (omega (arith, length-map projects (λ x. x.lecturer), n_projects));
      limits_in_range = λ l low. limit_ok l (omega (arith, length-map lecturers (λ x. x.ranking.items), n_lecturers));
      lists_short = short;
      student_count = omega (arith, good.few_students, length-map students (λ x. x.choices.items), n_students);
      project_count = omega (arith, good.few_projects, length-map projects (λ x. x.lecturer), n_projects);
      lecturer_count = omega (arith, good.few_lecturers, length-map lecturers (λ x. x.ranking.items), n_lecturers);
    }

    pub have_ranks : HaveRanks (length students) lecturers
    have_ranks k d h =
        let count : length (keys_of_students rows.students) ≡ length students = length-map rows.students (λ x. x.key) ∙ sym n_students in
        let ranks : AreRanks (length (keys_of_students rows.students)) (get_or lecturers k d).ranking.items (get_or lecturers k d).ranks.items = zip_all (IsLecturerOf (keys_of_students rows.students)) (λ z. AreRanks (length (keys_of_students rows.students)) z.ranking.items z.ranks.items) rows.lecturers lecturers (λ x z is. is.ranks) lists k d h in
        subst (λ n. AreRanks n (get_or lecturers k d).ranking.items (get_or lecturers k d).ranks.items) count ranks

    stands_student : (k : ℕ) (x : Lines.StudentWithList) → k < length rows.students → get_or rows.students k x ≡ x
        → StandsStudent built x
    stands_student k x h at =
        let same : keys_at (keys_of_projects rows.projects) (choices_at students k)
        ≡ x.list = keys_same (keys_of_projects rows.projects) x.list (choices_at students k)
        (Numbered.choices_numbered rows students projects so k x h at) in
        (k, rw student_column (key_number (λ y. y.key) rows.students k x h at), rw project_column same)

    stands_project : (k : ℕ) (x : Lines.ProjectWithLecturer) → k < length rows.projects → get_or rows.projects k x ≡ x
        → StandsProject built x
    stands_project k x h at =
        let mine : HasKey built.project_keys k x.key = rw project_column (key_number (λ y. y.key) rows.projects k x h at) in
        let lecturer : HasKey (keys_of_lecturers rows.lecturers) (lecturer_of_row projects k) x.lecturer =
        Numbered.lecturer_numbered rows students projects so k x h at in (
          k,
          mine,
          ap (λ column. get_or column k 0) capacity_column
              ∙ map_at (λ y. y.capacity) rows.projects k x 0 h at,
          rw lecturer_column lecturer.1,
        )

    stands_lecturer : (k : ℕ) (x : Lines.LecturerWithList) → k < length rows.lecturers → get_or rows.lecturers k x ≡ x
        → StandsLecturer built x
    stands_lecturer k x h at =
        let mine : HasKey built.lecturer_keys k x.key = rw lecturer_column (key_number (λ y. y.key) rows.lecturers k x h at) in
        let same : keys_at (keys_of_students rows.students) (ranking_at k)
        ≡ x.list = keys_same (keys_of_students rows.students) x.list (ranking_at k) (ranking_here k x h at) in (
          k,
          mine,
          ap (λ column. get_or column k 0) limit_column
              ∙ map_at (λ y. y.capacity) rows.lecturers k x 0 h at,
          rw student_column same,
        )

    pub stands_for : StandsFor rows (spa_of students projects lecturers)
    stands_for = search (
      rules,
      stands_student,
      get_or_default,
      length-map,
      n_students,
      stands_project,
      n_projects,
      stands_lecturer,
      n_lecturers,
    )
