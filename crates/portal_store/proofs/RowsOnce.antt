-- A sound world's rows are no other world's; in the first round, none's that has nothing earlier.
use Rattle.portal_store.proofs.Base.{◌≡◌, false, map, refl, sym, ◌∙◌, ap, subst, Some, None, [], LecturerRow}
use Rattle.portal_store.proofs.Base.{StudentRow, Rise, World, Lecturer, Student, alone, alone_student, is_second, Sound}
use Rattle.portal_store.proofs.Base.{all_map, RowsOfWorld, world_rows, map-map, each_one, HasNothingBefore}
use Rattle.portal_list.specs.inner.Fit.{lecturers_fitting, students_fitting}
use Rattle.portal_list.proofs.Fitting.{lecturers_back, students_back}

same_some : {X : Type 0} (x y : X) → Some x ≡ Some y → x ≡ y
same_some x y e = cc

pub nothing_before : (w : World) → alone w ≡ w → HasNothingBefore w
nothing_before w same =
    subst HasNothingBefore same
    (all_map (λ (s : Student). (s.earlier_choice ≡ []) × (s.earlier_placement ≡ None)) alone_student w.students
    (each_one (λ s. ((alone_student s).earlier_choice ≡ []) × ((alone_student s).earlier_placement ≡ None)) (λ s. (refl, refl)) w.students))

pub rows_once : (w v : World) → Sound w → (is_second v.round ≡ false → HasNothingBefore v) → world_rows v ≡ world_rows w
    → v ≡ w
rows_once w v sound before same =
    λ i. record {
      round = (same i).round;
      phase = (same i).phase;
      office = (same i).office;
      lecturers = lecturers i;
      projects = (same i).projects;
      students = students i;
    }
  where
    lecturers_rise : Rise (map (λ l. l.row.key) v.lecturers)
    lecturers_rise =
        subst Rise (sym (map-map (λ (r : LecturerRow). r.key) (λ (l : Lecturer). l.row) w.lecturers)
        ∙ ap (λ (r : RowsOfWorld). map (λ l. l.key) r.lecturers) (sym same)
        ∙ map-map (λ (r : LecturerRow). r.key) (λ (l : Lecturer). l.row) v.lecturers) sound.lecturers_rise

    students_rise : Rise (map (λ s. s.row.key) v.students)
    students_rise =
        subst Rise (sym (map-map (λ (r : StudentRow). r.key) (λ (s : Student). s.row) w.students)
        ∙ ap (λ (r : RowsOfWorld). map (λ s. s.key) r.students) (sym same)
        ∙ map-map (λ (r : StudentRow). r.key) (λ (s : Student). s.row) v.students) sound.students_rise

    lecturers : v.lecturers ≡ w.lecturers
    lecturers =
        same_some _ _ (sym (lecturers_back v.lecturers lecturers_rise)
        ∙ ap (λ (r : RowsOfWorld). lecturers_fitting r.lecturers r.rankings r.earlier_rankings) same
        ∙ lecturers_back w.lecturers sound.lecturers_rise)

    students : v.students ≡ w.students
    students =
        same_some _ _ (sym (students_back v.round v.students students_rise before)
        ∙ ap (λ (r : RowsOfWorld). students_fitting r.round r.students r.choices r.pairs r.earlier_choices r.earlier_pairs) same
        ∙ students_back w.round w.students sound.students_rise sound.no_earlier_lists)
