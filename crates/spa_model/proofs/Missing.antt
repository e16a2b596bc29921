-- Numbered lecturers and the lines that they come from say the same of who is missing on a list.
use Rattle.spa_model.proofs.Base.{◌≡◌, ℕ, ◌<◌, true, List, [], length, get_or, Some, None, Any, refl, sym, ◌∙◌, ap}
use Rattle.spa_model.proofs.Base.{arith, AllZip, length-map, AllZip-long, Rows, HasFault, ApplicantMissing, at_place}
use Rattle.spa_model.proofs.Base.{Student, Project, Lecturer, place, IsOn, HasKey, keys_of_students, IsLecturerOf}
use Rattle.spa_model.proofs.Base.{choices_at, lecturer_of_row, row_at, rank_at, Finds, MissesBelow, rules, ltb}
use Rattle.spa_model.proofs.Base.{nat_tests}
use Rattle.spa_model.proofs.Base.{rank_in}
use Rattle.spa_rows.specs.Lines
use Rattle.spa_model.proofs.Places.{get_or-place, place-get_or-le}
use Rattle.spa_model.proofs.Keys.{one_number, key_number}
use Rattle.spa_model.proofs.Zips.{zip_at}
use Rattle.spa_model.proofs.Applicants.{row_here, rank_here}
use Rattle.spa_model.proofs.Numbered.{AreNumbered}
use Rattle.spa_model.proofs.Numbered

-- who is on a list has a rank
pub ranked : (list : List ℕ) (s : ℕ) → IsOn list s → rank_in list s ≡ None → ⊥
ranked list s on none = let test : ltb (place list s) (length list) ≡ true = grind (arith, nat_tests) in
    let some : rank_in list s ≡ Some (place list s) = rw test refl in cc

pub unranked : (list : List ℕ) (s : ℕ) → (IsOn list s → ⊥) → rank_in list s ≡ None
unranked list s off = search (rules, nat_tests)

module _ (rows : Rows) (students : List Student) (projects : List Project) (lecturers : List Lecturer)
    (so : AreNumbered rows students projects)
    (lists : AllZip (IsLecturerOf (keys_of_students rows.students)) rows.lecturers lecturers) where
  pub lecturer_count : length lecturers ≡ length rows.lecturers
  lecturer_count = AllZip-long (IsLecturerOf (keys_of_students rows.students)) rows.lecturers lecturers lists

  -- the row of a lecturer
  pub row_of : (l : ℕ) (y : Lines.LecturerWithList) → l < length rows.lecturers → get_or rows.lecturers l y ≡ y
      → (z : Lecturer) × (get_or lecturers l z ≡ z) × IsLecturerOf (keys_of_students rows.students) y z
  row_of l y h at =
      let row = at_place lecturers l (omega (arith, lecturer_count)) in
      (row.0, row.1, rw (at, row.1) at (zip_at (IsLecturerOf (keys_of_students rows.students)) rows.lecturers lecturers l y row.0 h lists))

  module _ (y : Lines.LecturerWithList) (z : Lecturer) (is_z : IsLecturerOf (keys_of_students rows.students) y z) (s : ℕ)
      (x : Lines.StudentWithList) (low : s < length rows.students) (is_x : get_or rows.students s x ≡ x) where
    key_x : HasKey (keys_of_students rows.students) s x.key
    key_x = key_number (λ q. q.key) rows.students s x low is_x

    long : length z.ranking.items ≡ length y.list
    long = AllZip-long (λ t n. HasKey (keys_of_students rows.students) n t) y.list z.ranking.items is_z.ranking

    -- on the list of texts, on the list of numbers
    pub on_number : Any (λ text. text ≡ x.key) y.list → IsOn z.ranking.items s
    on_number (i, text, under, is_text, same) =
        let mine : HasKey (keys_of_students rows.students) (get_or z.ranking.items i 0) (get_or y.list i text) =
        zip_at (λ t n. HasKey (keys_of_students rows.students) n t) y.list z.ranking.items i text 0 under is_z.ranking in
        let is_s : get_or z.ranking.items i 0 ≡ s =
        one_number (keys_of_students rows.students) (get_or z.ranking.items i 0) s x.key so.rise_students
        (mine.0, mine.1 ∙ is_text ∙ same) key_x in
        omega (arith, long, ap (place z.ranking.items) is_s, place-get_or-le z.ranking.items i 0 (omega (arith, long)))

    pub on_text : IsOn z.ranking.items s → Any (λ text. text ≡ x.key) y.list
    on_text on =
        let i : ℕ = place z.ranking.items s in
        let text = at_place y.list i (omega (arith, long)) in
        let mine : HasKey (keys_of_students rows.students) (get_or z.ranking.items i 0) (get_or y.list i text.0) =
        zip_at (λ t n. HasKey (keys_of_students rows.students) n t) y.list z.ranking.items i text.0 0
        (omega (arith, long)) is_z.ranking in
        let is_s : get_or z.ranking.items i 0 ≡ s = get_or-place z.ranking.items s 0 on in (
          i,
          text.0,
          omega (arith, long),
          text.1,
          sym text.1 ∙ sym mine.1 ∙ ap (λ n. get_or (keys_of_students rows.students) n []) is_s
              ∙ key_x.1,
        )

  -- the table's entry
  pub rank_is : (l : ℕ) (y : Lines.LecturerWithList) (z : Lecturer) (s : ℕ) → l < length rows.lecturers
      → get_or lecturers l z ≡ z → IsLecturerOf (keys_of_students rows.students) y z → s < length rows.students
      → rank_at lecturers l s ≡ rank_in z.ranking.items s
  rank_is l y z s h at is_z low = rank_here lecturers l s z (omega (arith, lecturer_count)) (sym at)
      ∙ is_z.ranks.each s (omega (arith, length-map rows.students (λ q. q.key)))

  -- a student who finds a project of the lecturer and has no place there is missing
  missed : (r s l : ℕ) (x : Lines.StudentWithList) (y : Lines.LecturerWithList) → s < length rows.students
      → get_or rows.students s x ≡ x → l < length rows.lecturers → get_or rows.lecturers l y ≡ y
      → Finds projects (choices_at students s) l → row_at rows.lecturers l ≡ r → rank_at lecturers l s ≡ None
      → HasFault rows ApplicantMissing r
  missed r s l x y low is_x l_low is_y found row none =
      let z = row_of l y l_low is_y in
      let off : IsOn z.0.ranking.items s → ⊥ = λ on. ranked z.0.ranking.items s on (sym (rank_is l y z.0 s l_low z.1 z.2 low) ∙ none) in (
        l,
        y,
        l_low,
        l_low,
        is_y,
        sym (row_here rows.lecturers l y l_low (sym is_y))
            ∙ row,
        (
          s,
          x,
          low,
          is_x,
          (
            Numbered.finds_text rows students projects so l y l_low is_y s x low is_x found,
            λ any. off (on_number y z.0 z.2 s x low is_x any),
          ),
        ),
      )

  -- the fault ApplicantMissing, by number
  pub misses_fault : (r : ℕ) → MissesBelow rows.lecturers lecturers projects students (length students) r
      → HasFault rows ApplicantMissing r
  misses_fault r (s, s_low, (k, p, under, short, is_p, row, none)) =
      let low : s < length rows.students = omega (arith, Numbered.student_count rows students projects so) in
      let x = at_place rows.students s low in
      let known : p < length rows.projects = Numbered.choice_known rows students projects so s k p x.0 low x.1 under is_p in
      let l_low : lecturer_of_row projects p < length rows.lecturers = Numbered.lecturer_known rows students projects so p known in
      let y = at_place rows.lecturers (lecturer_of_row projects p) l_low in
      missed r s (lecturer_of_row projects p) x.0 y.0 low x.1 l_low y.1 (k, p, under, is_p, refl) row none

  pub fault_misses : (r : ℕ) → HasFault rows ApplicantMissing r
      → MissesBelow rows.lecturers lecturers projects students (length students) r
  fault_misses r (l, y, a, l_low, is_y, row, (s, x, low, is_x, (finds, off))) =
      let found : Finds projects (choices_at students s) l =
      Numbered.finds_number rows students projects so l y l_low is_y s x low is_x finds in
      let z = row_of l y l_low is_y in
      let none : rank_at lecturers l s ≡ None = rank_is l y z.0 s l_low z.1 z.2 low
      ∙ unranked z.0.ranking.items s (λ on. off (on_text y z.0 z.2 s x low is_x on)) in (
        s,
        omega (arith, Numbered.student_count rows students projects so),
        (
          found.0,
          found.1,
          found.2,
          found.2,
          found.3,
          ap (row_at rows.lecturers) found.4 ∙ row_here rows.lecturers l y l_low (sym is_y) ∙ row,
          ap (λ n. rank_at lecturers n s) found.4 ∙ none,
        ),
      )
