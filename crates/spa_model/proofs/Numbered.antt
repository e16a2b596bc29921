-- Numbered rows and the lines that they come from say the same of applicants.
use Rattle.spa_model.proofs.Base.{◌≡◌, ℕ, ◌<◌, List, [], length, get_or, Any, sym, ◌∙◌, ap, arith, AllZip}
use Rattle.spa_model.proofs.Base.{get_or_default, length-map, AllZip-long, Text, Rows, BadAt, HasFault, NotApplicant}
use Rattle.spa_model.proofs.Base.{at_place, Student, Project, TextsRise, HasKey, keys_of_students, keys_of_projects}
use Rattle.spa_model.proofs.Base.{keys_of_lecturers}
use Rattle.spa_model.proofs.Base.{AreNumbers, IsStudentOf, IsProjectOf, choices_at, lecturer_of_row, Finds}
use Rattle.spa_model.proofs.Base.{IsApplicantOf}
use Rattle.spa_model.proofs.Base.{FindsOne, IsApplicant, IsApplicantNumber, numbers_at, HasNumber, HaveNumbers}
use Rattle.spa_model.proofs.Base.{AreListNumbers, Vec, Global, IsLeastOf, Option, alike, map_at, cases_lt, inl, inr}
use Rattle.spa_model.proofs.Base.{subst, ◌↔◌}
use Rattle.spa_rows.specs.Lines
use Rattle.std.specs.Prelude.{⊤}
use Rattle.spa_model.proofs.Keys.{one_number, key_number, has_key, is_key_of}
use Rattle.spa_model.proofs.Ranks.{numbers_below}
use Rattle.spa_model.proofs.Zips.{zip_at, zip_any}
use Rattle.spa_model.proofs.Applicants.{choices_here, lecturer_here}

-- students and projects by number
pub record AreNumbered (rows : Rows) (students : List Student) (projects : List Project) : Type 0 where
  pub rise_students : TextsRise (keys_of_students rows.students)
  pub rise_projects : TextsRise (keys_of_projects rows.projects)
  pub rise_lecturers : TextsRise (keys_of_lecturers rows.lecturers)
  pub choices : AllZip (IsStudentOf (keys_of_projects rows.projects)) rows.students students
  pub offers : AllZip (IsProjectOf (keys_of_lecturers rows.lecturers)) rows.projects projects

module _ (rows : Rows) (students : List Student) (projects : List Project) (so : AreNumbered rows students projects) where
  pub student_count : length students ≡ length rows.students
  student_count = AllZip-long (IsStudentOf (keys_of_projects rows.projects)) rows.students students so.choices

  pub project_count : length projects ≡ length rows.projects
  project_count = AllZip-long (IsProjectOf (keys_of_lecturers rows.lecturers)) rows.projects projects so.offers

  -- the choices of a student have the texts of the line
  pub choices_numbered : (s : ℕ) (x : Lines.StudentWithList) → s < length rows.students → get_or rows.students s x ≡ x
      → AreNumbers (keys_of_projects rows.projects) x.list (choices_at students s)
  choices_numbered s x h at =
      let row = at_place students s (omega (arith, student_count)) in
      let both : IsStudentOf (keys_of_projects rows.projects) (get_or rows.students s x) (get_or students s row.0) =
      zip_at (IsStudentOf (keys_of_projects rows.projects)) rows.students students s x row.0 h so.choices in
      rw (choices_here students s row.0 (omega (arith, student_count)) (sym row.1)) (rw (at, row.1) at both).choices

  -- the lecturer of a project has the text of the line
  pub lecturer_numbered : (p : ℕ) (x : Lines.ProjectWithLecturer) → p < length rows.projects
      → get_or rows.projects p x ≡ x
      → HasKey (keys_of_lecturers rows.lecturers) (lecturer_of_row projects p) x.lecturer
  lecturer_numbered p x h at =
      let row = at_place projects p (omega (arith, project_count)) in
      let both : IsProjectOf (keys_of_lecturers rows.lecturers) (get_or rows.projects p x) (get_or projects p row.0) =
      zip_at (IsProjectOf (keys_of_lecturers rows.lecturers)) rows.projects projects p x row.0 h so.offers in
      rw (lecturer_here projects p row.0 (omega (arith, project_count)) (sym row.1)) (rw (at, row.1) at both).lecturer

  -- a choice is a project
  pub choice_known : (s k p : ℕ) (x : Lines.StudentWithList) → s < length rows.students → get_or rows.students s x ≡ x
      → k < length (choices_at students s) → get_or (choices_at students s) k p ≡ p → p < length rows.projects
  choice_known s k p x h at under is_p =
      let below : get_or (choices_at students s) k p < length (keys_of_projects rows.projects) =
      numbers_below (keys_of_projects rows.projects) x.list (choices_at students s) (choices_numbered s x h at) k p under in
      omega (arith, is_p, length-map rows.projects (λ q. q.key))

  -- who offers a project is a lecturer
  pub lecturer_known : (p : ℕ) → p < length rows.projects → lecturer_of_row projects p < length rows.lecturers
  lecturer_known p low =
      let x = at_place rows.projects p low in
      omega (arith, (lecturer_numbered p x.0 low x.1).0, length-map rows.lecturers (λ q. q.key))

  module _ (l : ℕ) (y : Lines.LecturerWithList) (low : l < length rows.lecturers) (is_y : get_or rows.lecturers l y ≡ y) where
    key_y : HasKey (keys_of_lecturers rows.lecturers) l y.key
    key_y = key_number (λ x. x.key) rows.lecturers l y low is_y

    -- a student lists a project of the lecturer
    pub finds_number : (s : ℕ) (x : Lines.StudentWithList) → s < length rows.students → get_or rows.students s x ≡ x
        → FindsOne rows x y.key → Finds projects (choices_at students s) l
    finds_number s x h at (k, text, under, is_text, (j, line, j_low, is_line, (key, offers))) =
        let zip : AreNumbers (keys_of_projects rows.projects) x.list (choices_at students s) = choices_numbered s x h at in
        let long : length (choices_at students s)
        ≡ length x.list = AllZip-long (λ t n. HasKey (keys_of_projects rows.projects) n t) x.list (choices_at students s) zip in
        let p : ℕ = get_or (choices_at students s) k 0 in
        let mine : HasKey (keys_of_projects rows.projects) p (get_or x.list k text) =
        zip_at (λ t n. HasKey (keys_of_projects rows.projects) n t) x.list (choices_at students s) k text 0 under zip in
        let its : HasKey (keys_of_projects rows.projects) j line.key = key_number (λ q. q.key) rows.projects j line j_low is_line in
        let same : p ≡ j = one_number (keys_of_projects rows.projects) p j text so.rise_projects (mine.0, mine.1 ∙ is_text)
        (its.0, its.1 ∙ key) in
        let lecturer : HasKey (keys_of_lecturers rows.lecturers) (lecturer_of_row projects j) line.lecturer =
        lecturer_numbered j line j_low is_line in
        let is_l : lecturer_of_row projects j ≡ l =
        one_number (keys_of_lecturers rows.lecturers) (lecturer_of_row projects j) l y.key so.rise_lecturers
        (lecturer.0, lecturer.1 ∙ offers) key_y in
        (k, p, omega arith, get_or_default (choices_at students s) k p 0 (omega arith), ap (lecturer_of_row projects) same ∙ is_l)

    pub finds_text : (s : ℕ) (x : Lines.StudentWithList) → s < length rows.students → get_or rows.students s x ≡ x
        → Finds projects (choices_at students s) l → FindsOne rows x y.key
    finds_text s x h at (k, p, under, is_p, offers) =
        let zip : AreNumbers (keys_of_projects rows.projects) x.list (choices_at students s) = choices_numbered s x h at in
        let long : length (choices_at students s)
        ≡ length x.list = AllZip-long (λ t n. HasKey (keys_of_projects rows.projects) n t) x.list (choices_at students s) zip in
        let text = at_place x.list k (omega arith) in
        let mine : HasKey (keys_of_projects rows.projects) (get_or (choices_at students s) k p) (get_or x.list k text.0) =
        zip_at (λ t n. HasKey (keys_of_projects rows.projects) n t) x.list (choices_at students s) k text.0 p (omega arith) zip in
        let key_p : HasKey (keys_of_projects rows.projects) p text.0 = rw (is_p, text.1) at mine in
        let known : p < length rows.projects = omega (arith, key_p.0, length-map rows.projects (λ q. q.key)) in
        let line = at_place rows.projects p known in
        let its : HasKey (keys_of_projects rows.projects) p line.0.key = key_number (λ q. q.key) rows.projects p line.0 known line.1 in
        let lecturer : HasKey (keys_of_lecturers rows.lecturers) (lecturer_of_row projects p) line.0.lecturer =
        lecturer_numbered p line.0 known line.1 in (
          k,
          text.0,
          omega arith,
          text.1,
          (
            p,
            line.0,
            known,
            line.1,
            (sym its.1 ∙ key_p.1, sym lecturer.1 ∙ ap (λ n. get_or (keys_of_lecturers rows.lecturers) n []) offers ∙ key_y.1),
          ),
        )

    -- the text is an applicant's
    pub applicant_number : (text : Text) → IsApplicant rows y.key text
        → IsApplicantOf rows.students students projects l text
    applicant_number text (s, x, h, at, (key, finds)) =
        let its : HasKey (keys_of_students rows.students) s x.key = key_number (λ q. q.key) rows.students s x h at in
        (s, (its.0, its.1 ∙ key), finds_number s x h at finds)

    pub applicant_text : (text : Text) → IsApplicantOf rows.students students projects l text
        → IsApplicant rows y.key text
    applicant_text text (s, key, finds) =
        let known : s < length rows.students = omega (arith, key.0, length-map rows.students (λ q. q.key)) in
        let x = at_place rows.students s known in
        (s, x.0, known, x.1, (sym (key_number (λ q. q.key) rows.students s x.0 known x.1).1 ∙ key.1, finds_text s x.0 known x.1 finds))

  -- the fault NotApplicant, by number
  abbrev pub OthersAt : ℕ → Type 0
  OthersAt r = BadAt rows.lecturers (λ x. x.row) (λ l x. Any (λ text. IsApplicantOf rows.students students projects l text → ⊥) x.list) r

  pub others_fault : (r : ℕ) → OthersAt r → HasFault rows NotApplicant r
  others_fault r (l, y, a, low, at, row, (k, text, under, is_text, none)) =
      (l, y, a, low, at, row, (k, text, under, is_text, λ yes. none (applicant_number l y low at text yes)))

  pub fault_others : (r : ℕ) → HasFault rows NotApplicant r → OthersAt r
  fault_others r (l, y, a, low, at, row, (k, text, under, is_text, none)) =
      (l, y, a, low, at, row, (k, text, under, is_text, λ yes. none (applicant_text l y low at text yes)))

  -- of a number and of its text
  applicant_same : (l : ℕ) (text : Text) (n : ℕ) → HasNumber rows.students (λ x. x.key) text n
      → IsApplicantOf rows.students students projects l text ↔ IsApplicantNumber students projects l n
  applicant_same l text n has = (
    λ (s, key, finds).
        let known : n < length rows.students = elim
        (cases_lt n (length rows.students)) [
          | inl low ↦ low
          | inr past ↦ absurd
              (has.unknown past (is_key_of (λ x. x.key) rows.students s text key))
        ] in
        let same : s ≡ n = one_number (keys_of_students rows.students) s n text so.rise_students key
        (has_key (λ x. x.key) rows.students n text known (has.known known)) in
        (omega (arith, student_count), subst (λ m. Finds projects (choices_at students m) l) same finds),
    λ (low, finds).
        let known : n < length rows.students = omega (arith, student_count) in
        (n, has_key (λ x. x.key) rows.students n text known (has.known known), finds),
  )

  -- the least row of a ranking with a number that is no applicant's
  pub others_numbered : (rankings : List (Vec ℕ Global))
      → AreListNumbers rows.students (λ x. x.key) (λ x. x.list) rows.lecturers rankings → (o : Option ℕ)
      → IsLeastOf (BadAt rows.lecturers (λ x. x.row)
      (λ l _. Any (λ n. IsApplicantNumber students projects l n → ⊥) (numbers_at rankings l))) o
      → IsLeastOf OthersAt o
  others_numbered rankings are o least =
      let Has : Lines.LecturerWithList → Vec ℕ Global → Type 0 = λ y own. HaveNumbers rows.students (λ x. x.key) y.list own.items in
      alike rows.lecturers (λ x. x.row) (λ _ _. ⊤) (λ l _. Any (λ n. IsApplicantNumber students projects l n → ⊥) (numbers_at rankings l))
      (λ l x. Any (λ text. IsApplicantOf rows.students students projects l text → ⊥) x.list) (length rows.lecturers) o
      (λ l y low at.
      let own = at_place rankings l (omega (arith, AllZip-long Has rows.lecturers rankings are)) in
      let have : HaveNumbers rows.students (λ x. x.key) (get_or rows.lecturers l y).list (get_or rankings l own.0).items =
      zip_at Has rows.lecturers rankings l y own.0 low are in
      let here : numbers_at rankings l ≡ own.0.items =
      map_at (λ x. x.items) rankings l own.0 [] (omega (arith, AllZip-long Has rows.lecturers rankings are)) own.1 in
      rw here (zip_any (HasNumber rows.students (λ x. x.key)) (λ text. IsApplicantOf rows.students students projects l text → ⊥)
      (λ n. IsApplicantNumber students projects l n → ⊥) y.list own.0.items
      (λ text n has. let same = applicant_same l text n has in (λ none is. none (same.1 is), λ none is. none (same.0 is)))
      (rw (at, own.1) at have)))
      least
