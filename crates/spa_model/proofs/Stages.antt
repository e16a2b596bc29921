-- What one stage of building hands to the next.
use Rattle.spa_model.proofs.Base.{◌≡◌, ℕ, ◌<◌, List, length, get_or, Option, All, refl, sym, ◌∙◌, subst, arith, AllZip}
use Rattle.spa_model.proofs.Base.{get_or_default, length-map, Rows, IsLeastOf, HasFault, HasNoneBefore, AreKeysOf}
use Rattle.spa_model.proofs.Base.{NotApplicant, ApplicantMissing, Student, Project, Lecturer, keys_of_students}
use Rattle.spa_model.proofs.Base.{keys_of_projects, keys_of_lecturers, IsStudentOf, IsProjectOf, IsLecturerOf}
use Rattle.spa_model.proofs.Base.{MissesBelow}
use Rattle.spa_model.proofs.Base.{rules, AreListNumbers, HaveNumbers, HasNumber, HasKey, IsKeyOf, AreNumbers, Text, Vec}
use Rattle.spa_model.proofs.Base.{Global, map, cases_lt, inl, inr, IsDistinct, Repeats, at_place, AllZip-long}
use Rattle.spa_rows.specs.Lines
use Rattle.spa_model.proofs.Keys.{is_key_of, all_known, has_key}
use Rattle.spa_model.proofs.Zips.{zip_all, zip_also, zip_at}
use Rattle.spa_model.proofs.Ranks.{numbers_below, distinct_numbers}
use Rattle.spa_model.proofs.Applicants.{least_same}
use Rattle.spa_model.proofs.Good.{AreGood}
use Rattle.spa_model.proofs.Numbered.{AreNumbered}
use Rattle.spa_model.proofs.Numbered
use Rattle.spa_model.proofs.Missing

-- the numbers of texts that are keys
pub numbers_listed : {X L : Type 0} (key : X → Text) (lines : List X) (list : L → List Text) (owners : List L)
    (numbers : List (Vec ℕ Global))
    → AreListNumbers lines key list owners numbers → All (λ x. AreKeysOf lines key (list x)) owners
    → AllZip (λ x own. AreNumbers (map key lines) (list x) own.items) owners numbers
numbers_listed key lines list owners numbers are known =
    zip_also (λ x own. HaveNumbers lines key (list x) own.items) (λ x own. AreNumbers (map key lines) (list x) own.items)
    (λ x. AreKeysOf lines key (list x)) owners numbers
    (λ x own have keys. zip_also (HasNumber lines key) (λ text n. HasKey (map key lines) n text) (IsKeyOf lines key)
    (list x) own.items one keys have) known are
  where
    one : (text : Text) (n : ℕ) → HasNumber lines key text n → IsKeyOf lines key text → HasKey (map key lines) n text
    one text n has is = elim (cases_lt n (length lines)) [
      | inl low ↦ has_key key lines n text low (has.known low)
      | inr past ↦ absurd (has.unknown past is)
    ]

-- rankings by number
module _ (rows : Rows) (rankings : List (Vec ℕ Global))
    (are : AllZip (λ x own. AreNumbers (keys_of_students rows.students) x.list own.items) rows.lecturers rankings) where
  pub rankings_below : All (λ own. All (λ s. s < length rows.students) own.items) rankings
  rankings_below = subst (λ n. All (λ own. All (λ s. s < n) own.items) rankings) (length-map rows.students (λ x. x.key))
      (zip_all (λ x own. AreNumbers (keys_of_students rows.students) x.list own.items)
      (λ own. All (λ s. s < length (keys_of_students rows.students)) own.items) rows.lecturers rankings
      (λ x own have. numbers_below (keys_of_students rows.students) x.list own.items have) are)

  pub rankings_distinct : All (λ x. Repeats x.list → ⊥) rows.lecturers → All (λ own. IsDistinct own.items) rankings
  rankings_distinct apart k d low =
      let line = at_place rows.lecturers k (omega
      (arith, low, AllZip-long (λ x own. AreNumbers (keys_of_students rows.students) x.list own.items) rows.lecturers rankings are)) in
      distinct_numbers (keys_of_students rows.students) (get_or rows.lecturers k line.0).list (get_or rankings k d).items
      (zip_at (λ x own. AreNumbers (keys_of_students rows.students) x.list own.items) rows.lecturers rankings k line.0 d
      (omega (
        arith,
        low,
        AllZip-long (λ x own. AreNumbers (keys_of_students rows.students) x.list own.items) rows.lecturers rankings
            are,
      )) are) (apart k line.0 (omega (
        arith,
        low,
        AllZip-long (λ x own. AreNumbers (keys_of_students rows.students) x.list own.items) rows.lecturers rankings are,
      )))

pub numbered : (rows : Rows) (students : List Student) (projects : List Project) → AreGood rows
    → AllZip (IsStudentOf (keys_of_projects rows.projects)) rows.students students
    → AllZip (IsProjectOf (keys_of_lecturers rows.lecturers)) rows.projects projects → AreNumbered rows students projects
numbered rows students projects good choices offers = search rules

module _ (rows : Rows) (students : List Student) (projects : List Project) (so : AreNumbered rows students projects) where
  -- choices are projects
  pub choices_below : All (λ s. All (λ p. p < length projects) s.choices.items) students
  choices_below =
      let count : length (keys_of_projects rows.projects) ≡ length projects = length-map rows.projects (λ x. x.key)
      ∙ sym (Numbered.project_count rows students projects so) in
      subst (λ n. All (λ s. All (λ p. p < n) s.choices.items) students) count
      (zip_all (IsStudentOf (keys_of_projects rows.projects))
      (λ s. All (λ p. p < length (keys_of_projects rows.projects)) s.choices.items) rows.students students
      (λ x s is. numbers_below (keys_of_projects rows.projects) x.list s.choices.items is.choices) so.choices)

  -- the least row of the fault NotApplicant
  pub other_least : (o : Option ℕ) → IsLeastOf (Numbered.OthersAt rows students projects so) o
      → IsLeastOf (HasFault rows NotApplicant) o
  other_least o least = least_same (Numbered.OthersAt rows students projects so) (HasFault rows NotApplicant) o
      (Numbered.others_fault rows students projects so) (Numbered.fault_others rows students projects so) least

  -- lists name students where no list names another
  pub lists_known : HasNoneBefore rows ApplicantMissing
      → All (λ y. AreKeysOf rows.students (λ x. x.key) y.list) rows.lecturers
  lists_known none k d h =
      let y : Lines.LecturerWithList = get_or rows.lecturers k d in
      all_known (λ x. x.key) rows.students y.list (λ (i, text, under, at, unknown).
      none NotApplicant (omega arith) y.row (Numbered.others_fault rows students projects so y.row (
        k,
        y,
        h,
        h,
        get_or_default rows.lecturers k y d h,
        refl,
        (i, text, under, at, λ found. unknown (is_key_of (λ x. x.key) rows.students found.0 text found.1)),
      )))

  module _ (lecturers : List Lecturer) (lists : AllZip (IsLecturerOf (keys_of_students rows.students)) rows.lecturers lecturers) where
    -- projects are offered by lecturers
    pub offered_below : All (λ p. p.lecturer < length lecturers) projects
    offered_below =
        let count : length (keys_of_lecturers rows.lecturers) ≡ length lecturers = length-map rows.lecturers (λ x. x.key)
        ∙ sym (Missing.lecturer_count rows students projects lecturers so lists) in
        subst (λ n. All (λ p. p.lecturer < n) projects) count
        (zip_all (IsProjectOf (keys_of_lecturers rows.lecturers))
        (λ p. p.lecturer < length (keys_of_lecturers rows.lecturers)) rows.projects projects (λ x p is. is.lecturer.0) so.offers)

    -- a table has a place for each student
    pub ranks_for_all : All (λ l. length l.ranks.items ≡ length students) lecturers
    ranks_for_all =
        let count : length (keys_of_students rows.students) ≡ length students = length-map rows.students (λ x. x.key)
        ∙ sym (Numbered.student_count rows students projects so) in
        subst (λ n. All (λ l. length l.ranks.items ≡ n) lecturers) count
        (zip_all (IsLecturerOf (keys_of_students rows.students))
        (λ l. length l.ranks.items ≡ length (keys_of_students rows.students)) rows.lecturers lecturers (λ x l is. is.ranks.count) lists)

    -- the least row of the fault ApplicantMissing
    pub missing_least : (o : Option ℕ)
        → IsLeastOf (MissesBelow rows.lecturers lecturers projects students (length students)) o
        → IsLeastOf (HasFault rows ApplicantMissing) o
    missing_least o least = least_same (MissesBelow rows.lecturers lecturers projects students (length students))
        (HasFault rows ApplicantMissing) o (Missing.misses_fault rows students projects lecturers so lists)
        (Missing.fault_misses rows students projects lecturers so lists) least
