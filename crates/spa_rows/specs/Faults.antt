-- What can be wrong with the rows of an instance: `HasFault rows fault r` says that row r has it.
use Rattle.std.specs.Prelude.{◌≡◌, ℕ, ◌<◌, List, length, slice_index_or, ◌⊎◌, ◌≤◌, false, Any, take}
use Rattle.spa_rows.specs.Limits.{most_lecturers, most_projects, most_students, longest_choice, most_places}
use Rattle.spa_rows.specs.Lines.{is_key, Text, LecturerWithList, ProjectWithLecturer, StudentWithList, Rows}
use Rattle.spa_rows.specs.declared.faults.InstanceFault.{InstanceFault}
use Rattle.spa_rows.specs.declared.faults.InstanceFault.TheVariants.{TooMany, BadKey, KeyTwice, BadCapacity}
use Rattle.spa_rows.specs.declared.faults.InstanceFault.TheVariants.{NoSuchLecturer, NoSuchProject, RepeatInList}
use Rattle.spa_rows.specs.declared.faults.InstanceFault.TheVariants.{ListTooLong, NotApplicant, ApplicantMissing}
use Rattle.spa_rows.specs.declared.faults.InstanceFault.TheVariants.{Memory}

-- one of the first n lines has the row number r and is bad; `Bad` also takes its index, from 0
abbrev pub BadBelow : {X : Type 0} → List X → (X → ℕ) → (ℕ → X → Type 0) → ℕ → ℕ → Type 0
BadBelow {X} lines row Bad n r =
    (j : ℕ) × (x : X) × (j < n) × (j < length lines) × (slice_index_or lines j x ≡ x) × (row x ≡ r) × Bad j x

-- one of the lines has the row number r and is bad
abbrev pub BadAt : {X : Type 0} → List X → (X → ℕ) → (ℕ → X → Type 0) → ℕ → Type 0
BadAt lines row Bad r = BadBelow lines row Bad (length lines) r

-- a lecturer's, a project's or a student's line has the row number r and is bad
abbrev pub BadLecturer : Rows → (ℕ → LecturerWithList → Type 0) → ℕ → Type 0
BadLecturer rows Bad r = BadAt rows.lecturers (λ x. x.row) Bad r

abbrev pub BadProject : Rows → (ℕ → ProjectWithLecturer → Type 0) → ℕ → Type 0
BadProject rows Bad r = BadAt rows.projects (λ x. x.row) Bad r

abbrev pub BadStudent : Rows → (ℕ → StudentWithList → Type 0) → ℕ → Type 0
BadStudent rows Bad r = BadAt rows.students (λ x. x.row) Bad r

-- one of the first j lines has this key
abbrev pub IsEarlierKey : {X : Type 0} → List X → (X → Text) → ℕ → Text → Type 0
IsEarlierKey lines key j text = Any (λ y. key y ≡ text) (take j lines)

-- a capacity outside its range
abbrev pub IsBadCapacity : ℕ → Type 0
IsBadCapacity n = (n < 1) ⊎ (most_places < n)

-- one of the lines has this key
abbrev pub IsKeyOf : {X : Type 0} → List X → (X → Text) → Text → Type 0
IsKeyOf lines key text = Any (λ x. key x ≡ text) lines

-- the list holds a text that is the key of none of these lines
abbrev pub NamesNone : {X : Type 0} → List X → (X → Text) → List Text → Type 0
NamesNone lines key list = Any (λ text. IsKeyOf lines key text → ⊥) list

-- the list holds some text twice
abbrev pub Repeats : List Text → Type 0
Repeats list =
    (j : ℕ) × (text : Text) × (j < length list) × (slice_index_or list j text ≡ text)
    × Any (λ earlier. earlier ≡ text) (take j list)

-- the project of the first key is offered by the lecturer of the second
abbrev pub IsOffered : Rows → Text → Text → Type 0
IsOffered rows project lecturer = Any (λ p. (p.key ≡ project) × (p.lecturer ≡ lecturer)) rows.projects

-- the student lists some project of the lecturer
abbrev pub FindsOne : Rows → StudentWithList → Text → Type 0
FindsOne rows student lecturer = Any (λ project. IsOffered rows project lecturer) student.list

-- the text is the key of a student who lists some project of the lecturer
abbrev pub IsApplicant : Rows → Text → Text → Type 0
IsApplicant rows lecturer text = Any (λ s. (s.key ≡ text) × FindsOne rows s lecturer) rows.students

-- some student lists a project of the lecturer and is not on the lecturer's list
abbrev pub MissesOne : Rows → LecturerWithList → Type 0
MissesOne rows x = Any (λ s. FindsOne rows s x.key × (Any (λ text. text ≡ s.key) x.list → ⊥)) rows.students

-- row r has the fault; `TooMany` belongs to no single row and has r = 0
abbrev pub HasFault : Rows → InstanceFault → ℕ → Type 0
HasFault rows TooMany r =
    (r ≡ 0)
    × ((most_lecturers < length rows.lecturers)
    ⊎ ((most_projects < length rows.projects) ⊎ (most_students < length rows.students)))
HasFault rows BadKey r =
    BadLecturer rows (λ _ x. is_key x.key ≡ false) r
    ⊎ (BadProject rows (λ _ x. is_key x.key ≡ false) r ⊎ BadStudent rows (λ _ x. is_key x.key ≡ false) r)
HasFault rows KeyTwice r =
    BadLecturer rows (λ j x. IsEarlierKey rows.lecturers (λ y. y.key) j x.key) r
    ⊎ (BadProject rows (λ j x. IsEarlierKey rows.projects (λ y. y.key) j x.key) r
    ⊎ BadStudent rows (λ j x. IsEarlierKey rows.students (λ y. y.key) j x.key) r)
HasFault rows BadCapacity r =
    BadLecturer rows (λ _ x. IsBadCapacity x.capacity) r ⊎ BadProject rows (λ _ x. IsBadCapacity x.capacity) r
HasFault rows NoSuchLecturer r = BadProject rows (λ _ x. IsKeyOf rows.lecturers (λ y. y.key) x.lecturer → ⊥) r
HasFault rows NoSuchProject r = BadStudent rows (λ _ x. NamesNone rows.projects (λ y. y.key) x.list) r
HasFault rows RepeatInList r = BadLecturer rows (λ _ x. Repeats x.list) r ⊎ BadStudent rows (λ _ x. Repeats x.list) r
HasFault rows ListTooLong r = BadStudent rows (λ _ x. longest_choice < length x.list) r
HasFault rows NotApplicant r = BadLecturer rows (λ _ x. Any (λ text. IsApplicant rows x.key text → ⊥) x.list) r
HasFault rows ApplicantMissing r = BadLecturer rows (λ _ x. MissesOne rows x) r
HasFault rows Memory r = ⊥

-- the order of the faults: the least number is reported
abbrev pub number_of : InstanceFault → ℕ
number_of TooMany = 1
number_of BadKey = 2
number_of KeyTwice = 3
number_of BadCapacity = 4
number_of NoSuchLecturer = 5
number_of NoSuchProject = 6
number_of RepeatInList = 7
number_of ListTooLong = 8
number_of NotApplicant = 9
number_of ApplicantMissing = 10
number_of Memory = 11

-- of numbered faults that rows may have, no row has one with a smaller number
abbrev pub NoneBefore : {F : Type 0} → (F → ℕ) → (F → ℕ → Type 0) → F → Type 0
NoneBefore {F} number Has fault = (f : F) → number f < number fault → (q : ℕ) → Has f q → ⊥

-- the reported fault: the least number, at its least row
pub record IsFirst {F : Type 0} (number : F → ℕ) (Has : F → ℕ → Type 0) (fault : F) (r : ℕ) : Type 0 where
  pub here : Has fault r
  pub least : (q : ℕ) → Has fault q → r ≤ q
  pub none_before : NoneBefore number Has fault

abbrev pub HasNoneBefore : Rows → InstanceFault → Type 0
HasNoneBefore rows fault = NoneBefore number_of (HasFault rows) fault

abbrev pub IsFirstFault : Rows → InstanceFault → ℕ → Type 0
IsFirstFault rows fault r = IsFirst number_of (HasFault rows) fault r

-- what a refusal says; `Memory`, at row 0, needs no cause
abbrev pub IsRefusal : Rows → InstanceFault → ℕ → Type 0
IsRefusal rows Memory r = r ≡ 0
IsRefusal rows fault r = IsFirstFault rows fault r
