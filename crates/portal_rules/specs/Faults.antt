-- How rolls and lists are checked, what can be wrong with them, and which fault is reported.
use Rattle.portal_rules.specs.Base.{find, list_any}
use Rattle.std.specs.Prelude.{ℕ, ◌+◌, Bool, false, not, if◌then◌else◌, ◌&&◌, ◌==◌, nat_le, codes, List, [], ◌∷◌, ◌++◌}
use Rattle.std.specs.Prelude.{map, length, Option, Some, None, ◌≡◌, ◌<◌}
use Rattle.spa_rows.specs.Limits.{most_lecturers, most_projects, most_students, longest_choice}
use Rattle.portal_rules.specs.World.{LecturerRow, ProjectRow, StudentRow, Person, Listing}
use Rattle.portal_rules.specs.Words.{Key, equals, has}
use Rattle.portal_rules.specs.Calls.{OfficeSees}

-- a refused roll: the HTTP status, the error word, and the row, counted from 1, if there is one
pub record RollRefusal : Type 0 where
  pub status : ℕ
  pub word : List ℕ
  pub row : Option ℕ

abbrev pub conflict_at : ℕ → RollRefusal
conflict_at at = record { status = 409; word = codes "roll_conflict"; row = Some at }

abbrev pub bad_row_at : ℕ → RollRefusal
bad_row_at at = record { status = 422; word = codes "bad_row"; row = Some at }

abbrev pub roll_full : RollRefusal
roll_full = record { status = 422; word = codes "roll_full"; row = None }

-- the rules for new rows of a roll; `same` compares all fields; `is_bad` judges a new row beside the
-- present ones
pub record RollRules (X : Type 0) : Type 0 where
  pub key : X → Key
  pub same : X → X → Bool
  pub is_bad : List X → X → Bool
  pub fault : ℕ → RollRefusal
  pub limit : ℕ

-- what becomes of a row: it is present with all its fields, it is new, or it is rejected
pub data Verdict : Type 0 where
  Present : Verdict
  New : Verdict
  Rejected : RollRefusal → Verdict

-- row number `at`, given the row with its key, if one is there, and all rows that are there
abbrev pub verdict_beside : {X : Type 0} → RollRules X → ℕ → Option X → List X → X → Verdict
verdict_beside rules at (Some old) there row = if rules.same old row then Present else Rejected (conflict_at at)
verdict_beside rules at None there row =
    if rules.is_bad there row then Rejected (rules.fault at)
    else if nat_le rules.limit (length there) then Rejected roll_full
    else New

-- row number `at`, given the rows that are there
abbrev pub verdict : {X : Type 0} → RollRules X → ℕ → List X → X → Verdict
verdict rules at there row = verdict_beside rules at (find (λ x. equals (rules.key x) (rules.key row)) there) there row

-- the first fault, or the new rows and the number of rows that were already there
pub data Taken (X : Type 0) : Type 0 where
  Faulty : RollRefusal → Taken X
  Took : List X → ℕ → Taken X

-- the rows that are there after a row with this verdict
abbrev pub there_after : {X : Type 0} → List X → X → Verdict → List X
there_after there row New = row ∷ there
there_after there row _ = there

-- what is taken: a row with this verdict, and then what is taken of the later rows
abbrev pub with_row : {X : Type 0} → X → Verdict → Taken X → Taken X
with_row row (Rejected fault) later = Faulty fault
with_row row _ (Faulty fault) = Faulty fault
with_row row Present (Took new same) = Took new (same + 1)
with_row row New (Took new same) = Took (row ∷ new) same

-- `there` holds the rows on the roll and the new ones so far; `at` is the number of the next row
abbrev pub take_rows : {X : Type 0} → RollRules X → ℕ → List X → List X → Taken X
take_rows rules at there [] = Took [] 0
take_rows rules at there (row ∷ rows) =
    with_row row (verdict rules at there row)
    (take_rows rules (at + 1) (there_after there row (verdict rules at there row)) rows)

-- the code of a new person must not be in use by anybody
abbrev pub lecturer_roll : OfficeSees → RollRules LecturerRow
lecturer_roll v =
    record {
      key = λ r. r.key;
      same = λ a b. equals a.key b.key && equals a.name b.name && equals a.code b.code && (a.capacity == b.capacity);
      is_bad = λ there r. has (v.office_code ∷ map (λ s. s.code) v.students ++ map (λ l. l.code) there) r.code;
      fault = conflict_at;
      limit = most_lecturers;
    }

-- the lecturer of a new project must be on the roll
abbrev pub project_roll : OfficeSees → RollRules ProjectRow
project_roll v =
    record {
      key = λ r. r.key;
      same = λ a b.
          equals a.key b.key && equals a.lecturer b.lecturer && equals a.title b.title && (a.capacity == b.capacity);
      is_bad = λ there r. not (has (map (λ l. l.key) v.lecturers) r.lecturer);
      fault = bad_row_at;
      limit = most_projects;
    }

abbrev pub student_roll : OfficeSees → RollRules StudentRow
student_roll v =
    record {
      key = λ r. r.key;
      same = λ a b. equals a.key b.key && equals a.name b.name && equals a.code b.code;
      is_bad = λ there r. has (v.office_code ∷ map (λ l. l.code) v.lecturers ++ map (λ s. s.code) there) r.code;
      fault = conflict_at;
      limit = most_students;
    }

-- the position in the list, counted from 1, and the error word; at 0 an applicant is missing
pub record ListFault : Type 0 where
  pub at : ℕ
  pub word : List ℕ

abbrev pub fault_at : ℕ → List ℕ → ListFault
fault_at at word = record { at = at; word = word }

abbrev pub in_catalogue : List Listing → Key → Bool
in_catalogue ls k = list_any (λ l. equals l.key k) ls

abbrev pub is_applicant : List (Key × List Person) → Key → Bool
is_applicant ps k = list_any (λ p. list_any (λ s. equals s.key k) p.1) ps

-- some applicant is missing from the list
abbrev pub lacks_one : List (Key × List Person) → List Key → Bool
lacks_one ps ks = list_any (λ p. list_any (λ s. not (has ks s.key)) p.1) ps

-- the error word for the project that comes next in a student's list, if it is wrong
abbrev pub wrong_choice : List Listing → List Key → Key → Option (List ℕ)
wrong_choice catalogue earlier k =
    if length earlier == longest_choice then Some (codes "too_long")
    else if not (in_catalogue catalogue k) then Some (codes "unknown_project")
    else if has earlier k then Some (codes "repeated")
    else None

-- the error word for the student who comes next in a ranking, if that is wrong
abbrev pub wrong_rank : List (Key × List Person) → List Key → Key → Option (List ℕ)
wrong_rank applicants earlier k =
    if not (is_applicant applicants k) then Some (codes "not_an_applicant")
    else if has earlier k then Some (codes "repeated") else None

-- the fault at this position, if there is an error word, and else the later fault
abbrev pub or_later : ℕ → Option (List ℕ) → Option ListFault → Option ListFault
or_later at (Some word) later = Some (fault_at at word)
or_later at None later = later

-- the fault of the first key that is wrong, given the keys before it
abbrev pub first_wrong : (List Key → Key → Option (List ℕ)) → List Key → List Key → Option ListFault
first_wrong wrong earlier [] = None
first_wrong wrong earlier (k ∷ ks) =
    or_later (length earlier + 1) (wrong earlier k) (first_wrong wrong (earlier ++ k ∷ []) ks)

-- the first fault of a student's list
abbrev pub choice_fault : List Listing → List Key → Option ListFault
choice_fault catalogue list = first_wrong (wrong_choice catalogue) [] list

-- a missing applicant is reported last, at position 0
abbrev pub or_missing : Bool → Option ListFault → Option ListFault
or_missing lacks (Some fault) = Some fault
or_missing lacks None = if lacks then Some (fault_at 0 (codes "missing")) else None

-- the first fault of a ranking
abbrev pub ranking_fault : List (Key × List Person) → List Key → Option ListFault
ranking_fault applicants list = or_missing (lacks_one applicants list) (first_wrong (wrong_rank applicants) [] list)

-- rows that are all new: each has a new key, is not bad beside the rows before it, and has room
abbrev pub AreFresh : {X : Type 0} → RollRules X → List X → List X → Type 0
AreFresh roll there [] = Unit {0}
AreFresh roll there (r ∷ rs) =
    (list_any (λ x. equals (roll.key x) (roll.key r)) there ≡ false) × (roll.is_bad there r ≡ false)
    × (length there < roll.limit) × AreFresh roll (r ∷ there) rs

-- no key of the list is wrong, given the keys before it
abbrev pub NoneWrong : (List Key → Key → Option (List ℕ)) → List Key → Type 0
NoneWrong wrong list =
    (before : List Key) (k : Key) (after : List Key) → list ≡ before ++ k ∷ after → wrong before k ≡ None

-- the fault is that of the first wrong key, with its position, counted from 1
pub record IsFirstWrong (wrong : List Key → Key → Option (List ℕ)) (list : List Key) (fault : ListFault) : Type 0 where
  pub front : List Key
  pub key : Key
  pub rest : List Key
  pub parts : list ≡ front ++ key ∷ rest
  pub position : fault.at ≡ length front + 1
  pub word : wrong front key ≡ Some fault.word
  pub none_before : NoneWrong wrong front

-- the rows that are there, with the new rows in front, the last one first
abbrev pub with_new : {X : Type 0} → List X → List X → List X
with_new [] there = there
with_new (r ∷ rs) there = with_new rs (r ∷ there)

-- the first refused row: the rows before it are taken
pub record IsFirstRefused {X : Type 0} (rules : RollRules X) (there rows : List X) (fault : RollRefusal) : Type 0 where
  pub front : List X
  pub row : X
  pub rest : List X
  pub parts : rows ≡ front ++ row ∷ rest
  pub new : List X
  pub same : ℕ
  pub taken : take_rows rules 1 there front ≡ Took new same
  pub refused : verdict rules (length front + 1) (with_new new there) row ≡ Rejected fault
