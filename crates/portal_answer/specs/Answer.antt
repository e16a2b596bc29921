-- The answers of `portal check` and `portal solve` to the bytes of an instance file.
use Rattle.std.specs.Prelude.{ℕ, List, codes, ◌++◌, [], ◌≡◌, Option, length, slice_index_or, ◌==◌, if◌then◌else◌, Some}
use Rattle.std.specs.Prelude.{None, count_by, is_some, is_none, ◌⊎◌, Result, Ok, Err, Bool, true, false, nat_lt}
use Rattle.std.specs.Fmt.{decimal}
use Rattle.spa_rows.specs.declared.faults.InstanceFault.{InstanceFault}
use Rattle.spa_rows.specs.declared.faults.InstanceFault.TheVariants as instance
use Rattle.spa_model.specs.declared.matching.MatchingFault.{MatchingFault}
use Rattle.spa_model.specs.declared.matching.MatchingFault.TheVariants as matching
use Rattle.portal_rolls.specs.declared.fault.RollFault.{RollFault}
use Rattle.portal_rolls.specs.declared.fault.RollFault.TheVariants as file
use Rattle.std.specs.List.{flat_map, zip}
use Rattle.spa_model.specs.Spa.{Spa, text_of, IsBest}
use Rattle.spa_check.specs.Listed.{AreAllBlocks}
use Rattle.spa_check.specs.declared.blocking.Block.{Block}
use Rattle.spa_rows.specs.Lines.{Pair, Rows}
use Rattle.spa_rows.specs.Faults.{IsFirstFault}
use Rattle.spa_model.specs.Pairs.{IsInstanceOf, IsMatchingOf, IsFirstPairFault}
use Rattle.portal_rolls.specs.Lines.{File, rows}
use Rattle.portal_answer.specs.declared.answer.Task.{Task}
use Rattle.portal_answer.specs.declared.answer.Task.TheVariants.{Check, Solve}

abbrev pub Text : Type 0
Text = List ℕ

-- an output text with its exit status
pub record Output : Type 0 where
  pub text : Text
  pub status : ℕ

-- refused input has the exit status 2
abbrev pub refusal : Text → Output
refusal text = record { text = text; status = 2 }

-- a refusal that names no row
abbrev pub refused_plain : Text → Output
refused_plain word = refusal (codes "refused " ++ word ++ codes "\n")

-- a refusal that names a row
abbrev pub refused_row : Text → ℕ → Output
refused_row word row = refusal (codes "refused " ++ word ++ codes " row " ++ decimal row ++ codes "\n")

-- the refusal of a file that cannot be read as rows
abbrev pub refused_file : RollFault → Output
refused_file file.NoHeader = refused_plain (codes "no_header")
refused_file file.BadHeader = refused_plain (codes "bad_header")
refused_file (file.FieldCount row) = refused_row (codes "field_count") row
refused_file (file.NotText row) = refused_row (codes "not_text") row
refused_file (file.BadField row column) =
    refusal (codes "refused bad_field row " ++ decimal row ++ codes " column " ++ decimal column ++ codes "\n")
refused_file file.TooMany = refused_plain (codes "too_many_rows")
refused_file file.Memory = refusal []

-- the error word of a fault
abbrev pub instance_word : InstanceFault → Text
instance_word instance.TooMany = codes "too_many"
instance_word instance.BadKey = codes "bad_key"
instance_word instance.KeyTwice = codes "key_twice"
instance_word instance.BadCapacity = codes "bad_capacity"
instance_word instance.NoSuchLecturer = codes "no_such_lecturer"
instance_word instance.NoSuchProject = codes "no_such_project"
instance_word instance.RepeatInList = codes "repeat_in_list"
instance_word instance.ListTooLong = codes "list_too_long"
instance_word instance.NotApplicant = codes "not_applicant"
instance_word instance.ApplicantMissing = codes "applicant_missing"
instance_word instance.Memory = []

abbrev pub matching_word : MatchingFault → Text
matching_word matching.NoSuchStudent = codes "pair_no_student"
matching_word matching.NoSuchProject = codes "pair_no_project"
matching_word matching.NotAcceptable = codes "pair_not_acceptable"
matching_word matching.StudentTwice = codes "student_twice"
matching_word matching.ProjectOver = codes "project_over"
matching_word matching.LecturerOver = codes "lecturer_over"
matching_word matching.Memory = []

-- the refusal of rows that are no instance; only `too_many` names no row
abbrev pub refused_instance : InstanceFault → ℕ → Output
refused_instance instance.TooMany row = refused_plain (instance_word instance.TooMany)
refused_instance fault row = refused_row (instance_word fault) row

-- the refusal of pairs that are no matching
abbrev pub refused_matching : MatchingFault → ℕ → Output
refused_matching fault row = refused_row (matching_word fault) row

abbrev pub block_line : Spa → Block → Text
block_line i b =
    codes "block " ++ slice_index_or i.student_keys b.student [] ++ codes " "
    ++ slice_index_or i.project_keys b.project [] ++ codes " " ++ text_of b.letter ++ codes "\n"

-- a line for each blocking pair, then their number; the status is 0 if there is none, otherwise 1
abbrev pub blocking : Spa → List Block → Output
blocking i blocks = record {
  text = flat_map (block_line i) blocks ++ (codes "blocking " ++ decimal (length blocks) ++ codes "\n");
  status = if length blocks == 0 then 0 else 1;
}

-- the answer lists all pairs that block the matching, by student, then by project
abbrev pub TellsBlocks : Spa → List (Option ℕ) → Output → Type 0
TellsBlocks i m told = (blocks : List Block) × AreAllBlocks i m blocks × (told ≡ blocking i blocks)

-- the line of a student, with the project or none
abbrev pub assign_line : Spa → Text → Option ℕ → Text
assign_line i student None = codes "none " ++ student ++ codes "\n"
assign_line i student (Some p) =
    codes "assign " ++ student ++ codes " " ++ slice_index_or i.project_keys p [] ++ codes "\n"

-- a line for each student, by key, then the numbers of students with and without a project
abbrev pub assignment : Spa → List (Option ℕ) → Output
assignment i m = record {
  text = flat_map (λ e. assign_line i e.0 e.1) (zip i.student_keys m)
      ++ (codes "assigned " ++ decimal (count_by is_some m)
      ++ codes " unassigned " ++ decimal (count_by is_none m) ++ codes "\n");
  status = 0;
}

-- the answer is the student-optimal stable matching
abbrev pub TellsBest : Spa → Output → Type 0
TellsBest i told = (m : List (Option ℕ)) × IsBest i m × (told ≡ assignment i m)

-- `Check` reports the blocking pairs; `Solve` the best matching, whatever the one in the file
abbrev pub OfMatching : Task → Spa → List (Option ℕ) → Output → Type 0
OfMatching Check i m told = TellsBlocks i m told
OfMatching Solve i m told = TellsBest i told

-- the answer for an instance and pairs: their first fault, or the answer for their matching
abbrev pub OfPairs : Task → Spa → List Pair → Output → Type 0
OfPairs task i pairs told =
    ((fault : MatchingFault) × (r : ℕ) × IsFirstPairFault i pairs fault r × (told ≡ refused_matching fault r))
    ⊎ ((m : List (Option ℕ)) × IsMatchingOf i pairs m × OfMatching task i m told)

abbrev pub file_rows : File → Rows
file_rows f = record { lecturers = f.lecturers; projects = f.projects; students = f.students }

-- the answer for a file's rows: their first fault, or the answer for their instance and the pairs
abbrev pub OfFile : Task → File → Output → Type 0
OfFile task f told =
    ((fault : InstanceFault) × (r : ℕ) × IsFirstFault (file_rows f) fault r × (told ≡ refused_instance fault r))
    ⊎ ((i : Spa) × IsInstanceOf (file_rows f) i × OfPairs task i f.pairs told)

-- the answer for what was read: the reader's fault, or the answer for the file
abbrev pub OfRead : Task → Result File RollFault → Output → Type 0
OfRead task (Err fault) told = told ≡ refused_file fault
OfRead task (Ok f) told = OfFile task f told

-- the greatest size of a file, in bytes
abbrev pub limit : ℕ
limit = 4194304

-- a file over the limit is refused, any other is read
abbrev pub IfLonger : Task → Bool → Text → Output → Type 0
IfLonger task true bytes told = told ≡ refused_plain (codes "too_large")
IfLonger task false bytes told = OfRead task (rows bytes) told

-- the answer for the bytes of a file
abbrev pub IsAnswer : Task → Text → Output → Type 0
IsAnswer task bytes told = IfLonger task (nat_lt limit (length bytes)) bytes told
