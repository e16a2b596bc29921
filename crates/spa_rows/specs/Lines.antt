-- The form of a key, and the lines of an instance, with every text as a list of bytes.
use Rattle.std.specs.Prelude.{ℕ, Bool, List, length, ◌&&◌, ◌||◌, ◌==◌, nat_le}
use Rattle.std.specs.Char.{is_ascii_alphanumeric}
use Rattle.std.specs.List.{list_all}
use Rattle.spa_rows.specs.Limits.{longest_key}

-- an ASCII letter or digit, `-`, `_` or `.`
abbrev pub is_key_byte : ℕ → Bool
is_key_byte b = is_ascii_alphanumeric b || b == 45 || b == 95 || b == 46

-- a key has 1 to so many of these bytes
abbrev pub is_key : List ℕ → Bool
is_key bytes = nat_le 1 (length bytes) && nat_le (length bytes) longest_key && list_all is_key_byte bytes

abbrev pub Text : Type 0
Text = List ℕ

-- a lecturer, with the list of students, best first
pub record LecturerWithList : Type 0 where
  pub row : ℕ
  pub key : Text
  pub capacity : ℕ
  pub list : List Text

-- a project, and the lecturer who offers it
pub record ProjectWithLecturer : Type 0 where
  pub row : ℕ
  pub key : Text
  pub capacity : ℕ
  pub lecturer : Text

-- a student, with the list of projects, best first
pub record StudentWithList : Type 0 where
  pub row : ℕ
  pub key : Text
  pub list : List Text

-- a pair: the student is at the project
pub record Pair : Type 0 where
  pub row : ℕ
  pub student : Text
  pub project : Text

-- the lines of an instance by kind, each kind in its given order
pub record Rows : Type 0 where
  pub lecturers : List LecturerWithList
  pub projects : List ProjectWithLecturer
  pub students : List StudentWithList
