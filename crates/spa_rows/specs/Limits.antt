-- The limits on rows: how many lines, how long lists and keys, and how large capacities may be.
use Rattle.std.specs.Prelude.{ℕ}

-- the greatest number of lecturers
abbrev pub most_lecturers : ℕ
most_lecturers = 300

-- the greatest number of projects
abbrev pub most_projects : ℕ
most_projects = 1000

-- the greatest number of students
abbrev pub most_students : ℕ
most_students = 2000

-- the greatest number of projects on a student's list
abbrev pub longest_choice : ℕ
longest_choice = 20

-- the greatest capacity of a project or a lecturer; the least is 1
abbrev pub most_places : ℕ
most_places = 200

-- the greatest number of bytes of a key
abbrev pub longest_key : ℕ
longest_key = 16
