-- Cursors into the students' lists, and cuts in the lecturers' rankings.
use Rattle.std.specs.Prelude.{◌≡◌, ◌⊎◌, ℕ, ◌+◌, ◌<◌, ◌≤◌, Some, None, length, slice_index, slice_set}
use Rattle.spa_model.specs.Spa.{Spa, place, project_of, choices_of, lecturer_of, ranking_of, at_project, at_lecturer}
use Rattle.spa_model.specs.Spa.{IsAcceptable, IsLawful}
use Rattle.spa_student.specs.declared.cuts.Progress.{Progress}
use Rattle.spa_student.specs.inner.Machine.{rank_of, IsProvisional}
use Rattle.spa_student.specs.inner.Worst.{IsAssignment, IsWorstAt, IsWorstWith}

-- s stands at or past the cut of p, or of p's lecturer
abbrev pub IsPastCut : Spa → Progress → ℕ → ℕ → Type 0
IsPastCut i q s p =
    (slice_index q.project_cuts.items p ≤ rank_of i (lecturer_of i p) s) ⊎ (slice_index q.lecturer_cuts.items (lecturer_of i p) ≤ rank_of i (lecturer_of i p) s)

-- the pair counts as deleted
abbrev pub IsCut : Spa → Progress → ℕ → ℕ → Type 0
IsCut i q s p = IsAcceptable i s p × IsPastCut i q s p

-- nobody is past the cuts at the own project
abbrev pub IsUncut : Spa → Progress → Type 0
IsUncut i q = (s p : ℕ) → project_of q.projects.items s ≡ Some p → IsPastCut i q s p → ⊥

-- how many students each project and each lecturer has
pub record AreCounts (i : Spa) (q : Progress) : Type 0 where
  pub project_rows : length q.project_counts.items ≡ length i.lecturers
  pub lecturer_rows : length q.lecturer_counts.items ≡ length i.rankings
  pub at_projects : (p : ℕ) → slice_index q.project_counts.items p ≡ at_project q.projects.items p
  pub at_lecturers : (l : ℕ) → slice_index q.lecturer_counts.items l ≡ at_lecturer i q.projects.items l

-- in a lawful instance, cursors and cuts are within the lists, each entry before a cursor is past
-- the cuts, and each student's project is at the cursor
pub record AreMarks (i : Spa) (q : Progress) : Type 0 where
  pub lawful : IsLawful i
  pub assigned : IsAssignment i q.projects.items
  pub cursor_rows : length q.cursors.items ≡ length i.choices
  pub project_rows : length q.project_cuts.items ≡ length i.lecturers
  pub lecturer_rows : length q.lecturer_cuts.items ≡ length i.rankings
  pub cursors : (s : ℕ) → slice_index q.cursors.items s ≤ length (choices_of i s)
  pub project_cuts : (p : ℕ) → slice_index q.project_cuts.items p ≤ length (ranking_of i (lecturer_of i p))
  pub lecturer_cuts : (l : ℕ) → slice_index q.lecturer_cuts.items l ≤ length (ranking_of i l)
  pub passed : (s p : ℕ) → place (choices_of i s) p < slice_index q.cursors.items s → IsPastCut i q s p
  pub at_cursor : (s p : ℕ) → project_of q.projects.items s ≡ Some p
      → place (choices_of i s) p ≡ slice_index q.cursors.items s

-- the marks are right, and the counts
pub record IsTallied (i : Spa) (q : Progress) : Type 0 where
  pub marks : AreMarks i q
  pub counts : AreCounts i q

-- s is a student who has no project
pub record IsFree (i : Spa) (q : Progress) (s : ℕ) : Type 0 where
  pub in_range : s < length i.choices
  pub unassigned : project_of q.projects.items s ≡ None

-- what holds before and after each turn
pub record IsUnderWay (i : Spa) (q : Progress) : Type 0 where
  pub marks : AreMarks i q
  pub counts : AreCounts i q
  pub holds : IsProvisional i q.projects.items (IsCut i q)

-- s is free, and p is the entry at the cursor and not cut
pub record IsNextEntry (i : Spa) (q : Progress) (s p : ℕ) : Type 0 where
  pub free : project_of q.projects.items s ≡ None
  pub acceptable : IsAcceptable i s p
  pub at_cursor : place (choices_of i s) p ≡ slice_index q.cursors.items s
  pub uncut : IsPastCut i q s p → ⊥

-- the cuts stay
pub record KeepsCuts (before after : Progress) : Type 0 where
  pub project_cuts : after.project_cuts.items ≡ before.project_cuts.items
  pub lecturer_cuts : after.lecturer_cuts.items ≡ before.lecturer_cuts.items

-- s is put at p
pub record Puts (s p : ℕ) (before after : Progress) : Type 0 where
  pub projects : after.projects.items ≡ slice_set before.projects.items s (Some p)
  pub cursors : after.cursors.items ≡ before.cursors.items

-- w leaves the own project, and the cursor of w moves on
pub record Leaves (w : ℕ) (before after : Progress) : Type 0 where
  pub projects : after.projects.items ≡ slice_set before.projects.items w None
  pub cursors : after.cursors.items ≡ slice_set before.cursors.items w (slice_index before.cursors.items w + 1)

-- w, the worst student at p, is let go, and the cut of p moves to w's place
pub record LetsGoAt (i : Spa) (p w : ℕ) (before after : Progress) : Type 0 where
  pub worst : IsWorstAt i before.projects.items p w
  pub leaves : Leaves w before after
  pub project_cuts : after.project_cuts.items ≡ slice_set before.project_cuts.items p (rank_of i (lecturer_of i p) w)
  pub lecturer_cuts : after.lecturer_cuts.items ≡ before.lecturer_cuts.items
  pub marks : AreMarks i after
  pub counts : AreCounts i after

-- the same of the worst student with p's lecturer, whose cut moves
pub record LetsGoByLecturer (i : Spa) (p w : ℕ) (before after : Progress) : Type 0 where
  pub worst : IsWorstWith i before.projects.items (lecturer_of i p) w
  pub leaves : Leaves w before after
  pub project_cuts : after.project_cuts.items ≡ before.project_cuts.items
  pub lecturer_cuts : after.lecturer_cuts.items ≡ slice_set before.lecturer_cuts.items (lecturer_of i p) (rank_of i (lecturer_of i p) w)
  pub marks : AreMarks i after
  pub counts : AreCounts i after

-- s is put at p, and w is let go
pub record Exchanges (s p w : ℕ) (before after : Progress) : Type 0 where
  pub in_range : w < length before.projects.items
  pub projects : after.projects.items ≡ slice_set (slice_set before.projects.items s (Some p)) w None
  pub cursors : after.cursors.items ≡ slice_set before.cursors.items w (slice_index before.cursors.items w + 1)

-- s has a project, or no entry left
abbrev pub IsPlacedOrExhausted : Spa → Progress → ℕ → Type 0
IsPlacedOrExhausted i q s =
    project_of q.projects.items s ≡ None → length (choices_of i s) ≤ slice_index q.cursors.items s
