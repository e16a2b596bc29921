use Rattle.portal_answer.proofs.Base.{◌≡◌, ◌≤◌, take, is_some, flat_map, zip, count_by, assign_line}
use Rattle.portal_answer.proofs.solution.lines.Given as goal

-- the lines of the students so far, and how many have a project
pub record SoFar (l : goal.Live-loop-student) : Type 0 where
  pub text : l.text.items ≡ flat_map (λ e. assign_line l.instance e.0 e.1) (take l.student (zip l.instance.student_keys l.matching))
  pub assigned : l.assigned ≡ count_by is_some (take l.student l.matching)
  pub few : l.assigned ≤ l.student

abbrev pub invariant-loop-student : goal.invariant-loop-student
invariant-loop-student l = SoFar l
