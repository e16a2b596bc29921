use Rattle.spa_model.proofs.Base.{◌≡◌, List, length, take, AllZip, Text, AreNumbers, IsStudentOf}
use Rattle.spa_model.proofs.build.numbers.number_students.Given as goal

-- the rows so far
abbrev pub invariant-loop-place : goal.invariant-loop-place
invariant-loop-place l = (keys : List Text) → AllZip (λ x own. AreNumbers keys x.list own.items) l.lines l.choices
    → AllZip (IsStudentOf keys) (take l.place l.lines) l.students.items
