use Rattle.spa_model.proofs.Base.{◌≡◌, List, length, take, AllZip, Text, AreNumbers, IsLecturerOf}
use Rattle.spa_model.proofs.build.numbers.number_lecturers.Given as goal

-- the rows so far
abbrev pub invariant-loop-place : goal.invariant-loop-place
invariant-loop-place l = (keys : List Text) → length keys ≡ l.students
    → AllZip (λ x own. AreNumbers keys x.list own.items) l.lines l.rankings
    → AllZip (IsLecturerOf keys) (take l.place l.lines) l.lecturers.items
