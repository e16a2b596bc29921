-- What one run of the program does, with known input and output.
use Rattle.std.specs.Prelude.{◌≤◌, ℕ, Option, length, ◌≡◌, IfSome}
use Rattle.std.specs.Io.KnownBytes.{Consumes, Appends}
use Rattle.portal_answer.specs.Answer.{Text, Output, IsAnswer}
use Rattle.portal_answer.specs.declared.answer.Task.{Task}

-- at most so many bytes of the input are read
abbrev pub ConsumesAtMost : ℕ → Option Text → Option Text → Type 0
ConsumesAtMost most old new = (taken : Text) × (length taken ≤ most) × Consumes old new taken

-- the answer to the whole input is written, and `status` is its exit status
abbrev pub WritesAnswer : Task → Option Text → ℕ → Option Text → Option Text → Type 0
WritesAnswer task input status old new =
    IfSome input (λ bytes. (told : Output) × IsAnswer task bytes told × (status ≡ told.status)
    × Appends old new told.text)

-- the same for some bytes, since those of a named file are not known here
abbrev pub AnswersSome : Task → ℕ → Option Text → Option Text → Type 0
AnswersSome task status old new =
    (bytes : Text) × (told : Output) × IsAnswer task bytes told × (status ≡ told.status) × Appends old new told.text
