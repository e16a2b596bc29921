-- What each command reads.
use Rattle.std.specs.Prelude.{Option, Some, None}
use Rattle.portal_answer.specs.declared.answer.Task.{Task}
use Rattle.portal_answer.specs.declared.answer.Task.TheVariants as task
use Rattle.portal_words.specs.declared.command.Command.{Command}
use Rattle.portal_words.specs.declared.command.Command.TheVariants as command

-- the task of a command that reads an instance file, from a name or the standard input
abbrev pub task_of : Command → Option Task
task_of (command.Check file) = Some task.Check
task_of (command.Solve file) = Some task.Solve
task_of _ = None

-- the command reads an instance file
abbrev pub IsOfFile : Command → Type 0
IsOfFile (command.Check file) = Unit {0}
IsOfFile (command.Solve file) = Unit {0}
IsOfFile _ = ⊥
