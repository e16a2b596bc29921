use Rattle.portal_words.specs.inner.Asks.{IsOverDatabase}
use Rattle.portal_run.proofs.Told.{named, shown, unread}
use Rattle.portal_run.proofs.commands.run.Goals as goal

pub returns-in-Ok-Do-clause-database : goal.returns-in-Ok-Do-clause-database
returns-in-Ok-Do-clause-database g c name db takes is plain =
    let asked = c.in-Ok-Do.ensures.database name db takes is plain in
    let over : IsOverDatabase name db c.in-Ok-Do.command = rw c.in-Ok-Do.field-0-is at asked in
    named _ _ _ _ name db c.in-Ok-Do.command over c.run_command.ensures.performs

pub returns-in-Ok-Show-clause-database : goal.returns-in-Ok-Show-clause-database
returns-in-Ok-Show-clause-database g c name db takes is plain =
    let asked = c.in-Ok-Show.ensures.database name db takes is plain in
    shown _ _ _ _ name db (rw c.in-Ok-Show.field-0-is at asked)

pub returns-in-Err-clause-database : goal.returns-in-Err-clause-database
returns-in-Err-clause-database g c name db takes is plain = unread _ _ _ _ name db takes c.say_fault.ensures.says
