use Rattle.portal_words.proofs.Base.{◌≡◌, Some, None, inl, inr, refl, codes, rules}
use Rattle.portal_words.specs.declared.command.Asked.TheVariants.{Do}
use Rattle.portal_words.specs.declared.command.Command.{Command}
use Rattle.portal_words.specs.declared.command.Command.TheVariants.{Check, Solve}
use Rattle.portal_words.specs.inner.Asks.{ChecksFile, SolvesFile}
use Rattle.portal_words.proofs.command.command_of.Goals as goal

checks_none : (command : Command) → ChecksFile None command → Do command ≡ Do (Check None)
checks_none (Check None) h = refl
checks_none (Check (Some path)) h = absurd (cc)
checks_none _ h = absurd h

solves_none : (command : Command) → SolvesFile None command → Do command ≡ Do (Solve None)
solves_none (Solve None) h = refl
solves_none (Solve (Some path)) h = absurd (cc)
solves_none _ h = absurd h

pub returns-in-Some-clause-check : goal.returns-in-Some-clause-check
returns-in-Some-clause-check g c is = checks_none c.in-Some.command
    (c.in-Some.ensures.check None (c.in-Ok.ensures.matches (codes "check") None (inl refl, is)))

pub returns-in-Some-clause-solve : goal.returns-in-Some-clause-solve
returns-in-Some-clause-solve g c is = solves_none c.in-Some.command
    (c.in-Some.ensures.solve None (c.in-Ok.ensures.matches (codes "solve") None (inr refl, is)))

pub returns-in-Some-clause-check_file : goal.returns-in-Some-clause-check_file
returns-in-Some-clause-check_file g c file is plain =
    c.in-Some.ensures.check (Some file) (c.in-Ok.ensures.matches (codes "check") (Some file) (inl refl, is, plain))

pub returns-in-Some-clause-solve_file : goal.returns-in-Some-clause-solve_file
returns-in-Some-clause-solve_file g c file is plain =
    c.in-Some.ensures.solve (Some file) (c.in-Ok.ensures.matches (codes "solve") (Some file) (inr refl, is, plain))

pub returns-in-Ok-clause-check : goal.returns-in-Ok-clause-check
returns-in-Ok-clause-check g c is = absurd (c.in-None.ensures.check None (c.in-Ok.ensures.matches (codes "check") None (inl refl, is)))

pub returns-in-Ok-clause-solve : goal.returns-in-Ok-clause-solve
returns-in-Ok-clause-solve g c is = absurd (c.in-None.ensures.solve None (c.in-Ok.ensures.matches (codes "solve") None (inr refl, is)))

pub returns-in-Ok-clause-check_file : goal.returns-in-Ok-clause-check_file
returns-in-Ok-clause-check_file g c file is plain =
    c.in-None.ensures.check (Some file) (c.in-Ok.ensures.matches (codes "check") (Some file) (inl refl, is, plain))

pub returns-in-Ok-clause-solve_file : goal.returns-in-Ok-clause-solve_file
returns-in-Ok-clause-solve_file g c file is plain =
    c.in-None.ensures.solve (Some file) (c.in-Ok.ensures.matches (codes "solve") (Some file) (inr refl, is, plain))

pub returns-clause-check : goal.returns-clause-check
returns-clause-check g c is = absurd (search (rules, c.in-Err.ensures.passes (codes "check") None (inl refl, is)))

pub returns-clause-solve : goal.returns-clause-solve
returns-clause-solve g c is = absurd (search (rules, c.in-Err.ensures.passes (codes "solve") None (inr refl, is)))

pub returns-clause-check_file : goal.returns-clause-check_file
returns-clause-check_file g c file is plain = search (rules, c.in-Err.ensures.passes (codes "check") (Some file) (inl refl, is, plain))

pub returns-clause-solve_file : goal.returns-clause-solve_file
returns-clause-solve_file g c file is plain = search (rules, c.in-Err.ensures.passes (codes "solve") (Some file) (inr refl, is, plain))

pub returns-in-Some-clause-database : goal.returns-in-Some-clause-database
returns-in-Some-clause-database g c name db takes is plain =
    c.in-Some.ensures.database name db (c.in-Ok.ensures.database name db (takes, is, plain)) takes

pub returns-in-Ok-clause-database : goal.returns-in-Ok-clause-database
returns-in-Ok-clause-database g c name db takes is plain =
    c.in-None.ensures.database name db (c.in-Ok.ensures.database name db (takes, is, plain)) takes

pub returns-clause-database : goal.returns-clause-database
returns-clause-database g c name db takes is plain = search (rules, c.in-Err.ensures.passes_database name db (takes, is, plain))
