-- What a command line asks for.
use Rattle.std.specs.Prelude.{◌≡◌, Option, codes, option_map}
use Rattle.clap.specs.Words.{Text}
use Rattle.portal_words.specs.declared.command.Asked.{Asked}
use Rattle.portal_words.specs.declared.command.Asked.TheVariants.{Do}
use Rattle.portal_words.specs.declared.command.Command.{Command}
use Rattle.portal_words.specs.declared.command.Command.TheVariants.{Check, Solve, Init, Pipe, Report, Upgrade}

-- the pairs of this file are asked for, or its matching; of the standard input where there is none
abbrev pub ChecksFile : Option Text → Command → Type 0
ChecksFile file (Check path) = option_map (λ p. p.now) path ≡ file
ChecksFile file _ = ⊥

abbrev pub SolvesFile : Option Text → Command → Type 0
SolvesFile file (Solve path) = option_map (λ p. p.now) path ≡ file
SolvesFile file _ = ⊥

-- the command of this name is asked for, over this database
abbrev pub IsOverDatabase : Text → Text → Command → Type 0
IsOverDatabase name db (Init path) = (name ≡ codes "init") × (path.now ≡ db)
IsOverDatabase name db (Pipe path) = (name ≡ codes "pipe") × (path.now ≡ db)
IsOverDatabase name db (Report path) = (name ≡ codes "report") × (path.now ≡ db)
IsOverDatabase name db (Upgrade path) = (name ≡ codes "upgrade") × (path.now ≡ db)
IsOverDatabase name db _ = ⊥

-- a command is asked for, with a fact
abbrev pub Asks : (Command → Type 0) → Asked → Type 0
Asks P (Do command) = P command
Asks P _ = ⊥
