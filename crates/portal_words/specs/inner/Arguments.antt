-- The command line of the program, as a parser reads it.
use Rattle.std.specs.Prelude.{◌≡◌, ◌⊎◌, ℕ, true, false, IsTrue, List, [], ◌∷◌, codes, drop, Option, Some, None}
use Rattle.clap.specs.Simple.{on_top}
use Rattle.clap.specs.Words.{App, Row, Rule, Text, app_of, first_of, new_app, new_rule, with_rule, with_subcommand}
use Rattle.clap.specs.declared.builder.command.Command.{Command}
use Rattle.clap.specs.declared.builder.command.Command.TheViews.{out-Command}
use Rattle.clap.specs.declared.builder.value_parser.ValueParser.TheVariants.{Unsigned}
use Rattle.portal_words.specs.Line.{TakesDatabase, is_file_word}

-- a command with one optional word
abbrev pub file_app : Text → App
file_app name = with_rule (new_app name) (new_rule (codes "FILE"))

-- a command with one word that has to be there
abbrev pub database_app : Text → App
database_app name = with_rule (new_app name) (record (new_rule (codes "DB")) { required = true })

-- a number from 1 to the most
abbrev pub number_rule : Text → ℕ → Rule
number_rule name most = record (new_rule name) { long = Some name; value_names = 1; parser = Some (Unsigned 1 most) }

abbrev pub port_rule : Rule
port_rule = record (number_rule (codes "port") 65535) { required = true }

-- 1000 where no number is given
abbrev pub connections_rule : Rule
connections_rule = record (number_rule (codes "connections") 1000000) { defaults = codes "1000" ∷ [] }

-- the command that listens: a port, and how many connections it takes
abbrev pub serve_app : App
serve_app = with_rule (with_rule (database_app (codes "serve")) port_rule) connections_rule

-- the command that waits for its subcommand, and has a version to tell
abbrev pub top_app : App
top_app = on_top (λ s. record s { has_version = true; subcommand_required = true }) (new_app (codes "portal"))

-- the commands on instance files
abbrev pub files_app : App
files_app = with_subcommand (with_subcommand top_app (file_app (codes "check")).top) (file_app (codes "solve")).top

-- the whole command line
abbrev pub portal_app : App
portal_app =
    with_subcommand (with_subcommand (with_subcommand (with_subcommand (with_subcommand files_app (database_app (codes "init")).top) serve_app.top)
    (database_app (codes "pipe")).top) (database_app (codes "report")).top) (database_app (codes "upgrade")).top

-- a command that reads its words as this one does, with no global argument
pub record Reads (c : Command) (a : App) : Type 0 where
  pub app : app_of c ≡ a
  pub local : (out-Command c).has_globals ≡ false

-- the commands that take a file
abbrev pub TakesFile : Text → Type 0
TakesFile name = (name ≡ codes "check") ⊎ (name ≡ codes "solve")

-- the words are the program's name and such a command, with a file or none
abbrev pub AsksFile : List Text → Text → Option Text → Type 0
AsksFile words name None = TakesFile name × (drop 1 words ≡ name ∷ [])
AsksFile words name (Some file) = TakesFile name × (drop 1 words ≡ name ∷ file ∷ []) × IsTrue (is_file_word file)

-- a subcommand of this name was met, with this file
abbrev pub MeetsFile : Option (Text × List Row) → Text → Option Text → Type 0
MeetsFile met name file = (rows : List Row) × (met ≡ Some (name, rows)) × (first_of (codes "FILE") rows ≡ file)

-- the words are the program's name and a command over a database, with the database
abbrev pub AsksDatabase : List Text → Text → Text → Type 0
AsksDatabase words name db = TakesDatabase name × (drop 1 words ≡ name ∷ db ∷ []) × IsTrue (is_file_word db)

-- a subcommand of this name was met, with this database
abbrev pub MeetsDatabase : Option (Text × List Row) → Text → Text → Type 0
MeetsDatabase met name db = (rows : List Row) × (met ≡ Some (name, rows)) × (first_of (codes "DB") rows ≡ Some db)
