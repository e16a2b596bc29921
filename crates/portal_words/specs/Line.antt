-- The command line of the program, as a parser reads it.
use Rattle.std.specs.Prelude.{◌≡◌, ◌==◌, ◌⊎◌, Bool, true, not, [], ◌∷◌, codes}
use Rattle.clap.specs.Words.{Text}

-- the word is a file's name and no option: it does not begin with a hyphen
abbrev pub is_file_word : Text → Bool
is_file_word [] = true
is_file_word (b ∷ word) = not (b == 45)

-- the name of a command that takes a database and no option
abbrev pub TakesDatabase : Text → Type 0
TakesDatabase name =
    (name ≡ codes "init") ⊎ ((name ≡ codes "pipe") ⊎ ((name ≡ codes "report") ⊎ (name ≡ codes "upgrade")))
