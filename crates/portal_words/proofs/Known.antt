-- What the parser makes of the words that ask for a command with one word, or for `check` and `solve` without.
use Rattle.portal_words.proofs.Base.{◌≡◌, ◌∙◌, ◌&&◌, Bool, true, false, Option, Some, None, List, [], ◌∷◌, refl, sym}
use Rattle.portal_words.proofs.Base.{ap, subst, inl, inr, codes, rules, Row, Text, is_simple, subcommand_of, takes}
use Rattle.portal_words.proofs.Base.{AsksDatabase, AsksFile, MeetsDatabase, MeetsFile, TakesDatabase, TakesFile, portal_app}
use Rattle.std.specs.Prelude.{◌==◌, IsTrue}
use Rattle.std.specs.Str.{bytes_eq}
use Rattle.clap.specs.Lexer.{strip_byte}
use Rattle.clap.specs.Simple.{built, entered, names_of}
use Rattle.clap.specs.Takes.{built_takes}
use Rattle.clap.specs.Walk.{nothing_held, stop_after}
use Rattle.clap.proofs.OnLiterals.{clap_on_literals}
use Rattle.portal_words.specs.Line.{is_file_word}

pub simple : is_simple portal_app ≡ true
unfolding clap_on_literals
simple = refl

-- a word with no hyphen in front
is_no_option : (word : Text) → IsTrue (is_file_word word)
    → (strip_byte 45 word ≡ None) × (bytes_eq word (codes "--") ≡ false)
is_no_option [] h = (refl, refl)
is_no_option (b ∷ word) h = let other : (b == 45) ≡ false = search (rules, h) in (rw other refl, rw other refl)

-- of the words after the program's name

abbrev is_taken : List Text → Bool
is_taken ws = is_simple portal_app && built_takes (built portal_app) nothing_held ws

abbrev met : List Text → Option (Text × List Row)
met ws = entered (built portal_app) (stop_after (built portal_app).top.rules (names_of (built portal_app)) ws)

name_taken : (name : Text) → TakesFile name → is_taken (name ∷ []) ≡ true
unfolding clap_on_literals
name_taken name (inl e) = rw e
name_taken name (inr e) = rw e

file_taken : (name file : Text) → TakesFile name → strip_byte 45 file ≡ None → bytes_eq file (codes "--") ≡ false
    → is_taken (name ∷ file ∷ []) ≡ true
unfolding clap_on_literals
file_taken name file (inl e) short long = rw e (simp (short, long))
file_taken name file (inr e) short long = rw e (simp (short, long))

name_met : (name : Text) → TakesFile name → MeetsFile (met (name ∷ [])) name None
unfolding clap_on_literals
name_met name (inl e) = rw e (_, refl, refl)
name_met name (inr e) = rw e (_, refl, refl)

file_met : (name file : Text) → TakesFile name → strip_byte 45 file ≡ None → bytes_eq file (codes "--") ≡ false
    → MeetsFile (met (name ∷ file ∷ [])) name (Some file)
unfolding clap_on_literals
file_met name file (inl e) short long = rw e (_, refl, simp (short, long))
file_met name file (inr e) short long = rw e (_, refl, simp (short, long))

pub taken : (words : List Text) (name : Text) (file : Option Text) → AsksFile words name file
    → takes portal_app words ≡ true
taken words name None h = ap is_taken h.1 ∙ name_taken name h.0
taken words name (Some file) h = let plain = is_no_option file h.2 in ap is_taken h.1 ∙ file_taken name file h.0 plain.0 plain.1

pub is_met : (words : List Text) (name : Text) (file : Option Text) → AsksFile words name file
    → MeetsFile (subcommand_of portal_app words) name file
is_met words name None h = subst (λ ws. MeetsFile (met ws) name None) (sym h.1) (name_met name h.0)
is_met words name (Some file) h =
    let plain = is_no_option file h.2 in
    subst (λ ws. MeetsFile (met ws) name (Some file)) (sym h.1) (file_met name file h.0 plain.0 plain.1)

-- of the commands over a database

database_taken : (name db : Text) → TakesDatabase name → strip_byte 45 db ≡ None → bytes_eq db (codes "--") ≡ false
    → is_taken (name ∷ db ∷ []) ≡ true
unfolding clap_on_literals
database_taken name db (inl e) short long = rw e (simp (short, long))
database_taken name db (inr (inl e)) short long = rw e (simp (short, long))
database_taken name db (inr (inr (inl e))) short long = rw e (simp (short, long))
database_taken name db (inr (inr (inr e))) short long = rw e (simp (short, long))

database_met : (name db : Text) → TakesDatabase name → strip_byte 45 db ≡ None → bytes_eq db (codes "--") ≡ false
    → MeetsDatabase (met (name ∷ db ∷ [])) name db
unfolding clap_on_literals
database_met name db (inl e) short long = rw e (_, refl, simp (short, long))
database_met name db (inr (inl e)) short long = rw e (_, refl, simp (short, long))
database_met name db (inr (inr (inl e))) short long = rw e (_, refl, simp (short, long))
database_met name db (inr (inr (inr e))) short long = rw e (_, refl, simp (short, long))

pub taken_database : (words : List Text) (name db : Text) → AsksDatabase words name db → takes portal_app words ≡ true
taken_database words name db h =
    let plain = is_no_option db h.2 in ap is_taken h.1 ∙ database_taken name db h.0 plain.0 plain.1

pub is_met_database : (words : List Text) (name db : Text) → AsksDatabase words name db
    → MeetsDatabase (subcommand_of portal_app words) name db
is_met_database words name db h =
    let plain = is_no_option db h.2 in
    subst (λ ws. MeetsDatabase (met ws) name db) (sym h.1) (database_met name db h.0 plain.0 plain.1)
