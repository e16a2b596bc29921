-- What the CREATE texts define: the schemas are as they are written out.
use Rattle.portal_tables.proofs.Base.{◌≡◌, ◌∷◌, refl, ap, ◌∙◌, List, [], ℕ, Ok, AllZip, Table, Schema, created, fold}
use Rattle.portal_tables.proofs.Base.{table_defined_by, everything, understood, no_schema, first_schema, portal_schema}
use Rattle.portal_tables.proofs.Base.{with_created, first_texts, second_texts, first_tables, second_tables}
use Rattle.portal_tables.proofs.Base.{first_written, portal_written, with_second}
use Rattle.std.specs.Option.{option_map_or}
use Rattle.std.specs.Result.{result_ok}

abbrev Define : List (List ℕ) → List Table → Type 0
Define = AllZip (λ text table. table_defined_by text ≡ Ok table)

first_defined : Define first_texts first_tables
unfolding understood everything
first_defined = (refl, (refl, (refl, (refl, (refl, (refl, tt))))))

second_defined : Define second_texts second_tables
unfolding understood everything
second_defined = (refl, (refl, (refl, (refl, (refl, tt)))))

pub first_full : fold created no_schema first_tables ≡ first_written
unfolding understood everything
first_full = refl

pub full_is : with_second first_written ≡ portal_written
unfolding understood everything
full_is = refl

-- texts add the tables that they define
all_created : (s : Schema) (texts : List (List ℕ)) (tables : List Table) → Define texts tables
    → fold with_created s texts ≡ fold created s tables
unfolding with_created
all_created s [] [] all = refl
all_created s (text ∷ texts) (table ∷ tables) all =
    ap (λ r. fold with_created (option_map_or (created s) (result_ok r) s) texts) all.0 ∙ all_created (created s table) texts tables all.1
all_created s _ _ all = absurd all

pub first_as_written : first_schema ≡ first_written
unfolding first_schema
first_as_written = all_created no_schema first_texts first_tables first_defined ∙ first_full

pub portal_as_written : portal_schema ≡ portal_written
unfolding portal_schema
portal_as_written =
    ap (λ s. fold with_created s second_texts) first_as_written
    ∙ all_created first_written second_texts second_tables second_defined ∙ full_is
