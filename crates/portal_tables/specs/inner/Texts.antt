-- The texts that write to the tables of lists, and that which sets a phase.
use Rattle.std.specs.Prelude.{◌++◌}
use Rattle.portal_tables.specs.inner.Base.{codes, List, ℕ, Round, First, Second}
use Rattle.portal_tables.specs.Tables.{ListTable}
use Rattle.portal_tables.specs.declared.sql.list_table.Lists.{Lists}
use Rattle.portal_tables.specs.declared.sql.list_table.Lists.TheVariants.{Choices, Rankings}

-- the round, and the place among the tables
abbrev pub round_of : Lists → Round
round_of (Choices round) = round
round_of (Rankings round) = round

abbrev pub place_among : Lists → ℕ
place_among (Choices First) = 4
place_among (Choices Second) = 7
place_among (Rankings First) = 5
place_among (Rankings Second) = 9

-- the text that sets the round's phase
abbrev pub phase_text : Round → List ℕ
phase_text First = codes "UPDATE portal SET phase = ?1 WHERE id = 1"
phase_text Second = codes "UPDATE second SET phase = ?1 WHERE id = 1"

-- the text that takes the rows of one owner away
abbrev pub clear_text : ListTable → List ℕ
clear_text t = codes "DELETE FROM " ++ t.name ++ codes " WHERE " ++ t.owner ++ codes " = ?1"

-- the texts that add one row, and eight
abbrev pub add_text : ListTable → List ℕ
add_text t = codes "INSERT INTO " ++ t.name ++ codes " (" ++ t.owner ++ codes ", place, " ++ t.item ++ codes ") VALUES (?1, ?2, ?3)"

abbrev pub add_eight_text : ListTable → List ℕ
add_eight_text t = add_text t ++ codes ", (?4, ?5, ?6), (?7, ?8, ?9), (?10, ?11, ?12), (?13, ?14, ?15), (?16, ?17, ?18), (?19, ?20, ?21), (?22, ?23, ?24)"
