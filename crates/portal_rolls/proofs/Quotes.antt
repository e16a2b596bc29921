-- The text of a record by the default writer is the text of the definition.
use Rattle.portal_rolls.proofs.Base.{arith, ◌≤◌, length, ◌≡◌, ℕ, Bool, true, false, List, [], ◌∷◌, ◌++◌, refl, sym, ap}
use Rattle.portal_rolls.proofs.Base.{◌∙◌, subst, Some, None, ◌≢◌, ◌==◌, Option, flat_map, eqb-true, default_writer}
use Rattle.portal_rolls.proofs.Base.{row_text, csv_record, ◌||◌, if◌then◌else◌, codes, list_any, needs_byte, field_text}
use Rattle.portal_rolls.proofs.Base.{needs_quotes, doubled, csv_field}
use Rattle.std.specs.Io.KnownBytes.{Appends}
use Rattle.csv.specs.Writing.{escaped, fields_text, is_blank}
use Rattle.csv.specs.declared.writer.WriterBuilder.{WriterBuilder}
use Rattle.csv.specs.declared.writer.QuoteStyle.TheVariants as style

regrouped : (p q r s : Bool) → ((((p || q) || (r || s)) || false) || false) ≡ (((p || q) || r) || s)
regrouped p q r s = grind arith

needs-same : (b : ℕ) → needs_byte default_writer b ≡ needs_quotes b
needs-same b = regrouped (b == 44) (b == 34) (b == 13) (b == 10)

any-same : (field : List ℕ) → list_any (needs_byte default_writer) field ≡ list_any needs_quotes field
any-same field = λ i. list_any (λ b. needs-same b i) field

doubled-same : (b : ℕ) (is : Bool) (one all : List ℕ) → (b == 34) ≡ is → one ≡ all
    → (if is then 34 ∷ b ∷ one else b ∷ one) ≡ (if is then 34 ∷ 34 ∷ [] else b ∷ []) ++ all
doubled-same b true one all e same = ap (λ x. 34 ∷ x ∷ one) (eqb-true b 34 e) ∙ ap (λ xs. 34 ∷ 34 ∷ xs) same
doubled-same b false one all e same = ap (λ xs. b ∷ xs) same

escaped-same : (field : List ℕ) → escaped default_writer field ≡ flat_map doubled field
unfolding escaped
escaped-same [] = refl
escaped-same (b ∷ field) = doubled-same b (b == 34) (escaped default_writer field) (flat_map doubled field) refl (escaped-same field)

field-same : (field : List ℕ) → field_text default_writer field ≡ csv_field field
field-same field = λ i. if any-same field i then 34 ∷ (escaped-same field i ++ (34 ∷ [])) else field

fields-same : (fields : List (List ℕ))
    → fields_text default_writer fields ≡ flat_map (λ field. codes "," ++ csv_field field) fields
unfolding fields_text
fields-same [] = refl
fields-same (field ∷ fields) = λ i. 44 ∷ (field-same field i ++ fields-same fields i)

pub record-same : (first second : List ℕ) (rest : List (List ℕ))
    → row_text default_writer (first ∷ second ∷ rest) ≡ csv_record (first ∷ second ∷ rest)
unfolding is_blank
record-same first second rest = λ i. (field-same first i ++ fields-same (second ∷ rest) i) ++ 10 ∷ []

pub plain : (setup : WriterBuilder) → setup ≡ default_writer → setup.style ≢ style.NonNumeric
plain setup e = subst (λ w. w.style ≢ style.NonNumeric) (sym e) (λ f. cc f)

pub appended : (old new : Option (List ℕ)) (text row : List ℕ) → Appends old new row → old ≡ Some text
    → new ≡ Some (text ++ row)
appended None new text row appends e = absurd (cc)
appended (Some xs) None text row appends e = absurd appends
appended (Some xs) (Some ys) text row appends e = ap Some (appends ∙ ap (λ zs. zs ++ row) (same xs text e))
  where
    same : (xs text : List ℕ) → ◌≡◌ {A = Option (List ℕ)} (Some xs) (Some text) → xs ≡ text
    same xs text e = cc

pub record-text : (fields : List (List ℕ)) → 2 ≤ length fields → row_text default_writer fields ≡ csv_record fields
record-text [] some = absurd (omega (arith, some))
record-text (first ∷ []) some = absurd (omega (arith, some))
record-text (first ∷ second ∷ rest) some = record-same first second rest
