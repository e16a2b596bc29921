-- The records that are left, and what one read does to them.
use Rattle.portal_rolls.proofs.Base.{Bor, ◌≡◌, ◌∙◌, ◌+◌, ◌<◌, ℕ, zero, suc, Bool, true, false, cond, List, [], ◌∷◌}
use Rattle.portal_rolls.proofs.Base.{◌++◌, length, Option, Some, None, refl, sym, ap, inl, inr, arith, add-one, Reader}
use Rattle.portal_rolls.proofs.Base.{Record, Has, TakesRecord, rules, ◌⊎◌, ap₂, rest_of}
use Rattle.csv.specs.Machine.{Read, ends_at_end, fields_after, field_after, is_end, next_record, step}
use Rattle.csv.specs.Reading.{NextIs, ReadRecord, ReadsNext, default_config, reader_state, records_from, records_next}
use Rattle.csv.specs.Reading.{source_of}
use Rattle.csv.specs.declared.parser.State.{State}
use Rattle.csv.specs.declared.parser.State.TheVariants as st
use Rattle.csv.specs.declared.parser.Config.{Config}

-- a record takes a byte at least, or ends the text
abbrev Shrinks : List ℕ → Read → Type 0
Shrinks xs q = (length q.2 < length xs) ⊎ ((xs ≡ []) × (q.1 ≡ st.StartRecord) × (q.2 ≡ []))

abbrev some : {A : Type 0} → A → Option A
some x = Some x

ends : (b : Bool) (p q : Read) → cond b (some p) None ≡ Some q → p ≡ q
ends true p q e = cc
ends false p q e = absurd cc

read_shrinks : (cfg : Config) (s : State) (fields : List (List ℕ)) (field xs : List ℕ) (q : Read)
    → next_record cfg s fields field xs ≡ Some q → Shrinks xs q
unfolding next_record
read_shrinks cfg s fields field [] q e =
    let p : (fields ++ (field ∷ []), st.StartRecord, []) ≡ q = ends (ends_at_end s) _ q e in
    inr (refl, sym (ap (λ (r : Read). r.1) p), sym (ap (λ (r : Read). r.2) p))
read_shrinks cfg s fields field (c ∷ rest) q e =
    go (is_end (step cfg s c).1) (λ h. read_shrinks cfg (step cfg s c).0 (fields_after (step cfg s c).1 fields field)
    (field_after (step cfg s c).1 c field) rest q h) e
  where
    next : Option Read
    next = next_record cfg (step cfg s c).0 (fields_after (step cfg s c).1 fields field) (field_after (step cfg s c).1 c field) rest

    go : (b : Bool) → (next ≡ Some q → Shrinks rest q)
        → cond b (some (fields_after (step cfg s c).1 fields field, (step cfg s c).0, rest)) next ≡ Some q
        → Shrinks (c ∷ rest) q
    go true more h =
        let p : (fields_after (step cfg s c).1 fields field, (step cfg s c).0, rest) ≡ q = cc h in
        let at : rest ≡ q.2 = ap (λ (r : Read). r.2) p in
        inl (omega (arith, ap length at))
    go false more h =
        grind arith

-- at the end of a text no record is left
nothing_left : (cfg : Config) (n : ℕ) → records_from cfg n st.StartRecord [] ≡ []
unfolding records_from next_record
nothing_left cfg zero = refl
nothing_left cfg (suc n) = refl

-- any two counts that suffice give the same records
same_records : (cfg : Config) (n m : ℕ) (s : State) (xs : List ℕ) → length xs < n → length xs < m
    → records_from cfg n s xs ≡ records_from cfg m s xs
unfolding records_from
same_records cfg zero m s xs a b = absurd (omega arith)
same_records cfg (suc n) zero s xs a b = absurd (omega arith)
same_records cfg (suc n) (suc m) s xs a b =
    go (next_record cfg s [] [] xs) (λ q lt. same_records cfg n m q.1 q.2 (omega arith) (omega arith)) refl
  where
    go : (o : Option Read)
        → ((q : Read) → length q.2 < length xs → records_from cfg n q.1 q.2 ≡ records_from cfg m q.1 q.2)
        → next_record cfg s [] [] xs ≡ o
        → records_next (records_from cfg n) o ≡ records_next (records_from cfg m) o
    go None more e = refl
    go (Some q) more e =
        elim (read_shrinks cfg s [] [] xs q e) [
          | inl lt ↦ ap (λ (rows : List Record). q.0 ∷ rows) (more q lt)
          | inr end ↦ ap (λ (rows : List Record). q.0 ∷ rows) (rw (end.1, end.2) (nothing_left cfg n ∙ sym (nothing_left cfg m)))
        ]

-- the records that are left are the next one and those that are left then
pub rest_is_next : (s : State) (xs : List ℕ)
    → rest_of s xs ≡ records_next rest_of (next_record default_config s [] [] xs)
unfolding records_from
rest_is_next s xs = rw (add-one (length xs)) (go (next_record default_config s [] [] xs) refl)
  where
    go : (o : Option Read) → next_record default_config s [] [] xs ≡ o
        → records_next (records_from default_config (length xs)) o ≡ records_next rest_of o
    go None e = refl
    go (Some q) e =
        elim (read_shrinks default_config s [] [] xs q e) [
          | inl lt ↦ ap (λ (rows : List Record). q.0 ∷ rows)
              (same_records default_config (length xs) (length q.2 + 1) q.1 q.2 lt (omega arith))
          | inr end ↦ ap (λ (rows : List Record). q.0 ∷ rows)
              (rw (end.1, end.2) (nothing_left default_config (length xs) ∙ sym (nothing_left default_config 1)))
        ]

abbrev known : Bor (List ℕ) → Option (List ℕ)
known s = Some s.now

took : (o : Option Read) (rows : List Record) (found : Bool) (fields : Record) (rdr : Reader (Bor (List ℕ))) (z : List ℕ)
    → rows ≡ records_next rest_of o → source_of known rdr ≡ Some z → NextIs o found fields (reader_state rdr) z
    → TakesRecord rows found fields rdr
took None rows found fields rdr z e source r = rw e r
took (Some p) rows found fields rdr z e source r = search (rules, ap₂)

took_known : (s : State) (xs : List ℕ) (rows : List Record) (found : Bool) (fields : Record) (rdr : Reader (Bor (List ℕ)))
    (k : Option (List ℕ))
    → rows ≡ records_next rest_of (next_record default_config s [] [] xs) → source_of known rdr ≡ k
    → ReadsNext default_config s (Some xs) k found fields (reader_state rdr) → TakesRecord rows found fields rdr
took_known s xs rows found fields rdr None e source r = absurd r
took_known s xs rows found fields rdr (Some z) e source r = took (next_record default_config s [] [] xs) rows found fields rdr z e source r

-- what one read does
pub takes_next : (old new : Reader (Bor (List ℕ))) (rows : List Record) (found : Bool) (fields : Record) → Has old rows
    → old.config ≡ default_config
    → ReadRecord known old new found fields → TakesRecord rows found fields new
takes_next old new rows found fields h cfg r = search (rules, took_known, rest_is_next)
