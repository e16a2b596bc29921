-- How far the lines of a file were read.
use Rattle.portal_rolls.proofs.Base.{Bor, ◌≡◌, ◌∙◌, ◌+◌, ◌<◌, ◌≤◌, ℕ, true, false, List, [], ◌∷◌, ◌++◌, map, Result, Ok}
use Rattle.portal_rolls.proofs.Base.{Err, refl, sym, ap, subst, append_assoc, cons_option, enumerate_from, filter_map}
use Rattle.portal_rolls.proofs.Base.{result_err, result_ok, le-leb, append-nil, Reader, Fails, Format, first_or}
use Rattle.portal_rolls.proofs.Base.{line_of, lines_of, reading, same_record, Record, Has, TakesRecord, RollFault}
use Rattle.portal_rolls.proofs.Base.{lt-leb}
use Rattle.portal_rolls.specs.declared.fault.RollFault.TheVariants as fault

module _ {X : Type 0} (format : Format X) where
  -- what the records say that are numbered from here on

  abbrev pub faults_from : ℕ → List Record → List RollFault
  faults_from number rows = filter_map result_err (map (reading format) (enumerate_from number rows))

  abbrev pub lines_from : ℕ → List Record → List X
  lines_from number rows = filter_map result_ok (map (reading format) (enumerate_from number rows))

-- the lines so far, and what the records say that are left, make the whole
pub record Progress {X : Type 0} (format : Format X) (rows : List Record) (number : ℕ) (rdr : Reader (Bor (List ℕ)))
    (lines : List X) : Type 0 where
  pub left : List Record
  pub has : Has rdr left
  pub so_far : first_or (faults_from format number left) (lines ++ lines_from format number left) ≡ lines_of format rows

-- a line more, and a fault
module _ {X : Type 0} (faults : List RollFault) (lines later : List X) where
  one_line : (read : Result X RollFault) (l : X) → read ≡ Ok l
      → first_or (cons_option (result_err read) faults) (lines ++ cons_option (result_ok read) later)
      ≡ first_or faults ((lines ++ l ∷ []) ++ later)
  one_line read l e = rw e (ap (first_or faults) (sym (append_assoc lines (l ∷ []) later)))

  one_fault : (read : Result X RollFault) (e : RollFault) → Fails e read
      → Fails e (first_or (cons_option (result_err read) faults) (lines ++ cons_option (result_ok read) later))
  one_fault read fault.Memory h = tt
  one_fault read e h = rw h refl

module _ {X : Type 0} (format : Format X) where
  -- no record was there
  pub no_header : (rows : List Record) (fields : Record) (rdr : Reader (Bor (List ℕ)))
      → TakesRecord rows false fields rdr → lines_of format rows ≡ Err fault.NoHeader
  no_header [] fields rdr h = refl
  no_header (r ∷ rows) fields rdr h = absurd (cc h.0)

  pub bad_header : (rows : List Record) (fields : Record) (rdr : Reader (Bor (List ℕ)))
      → TakesRecord rows true fields rdr → same_record format.header fields ≡ false
      → lines_of format rows ≡ Err fault.BadHeader
  bad_header [] fields rdr h isnt = absurd (cc h)
  bad_header (r ∷ rows) fields rdr h isnt = rw (← h.1, isnt) refl

  -- the header was read
  pub begun : (rows : List Record) (fields : Record) (rdr : Reader (Bor (List ℕ))) → TakesRecord rows true fields rdr
      → same_record format.header fields ≡ true
      → Progress format rows 1 rdr []
  begun [] fields rdr h good = absurd (cc h)
  begun (r ∷ rows) fields rdr h good = record {
    left = rows;
    has = h.2;
    so_far = rw (← h.1, good) refl;
  }

  within : (number : ℕ) (fields : Record) → number ≤ format.limit
      → reading format (number, fields) ≡ line_of format number fields
  within number fields le = rw (le-leb number format.limit le) refl

  past : (number : ℕ) (fields : Record) → format.limit < number → reading format (number, fields) ≡ Err fault.TooMany
  past number fields lt = rw (lt-leb number format.limit lt) refl

  -- the next record, and those that are left then
  next : (number : ℕ) (lines : List X) (left : List Record) (fields : Record) (rdr : Reader (Bor (List ℕ)))
      → TakesRecord left true fields rdr
      → (more : List Record) × Has rdr more
      × (first_or (cons_option (result_err (reading format (number, fields))) (faults_from format (number + 1) more))
      (lines ++ cons_option (result_ok (reading format (number, fields))) (lines_from format (number + 1) more))
      ≡ first_or (faults_from format number left) (lines ++ lines_from format number left))
  next number lines [] fields rdr h = absurd (cc h)
  next number lines (r ∷ left) fields rdr h = (left, h.2, rw h.1 refl)

  -- one more line
  pub goes_on : (rows : List Record) (number : ℕ) (old new : Reader (Bor (List ℕ))) (lines : List X) (fields : Record) (l : X)
      (p : Progress format rows number old lines)
      → number ≤ format.limit
      → ((left : List Record) → Has old left → TakesRecord left true fields new) → line_of format number fields ≡ Ok l
      → Progress format rows (number + 1) new (lines ++ l ∷ [])
  goes_on rows number old new lines fields l p le took read =
      let n = next number lines p.left fields new (took p.left p.has) in
      record {
        left = n.0;
        has = n.1;
        so_far = sym (one_line (faults_from format (number + 1) n.0) lines (lines_from format (number + 1) n.0)
            (reading format (number, fields)) l (within number fields le ∙ read)) ∙ n.2 ∙ p.so_far;
      }

  -- a record that says no line is the first fault
  ends : (rows : List Record) (number : ℕ) (old new : Reader (Bor (List ℕ))) (lines : List X) (fields : Record) (e : RollFault)
      (p : Progress format rows number old lines)
      → ((left : List Record) → Has old left → TakesRecord left true fields new) → Fails e (reading format (number, fields))
      → Fails e (lines_of format rows)
  ends rows number old new lines fields e p took read =
      let n = next number lines p.left fields new (took p.left p.has) in
      subst (λ (x : Result (List X) RollFault). Fails e x) (n.2 ∙ p.so_far)
      (one_fault (faults_from format (number + 1) n.0) lines (lines_from format (number + 1) n.0) (reading format (number, fields)) e read)

  pub stops : (rows : List Record) (number : ℕ) (old new : Reader (Bor (List ℕ))) (lines : List X) (fields : Record) (e : RollFault)
      (p : Progress format rows number old lines)
      → number ≤ format.limit
      → ((left : List Record) → Has old left → TakesRecord left true fields new) → Fails e (line_of format number fields)
      → Fails e (lines_of format rows)
  stops rows number old new lines fields e p le took read =
      ends rows number old new lines fields e p took (subst (λ (x : Result X RollFault). Fails e x) (sym (within number fields le)) read)

  -- a record is left after the last that may be there
  pub too_many : (rows : List Record) (number : ℕ) (old new : Reader (Bor (List ℕ))) (lines : List X) (fields : Record)
      (p : Progress format rows number old lines)
      → format.limit < number
      → ((left : List Record) → Has old left → TakesRecord left true fields new) → lines_of format rows ≡ Err fault.TooMany
  too_many rows number old new lines fields p lt took = ends rows number old new lines fields fault.TooMany p took (past number fields lt)

  -- every record was read
  pub is_whole : (rows : List Record) (number : ℕ) (old new : Reader (Bor (List ℕ))) (lines : List X) (fields : Record)
      (p : Progress format rows number old lines)
      → ((left : List Record) → Has old left → TakesRecord left false fields new) → lines_of format rows ≡ Ok lines
  is_whole rows number old new lines fields p took = none_left p.left p.so_far (took p.left p.has)
    where
      none_left : (left : List Record)
          → first_or (faults_from format number left) (lines ++ lines_from format number left) ≡ lines_of format rows
          → TakesRecord left false fields new → lines_of format rows ≡ Ok lines
      none_left [] so_far h = sym so_far ∙ ap (λ (ls : List X). Ok ls) (append-nil lines)
      none_left (r ∷ left) so_far h = absurd (cc h.0)
