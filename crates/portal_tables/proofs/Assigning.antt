-- The UPDATEs of the projects of students.
use Rattle.portal_tables.proofs.Base.{◌≡◌, ◌+◌, ◌∷◌, ◌++◌, ◌<◌, ℕ, ℤ, Bool, true, not, cond, List, [], map, filter}
use Rattle.portal_tables.proofs.Base.{length, take, get_or, codes, Option, Some, None, refl, sym, ap, ap₂, subst}
use Rattle.portal_tables.proofs.Base.{subst₂, ◌∙◌, AllByRecursion, IsPermutation, map-append, IsPermutation-trans}
use Rattle.portal_tables.proofs.Base.{IsPermutation-map, IsPermutation-filter_both, Value, Int, Text, Row, column}
use Rattle.portal_tables.proofs.Base.{cast_row, Term, col, State, Database, everything, understood, bound_value}
use Rattle.portal_tables.proofs.Base.{all-filter, all_map, all_weaker, student_schema, student_tree, has_text, Second}
use Rattle.portal_tables.proofs.Base.{IsCurrentSchema, Assigned, text_or_null_cell, student_columns, assigned_by}
use Rattle.portal_tables.proofs.Base.{with_assigned}
use Rattle.portal_tables.proofs.Base.{Assigns, Ran, Made}
use Rattle.portal_tables.proofs.InTurn.{next_item}
use Rattle.portal_tables.proofs.Keeping.{keeps_then}
use Rattle.portal_tables.proofs.Listed.{all_map_on}
use Rattle.portal_tables.proofs.Lists.{not_true, sifted}
use Rattle.portal_tables.proofs.Owned.{current_own}
use Rattle.portal_tables.proofs.Query.{passes, shown_as}
use Rattle.portal_tables.proofs.Shapes.{IsStudentRow, student_rows_formed}
use Rattle.portal_tables.proofs.Sorted.{map_twice, map_alike}
use Rattle.portal_tables.proofs.Statements.{no_acts}
use Rattle.portal_tables.proofs.Tests.{param, has_key, same_key_of}
use Rattle.portal_tables.proofs.Weak.{portal_with, own_is}
use Rattle.portal_tables.proofs.Writes.{HasNumber, AltersIn, altered, cast_int}

abbrev pub update_one : List ℕ
update_one = codes "UPDATE student SET assigned = ?2 WHERE key = ?1"

abbrev with_last : List Term
with_last = col 1 0 ∷ col 1 1 ∷ col 1 2 ∷ col 1 3 ∷ param 1 ∷ []

-- as it is bound
pub assigned_bound : (project : Option (List ℕ)) → bound_value (text_or_null_cell project) ≡ text_or_null_cell project
assigned_bound None = refl
assigned_bound (Some t) = refl

module _ (key : List ℕ) (project : Option (List ℕ)) where
  abbrev params : Row
  params = Text key ∷ text_or_null_cell project ∷ []

  abbrev is_hit : Row → Bool
  is_hit = has_text 1 key

  abbrev is_missed : Row → Bool
  is_missed r = not (is_hit r)

  abbrev written : Row → Row
  written r = cast_row (student_schema 6) (shown_as with_last params r)

  abbrev made : Row → Row
  made = with_assigned ((key, project) ∷ [])

  -- the row with another last column
  abbrev but : Row → Value → Row
  but r v = column r 0 ∷ column r 1 ∷ column r 2 ∷ column r 3 ∷ v ∷ []

  row_cast : (o : Option (List ℕ)) (n : ℤ) (k name code : List ℕ)
      → cast_row (student_schema 6) (Int n ∷ Text k ∷ Text name ∷ Text code ∷ text_or_null_cell o ∷ [])
      ≡ Int n ∷ Text k ∷ Text name ∷ Text code ∷ text_or_null_cell o ∷ []
  row_cast None n k name code = rw (cast_int n) refl
  row_cast (Some t) n k name code = rw (cast_int n) refl

  row_is : (r : Row) → IsStudentRow r → written r ≡ but r (text_or_null_cell project)
  row_is r f = subst (λ y. cast_row (student_schema 6) (but y (text_or_null_cell project)) ≡ but y (text_or_null_cell project)) (sym f.is)
      (row_cast project f.number f.key f.name f.code)

  numbered : (r : Row) → IsStudentRow r → HasNumber (written r)
  numbered r f = subst HasNumber (sym (row_is r f)) (subst (λ y. HasNumber (column y 0 ∷ [])) (sym f.is) refl)

  -- what is made of a row is what is written in its place, or what it was
  hit : (r : Row) → IsStudentRow r × (is_hit r ≡ true) → made r ≡ student_columns (written r)
  hit r f = ap (λ b. but r (cond b (text_or_null_cell project) (column r 4))) f.1 ∙ sym (ap student_columns (row_is r f.0))

  missed : (r : Row) → IsStudentRow r × (is_missed r ≡ true) → made r ≡ student_columns r
  missed r f = ap (λ b. but r (cond b (text_or_null_cell project) (column r 4))) (not_true (is_hit r) f.1)

  halves : (rows : List Row) → AllByRecursion IsStudentRow rows
      → map made (filter is_hit rows ++ filter is_missed rows)
      ≡ map student_columns (map written (filter is_hit rows) ++ filter is_missed rows)
  halves rows formed =
      let hits = filter is_hit rows in
      let others = filter is_missed rows in
      let those : map made hits ≡ map student_columns (map written hits) =
      all_map_on _ made (λ r. student_columns (written r)) hits (sifted IsStudentRow is_hit rows formed) hit
      ∙ map_twice student_columns written hits in
      map-append made hits others ∙ ap₂ (λ a b. a ++ b) those
      (all_map_on _ made student_columns others (sifted IsStudentRow is_missed rows formed) missed)
      ∙ sym (map-append student_columns (map written hits) others)

  pub one_assigned : (old new : State) → Ran update_one params old new → Made (Assigns ((key, project) ∷ [])) old new
  unfolding understood everything
  one_assigned old new h = record {
    shown = h.shown;
    changed = λ own sound apart.
        let w = own_is Second old.now.schema own in
        let s = portal_with w.o.checks w.o.terms in
        let rows = old.now.trees 6 in
        let formed = student_rows_formed old.now (current_own old.now.schema own) sound apart in
        let p = passes (has_key 1) params in
        let numbers = all_map HasNumber written (filter p rows)
        (all_weaker IsStudentRow (λ r. HasNumber (written r)) numbered (filter p rows) (all-filter IsStudentRow p rows formed)) in
        let a = subst (λ q. AltersIn s 6 q written old.now new.now) (same_key_of 1 key (text_or_null_cell project ∷ []))
        (altered s update_one 3 _ 6 _ _ _ _ _ _ _ _ refl (has_key 1) with_last refl (refl, refl) (no_acts w.o.checks w.o.terms student_tree)
        params old new h.count w.is apart numbers h.runs) in
        record {
          schema_is = a.schema_is ∙ sym w.is;
          apart = a.apart;
          rows = IsPermutation-trans _ _ _
              (subst (IsPermutation (map made rows)) (halves rows formed)
              (IsPermutation-map made rows (filter is_hit rows ++ filter is_missed rows)
              (IsPermutation-filter_both is_hit is_missed (λ r. refl) rows)))
              (IsPermutation-map student_columns (map written (filter is_hit rows) ++ filter is_missed rows) (new.now.trees 6) a.rows);
          others = a.others;
          sound = a.sound;
        };
  }

-- ---- one UPDATE after another

one_more : (all : List Assigned) (x : Assigned) (key value : Value)
    → assigned_by (x ∷ []) key (assigned_by all key value) ≡ assigned_by (all ++ x ∷ []) key value
one_more [] x key value = refl
one_more (a ∷ all) x key value = one_more all x key _

assigns_then : (all : List Assigned) (x : Assigned) (a b c : Database) → Assigns all a b → Assigns (x ∷ []) b c
    → Assigns (all ++ x ∷ []) a c
assigns_then all x a b c first later own sound apart =
    let p = first own sound apart in
    let q = later (subst IsCurrentSchema (sym p.schema_is) own) p.sound p.apart in
    let last : Row → Row = with_assigned (x ∷ []) in
    let old = a.trees student_tree in
    let both : map last (map (with_assigned all) old) ≡ map (with_assigned (all ++ x ∷ [])) old =
    sym (map_twice last (with_assigned all) old)
    ∙ map_alike (λ r. last (with_assigned all r)) (with_assigned (all ++ x ∷ [])) old
    (λ r. ap (λ v. column r 0 ∷ column r 1 ∷ column r 2 ∷ column r 3 ∷ v ∷ []) (one_more all x (column r 1) (column r 4))) in
    record {
      schema_is = q.schema_is ∙ p.schema_is;
      apart = q.apart;
      rows = IsPermutation-trans _ _ _ (subst₂ IsPermutation both (sym (map_twice last student_columns (b.trees student_tree)))
          (IsPermutation-map last _ _ p.rows)) q.rows;
      others = keeps_then student_tree a b c p.others q.others;
      sound = q.sound;
    }

-- a loop's turn: the student at i
pub assigns_next : (all : List Assigned) (i : ℕ) (x : Assigned) (a b c : Database) → i < length all → x ≡ get_or all i x
    → Assigns (take i all) a b → Assigns (x ∷ []) b c → Assigns (take (i + 1) all) a c
assigns_next all i x a b c within is was more =
    subst (λ l. Assigns l a c) (sym (next_item all i x is within)) (assigns_then (take i all) x a b c was more)
