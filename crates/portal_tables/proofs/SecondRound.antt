-- The tables of the second round's rankings and result.
use Rattle.portal_tables.proofs.Base.{◌≡◌, ◌||◌, ◌∷◌, inl, inr, Bool, true, false, not, List, [], map, filter}
use Rattle.portal_tables.proofs.Base.{filter_none, all_of, refl, sym, ap, subst, ◌∙◌, list_any, cases_Bool}
use Rattle.portal_tables.proofs.Base.{list_any-IsPermutation, Int, Words, Row, bytes, next_rowid, put_row, Database}
use Rattle.portal_tables.proofs.Base.{Key, equals, has, any_map, ranked2_tree, assigned2_tree, IsCurrentSchema}
use Rattle.portal_tables.proofs.Base.{RowNumbersDiffer, Drops, every, has_text, with_rows, PutsPlacements, RanksSecond}
use Rattle.portal_tables.proofs.Base.{row_key, Adds, Clears, pair_new}
use Rattle.std.proofs.lemmas.Map.Views.{any-filter_same}
use Rattle.portal_tables.proofs.Keeping.{drops_apart, keeps_then, put_permutes, puts_apart}
use Rattle.portal_tables.proofs.Parents.{text_there}

-- whether a key stands in rows
abbrev stands : Key → List Row → Bool
stands k = list_any (λ r. equals k (row_key r))

-- the rows without those of one key have every other
stands_without : (key k : Key) (rows : List Row) → equals k key ≡ false
    → stands k (filter (λ r. not (has_text 1 key r)) rows) ≡ stands k rows
stands_without key k rows other =
    any-filter_same (λ r. equals k (row_key r)) (λ r. not (has_text 1 key r)) true
    (λ r is. elim (cases_Bool (has_text 1 key r)) [
      | inl hit ↦ absurd
          (let e : true ≡ false = sym is ∙ ap (λ v. equals k (bytes v)) (text_there 1 key r hit) ∙ other in cc)
      | inr missed ↦ ap not
          missed
    ]) rows

-- a lecturer's row in place of any
pub rank_put : (key : Key) (first mid now : Database) → Clears ranked2_tree key first mid
    → Adds ranked2_tree ((Words key ∷ []) ∷ []) mid now → RanksSecond key first now
rank_put key first mid now cleared adds own apart =
    let drops = cleared own apart in
    let put = adds (subst IsCurrentSchema (sym drops.schema_is) own) in
    let old = first.trees ranked2_tree in
    let left = filter (λ r. not (has_text 1 key r)) old in
    let rows = mid.trees ranked2_tree in
    let row : Row = Int (next_rowid rows) ∷ Words key ∷ [] in
    let both : (k : Key) → (equals k key || stands k left) ≡ (equals k key || stands k old) = λ k. elim (cases_Bool (equals k key)) [
      | inl same ↦ ap (λ b. b || stands k left) same ∙ sym (ap (λ b. b || stands k old) same)
      | inr other ↦ ap (λ b. equals k key || b) (stands_without key k old other)
    ] in
    record {
      schema_is = put.schema_is ∙ drops.schema_is;
      sound = put.sound (λ _. drops.sound);
      apart = puts_apart ranked2_tree _ mid now put (drops_apart ranked2_tree _ first mid drops apart);
      tables = keeps_then ranked2_tree first mid now drops.others put.others;
      known = λ k.
          ap (λ l. has (map row_key l) k) put.rows ∙ any_map (equals k) row_key (put_row row rows)
          ∙ sym (list_any-IsPermutation (λ r. equals k (row_key r)) (row ∷ rows) (put_row row rows) (put_permutes row rows put.free.0))
          ∙ ap (λ l. equals k key || stands k l) drops.rows ∙ both k ∙ sym (ap (λ b. equals k key || b) (any_map (equals k) row_key old));
    }

-- the pairs in place of all rows
pub places_put : (pairs : List (Key × Key)) (first mid now : Database)
    → (IsCurrentSchema first.schema → RowNumbersDiffer (first.trees assigned2_tree) → Drops assigned2_tree every first mid)
    → Adds assigned2_tree (map pair_new pairs) mid now
    → PutsPlacements pairs first now
places_put pairs first mid now dropped adds own apart =
    let drops = dropped own apart in
    let put = adds (subst IsCurrentSchema (sym drops.schema_is) own) in
    record {
      schema_is = put.schema_is ∙ drops.schema_is;
      sound = put.sound (λ _. drops.sound);
      apart = puts_apart assigned2_tree _ mid now put (drops_apart assigned2_tree _ first mid drops apart);
      tables = keeps_then assigned2_tree first mid now drops.others put.others;
      rows = put.rows ∙ ap (λ rows. with_rows rows (map pair_new pairs))
          (drops.rows ∙ filter_none (λ r. not (every r)) (first.trees assigned2_tree) (all_of _ (λ r. refl) (first.trees assigned2_tree)));
    }
