-- The rows of the office and of the second round, as their queries show them.
use Rattle.portal_tables.proofs.Base.{◌≡◌, ◌&&◌, ◌∷◌, arith, ℕ, ℤ, pos, true, false, drop, Some, List, [], map, refl}
use Rattle.portal_tables.proofs.Base.{sym, ap, subst, ◌∙◌, AllByRecursion, IsPermutation, length_permutation}
use Rattle.portal_tables.proofs.Base.{one_permutation, and_parts, Value, Null, Int, Words, Row, column, Database}
use Rattle.portal_tables.proofs.Base.{IsDatabase, Datatype, are_typed, is_of, Integer, is_null, Phase, Key, First}
use Rattle.portal_tables.proofs.Base.{Second, portal_tree, portal, second_tree, second, HasFirstSchema, IsCurrentSchema}
use Rattle.portal_tables.proofs.Base.{portal_row, second_row, ListsBy, every, columns, number_of_phase, HasOffice}
use Rattle.portal_tables.proofs.Base.{IsOffice, IsSecond}
use Rattle.sqlite.specs.Kind.TheVariants.{Text}
use Rattle.portal_tables.proofs.Weak.{own_is}
use Rattle.portal_tables.proofs.Listed.{whole_table}
use Rattle.portal_tables.proofs.Shapes.{kept}
use Rattle.portal_tables.proofs.Sorted.{all_permuted}

abbrev office_columns : Row → Row
office_columns = columns (0 ∷ 2 ∷ 3 ∷ 4 ∷ [])

is_nothing : (v : Value) → is_null v ≡ true → v ≡ Null
is_nothing Null e = refl
is_nothing _ e = absurd (cc)

office_form : (v p : ℤ) (code : Key) (r : Row) → column r 0 ≡ Int (pos 1) → column r 2 ≡ Int v → column r 3 ≡ Int p
    → column r 4 ≡ Words code → are_typed (Some 0) 0 (portal 0).columns (drop 1 r) ≡ true → r ≡ portal_row v p code
office_form v p code (x ∷ y ∷ z ∷ w ∷ u ∷ []) a b c d t = λ i. a i ∷ is_nothing y (and_parts (is_null y) _ t).0 i ∷ b i ∷ c i ∷ d i ∷ []
office_form v p code (x ∷ y ∷ z ∷ w ∷ u ∷ q ∷ more) a b c d t =
    let last = and_parts (is_of Text u) false
    (and_parts (is_of Integer w) _ (and_parts (is_of Integer z) _ (and_parts (is_null y) _ t).1).1).1 in absurd (let e = last.1 in cc)
office_form v p code _ a b c d t = absurd (let e : Null ≡ Words code = d in cc)

second_form : (p : ℤ) (r : Row) → column r 0 ≡ Int (pos 1) → column r 2 ≡ Int p
    → are_typed (Some 0) 0 (second 0).columns (drop 1 r) ≡ true → r ≡ second_row p
second_form p (x ∷ y ∷ z ∷ []) a b t = λ i. a i ∷ is_nothing y (and_parts (is_null y) _ t).0 i ∷ b i ∷ []
second_form p (x ∷ y ∷ z ∷ w ∷ more) a b t = let last = and_parts (is_of Integer z) false (and_parts (is_null y) _ t).1 in
    absurd (let e = last.1 in cc)
second_form p _ a b t = absurd (let e : Null ≡ Int p = b in cc)

-- where a table shows one row, that is its only one
one_shown : (cs : List ℕ) (table shown : List Row) (row : Row) → ListsBy (0 ∷ []) every (columns cs) table shown
    → shown ≡ row ∷ [] → (r : Row) × (table ≡ r ∷ []) × (row ≡ columns cs r)
one_shown cs table shown row lists is = go table
    (subst (IsPermutation (map (columns cs) table)) is (whole_table (0 ∷ []) cs table shown lists))
  where
    go : (table : List Row) → IsPermutation (map (columns cs) table) (row ∷ [])
        → (r : Row) × (table ≡ r ∷ []) × (row ≡ columns cs r)
    go [] same = absurd (let e = length_permutation [] (row ∷ []) same in cc)
    go (r ∷ []) same = (r, refl, (all_permuted (λ z. z ≡ columns cs r) (columns cs r ∷ []) (row ∷ []) same (refl, tt)).0)
    go (r ∷ s ∷ more) same = absurd (let e = length_permutation (map (columns cs) (r ∷ s ∷ more)) (row ∷ []) same in omega (arith, e))

-- and the only row of a table is shown
shown_one : (cs : List ℕ) (table shown : List Row) (r : Row) → ListsBy (0 ∷ []) every (columns cs) table shown
    → table ≡ r ∷ [] → shown ≡ columns cs r ∷ []
shown_one cs table shown r lists is = one_permutation (columns cs r) shown
    (subst (λ rows. IsPermutation (map (columns cs) rows) shown) is (whole_table (0 ∷ []) cs table shown lists))

abbrev Found : ℕ → Phase → Key → List Row → Type 0
Found version phase code shown = (row : Row) × (shown ≡ row ∷ []) × IsOffice version phase code row

pub office_found : (db : Database) → HasFirstSchema db.schema → IsDatabase db → (shown : List Row)
    → ListsBy (0 ∷ []) every office_columns (db.trees portal_tree) shown
    → (version : ℕ) (phase : Phase) (code : Key) → Found version phase code shown
    → db.trees portal_tree ≡ portal_row (pos version) (pos (number_of_phase phase)) code ∷ []
office_found db own sound shown h version phase code found =
    let one = one_shown (0 ∷ 2 ∷ 3 ∷ 4 ∷ []) (db.trees portal_tree) shown found.0 h found.1 in
    let at = found.2 in
    let cell : (n : ℕ) → column found.0 n ≡ column (office_columns one.0) n = λ n. ap (λ x. column x n) one.2 in
    let typed = subst (AllByRecursion (λ r. (are_typed (Some 0) 0 (portal 0).columns (drop 1 r) && true) ≡ true)) one.1
    (kept First db sound Datatype (own_is First db.schema own)).0 in
    one.1 ∙ ap (λ x. x ∷ []) (office_form (pos version) (pos (number_of_phase phase)) code one.0 (sym (cell 0) ∙ at.id)
    (sym (cell 1) ∙ at.version_is) (sym (cell 2) ∙ at.phase_is) (sym (cell 3) ∙ at.code_is) (and_parts _ true typed.0).0)

-- what is shown of the row that is meant
pub office_there : (version : ℕ) (table shown : List Row) → ListsBy (0 ∷ []) every office_columns table shown
    → (h : HasOffice version table) → Found version h.phase h.office shown
office_there version table shown lists h = (
  office_columns (portal_row (pos version) (pos (number_of_phase h.phase)) h.office),
  shown_one (0 ∷ 2 ∷ 3 ∷ 4 ∷ []) table shown (portal_row (pos version) (pos (number_of_phase h.phase)) h.office) lists h.is,
  record { id = refl; version_is = refl; phase_is = refl; code_is = refl },
)

-- the same of the row of `second`
pub second_found : (db : Database) → IsCurrentSchema db.schema → IsDatabase db → (shown : List Row)
    → ListsBy (0 ∷ []) every (columns (0 ∷ 2 ∷ [])) (db.trees second_tree) shown
    → (phase : Phase) → IsSecond phase shown → db.trees second_tree ≡ second_row (pos (number_of_phase phase)) ∷ []
second_found db own sound shown h phase at =
    let one = one_shown (0 ∷ 2 ∷ []) (db.trees second_tree) shown at.row h at.is in
    let cell : (n : ℕ) → column at.row n ≡ column (columns (0 ∷ 2 ∷ []) one.0) n = λ n. ap (λ x. column x n) one.2 in
    let typed = subst (AllByRecursion (λ r. (are_typed (Some 0) 0 (second 0).columns (drop 1 r) && true) ≡ true)) one.1
    (kept Second db sound Datatype (own_is Second db.schema own)).1.1.1.1.1.1.0 in
    one.1 ∙ ap (λ x. x ∷ []) (second_form (pos (number_of_phase phase)) one.0 (sym (cell 0) ∙ at.id) (sym (cell 1) ∙ at.phase_is)
    (and_parts _ true typed.0).0)

pub second_there : (table shown : List Row) → ListsBy (0 ∷ []) every (columns (0 ∷ 2 ∷ [])) table shown
    → (phase : Phase) → table ≡ second_row (pos (number_of_phase phase)) ∷ [] → IsSecond phase shown
second_there table shown lists phase is =
    record {
      row = columns (0 ∷ 2 ∷ []) (second_row (pos (number_of_phase phase)));
      is = shown_one (0 ∷ 2 ∷ []) table shown (second_row (pos (number_of_phase phase))) lists is;
      id = refl;
      phase_is = refl;
    }
