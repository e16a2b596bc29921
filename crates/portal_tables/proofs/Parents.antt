-- Whom a row names is on the roll, by the foreign keys of the tables.
use Rattle.portal_tables.proofs.Base.{◌≡◌, ◌&&◌, ◌∷◌, ℤ, inl, inr, ℕ, Bool, true, false, map, List, [], refl, sym, ap}
use Rattle.portal_tables.proofs.Base.{subst, ◌∙◌, all_weaker, any_map, filter_none, some_from, and_parts, cases_Bool}
use Rattle.portal_tables.proofs.Base.{AllByRecursion, list_any, is_eq, Value, Int, Words, Binary, Row, column, bytes}
use Rattle.portal_tables.proofs.Base.{value_cmp, Database, IsDatabase, Trees, ForeignKey, OfLists, equal, Key, equals}
use Rattle.portal_tables.proofs.Base.{has, is_same, is_own, lecturer_tree, project_tree, student_tree, round_of}
use Rattle.portal_tables.proofs.Base.{tree_of, Lists, First, Choices, Rankings, HasRound}
use Rattle.portal_tables.proofs.Base.{RowNumbersDiffer, has_text, everything, place_cells, row_key, of_key, named_by}
use Rattle.portal_tables.proofs.Weak.{Open, own_is}
use Rattle.portal_tables.proofs.Shapes.{IsPlace, Follows, followed, place_rows_formed, text_equals}
use Rattle.portal_tables.proofs.Sorted.{all_two}
use Rattle.portal_tables.proofs.Tests.{equals_text}
use Rattle.sqlite_rules.proofs.ListLemmas.{some_has}

-- a parent is found by its key
equals_key : (v : Value) (t : Key) → is_eq (value_cmp v (Words t)) ≡ true → v ≡ Words t
unfolding value_cmp lib.Ieee.is_nan lib.Ieee.lt
equals_key (Words s) t e = ap Words (is_same s t (sym (text_equals s t) ∙ e))
equals_key _ t e = absurd (cc)

-- a row whose text in a column is these bytes
pub text_there : (at : ℕ) (t : Key) (r : Row) → has_text at t r ≡ true → column r at ≡ Words t
text_there at t r e = equals_key (column r at) t e

abbrev pub OnRoll : List Row → Key → Type 0
OnRoll roll k = has (map row_key roll) k ≡ true

abbrev pub Found : List Row → Key → Bool
Found roll k = list_any (λ parent. equal Binary (column parent 1) (Words k) && true) roll

-- the rolls on which a list's owner and its items are
abbrev pub owners_of : Lists → ℕ
owners_of (Choices round) = student_tree
owners_of (Rankings round) = lecturer_tree

abbrev pub items_of : Lists → ℕ
items_of (Choices round) = project_tree
items_of (Rankings round) = student_tree

both_found : (l : Lists) (o : Open) (db : Trees) (n : ℤ) (k : Key) (p : ℤ) (m : Key)
    → Follows ForeignKey (OfLists l) o db (Int n ∷ place_cells k p m) ≡ (Found (db (owners_of l)) k && (Found (db (items_of l)) m && true))
unfolding everything
both_found (Choices First) o db n k p m = refl
both_found (Rankings First) o db n k p m = refl
both_found _ o db n k p m = refl

pub on_roll : (roll : List Row) (k : Key) → Found roll k ≡ true → OnRoll roll k
on_roll roll k h =
    let found = some_has (λ parent. equal Binary (column parent 1) (Words k) && true) roll h in
    let text : column found.0 1 ≡ Words k = text_there 1 k found.0 (sym (equals_text (column found.0 1) k) ∙ found.2) in
    any_map (equals k) row_key roll ∙ some_from (λ r. equals k (row_key r)) roll found.0 found.1
    (ap (λ v. equals k (bytes v)) text ∙ is_own k)

-- each row of a list has its owner on a roll, and its item
pub place_parents : (db : Database) (l : Lists) → HasRound (round_of l) db.schema → IsDatabase db
    → RowNumbersDiffer (db.trees (tree_of l))
    → AllByRecursion (λ r. OnRoll (db.trees (owners_of l)) (row_key r) × OnRoll (db.trees (items_of l)) (named_by r)) (db.trees (tree_of l))
place_parents db l own sound apart =
    let owners = db.trees (owners_of l) in
    let items = db.trees (items_of l) in
    let o = (own_is (round_of l) db.schema own).o in
    all_two IsPlace (λ r. Follows ForeignKey (OfLists l) o db.trees r ≡ true) (λ r. OnRoll owners (row_key r) × OnRoll items (named_by r))
    (λ r f pass.
    let two = and_parts (Found owners f.owner) (Found items f.item && true)
    (sym (both_found l o db.trees f.number f.owner f.place f.item)
    ∙ subst (λ x. Follows ForeignKey (OfLists l) o db.trees x ≡ true) f.is pass) in (
      subst (λ x. OnRoll owners (row_key x)) (sym f.is) (on_roll owners f.owner two.0),
      subst (λ x. OnRoll items (named_by x)) (sym f.is) (on_roll items f.item (and_parts (Found items f.item) true two.1).0),
    ))
    (db.trees (tree_of l)) (place_rows_formed db l own sound apart) (followed db (OfLists l) own sound ForeignKey)

-- who is not on the roll has no row
pub none_of : (Q : Row → Type 0) (roll : List Row) (k : Key) (rows : List Row)
    → AllByRecursion (λ r. OnRoll roll (row_key r) × Q r) rows → has (map row_key roll) k ≡ false → of_key k rows ≡ []
none_of Q roll k rows all off = filter_none (has_text 1 k) rows (all_weaker _ _ (λ r both. elim (cases_Bool (has_text 1 k r)) [
  | inl is_so ↦ absurd (let there : has (map row_key roll) k
      ≡ true = sym (ap (λ v. has (map row_key roll) (bytes v)) (text_there 1 k r is_so)) ∙ both.0 in let e : true ≡ false = sym there
      ∙ off in cc)
  | inr other ↦ other
]) rows all)
