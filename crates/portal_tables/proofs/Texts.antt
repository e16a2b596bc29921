-- The key that a row begins with is a text: a roll's, or the owner's in a list or the second round.
use Rattle.portal_tables.proofs.Base.{◌≡◌, ◌&&◌, ◌∷◌, lecturer_schema, project_schema, student_schema, true, false}
use Rattle.portal_tables.proofs.Base.{drop, codes, None, List, [], ℕ, AllByRecursion, and_parts, Row, column, Database}
use Rattle.portal_tables.proofs.Base.{IsDatabase, Column, Datatype, NotNull, are_typed, are_present, is_of, Integer}
use Rattle.portal_tables.proofs.Base.{column_of, lecturer_tree, project_tree, student_tree, ranked2_tree}
use Rattle.portal_tables.proofs.Base.{assigned2_tree, names, tree_of, table_round, table_tree, HasRound, OfRoll}
use Rattle.portal_tables.proofs.Base.{OfLists, OfRanked, OfPlaces, Lecturers, Projects, Students, Named}
use Rattle.sqlite.specs.Kind.TheVariants.{Text}
use Rattle.portal_tables.proofs.Weak.{Open, own_is}
use Rattle.portal_tables.proofs.Listed.{IsText}
use Rattle.portal_tables.proofs.Shapes.{text_cell, Follows, followed}
use Rattle.portal_tables.proofs.Sorted.{all_two}

text_key : (name : List ℕ) (cs : List Column) (r : Row)
    → (are_typed None 0 (column_of name Text true ∷ cs) (drop 1 r) && true) ≡ true
    → are_present None 0 (column_of name Text true ∷ cs) r ≡ true → IsText (column r 1)
text_key name cs (n ∷ v ∷ vs) t p = text_cell v (and_parts (is_of Text v) _ (and_parts _ _ t).0).0 (and_parts _ _ p).0
text_key name cs _ t p = absurd (let e : false ≡ true = p in cc)

texts : (name : List ℕ) (cs : List Column) (rows : List Row)
    → AllByRecursion (λ r. (are_typed None 0 (column_of name Text true ∷ cs) (drop 1 r) && true) ≡ true) rows
    → AllByRecursion (λ r. are_present None 0 (column_of name Text true ∷ cs) r ≡ true) rows
    → AllByRecursion (λ r. IsText (column r 1)) rows
texts name cs = all_two _ (λ r. are_present None 0 (column_of name Text true ∷ cs) r ≡ true) (λ r. IsText (column r 1)) (text_key name cs)

pub key_texts : (db : Database) (t : Named) → HasRound (table_round t) db.schema → IsDatabase db
    → AllByRecursion (λ r. IsText (column r 1)) (db.trees (table_tree t))
key_texts db t own sound = go t (own_is (table_round t) db.schema own).o (followed db t own sound Datatype)
    (followed db t own sound NotNull)
  where
    go : (t : Named) (o : Open) → AllByRecursion (λ r. Follows Datatype t o db.trees r ≡ true) (db.trees (table_tree t))
        → AllByRecursion (λ r. Follows NotNull t o db.trees r ≡ true) (db.trees (table_tree t))
        → AllByRecursion (λ r. IsText (column r 1)) (db.trees (table_tree t))
    go (OfRoll Lecturers) o = texts (codes "key") (drop 1 (lecturer_schema 1).columns) (db.trees lecturer_tree)
    go (OfRoll Projects) o = texts (codes "key") (drop 1 (project_schema 4).columns) (db.trees project_tree)
    go (OfRoll Students) o = texts (codes "key") (drop 1 (student_schema 6).columns) (db.trees student_tree)
    go (OfLists l) o = texts (names l).owner (column_of (codes "place") Integer true ∷ column_of (names l).item Text true ∷ [])
        (db.trees (tree_of l))
    go OfRanked o = texts (codes "lecturer") [] (db.trees ranked2_tree)
    go OfPlaces o = texts (codes "student") (column_of (codes "project") Text true ∷ []) (db.trees assigned2_tree)
