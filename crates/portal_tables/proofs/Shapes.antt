-- The shapes of the rows of the portal's own tables, by the rules that a database obeys.
use Rattle.portal_tables.proofs.Base.{◌≡◌, ◌⊎◌, ◌&&◌, ◌∷◌, ◌+◌, inl, inr, ℕ, ℤ, Bool, true, false, not, codes, drop}
use Rattle.portal_tables.proofs.Base.{None, List, [], refl, sym, ap, subst, ◌∙◌, AllByRecursion, and_parts, is_eq}
use Rattle.portal_tables.proofs.Base.{texts_ties, Value, Null, Int, Words, Row, column, value_cmp, Trees, id_in}
use Rattle.portal_tables.proofs.Base.{Database, IsDatabase, Column, Constraint, Datatype, NotNull, Keeps, passes}
use Rattle.portal_tables.proofs.Base.{are_typed, are_present, is_of, is_null, Integer, Key, equals, column_of}
use Rattle.portal_tables.proofs.Base.{list_table, lecturer_tree, project_tree, student_tree, ranked2_tree}
use Rattle.portal_tables.proofs.Base.{assigned2_tree, lecturer_schema, project_schema, student_schema, ranked2}
use Rattle.portal_tables.proofs.Base.{assigned2, round_of, names, tree_of, table_round, table_tree, Lists, Choices}
use Rattle.portal_tables.proofs.Base.{Rankings, First, Second, OfRoll, OfLists, OfRanked, OfPlaces}
use Rattle.portal_tables.proofs.Base.{Lecturers, Projects, Students, Table, Round, HasFirstSchema, HasRound}
use Rattle.portal_tables.proofs.Base.{RowNumbersDiffer, has_text, lecturer_cells, place_cells, row_key, Named}
use Rattle.sqlite.specs.Kind.{Kind}
use Rattle.sqlite.specs.Kind.TheVariants.{Text}
use Rattle.portal_tables.proofs.Listed.{IsText}
use Rattle.portal_tables.proofs.Weak.{Open, schema_with, with_checks, IsWith, own_is}

-- a test of a text
pub text_equals : (s t : Key) → is_eq (value_cmp (Words s) (Words t)) ≡ equals s t
unfolding value_cmp lib.Ieee.is_nan lib.Ieee.lt
text_equals s t = sym (texts_ties s t)

pub has_text_of : (at : ℕ) (t : Key) (r : Row) (s : Key) → column r at ≡ Words s → has_text at t r ≡ equals s t
has_text_of at t r s e = ap (λ v. is_eq (value_cmp v (Words t))) e ∙ text_equals s t

pub text_cell : (v : Value) → is_of Text v ≡ true → not (is_null v) ≡ true → (t : List ℕ) × (v ≡ Words t)
text_cell (Words t) a b = (t, refl)
text_cell _ a b = absurd (cc)

number_cell : (v : Value) → is_of Integer v ≡ true → not (is_null v) ≡ true → (n : ℤ) × (v ≡ Int n)
number_cell (Int n) a b = (n, refl)
number_cell _ a b = absurd (cc)

-- NULL or a text
abbrev pub IsNullOrText : Value → Type 0
IsNullOrText v = (v ≡ Null) ⊎ ((t : List ℕ) × (v ≡ Words t))

null_or_text : (v : Value) → is_of Text v ≡ true → IsNullOrText v
null_or_text Null a = inl refl
null_or_text (Words t) a = inr (t, refl)
null_or_text _ a = absurd (cc)

pub record IsLecturerRow (r : Row) : Type 0 where
  pub number : ℤ
  pub key : List ℕ
  pub name : List ℕ
  pub code : List ℕ
  pub capacity : ℤ
  pub ranked : ℤ
  pub is : r ≡ Int number ∷ lecturer_cells key name code capacity ranked

-- the last column may be missing
pub record IsStudentRow (r : Row) : Type 0 where
  pub number : ℤ
  pub key : List ℕ
  pub name : List ℕ
  pub code : List ℕ
  pub last : Row
  pub is : r ≡ Int number ∷ Words key ∷ Words name ∷ Words code ∷ last
  pub few : (last ≡ []) ⊎ ((v : Value) × (last ≡ v ∷ []))
  pub assigned : IsNullOrText (column r 4)

-- the test of a student's key
pub student_test : (k : Key) (r : Row) → IsStudentRow r → has_text 1 k r ≡ equals (row_key r) k
student_test k r f = has_text_of 1 k r f.key (ap (λ x. column x 1) f.is) ∙ ap (λ x. equals (row_key x) k) (sym f.is)

-- a place of a list, in whichever table
pub record IsPlace (r : Row) : Type 0 where
  pub number : ℤ
  pub owner : List ℕ
  pub place : ℤ
  pub item : List ℕ
  pub is : r ≡ Int number ∷ place_cells owner place item

-- A row whose next cell is a text or a number has what holds at each such cell, whatever columns
-- follow it.
next : {X : Type 0} {of : X → Value} (kind : Kind)
    → ((v : Value) → is_of kind v ≡ true → not (is_null v) ≡ true → (x : X) × (v ≡ of x))
    → (P : Row → Type 0) (row : Row → Row) (name : List ℕ) (at : ℕ) (cs : List Column)
    → ((x : Row) → are_present None at (column_of name kind true ∷ cs) (row x)
    ≡ (not (is_null (column x 0)) && are_present None (at + 1) cs (row x)))
    → ((x : X) (rest : Row) → are_typed None (at + 1) cs rest ≡ true → are_present None (at + 1) cs (row (of x ∷ rest)) ≡ true
    → P (row (of x ∷ rest)))
    → (cells : Row) → are_typed None at (column_of name kind true ∷ cs) cells ≡ true
    → are_present None at (column_of name kind true ∷ cs) (row cells) ≡ true → P (row cells)
next kind cell P row name at cs is go [] typed present = let none =
    (and_parts false (are_present None (at + 1) cs (row [])) (sym (is []) ∙ present)).0 in absurd (cc)
next kind cell P row name at cs is go (v ∷ vs) typed present =
    let two = and_parts (is_of kind v) (are_typed None (at + 1) cs vs) typed in
    let both = and_parts (not (is_null v)) (are_present None (at + 1) cs (row (v ∷ vs))) (sym (is (v ∷ vs)) ∙ present) in
    let it = cell v two.0 both.0 in
    subst (λ x. P (row (x ∷ vs))) (sym it.1)
    (go it.0 vs two.1 (subst (λ x. are_present None (at + 1) cs (row (x ∷ vs)) ≡ true) it.1 both.1))

-- what the rules of these columns say of a row with a number
abbrev Forms : (Row → Type 0) → List Column → Type 0
Forms P cs = (n : ℤ) (cells : Row) → are_typed None 0 cs cells ≡ true → are_present None 0 cs (Int n ∷ cells) ≡ true → P (Int n ∷ cells)

none_more : (at : ℕ) (cells : Row) → are_typed None at [] cells ≡ true → cells ≡ []
none_more at [] t = refl
none_more at (v ∷ vs) t = absurd (cc)

lecturer_form : Forms IsLecturerRow (lecturer_schema 1).columns
lecturer_form n =
    let cs = (lecturer_schema 1).columns in
    next Text text_cell IsLecturerRow (λ x. Int n ∷ x) (codes "key") 0 (drop 1 cs) (λ x. refl) (λ key.
    next Text text_cell IsLecturerRow (λ x. Int n ∷ Words key ∷ x) (codes "name") 1 (drop 2 cs) (λ x. refl) (λ name.
    next Text text_cell IsLecturerRow (λ x. Int n ∷ Words key ∷ Words name ∷ x) (codes "code") 2 (drop 3 cs) (λ x. refl) (λ code.
    next Integer number_cell IsLecturerRow (λ x. Int n ∷ Words key ∷ Words name ∷ Words code ∷ x) (codes "capacity") 3 (drop 4 cs)
    (λ x. refl) (λ capacity.
    next Integer number_cell IsLecturerRow (λ x. Int n ∷ Words key ∷ Words name ∷ Words code ∷ Int capacity ∷ x) (codes "ranked") 4 []
    (λ x. refl) (λ ranked rest typed present.
    record {
      number = n;
      key = key;
      name = name;
      code = code;
      capacity = capacity;
      ranked = ranked;
      is = ap (λ x. Int n ∷ Words key ∷ Words name ∷ Words code ∷ Int capacity ∷ Int ranked ∷ x) (none_more 5 rest typed);
    })))))

-- what may stand where the last column of a student is
last_cell : (name : List ℕ) (at : ℕ) (cells : Row) → are_typed None at (column_of name Text false ∷ []) cells ≡ true
    → ((cells ≡ []) ⊎ ((v : Value) × (cells ≡ v ∷ []))) × IsNullOrText (column cells 0)
last_cell name at [] t = (inl refl, inl refl)
last_cell name at (v ∷ []) t = (inr (v, refl), null_or_text v (and_parts (is_of Text v) true t).0)
last_cell name at (v ∷ w ∷ vs) t = let e = (and_parts (is_of Text v) false t).1 in absurd (cc)

student_form : Forms IsStudentRow (student_schema 6).columns
student_form n =
    let cs = (student_schema 6).columns in
    next Text text_cell IsStudentRow (λ x. Int n ∷ x) (codes "key") 0 (drop 1 cs) (λ x. refl) (λ key.
    next Text text_cell IsStudentRow (λ x. Int n ∷ Words key ∷ x) (codes "name") 1 (drop 2 cs) (λ x. refl) (λ name.
    next Text text_cell IsStudentRow (λ x. Int n ∷ Words key ∷ Words name ∷ x) (codes "code") 2 (drop 3 cs) (λ x. refl)
    (λ code rest typed present.
    let end = last_cell (codes "assigned") 3 rest typed in
    record { number = n; key = key; name = name; code = code; last = rest; is = refl; few = end.0; assigned = end.1 })))

-- the lecturer of a project is a text
project_form : Forms (λ r. IsText (column r 2)) (project_schema 4).columns
project_form n =
    let cs = (project_schema 4).columns in
    let HasLecturer : Row → Type 0 = λ r. IsText (column r 2) in
    next Text text_cell HasLecturer (λ x. Int n ∷ x) (codes "key") 0 (drop 1 cs) (λ x. refl) (λ key.
    next Text text_cell HasLecturer (λ x. Int n ∷ Words key ∷ x) (codes "lecturer") 1 (drop 2 cs) (λ x. refl)
    (λ lecturer rest typed present. (lecturer, refl)))

place_form : (k l m : List ℕ)
    → Forms IsPlace (column_of k Text true ∷ column_of l Integer true ∷ column_of m Text true ∷ [])
place_form k l m n =
    next Text text_cell IsPlace (λ x. Int n ∷ x) k 0 (column_of l Integer true ∷ column_of m Text true ∷ []) (λ x. refl) (λ owner.
    next Integer number_cell IsPlace (λ x. Int n ∷ Words owner ∷ x) l 1 (column_of m Text true ∷ []) (λ x. refl) (λ place.
    next Text text_cell IsPlace (λ x. Int n ∷ Words owner ∷ Int place ∷ x) m 2 [] (λ x. refl) (λ item rest typed present.
    record {
      number = n;
      owner = owner;
      place = place;
      item = item;
      is = ap (λ x. Int n ∷ Words owner ∷ Int place ∷ Words item ∷ x) (none_more 3 rest typed);
    })))

-- the rows of a table, by what its rules say of them
formed : (P : Row → Type 0) (cs : List Column) → Forms P cs → (rows : List Row) → RowNumbersDiffer rows
    → AllByRecursion (λ r. (are_typed None 0 cs (drop 1 r) && true) ≡ true) rows
    → AllByRecursion (λ r. are_present None 0 cs r ≡ true) rows → AllByRecursion P rows
formed P cs form [] apart t p = tt
formed P cs form ([] ∷ rows) apart t p = absurd (let e = apart.0 in cc)
formed P cs form ((v ∷ cells) ∷ rows) apart t p = (
  subst (λ x. P (x ∷ cells)) (sym apart.0)
      (form (id_in v) cells (and_parts _ _ t.0).0 (subst (λ x. are_present None 0 cs (x ∷ cells) ≡ true) apart.0 p.0)),
  formed P cs form rows apart.2 t.1 p.1,
)

-- what is understood of a table
abbrev pub form_of : Named → Table
form_of (OfRoll Lecturers) = lecturer_schema lecturer_tree
form_of (OfRoll Projects) = project_schema project_tree
form_of (OfRoll Students) = student_schema student_tree
form_of (OfLists l) = list_table (names l) (tree_of l)
form_of OfRanked = ranked2 ranked2_tree
form_of OfPlaces = assigned2 assigned2_tree

-- a rule, of a row of the table
abbrev pub Follows : Constraint → (t : Named) → Open → Trees → Row → Bool
Follows rule t o db row = passes rule (schema_with (table_round t) o) db (with_checks o.checks o.terms (form_of t)) row

-- a rule of all tables is one of each
at_table : (t : Named) (o : Open) (rule : Constraint) (db : Trees) → Keeps rule (schema_with (table_round t) o) db
    → AllByRecursion (λ row. Follows rule t o db row ≡ true) (db (table_tree t))
at_table (OfRoll Lecturers) o rule db all = all.1.0
at_table (OfRoll Projects) o rule db all = all.1.1.0
at_table (OfRoll Students) o rule db all = all.1.1.1.0
at_table (OfLists (Choices First)) o rule db all = all.1.1.1.1.0
at_table (OfLists (Rankings First)) o rule db all = all.1.1.1.1.1.0
at_table (OfLists (Choices Second)) o rule db all = all.1.1.1.1.1.1.1.0
at_table OfRanked o rule db all = all.1.1.1.1.1.1.1.1.0
at_table (OfLists (Rankings Second)) o rule db all = all.1.1.1.1.1.1.1.1.1.0
at_table OfPlaces o rule db all = all.1.1.1.1.1.1.1.1.1.1.0

-- what the rules say of a sound database's tables, read as those of a round, and of one of them
pub kept : (round : Round) (db : Database) → IsDatabase db → (rule : Constraint) (w : IsWith round db.schema)
    → Keeps rule (schema_with round w.o) db.trees
kept round db sound rule w = subst (λ s. Keeps rule s db.trees) w.is (sound.obeys.rules rule)

pub followed : (db : Database) (t : Named) (own : HasRound (table_round t) db.schema) → IsDatabase db
    → (rule : Constraint)
    → AllByRecursion (λ row. Follows rule t (own_is (table_round t) db.schema own).o db.trees row ≡ true) (db.trees (table_tree t))
followed db t own sound rule =
    let w = own_is (table_round t) db.schema own in
    at_table t w.o rule db.trees (kept (table_round t) db sound rule w)

pub lecturer_rows_formed : (db : Database) → HasFirstSchema db.schema → IsDatabase db
    → RowNumbersDiffer (db.trees lecturer_tree) → AllByRecursion IsLecturerRow (db.trees lecturer_tree)
lecturer_rows_formed db own sound apart =
    formed IsLecturerRow (lecturer_schema 1).columns lecturer_form (db.trees lecturer_tree) apart
    (followed db (OfRoll Lecturers) own sound Datatype) (followed db (OfRoll Lecturers) own sound NotNull)

pub student_rows_formed : (db : Database) → HasFirstSchema db.schema → IsDatabase db
    → RowNumbersDiffer (db.trees student_tree) → AllByRecursion IsStudentRow (db.trees student_tree)
student_rows_formed db own sound apart =
    formed IsStudentRow (student_schema 6).columns student_form (db.trees student_tree) apart
    (followed db (OfRoll Students) own sound Datatype) (followed db (OfRoll Students) own sound NotNull)

pub project_rows_formed : (db : Database) → HasFirstSchema db.schema → IsDatabase db
    → RowNumbersDiffer (db.trees project_tree) → AllByRecursion (λ r. IsText (column r 2)) (db.trees project_tree)
project_rows_formed db own sound apart =
    formed (λ r. IsText (column r 2)) (project_schema 4).columns project_form (db.trees project_tree) apart
    (followed db (OfRoll Projects) own sound Datatype) (followed db (OfRoll Projects) own sound NotNull)

pub place_rows_formed : (db : Database) (l : Lists) → HasRound (round_of l) db.schema → IsDatabase db
    → RowNumbersDiffer (db.trees (tree_of l)) → AllByRecursion IsPlace (db.trees (tree_of l))
place_rows_formed db l own sound apart =
    formed IsPlace (list_table (names l) (tree_of l)).columns (place_form (names l).owner (codes "place") (names l).item)
    (db.trees (tree_of l)) apart
    (followed db (OfLists l) own sound Datatype) (followed db (OfLists l) own sound NotNull)
