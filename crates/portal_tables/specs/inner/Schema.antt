-- The portal's schemas, written out: what the CREATE texts of `Tables` define.
use Rattle.std.specs.Prelude.{◌∷◌, ◌++◌, ◌+◌}
use Rattle.portal_tables.specs.Tables.{ListTable, names}
use Rattle.portal_tables.specs.declared.sql.list_table.Lists.TheVariants.{Choices, Rankings}
use Rattle.portal_tables.specs.inner.Base.{Binary, true, false, [], Some, None, codes, List, ℕ, pos, Bool, Option, Null}
use Rattle.portal_tables.specs.inner.Base.{Int, Table, Schema, Kind, Integer, Text, Term, lit, col, op2, Compare, And}
use Rattle.portal_tables.specs.inner.Base.{Or, Eq, Ge, Le, First, Second, Column, Index, Reference, NoAction, Order, plain}

abbrev pub column_of : List ℕ → Kind → Bool → Column
column_of name kind required =
    record { name = name; kind = kind; is_strict = true; not_null = required; default = Null; collation = Binary }

abbrev pub refers_to : ℕ → List ℕ → Reference
refers_to place parent = record {
  columns = place ∷ [];
  parent = parent;
  parent_columns = codes "key" ∷ [];
  on_delete = NoAction;
  on_update = NoAction;
  is_deferred = false;
}

-- what the tables share: STRICT, no computed defaults, no AUTOINCREMENT
abbrev pub schema_of : List ℕ → ℕ → List Column → Option ℕ → List ℕ → List (List ℕ) → List Order → List Term
    → List Reference → Table
schema_of name tree columns key primary uniques orders checks references = record {
  name = name;
  tree = tree;
  columns = columns;
  key = key;
  primary = primary;
  uniques = uniques;
  orders = orders;
  checks = checks;
  references = references;
  computed = [];
  stamps = record { places = []; terms = []; formats = [] };
  is_counted = false;
}

-- the checks that a number is n, and that it is from `low` to `high`
abbrev pub is_number_at : ℕ → ℕ → Term
is_number_at place n = op2 (Compare Eq Binary) (col 1 place) (lit (Int (pos n)))

abbrev pub is_from : ℕ → ℕ → ℕ → Term
is_from low high place = op2 And (op2 (Compare Ge Binary) (col 1 place) (lit (Int (pos low)))) (op2 (Compare Le Binary) (col 1 place) (lit (Int (pos high))))

abbrev pub portal : ℕ → Table
portal tree = schema_of (codes "portal") tree
    (column_of (codes "id") Integer true ∷ column_of (codes "version") Integer true ∷ column_of (codes "phase") Integer true ∷
    column_of (codes "office") Text true ∷ [])
    (Some 0) (0 ∷ []) [] [] (is_number_at 0 1 ∷ []) []

abbrev pub lecturer_schema : ℕ → Table
lecturer_schema tree = schema_of (codes "lecturer") tree
    (column_of (codes "key") Text true ∷ column_of (codes "name") Text true ∷ column_of (codes "code") Text true ∷
    column_of (codes "capacity") Integer true ∷ column_of (codes "ranked") Integer true ∷ [])
    None (1 ∷ []) ((1 ∷ []) ∷ (3 ∷ []) ∷ []) (plain ∷ plain ∷ []) (is_from 1 200 4 ∷ op2 Or (is_number_at 5 0) (is_number_at 5 1) ∷ []) []

abbrev pub project_schema : ℕ → Table
project_schema tree = schema_of (codes "project") tree
    (column_of (codes "key") Text true ∷ column_of (codes "lecturer") Text true ∷ column_of (codes "title") Text true ∷
    column_of (codes "capacity") Integer true ∷ [])
    None (1 ∷ []) ((1 ∷ []) ∷ []) (plain ∷ []) (is_from 1 200 4 ∷ []) (refers_to 2 (codes "lecturer") ∷ [])

abbrev pub student_schema : ℕ → Table
student_schema tree = schema_of (codes "student") tree
    (column_of (codes "key") Text true ∷ column_of (codes "name") Text true ∷ column_of (codes "code") Text true ∷
    column_of (codes "assigned") Text false ∷ [])
    None (1 ∷ []) ((1 ∷ []) ∷ (3 ∷ []) ∷ []) (plain ∷ plain ∷ []) [] (refers_to 4 (codes "project") ∷ [])

-- a table of lists
abbrev pub list_table : ListTable → ℕ → Table
list_table t tree = schema_of t.name tree
    (column_of t.owner Text true ∷ column_of (codes "place") Integer true ∷ column_of t.item Text true ∷ [])
    None (1 ∷ 2 ∷ []) ((1 ∷ 2 ∷ []) ∷ (3 ∷ 1 ∷ []) ∷ []) (plain ∷ plain ∷ []) [] (refers_to 1 t.owner ∷ refers_to 3 t.item ∷ [])

abbrev pub second : ℕ → Table
second tree = schema_of (codes "second") tree
    (column_of (codes "id") Integer true ∷ column_of (codes "phase") Integer true ∷ [])
    (Some 0) (0 ∷ []) [] [] (is_number_at 0 1 ∷ is_from 0 3 2 ∷ []) []

abbrev pub ranked2 : ℕ → Table
ranked2 tree = schema_of (codes "ranked2") tree (column_of (codes "lecturer") Text true ∷ [])
    None (1 ∷ []) ((1 ∷ []) ∷ []) (plain ∷ []) [] (refers_to 1 (codes "lecturer") ∷ [])

abbrev pub assigned2 : ℕ → Table
assigned2 tree = schema_of (codes "assigned2") tree (column_of (codes "student") Text true ∷ column_of (codes "project") Text true ∷ [])
    None (1 ∷ []) ((1 ∷ []) ∷ []) (plain ∷ []) [] (refers_to 1 (codes "student") ∷ refers_to 2 (codes "project") ∷ [])

abbrev pub index_of : ℕ → List ℕ → ℕ → List ℕ → Index
index_of tree name table columns = record {
  name = codes "sqlite_autoindex_" ++ name;
  tree = tree;
  table = table;
  columns = columns;
  order = plain;
  is_unique = true;
}

-- those of a table of lists, in the trees after it
abbrev pub list_indexes : ListTable → ℕ → List Index
list_indexes t tree =
    index_of (tree + 1) (t.name ++ codes "_1") tree (1 ∷ 2 ∷ []) ∷ index_of (tree + 2) (t.name ++ codes "_2") tree (3 ∷ 1 ∷ []) ∷ []

-- the tables of version 1; trees are numbered in the order of making: a table, then its indexes
abbrev pub first_written : Schema
first_written = record {
  tables = portal 0 ∷ lecturer_schema 1 ∷ project_schema 4 ∷ student_schema 6
      ∷ list_table (names (Choices First)) 9 ∷ list_table (names (Rankings First)) 12 ∷ [];
  indexes = index_of 2 (codes "lecturer_1") 1 (1 ∷ []) ∷ index_of 3 (codes "lecturer_2") 1 (3 ∷ []) ∷ index_of 5 (codes "project_1") 4 (1 ∷ [])
      ∷ index_of 7 (codes "student_1") 6 (1 ∷ []) ∷ index_of 8 (codes "student_2") 6 (3 ∷ [])
      ∷ list_indexes (names (Choices First)) 9 ++ list_indexes (names (Rankings First)) 12;
  views = [];
}

-- all tables: the five of the second round after those of the first
abbrev pub portal_written : Schema
portal_written = record {
  tables = first_written.tables ++ second 15 ∷ list_table (names (Choices Second)) 16 ∷ ranked2 19
      ∷ list_table (names (Rankings Second)) 21 ∷ assigned2 24 ∷ [];
  indexes = first_written.indexes ++ list_indexes (names (Choices Second)) 16
      ++ index_of 20 (codes "ranked2_1") 19 (1 ∷ []) ∷ list_indexes (names (Rankings Second)) 21
      ++ index_of 25 (codes "assigned2_1") 24 (1 ∷ []) ∷ [];
  views = [];
}
