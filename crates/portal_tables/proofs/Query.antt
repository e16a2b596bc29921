-- A query of one table, where each term of the filter holds.
use Rattle.portal_tables.proofs.Base.{◌∷◌, ℕ, pos, negsuc, Bool, false, List, [], None, list_all, Int, Row, Term, lit}
use Rattle.portal_tables.proofs.Base.{holds, eval_all, Query, inner, end}

abbrev pub one_table : ℕ → List Term → List Term → Query
one_table tree tests project = record {
  from = inner tree end;
  filter = tests;
  group = None;
  project = project;
  distinct = false;
  collations = [];
  order = [];
  limit = lit (Int (negsuc 0));
  offset = lit (Int (pos 0));
}

abbrev pub passes : List Term → Row → Row → Bool
passes tests params r = list_all (holds (params ∷ r ∷ [])) tests

abbrev pub shown_as : List Term → Row → Row → Row
shown_as project params r = eval_all project (params ∷ r ∷ [])
