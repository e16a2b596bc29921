-- What a comparison of all parts says of a schema.
use Rattle.portal_tables.proofs.Base.{◌≡◌, ◌∷◌, ◌↔◌, ◌∙◌, Bool, IsTrue, List, [], take, length, sym, ap, subst}
use Rattle.portal_tables.proofs.Base.{subst₂}
use Rattle.portal_tables.proofs.Base.{AllZip, Table, Schema, Index, first_schema, portal_schema}
use Rattle.portal_tables.proofs.Base.{SameSchema, SameTable, HasFirstSchema, IsCurrentSchema}
use Rattle.portal_tables.proofs.Base.{IsFirstSchema}
use Rattle.portal_tables.specs.inner.Comparing.{HasParts, SameParts}
use Rattle.portal_tables.proofs.Defined.{first_as_written, portal_as_written}
use Rattle.portal_tables.proofs.Owned.{current_own, first_own}

same_by : (a b : Table) → SameParts a b → SameTable a b
same_by a b s = λ i. record {
  name = s.name i;
  tree = s.tree i;
  columns = s.columns i;
  key = s.key i;
  primary = s.rules.primary i;
  uniques = s.rules.uniques i;
  orders = s.rules.orders i;
  checks = b.checks;
  references = s.rules.references i;
  computed = s.defaults.computed i;
  stamps = record { places = s.defaults.places i; terms = b.stamps.terms; formats = s.defaults.formats i };
  is_counted = s.is_counted i;
}

parts_of : (a b : Table) → SameTable a b → SameParts a b
parts_of a b h = record {
  name = ap (λ (t : Table). t.name) h;
  tree = ap (λ (t : Table). t.tree) h;
  columns = ap (λ (t : Table). t.columns) h;
  key = ap (λ (t : Table). t.key) h;
  is_counted = ap (λ (t : Table). t.is_counted) h;
  rules = record {
    primary = ap (λ (t : Table). t.primary) h;
    uniques = ap (λ (t : Table). t.uniques) h;
    orders = ap (λ (t : Table). t.orders) h;
    references = ap (λ (t : Table). t.references) h;
  };
  defaults = record {
    computed = ap (λ (t : Table). t.computed) h;
    places = ap (λ (t : Table). t.stamps.places) h;
    formats = ap (λ (t : Table). t.stamps.formats) h;
  };
}

zip_weaker : (P Q : Table → Table → Type 0) → ((a b : Table) → P a b → Q a b) → (ts us : List Table) → AllZip P ts us
    → AllZip Q ts us
zip_weaker P Q f [] [] h = tt
zip_weaker P Q f [] (u ∷ us) h = absurd h
zip_weaker P Q f (t ∷ ts) [] h = absurd h
zip_weaker P Q f (t ∷ ts) (u ∷ us) h = (f t u h.0, zip_weaker P Q f ts us h.1)

same_schema : (s pattern : Schema) → pattern.views ≡ [] → HasParts s pattern.tables pattern.indexes
    → SameSchema s pattern
same_schema s pattern none h = record {
  tables = zip_weaker SameParts SameTable same_by s.tables pattern.tables h.like;
  indexes = h.indexed;
  views = h.no_views ∙ sym none;
}

has_parts : (s pattern : Schema) → pattern.views ≡ [] → SameSchema s pattern → HasParts s pattern.tables pattern.indexes
has_parts s pattern none h = record {
  like = zip_weaker SameTable SameParts parts_of s.tables pattern.tables h.tables;
  indexed = h.indexes;
  no_views = h.views ∙ none;
}

-- all tables are compared
pub fits_current : (b : Bool) (all s : Schema) → all ≡ portal_schema → (IsTrue b ↔ HasParts s all.tables all.indexes)
    → IsTrue b ↔ IsCurrentSchema s
fits_current b all s is fits =
    let none : all.views ≡ [] = ap (λ (a : Schema). a.views) (is ∙ portal_as_written) in (
      λ fit. subst (SameSchema s) is (same_schema s all none (fits.0 fit)),
      λ own. fits.1 (has_parts s all none (subst (SameSchema s) (sym is) own)),
    )

pub fits_own : (b : Bool) (all s : Schema) → all ≡ portal_schema → (IsTrue b ↔ HasParts s all.tables all.indexes)
    → IsTrue b → HasFirstSchema s
fits_own b all s is fits fit = current_own s ((fits_current b all s is fits).0 fit)

-- the first six tables and their nine indexes are compared
pub fits_first : (b : Bool) (all s : Schema) → all ≡ portal_schema
    → (IsTrue b ↔ HasParts s (take 6 all.tables) (take 9 all.indexes)) → IsTrue b ↔ IsFirstSchema s
fits_first b all s is fits =
    let tables : take 6 all.tables ≡ first_schema.tables = ap (λ (a : Schema). take 6 a.tables) (is ∙ portal_as_written)
    ∙ ap (λ (a : Schema). a.tables) (sym first_as_written) in
    let indexes : take 9 all.indexes ≡ first_schema.indexes = ap (λ (a : Schema). take 9 a.indexes) (is ∙ portal_as_written)
    ∙ ap (λ (a : Schema). a.indexes) (sym first_as_written) in
    let none : first_schema.views ≡ [] = ap (λ (a : Schema). a.views) first_as_written in (
      λ fit. same_schema s first_schema none (subst₂ (HasParts s) tables indexes (fits.0 fit)),
      λ own. fits.1 (subst₂ (HasParts s) (sym tables) (sym indexes) (has_parts s first_schema none own)),
    )

pub fits_first_own : (b : Bool) (all s : Schema) → all ≡ portal_schema
    → (IsTrue b ↔ HasParts s (take 6 all.tables) (take 9 all.indexes)) → IsTrue b → HasFirstSchema s
fits_first_own b all s is fits fit = first_own s ((fits_first b all s is fits).0 fit)

-- so many are there
pub six_tables : (ts : List Table) (all : Schema) → all ≡ portal_schema → ts ≡ all.tables → 6 ≡ length (take 6 ts)
six_tables ts all is are = ap (λ (a : Schema). length (take 6 a.tables)) (sym (is ∙ portal_as_written))
    ∙ ap (λ us. length (take 6 us)) (sym are)

pub nine_indexes : (ts : List Index) (all : Schema) → all ≡ portal_schema → ts ≡ all.indexes → 9 ≡ length (take 9 ts)
nine_indexes ts all is are = ap (λ (a : Schema). length (take 9 a.indexes)) (sym (is ∙ portal_as_written))
    ∙ ap (λ us. length (take 9 us)) (sym are)
