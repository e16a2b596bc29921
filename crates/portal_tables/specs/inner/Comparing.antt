-- What is compared of a schema with given tables and indexes.
use Rattle.std.specs.Prelude.{◌≡◌}
use Rattle.portal_tables.specs.inner.Base.{List, [], AllZip, Table, Index, Schema}

pub record SameRules (a b : Table) : Type 0 where
  pub primary : a.primary ≡ b.primary
  pub uniques : a.uniques ≡ b.uniques
  pub orders : a.orders ≡ b.orders
  pub references : a.references ≡ b.references

pub record SameDefaults (a b : Table) : Type 0 where
  pub computed : a.computed ≡ b.computed
  pub places : a.stamps.places ≡ b.stamps.places
  pub formats : a.stamps.formats ≡ b.stamps.formats

pub record SameParts (a b : Table) : Type 0 where
  pub name : a.name ≡ b.name
  pub tree : a.tree ≡ b.tree
  pub columns : a.columns ≡ b.columns
  pub key : a.key ≡ b.key
  pub is_counted : a.is_counted ≡ b.is_counted
  pub rules : SameRules a b
  pub defaults : SameDefaults a b

pub record HasParts (schema : Schema) (tables : List Table) (indexes : List Index) : Type 0 where
  pub like : AllZip SameParts schema.tables tables
  pub indexed : schema.indexes ≡ indexes
  pub no_views : schema.views ≡ []
