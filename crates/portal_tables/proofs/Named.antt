-- The names one by one are those of the portal's schema.
use Rattle.portal_tables.proofs.Base.{◌≡◌, ◌||◌, ◌&&◌, ◌∙◌, Bool, true, false, List, ℕ, codes, drop, refl, sym, ap}
use Rattle.portal_tables.proofs.Base.{list_any, Table, Schema, portal_written}
use Rattle.std.proofs.Math.Bool.{or_assoc}
use Rattle.sqlite_schema.specs.declared.schema.View.{View}
use Rattle.sqlite_schema.specs.Names.{same_name}
use Rattle.portal_tables.specs.Making.{has_name, has_names, stands_for_table}
use Rattle.portal_tables.specs.declared.sql.names.Names.{Names}
use Rattle.portal_tables.specs.declared.sql.names.Names.TheVariants.{All, OfSecond}
use Rattle.portal_tables.specs.inner.Named.{has_first_name, has_second_name, is_name, is_named_table, is_named_view}
use Rattle.portal_tables.proofs.Defined.{portal_as_written}

nothing_more : (b : Bool) → b ≡ (b || false)
nothing_more true = refl
nothing_more false = refl

five : (a b c d e : Bool) → (a || (b || (c || (d || e)))) ≡ (a || (b || (c || (d || (e || false)))))
five a b c d e = ap (λ x. a || (b || (c || (d || x)))) (nothing_more e)

six : (a b c d e f r : Bool) → ((a || (b || (c || (d || (e || f))))) || r) ≡ (a || (b || (c || (d || (e || (f || r))))))
six a b c d e f r =
    or_assoc a (b || (c || (d || (e || f)))) r
    ∙ ap (λ x. a || x) (or_assoc b (c || (d || (e || f))) r
    ∙ ap (λ x. b || x) (or_assoc c (d || (e || f)) r
    ∙ ap (λ x. c || x) (or_assoc d (e || f) r
    ∙ ap (λ x. d || x) (or_assoc e f r))))

module _ (n : List ℕ) where
  abbrev is : List ℕ → Bool
  is name = same_name n name

  second_are : has_second_name n ≡ list_any (λ (t : Table). same_name n t.name) (drop 6 portal_written.tables)
  second_are = five (is (codes "second")) (is (codes "choice2")) (is (codes "ranked2")) (is (codes "ranking2")) (is (codes "assigned2"))

  all_are : (has_first_name n || has_second_name n) ≡ list_any (λ (t : Table). same_name n t.name) portal_written.tables
  all_are =
      six (is (codes "portal")) (is (codes "lecturer")) (is (codes "project")) (is (codes "student")) (is (codes "choice"))
      (is (codes "ranking")) (has_second_name n)
      ∙ ap (λ r. is (codes "portal") || (is (codes "lecturer") || (is
      (codes "project") || (is (codes "student") || (is (codes "choice") || (is (codes "ranking") || r)))))) second_are

name_is : (names : Names) (n : List ℕ) → is_name names n ≡ has_name names n
name_is All n = all_are n ∙ ap (λ (s : Schema). list_any (λ (t : Table). same_name n t.name) s.tables) (sym portal_as_written)
name_is OfSecond n = second_are n ∙ ap (λ (s : Schema). list_any (λ (t : Table). same_name n t.name) (drop 6 s.tables))
    (sym portal_as_written)

pub named_is : (names : Names) (s : Schema)
    → (list_any (is_named_table names) s.tables || list_any (is_named_view names) s.views) ≡ has_names names s
named_is names s = λ i. list_any (λ (t : Table). name_is names t.name i) s.tables || list_any
    (λ (v : View). name_is names v.name i && stands_for_table v.name v.foreign) s.views

-- a table has one of the names
pub table_there : (names : Names) (s : Schema) (b : Bool) → b ≡ list_any (is_named_table names) s.tables → b ≡ true
    → b ≡ has_names names s
table_there names s b is true_is = true_is ∙ sym (ap (λ x. x || list_any (is_named_view names) s.views) (sym is ∙ true_is))
    ∙ named_is names s

-- none has, and perhaps a view
pub view_there : (names : Names) (s : Schema) (a b : Bool) → a ≡ list_any (is_named_table names) s.tables → a ≡ false
    → b ≡ list_any (is_named_view names) s.views → b ≡ has_names names s
view_there names s a b is false_is views = views ∙ sym (ap (λ x. x || list_any (is_named_view names) s.views) (sym is ∙ false_is))
    ∙ named_is names s
