-- The portal's own schemas: those of the tables as they are made, and any over the same trees.
use Rattle.portal_tables.proofs.Base.{◌≡◌, ◌∷◌, ◌++◌, List, [], take, length, subst, sym, refl, AllZip, Database}
use Rattle.portal_tables.proofs.Base.{IsDatabase, Trees, Schema, Table, IsSound, lists_once, zip_itself, Round, First}
use Rattle.portal_tables.proofs.Base.{Second, first_schema, first_written, portal_schema, portal_written, SameSchema}
use Rattle.portal_tables.proofs.Base.{SameTable, HasFirstSchema, IsCurrentSchema, IsFirstSchema, HasRound}
use Rattle.portal_tables.proofs.Defined.{first_as_written, portal_as_written}
use Rattle.portal_tables.proofs.Weak.{same_with}

pub same_tables : (ts : List Table) → AllZip SameTable ts ts
same_tables = zip_itself SameTable (λ t. same_with t.checks t.stamps.terms t)

pub own_made : (s : Schema) → s ≡ portal_schema → IsCurrentSchema s
own_made s is = subst IsCurrentSchema (sym is) (record { tables = same_tables portal_schema.tables; indexes = refl; views = refl })

pub first_self : IsFirstSchema first_schema
first_self = record { tables = same_tables first_schema.tables; indexes = refl; views = refl }

-- what is like all tables of a list, and perhaps more, is like the first of them
first_of : (ts us vs : List Table) → AllZip SameTable ts (us ++ vs) → AllZip SameTable (take (length us) ts) us
first_of ts [] vs h = tt
first_of [] (u ∷ us) vs h = absurd h
first_of (t ∷ ts) (u ∷ us) vs h = (h.0, first_of ts us vs h.1)

six_own : (s : Schema) → AllZip SameTable (take 6 s.tables) first_written.tables → s.views ≡ [] → HasFirstSchema s
six_own s like none = record {
  tables = subst (λ (f : Schema). AllZip SameTable (take 6 s.tables) f.tables) (sym first_as_written) like;
  no_views = none;
}

-- all tables are read as those of the first round
pub current_own : (s : Schema) → IsCurrentSchema s → HasFirstSchema s
current_own s h =
    let w : SameSchema s portal_written = subst (SameSchema s) portal_as_written h in
    six_own s (first_of s.tables first_written.tables _ w.tables) w.views

pub first_own : (s : Schema) → IsFirstSchema s → HasFirstSchema s
first_own s h =
    let w : SameSchema s first_written = subst (SameSchema s) first_as_written h in
    six_own s (first_of s.tables first_written.tables [] w.tables) w.views

pub has_round : (round : Round) (s : Schema) → IsCurrentSchema s → HasRound round s
has_round First s h = current_own s h
has_round Second s h = h

pub round_own : (round : Round) (s : Schema) → HasRound round s → HasFirstSchema s
round_own First s h = h
round_own Second s h = current_own s h

-- what a crash leaves has one schema, whoever opens it
pub one_schema : (left found : Database) → IsDatabase left → IsDatabase found → found.trees ≡ left.trees
    → found.schema ≡ left.schema
one_schema left found was is same = lists_once _ found.schema left.schema is.lists
    (subst (λ (t : Trees). IsSound left.schema t) (sym same) was).lists

pub own_again : (P : Schema → Type 0) (left found : Database) → IsDatabase left → IsDatabase found
    → found.trees ≡ left.trees → P left.schema → P found.schema
own_again P left found was is same own = subst P (sym (one_schema left found was is same)) own
