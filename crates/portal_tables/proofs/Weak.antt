-- Schemas that are the portal's own but for their checks and the terms of their defaults.
use Rattle.portal_tables.proofs.Base.{◌≡◌, ◌&&◌, ◌∷◌, ◌++◌, ℕ, Bool, true, false, not, cond, eqb, take, drop, List, []}
use Rattle.portal_tables.proofs.Base.{map, refl, sym, ap, ap₂, ◌∙◌, AllZip, list_all, and_parts, eq-eqb}
use Rattle.portal_tables.proofs.Base.{take-append-drop, Term, Table, Schema, Index, Round, First, Second, first_written}
use Rattle.portal_tables.proofs.Base.{portal_written, SameSchema, SameTable, IsFirstSchema, HasRound, subst}
use Rattle.portal_tables.proofs.Defined.{first_as_written, portal_as_written}

abbrev pub with_terms : List Term → List Term → Table → Table
with_terms checks terms t = record t { checks = checks; stamps = record t.stamps { terms = terms } }

pub same_with : (checks terms : List Term) (t : Table) → SameTable (with_terms checks terms t) t
same_with checks terms t = refl

abbrev pub with_checks : (ℕ → List Term) → (ℕ → List Term) → Table → Table
with_checks checks terms t = with_terms (checks t.tree) (terms t.tree) t

-- what is left open
pub record Open : Type 0 where
  pub checks : ℕ → List Term
  pub terms : ℕ → List Term
  pub tables : List Table
  pub indexes : List Index

-- all tables, those of the first round, and those with whatever stands behind them
abbrev pub portal_with : (ℕ → List Term) → (ℕ → List Term) → Schema
portal_with checks terms = record portal_written { tables = map (with_checks checks terms) portal_written.tables }

abbrev pub first_with : (ℕ → List Term) → (ℕ → List Term) → Schema
first_with checks terms = record first_written { tables = map (with_checks checks terms) first_written.tables }

abbrev pub schema_with : Round → Open → Schema
schema_with First o = record {
  tables = map (with_checks o.checks o.terms) first_written.tables ++ o.tables;
  indexes = o.indexes;
  views = [];
}
schema_with Second o = portal_with o.checks o.terms

pub record IsWith (round : Round) (s : Schema) : Type 0 where
  pub o : Open
  pub is : s ≡ schema_with round o

pub record IsFirstWith (s : Schema) : Type 0 where
  pub checks : ℕ → List Term
  pub terms : ℕ → List Term
  pub is : s ≡ first_with checks terms

table_is : (t u : Table) → SameTable t u → t ≡ with_terms t.checks t.stamps.terms u
table_is t u s = ap (with_terms t.checks t.stamps.terms) s

-- what one tree has, and what others have
abbrev with_one : ℕ → List Term → (ℕ → List Term) → ℕ → List Term
with_one tree one others n = cond (eqb n tree) one (others n)

abbrev row_numbers_differ : List Table → Bool
row_numbers_differ [] = true
row_numbers_differ (u ∷ us) = list_all (λ v. not (eqb v.tree u.tree)) us && row_numbers_differ us

others_have : (tree : ℕ) (c d : List Term) (checks terms : ℕ → List Term) (us : List Table)
    → list_all (λ v. not (eqb v.tree tree)) us ≡ true
    → map (with_checks checks terms) us ≡ map (with_checks (with_one tree c checks) (with_one tree d terms)) us
others_have tree c d checks terms [] h = refl
others_have tree c d checks terms (v ∷ us) h =
    let two = and_parts (not (eqb v.tree tree)) (list_all (λ w. not (eqb w.tree tree)) us) h in
    λ i. with_terms (skips (eqb v.tree tree) c (checks v.tree) two.0 i) (skips (eqb v.tree tree) d (terms v.tree) two.0 i) v
    ∷ others_have tree c d checks terms us two.1 i
  where
    skips : (b : Bool) (x y : List Term) → not b ≡ true → y ≡ cond b x y
    skips true x y e = absurd (cc)
    skips false x y e = refl

record AreWith (ts us : List Table) : Type 0 where
  checks : ℕ → List Term
  terms : ℕ → List Term
  is : ts ≡ map (with_checks checks terms) us

zipped : (ts us : List Table) → AllZip SameTable ts us → row_numbers_differ us ≡ true → AreWith ts us
zipped [] [] h apart = record { checks = λ _. []; terms = λ _. []; is = refl }
zipped [] (u ∷ us) h apart = absurd h
zipped (t ∷ ts) [] h apart = absurd h
zipped (t ∷ ts) (u ∷ us) h apart =
    let two = and_parts (list_all (λ v. not (eqb v.tree u.tree)) us) (row_numbers_differ us) apart in
    let rest = zipped ts us h.1 two.1 in
    let own : (x : List Term) (others : ℕ → List Term)
    → x ≡ with_one u.tree x others u.tree = λ x others. sym (ap (λ b. cond b x (others u.tree)) (eq-eqb u.tree u.tree refl)) in
    record {
      checks = with_one u.tree t.checks rest.checks;
      terms = with_one u.tree t.stamps.terms rest.terms;
      is = ap₂ (λ x xs. x ∷ xs) (table_is t u h.0
          ∙ ap₂ (λ c d. with_terms c d u) (own t.checks rest.checks) (own t.stamps.terms rest.terms))
          (rest.is ∙ others_have u.tree t.checks t.stamps.terms rest.checks rest.terms us two.0);
    }

pub own_is : (round : Round) (s : Schema) → HasRound round s → IsWith round s
own_is First s h =
    let z = zipped (take 6 s.tables) first_written.tables
    (subst (λ (f : Schema). AllZip SameTable (take 6 s.tables) f.tables) first_as_written h.tables) refl in
    record {
      o = record { checks = z.checks; terms = z.terms; tables = drop 6 s.tables; indexes = s.indexes };
      is = λ i. record {
        tables = (sym (take-append-drop 6 s.tables) ∙ ap (λ ts. ts ++ drop 6 s.tables) z.is) i;
        indexes = s.indexes;
        views = h.no_views i;
      };
    }
own_is Second s h =
    let w : SameSchema s portal_written = subst (SameSchema s) portal_as_written h in
    let z = zipped s.tables portal_written.tables w.tables refl in
    record {
      o = record { checks = z.checks; terms = z.terms; tables = []; indexes = [] };
      is = λ i. record { tables = z.is i; indexes = w.indexes i; views = w.views i };
    }

pub first_is : (s : Schema) → IsFirstSchema s → IsFirstWith s
first_is s h =
    let w : SameSchema s first_written = subst (SameSchema s) first_as_written h in
    let z = zipped s.tables first_written.tables w.tables refl in
    record { checks = z.checks; terms = z.terms; is = λ i. record { tables = z.is i; indexes = w.indexes i; views = w.views i } }
