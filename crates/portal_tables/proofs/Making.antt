-- The tables made, one after another.
use Rattle.portal_tables.proofs.Base.{◌≡◌, ◌∷◌, ◌++◌, ◌+◌, ◌<◌, drop, take, take_more, get_or, length, Bor, ℕ, List}
use Rattle.portal_tables.proofs.Base.{[], map, false, None, Result, Ok, Err, refl, sym, ap}
use Rattle.portal_tables.proofs.Base.{ap₂, subst, subst₂, ◌∙◌, ⊤, fold, AllByRecursion, AllZip, Table, Term, Schema}
use Rattle.portal_tables.proofs.Base.{created, CreateTable, Tally, lacks_sequence, Database, understood, State, Writes}
use Rattle.portal_tables.proofs.Base.{IsPlain, command_of, statement_of, runs_as, everything, zip-append, all-append}
use Rattle.portal_tables.proofs.Base.{all-map, all_of, Compiled, no_schema, first_schema, portal_schema, first_trees}
use Rattle.portal_tables.proofs.Base.{second_trees, first_texts, second_texts, first_tables, second_tables, SameTable}
use Rattle.portal_tables.proofs.Base.{IsCurrentSchema, IsFirstSchema, Grows, Grown, IsCreateTable, Defines, MakesOne}
use Rattle.portal_tables.proofs.Base.{MakesEach, MakesFirst, MakesSecond, Makes, with_second, Ran, first_written}
use Rattle.portal_tables.proofs.Base.{portal_written, SameSchema}
use Rattle.sqlite_resolve.specs.declared.error.CompileError.{CompileError}
use Rattle.portal_tables.proofs.Defined.{first_full, full_is, first_as_written, portal_as_written}
use Rattle.portal_tables.proofs.Owned.{same_tables, first_self}
use Rattle.portal_tables.proofs.Sorted.{all_two}
use Rattle.portal_tables.proofs.Weak.{same_with, with_checks, first_with, first_is}
use Rattle.portal_tables.proofs.Writes.{went, same_value}

create_parts : (sql : List ℕ) (r : Result Compiled CompileError) → IsCreateTable sql r
    → (command_of r ≡ CreateTable) × (statement_of sql r ≡ sql) × IsPlain r
create_parts sql (Ok c) h = h
create_parts sql (Err e) h = absurd h

-- a text that ran makes its table
pub one_made : (sql : List ℕ) (old new : State) → Ran sql [] old new → MakesOne sql old.now new.now
one_made sql old new ran kept table next defines =
    let schema = old.now.schema in
    let parts = create_parts sql (understood schema sql) defines.1 in
    let w = subst (λ t. Writes old new None CreateTable t [] ran.count) parts.1
    (runs_as sql [] old new schema refl CreateTable parts.0 parts.2 ran.count ran.runs) in
    let all = went w.changed in
    let first = went all.1 in
    let made = first.1 in
    let both : Ok made.table ≡ Ok table = sym made.defined ∙ defines.0 in
    let is : first.0.schema ≡ created schema table = made.is ∙ ap (created schema) (same_value both) in
    let plain : lacks_sequence first.0.schema ≡ false = ap lacks_sequence is ∙ defines.2 in
    let now : new.now ≡ first.0 = ap (λ (p : Tally × Database). p.1) (same_value all.2) ∙ same_value (rw plain at first.2) in
    let Same : Database → ℕ → Type 0 = λ db t. db.trees t ≡ old.now.trees t in
    record {
      schema_is = ap (λ (d : Database). d.schema) now ∙ is;
      same = subst₂ (λ d trees. AllByRecursion (Same d) trees) (sym now) defines.3
          (all-map (Same first.0) (λ (t : Table). t.tree) schema.tables made.others);
      empty = (ap (λ (d : Database). d.trees next) now ∙ subst (λ t. first.0.trees t ≡ []) defines.4 made.empty, tt);
      sound = λ _. w.sound;
    }

-- and one more after others
each_more : {X : Type 0} (f : X → List ℕ) (xs : List X) (x : X) (old mid new : Database)
    → MakesEach (map f xs) old mid → MakesOne (f x) mid new → MakesEach (map f (xs ++ x ∷ [])) old new
each_more f [] x old mid new is one = (new, subst (λ d. MakesOne (f x) d new) is one, refl)
each_more f (y ∷ xs) x old mid new made one = (made.0, made.1, each_more f xs x made.0 mid new made.2 one)

-- of texts in a row, the next
pub each_next : (texts : List (Bor (List ℕ))) (i : ℕ) (blank : Bor (List ℕ)) (old mid new : Database) → i < length texts
    → MakesEach (map (λ t. t.now) (take i texts)) old mid → MakesOne (get_or texts i blank).now mid new
    → MakesEach (map (λ t. t.now) (take (i + 1) texts)) old new
each_next texts i blank old mid new within made one =
    subst (λ (l : List (Bor (List ℕ))). MakesEach (map (λ t. t.now) l) old new) (sym (take_more texts i blank within))
    (each_more (λ t. t.now) (take i texts) (get_or texts i blank) old mid new made one)

pub parts_of : (P : ℕ → Type 0) (xs ys : List ℕ) → AllByRecursion P (xs ++ ys)
    → AllByRecursion P xs × AllByRecursion P ys
parts_of P [] ys h = (tt, h)
parts_of P (x ∷ xs) ys h = let rest = parts_of P xs ys h.1 in ((h.0, rest.0), rest.1)

grows_then : (a b c : Schema) (kept x y : List ℕ) (old mid new : Database) → Grows a b kept x old mid
    → Grows b c (kept ++ x) y mid new → Grows a c kept (x ++ y) old new
grows_then a b c kept x y old mid new p q has =
    let first = p has in
    let later = q first.schema_is in
    let two = parts_of (λ t. new.trees t ≡ mid.trees t) kept x later.same in
    record {
      schema_is = later.schema_is;
      same = all_two _ _ (λ t. new.trees t ≡ old.trees t) (λ t e d. e ∙ d) kept two.0 first.same;
      empty = all-append (λ t. new.trees t ≡ []) x y (all_two _ _ (λ t. new.trees t ≡ []) (λ t e d. e ∙ d) x two.1 first.empty) later.empty;
      sound = λ h. later.sound (λ no_more. first.sound (λ none. h (ap₂ (λ a b. a ++ b) none no_more)));
    }

-- each of these texts creates the table beside it, in the tree beside it
abbrev AllDefine : Schema → List ℕ → List (List ℕ) → List Table → List ℕ → Type 0
AllDefine schema kept [] [] [] = ⊤
AllDefine schema kept (sql ∷ texts) (table ∷ tables) (next ∷ trees) =
    Defines schema kept sql table next × AllDefine (created schema table) (kept ++ next ∷ []) texts tables trees
AllDefine schema kept _ _ _ = ⊥

all_grown : (schema : Schema) (kept : List ℕ) (texts : List (List ℕ)) (tables : List Table) (trees : List ℕ)
    → AllDefine schema kept texts tables trees → (old new : Database) → MakesEach texts old new
    → Grows schema (fold created schema tables) kept trees old new
all_grown schema kept [] [] [] all old new is has =
    subst (Grown schema kept [] old) (sym is)
    (record { schema_is = has; same = all_of _ (λ t. refl) kept; empty = tt; sound = λ h. h refl })
all_grown schema kept (sql ∷ texts) (table ∷ tables) (next ∷ trees) all old new made has =
    let after = created schema table in
    grows_then schema after (fold created after tables) kept (next ∷ []) trees old made.0 new
    (λ has. subst (λ s. Grown (created s table) kept (next ∷ []) old made.0) has
    (made.1 kept table next (subst (λ s. Defines s kept sql table next) (sym has) all.0)))
    (all_grown after (kept ++ next ∷ []) texts tables trees all.1 made.0 new made.2) has
all_grown schema kept _ _ _ all old new made has = absurd all

-- the six
first_define : AllDefine no_schema [] first_texts first_tables first_trees
unfolding understood everything
first_define = (
  (refl, (refl, refl, (refl, refl)), refl, refl, refl),
  (
    (refl, (refl, refl, (refl, refl)), refl, refl, refl),
    (
      (refl, (refl, refl, (refl, refl)), refl, refl, refl),
      (
        (refl, (refl, refl, (refl, refl)), refl, refl, refl),
        (
          (refl, (refl, refl, (refl, refl)), refl, refl, refl),
          (
            (refl, (refl, refl, (refl, refl)), refl, refl, refl),
            tt,
          ),
        ),
      ),
    ),
  ),
)

pub first_made : (old new : Database) → MakesEach first_texts old new → MakesFirst old new
first_made old new made =
    subst (λ s. Grows no_schema s [] first_trees old new) (first_full ∙ sym first_as_written)
    (all_grown no_schema [] first_texts first_tables first_trees first_define old new made)

-- behind them the five, whatever the terms of the six
module _ (checks terms : ℕ → List Term) where
  second_define : AllDefine (first_with checks terms) first_trees second_texts second_tables second_trees
  unfolding understood everything
  second_define = (
    (refl, (refl, refl, (refl, refl)), refl, refl, refl),
    (
      (refl, (refl, refl, (refl, refl)), refl, refl, refl),
      (
        (refl, (refl, refl, (refl, refl)), refl, refl, refl),
        (
          (refl, (refl, refl, (refl, refl)), refl, refl, refl),
          (
            (refl, (refl, refl, (refl, refl)), refl, refl, refl),
            tt,
          ),
        ),
      ),
    ),
  )

  all_same : (ts : List Table) → AllZip SameTable (map (with_checks checks terms) ts) ts
  all_same [] = tt
  all_same (t ∷ ts) = (same_with (checks t.tree) (terms t.tree) t, all_same ts)

  is_current : SameSchema (with_second (first_with checks terms)) portal_written
  unfolding understood everything
  is_current = record {
    tables = zip-append SameTable (map (with_checks checks terms) first_written.tables)
        (drop 6 portal_written.tables) first_written.tables (drop 6 portal_written.tables) (all_same first_written.tables)
        (same_tables (drop 6 portal_written.tables));
    indexes = refl;
    views = refl;
  }

-- beside the six of version 1 they make all
pub second_current : (s : Schema) → IsFirstSchema s → IsCurrentSchema (with_second s)
second_current s own = let w = first_is s own in
    subst (λ x. IsCurrentSchema (with_second x)) (sym w.is)
    (subst (SameSchema (with_second (first_with w.checks w.terms))) (sym portal_as_written) (is_current w.checks w.terms))

pub second_made : (old new : Database) → MakesEach second_texts old new → MakesSecond old new
second_made old new made own =
    let w = first_is old.schema own in
    subst (λ s. Grown (with_second s) first_trees second_trees old new) (sym w.is)
    (all_grown _ first_trees second_texts second_tables second_trees (second_define w.checks w.terms) old new made w.is)

-- over no table all
pub all_made : (old mid new : Database) → MakesEach first_texts old mid → MakesEach second_texts mid new → Makes old new
all_made old mid new first second =
    grows_then no_schema first_schema portal_schema [] first_trees second_trees old mid new (first_made old mid first)
    (λ was.
    let is = second_made mid new second (subst IsFirstSchema (sym was) first_self) in
    record {
      schema_is = is.schema_is ∙ ap with_second (was ∙ first_as_written) ∙ full_is ∙ sym portal_as_written;
      same = is.same;
      empty = is.empty;
      sound = is.sound;
    })
