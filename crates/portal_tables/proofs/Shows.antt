-- The meaning of each query's text, whatever the checks are, and so what a query shows and leaves.
use Rattle.portal_tables.proofs.Base.{◌≡◌, if◌then◌else◌, ℕ, Bool, true, List, [], false, map, Err, Option, Some, None}
use Rattle.portal_tables.proofs.Base.{refl, sym, ap, subst, subst₂, ◌∙◌, Ok, Result, OnOk, OnErr, Row, Term, col}
use Rattle.portal_tables.proofs.Base.{Schema, Database, Answers, Command, Program, Compiled, State, Shown, HasCleanDisk}
use Rattle.portal_tables.proofs.Base.{IsUnchanged, Survives, Select, everything, understood, reads_listing, lets_of}
use Rattle.portal_tables.proofs.Base.{Ends, IsPlain, IsPlainIfAny, EndsIn, command_of, reads_as, survives_weaker}
use Rattle.portal_tables.proofs.Base.{Choices, Rankings, Whole, LecturerByCode, StudentByCode, LecturerByKey, StudentTold}
use Rattle.portal_tables.proofs.Base.{AllLists, ListOf, Choosers, Listed, ProjectsOf, First, SecondRankedBy}
use Rattle.portal_tables.proofs.Base.{SecondPlaceOf, Numbers, Lecturers, OfRoll, OfLists, ListsBy, HasRound, selection}
use Rattle.portal_tables.proofs.Base.{round_asked, query_text, given, on_ok_weaker, Reading, Anyhow}
use Rattle.portal_tables.proofs.Base.{IsUnchangedOrUndone, Reads, Always, ◌&&◌, eqb, and_parts, cases_Bool, length, IfErr}
use Rattle.portal_tables.proofs.Base.{HasReason, inl, inr}
use Rattle.sqlite_typing.specs.Types.{accepts_program}
use Rattle.std.proofs.lemmas.Bool.{eqb-true}
use Rattle.sqlite.specs.Listing.{misses_table, if_select, is_select, listing_schema}
use Rattle.sqlite_ast.specs.declared.Select as written_select
use Rattle.sqlite_ast.specs.declared.Statement.{Statement}
use Rattle.sqlite_ast.specs.declared.Statement.TheVariants as written
use Rattle.sqlite_syntax.specs.declared.statement.Parsed.{Parsed}
unfoldable use Rattle.sqlite_resolve.specs.Compile.{compiled, meaning, planned, returning, timed}
use Rattle.sqlite_resolve.specs.Compile.{first, with_command}
use Rattle.sqlite_resolve.specs.Lowering.{Checked, and_then}
use Rattle.sqlite_resolve.specs.declared.error.CompileError.{CompileError}
use Rattle.sqlite_resolve.specs.declared.error.CompileError.TheVariants.{NoSuchTable}
use Rattle.portal_tables.specs.declared.sql.select.Query.{Query}
use Rattle.portal_tables.specs.inner.Queries.{QueryShows}
use Rattle.portal_tables.proofs.Weak.{Open, schema_with, own_is}
use Rattle.portal_tables.proofs.Query.{passes}
use Rattle.portal_tables.proofs.Tests.{has_key, same_key, is_number, same_number}
use Rattle.portal_tables.proofs.Queries.{by_columns, columns_are, listed}

-- the test, as it is understood
abbrev tests : Query → List Term
tests (LecturerByCode code) = has_key 3
tests (StudentByCode code) = has_key 3
tests (LecturerByKey key) = has_key 1
tests (StudentTold key) = has_key 1
tests (ListOf lists owner) = has_key 1
tests (Choosers round project) = has_key 3
tests (ProjectsOf lecturer) = has_key 2
tests (Listed round) = is_number 2 1
tests (SecondRankedBy lecturer) = has_key 1
tests (SecondPlaceOf student) = has_key 1
tests _ = []

tested : (q : Query) → passes (tests q) (given q) ≡ (selection q).passes
tested (LecturerByCode code) = same_key 3 code.now
tested (StudentByCode code) = same_key 3 code.now
tested (LecturerByKey key) = same_key 1 key.now
tested (StudentTold key) = same_key 1 key.now
tested (ListOf lists owner) = same_key 1 owner.now
tested (Choosers round project) = same_key 3 project.now
tested (ProjectsOf lecturer) = same_key 2 lecturer.now
tested (Listed round) = same_number 2 1 []
tested (SecondRankedBy lecturer) = same_key 1 lecturer.now
tested (SecondPlaceOf student) = same_key 1 student.now
tested _ = refl

abbrev pub program_of : Command → Option Program
program_of (Select p names) = Some p
program_of _ = None

abbrev pub asked : Query → Program
asked q = record { lets = []; body = by_columns (selection q).tree (tests q) (map (λ at. col 1 at) (selection q).shown) (selection q).by }

-- the text is one statement, and has these parameters
abbrev pub Fits : List ℕ → Row → Result Compiled CompileError → Type 0
Fits sql params (Ok c) = (length sql ≡ c.tail) × (length params ≡ length c.names)
Fits sql params (Err e) = ⊥

-- the text is such a query, which changes nothing and reads no list of the tables
abbrev pub IsUnderstood : Query → Schema → Type 0
IsUnderstood q s = (program_of (command_of (understood s (query_text q))) ≡ Some (asked q)) × IsPlain (understood s (query_text q))
    × (reads_listing s (query_text q) ≡ false) × Fits (query_text q) (given q) (understood s (query_text q))

-- the program of a text that is a plain query
abbrev plain_query : {R F : Type 0} → Command → Option R → List F → Option Program
plain_query (Select p names) None [] = Some p
plain_query _ _ _ = None

abbrev do_fit : List ℕ → Row → Compiled → Bool
do_fit sql params c = eqb (length sql) c.tail && eqb (length params) (length c.names)

abbrev plain_of : List ℕ → Row → Result Compiled CompileError → Option Program
plain_of sql params (Ok c) = if do_fit sql params c then plain_query c.command c.returning c.formats else None
plain_of sql params (Err e) = None

plain_parts : {R F : Type 0} (c : Command) (returning : Option R) (formats : List F) (p : Program)
    → plain_query c returning formats ≡ Some p → (program_of c ≡ Some p) × (returning ≡ None) × (formats ≡ [])
plain_parts (Select p names) None [] q h = (h, refl, refl)
plain_parts _ _ _ q h = absurd (cc)

fitting : {P : Type 0} (sql : List ℕ) (params : Row) (c : Compiled) (plain : Option P) (p : P)
    → (if do_fit sql params c then plain else None) ≡ Some p → (plain ≡ Some p) × Fits sql params (Ok c)
fitting sql params c plain p h = elim (cases_Bool (do_fit sql params c)) [
  | inl fits ↦
      let both = and_parts (eqb (length sql) c.tail) _ fits in
      (rw fits at h, (eqb-true (length sql) c.tail both.0, eqb-true (length params) (length c.names) both.1))
  | inr other ↦ absurd (let none = rw other at h in cc)
]

-- what a text was understood as follows from one computation of its program
parts : (sql : List ℕ) (params : Row) (r other : Result Compiled CompileError) (p : Program) → plain_of sql params r ≡ Some p
    → let u = if misses_table r then if_select other else r in
    (program_of (command_of u) ≡ Some p) × IsPlain u × (misses_table r ≡ false) × Fits sql params u
parts sql params (Ok c) other p h =
    let fit = fitting sql params c (plain_query c.command c.returning c.formats) p h in
    let is = plain_parts c.command c.returning c.formats p fit.0 in
    (is.0, (is.1, is.2), refl, fit.1)
parts sql params (Err e) other p h = absurd (cc)

understands : (q : Query) (s : Schema) → plain_of (query_text q) (given q) (compiled s (query_text q)) ≡ Some (asked q)
    → IsUnderstood q s
unfolding understood
understands q s h =
    parts (query_text q) (given q) (compiled s (query_text q)) (compiled listing_schema (query_text q)) (asked q) h

-- each case computes; the last clause is checked for every query that has none of its own
is : (q : Query) (o : Open)
    → plain_of (query_text q) (given q) (compiled (schema_with (round_asked q) o) (query_text q)) ≡ Some (asked q)
unfolding everything
is (Whole Lecturers) o = refl
is (AllLists (Choices First)) o = refl
is (AllLists (Rankings First)) o = refl
is (ListOf (Choices First) owner) o = refl
is (ListOf (Rankings First) owner) o = refl
is (Choosers First project) o = refl
is (Listed First) o = refl
is (Numbers (OfRoll Lecturers)) o = refl
is (Numbers (OfLists (Choices First))) o = refl
is (Numbers (OfLists (Rankings First))) o = refl
is _ o = refl

-- its terms have types, as above
pub is_typed : (q : Query) (o : Open) → accepts_program (schema_with (round_asked q) o) [] (asked q).body (given q) ≡ true
is_typed (Whole Lecturers) o = refl
is_typed (AllLists (Choices First)) o = refl
is_typed (AllLists (Rankings First)) o = refl
is_typed (ListOf (Choices First) owner) o = refl
is_typed (ListOf (Rankings First) owner) o = refl
is_typed (Choosers First project) o = refl
is_typed (Listed First) o = refl
is_typed (Numbers (OfRoll Lecturers)) o = refl
is_typed (Numbers (OfLists (Choices First))) o = refl
is_typed (Numbers (OfLists (Rankings First))) o = refl
is_typed _ o = refl

pub own_is_understood : (q : Query) (s : Schema) → HasRound (round_asked q) s → IsUnderstood q s
own_is_understood q s own = let w = own_is (round_asked q) s own in subst (IsUnderstood q) (sym w.is) (understands q _ (is q w.o))

-- a statement is a query alone, which reads no time
abbrev is_query_alone : {F : Type 0} → Statement → List F → Bool
is_query_alone (written.Select q) [] = true
is_query_alone _ _ = false

abbrev is_read_alone : Checked Parsed → Bool
is_read_alone (Ok p) = is_query_alone p.statement p.formats
is_read_alone (Err e) = false

alone_parts : {F : Type 0} (statement : Statement) (formats : List F) → is_query_alone statement formats ≡ true
    → ((q : written_select.Select) × (statement ≡ written.Select q)) × (formats ≡ [])
alone_parts (written.Select q) [] h = ((q, refl), refl)
alone_parts _ _ h = absurd (cc)

-- a query is plain over whatever schema, if it is understood there
compiled_alone : (command : Checked Command) (p : Parsed)
    → IsPlainIfAny (and_then (and_then (and_then command (λ c. Ok (c, None))) (λ found. Ok ([], found))) (λ plan. Ok (with_command p plan)))
compiled_alone (Ok c) p = (refl, refl)
compiled_alone (Err e) p = tt

planned_alone : (s : Schema) (p : Parsed) (q : written_select.Select)
    → IsPlainIfAny (and_then (planned s (record p { statement = written.Select q; formats = [] }))
    (λ plan. Ok (with_command (record p { statement = written.Select q; formats = [] }) plan)))
unfolding planned meaning returning timed
planned_alone s p q = compiled_alone _ (record p { statement = written.Select q; formats = [] })

parsed_alone : (s : Schema) (p : Parsed) → is_query_alone p.statement p.formats ≡ true
    → IsPlainIfAny (and_then (planned s p) (λ plan. Ok (with_command p plan)))
parsed_alone s p h =
    let it = alone_parts p.statement p.formats h in
    let is : record p { statement = written.Select it.0.0; formats = [] }
    ≡ p = λ i. record p { statement = sym it.0.1 i; formats = sym it.1 i } in
    subst (λ x. IsPlainIfAny (and_then (planned s x) (λ plan. Ok (with_command x plan)))) is (planned_alone s p it.0.0)

compiled_plain : (s : Schema) (sql : List ℕ) → is_read_alone (first sql) ≡ true → IsPlainIfAny (compiled s sql)
unfolding compiled
compiled_plain s sql =
    elim (first sql) as (λ r. is_read_alone r ≡ true
    → IsPlainIfAny (and_then r (λ p. and_then (planned s p) (λ plan. Ok (with_command p plan)))))
    [ Ok p ↦ parsed_alone s p | Err e ↦ λ h. tt ]

listing_plain : (r : Checked Compiled) → IsPlainIfAny r → IsPlainIfAny (if_select r)
listing_plain (Ok c) h = elim (is_select c.command) as (λ b. IsPlainIfAny (if b then Ok c else Err NoSuchTable)) [ true ↦ h | false ↦ tt ]
listing_plain (Err e) h = tt

plain_anywhere : (s : Schema) (sql : List ℕ) → is_read_alone (first sql) ≡ true → IsPlainIfAny (understood s sql)
unfolding understood
plain_anywhere s sql h =
    elim (reads_listing s sql) as (λ b. IsPlainIfAny (if b then if_select (compiled listing_schema sql) else compiled s sql))
    [ true ↦ listing_plain _ (compiled_plain listing_schema sql h) | false ↦ compiled_plain s sql h ]

-- each case computes, as above
is_alone : (q : Query) → is_read_alone (first (query_text q)) ≡ true
unfolding everything
is_alone (Whole Lecturers) = refl
is_alone (AllLists (Choices First)) = refl
is_alone (AllLists (Rankings First)) = refl
is_alone (ListOf (Choices First) owner) = refl
is_alone (ListOf (Rankings First) owner) = refl
is_alone (Choosers First project) = refl
is_alone (Listed First) = refl
is_alone (Numbers (OfRoll Lecturers)) = refl
is_alone (Numbers (OfLists (Choices First))) = refl
is_alone (Numbers (OfLists (Rankings First))) = refl
is_alone _ = refl

-- a command that is a query is that one
program_is : (c : Command) (p : Program) (db : Database) (params : Row) (rows : List Row) → program_of c ≡ Some p
    → Reads c db params rows → Answers db p params rows
program_is (Select p names) q db params rows is h = let same : p ≡ q = cc in subst (λ x. Answers db x params rows) same h
program_is _ q db params rows is h = absurd (cc)

-- it has no recursion, so that its first rows begin an answer
program_ends : (c : Command) (p : Program) (db : Database) (params : Row) → program_of c ≡ Some p
    → Ends db.trees params [] (lets_of p) → EndsIn c db params
program_ends (Select p names) q db params is h = let same : q ≡ p = cc in subst (λ x. Ends db.trees params [] (lets_of x)) same h
program_ends _ q db params is h = tt

-- what a query comes to that was asked with this text and these values
module _ (q : Query) (sql : List ℕ) (params : Row) (text : sql ≡ query_text q) (values : params ≡ given q) where
  pub plain : (s : Schema) → IsPlainIfAny (understood s sql)
  plain s = subst (λ t. IsPlainIfAny (understood s t)) (sym text) (plain_anywhere s (query_text q) (is_alone q))

  pub ends : (s : Schema) → HasRound (round_asked q) s → (c : Compiled) → understood s sql ≡ Ok c
      → (db : Database) (full : Row) → EndsIn c.command db full
  ends s own c known db full =
      program_ends c.command (asked q) db full
      (ap (λ x. program_of (command_of x)) (sym known ∙ ap (understood s) text) ∙ (own_is_understood q s own).0) tt

  pub shows : (old new : State) (rows : List Row) → HasRound (round_asked q) old.now.schema
      → Shown sql params old new rows → QueryShows q old.now.trees rows
  shows old new rows own h =
      let it = own_is_understood q old.now.schema own in
      let here : Shown (query_text q) (given q) old new rows = subst₂ (λ t v. Shown t v old new rows) text values h in
      let read = reads_as (query_text q) (given q) old new old.now.schema refl _ refl it.1 it.2 rows here in
      let lists = listed (selection q).tree (selection q).by (tests q) (map (λ at. col 1 at) (selection q).shown) old.now.trees
      (given q) rows (program_is _ (asked q) old.now (given q) rows it.0 read).answer in
      subst₂ (λ p show. ListsBy (selection q).by p show (old.now.trees (selection q).tree) rows) (tested q)
      (λ i r. columns_are (selection q).shown (given q) r i) lists

  pub asks : {V E : Type 0} {IsStores : E → Type 0} {Told : Database → Result V E → Type 0} (r : Result V E) (old new : State)
      → (IsPlainIfAny (understood old.now.schema sql) → HasCleanDisk new → OnOk r (IsUnchanged old new))
      → (IsPlainIfAny (understood old.now.schema sql) → HasCleanDisk new → OnErr r (IsUnchangedOrUndone old new))
      → (old.in_transaction ≡ false → new.in_transaction ≡ false)
      → Survives old new (λ _. IsPlainIfAny (understood old.now.schema sql) → ⊥)
      → (HasRound (round_asked q) old.now.schema → HasCleanDisk new → Told old.now r)
      → (HasRound (round_asked q) old.now.schema → HasCleanDisk new → IfErr r (λ e. IsStores e → HasReason old new))
      → Reading (round_asked q) Anyhow Always IsStores Told r old new
  asks r old new same err mode survives told reason = record {
    same = λ clean on. same (plain old.now.schema) clean;
    err = λ clean on. err (plain old.now.schema) clean;
    now = λ clean. on_ok_weaker r (λ u. u.0.now_is) (same (plain old.now.schema) clean);
    mode = mode;
    crash = survives_weaker old new _ _ (λ clean db no. no (plain old.now.schema)) survives;
    told = λ own right clean. told own clean;
    reason = reason;
  }
