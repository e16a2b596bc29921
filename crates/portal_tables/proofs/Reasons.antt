-- Why a query of the portal's own tables fails.
use Rattle.portal_tables.proofs.Base.{◌≡◌, inl, inr, ℕ, true, List, [], Option, Some}
use Rattle.portal_tables.proofs.Base.{sym, ap, subst, subst₂, ◌∙◌, arith, Row, Schema, Database, Command, Program, State, Select}
use Rattle.portal_tables.proofs.Base.{IsPlain, understood, command_of, Error, FailsToQuery, FailsToShow, IsNotRun, timed}
use Rattle.portal_tables.proofs.Base.{IsSourceOf, HasRound, HasReason, IsOtherError, round_asked, query_text, given, IsSome, append-nil}
use Rattle.sqlite.specs.Effect.{RefusesToRead, RefusesQuery}
use Rattle.sqlite.specs.State.{IsNoStatement, HasCause, store_error}
use Rattle.sqlite_trees.specs.declared.error.StoreError.{StoreError}
use Rattle.sqlite_trees.specs.declared.error.StoreError.TheVariants.{OutOfMemory, Io, Corrupt, Full, Broken, Unstorable}
use Rattle.sqlite_typing.specs.Types.{accepts_program}
use Rattle.portal_tables.specs.declared.sql.select.Query.{Query}
use Rattle.portal_tables.specs.inner.Decoding.{Stops}
use Rattle.portal_tables.proofs.Weak.{own_is}
use Rattle.portal_tables.proofs.Shows.{Fits, asked, is_typed, own_is_understood, program_of}

-- a text that is one plain statement with these parameters is run
no_refusal : (s : State) (sql : List ℕ) (params : Row) (e : Error) → IsPlain (understood s.now.schema sql)
    → Fits sql params (understood s.now.schema sql) → IsNoStatement s sql params e → ⊥
no_refusal s sql params e plain fits (inl (fault, is, told)) = subst (Fits sql params) is fits
no_refusal s sql params e plain fits (inr (c, is, inl (longer, told))) =
    let whole = (subst (Fits sql params) is fits).0 in longer (omega (arith, whole))
no_refusal s sql params e plain fits (inr (c, is, inr (inl (other, told)))) = other (subst (Fits sql params) is fits).1
no_refusal s sql params e plain fits (inr (c, is, inr (inr (clock, told)))) = clock (subst IsPlain is plain).1

-- a failure of the store has a reason, unless memory ran out
store_fails : (old new : State) (cause : StoreError) (e : Error) → e ≡ store_error cause → HasCause old new ⊥ cause
    → IsOtherError e → HasReason old new
store_fails old new OutOfMemory e is why other = absurd (other is)
store_fails old new Io e is why other = inl why
store_fails old new Corrupt e is why other = inl why
store_fails old new Full e is why other = inl why
store_fails old new Broken e is why other = inr (inl why)
store_fails old new Unstorable e is why other = absurd why

-- a command that is a query refuses what that one refuses
program_refuses : (c : Command) (p : Program) (limit : Option ℕ) (db : Database) (params : Row) (e : Error)
    → program_of c ≡ Some p → RefusesToRead limit c db params e → RefusesQuery limit db p params e
program_refuses (Select p names) q limit db params e is h =
    let same : p ≡ q = cc in subst (λ x. RefusesQuery limit db x params e) same h
program_refuses _ q limit db params e is h = absurd (cc)

own_typed : (q : Query) (s : Schema) → HasRound (round_asked q) s → accepts_program s [] (asked q).body (given q) ≡ true
own_typed q s own =
    let w = own_is (round_asked q) s own in
    subst (λ t. accepts_program t [] (asked q).body (given q) ≡ true) (sym w.is) (is_typed q w.o)

-- nothing is refused of the portal's own tables but by a limit on the steps
only_limit : (q : Query) (limit : Option ℕ) (db : Database) (e : Error) → HasRound (round_asked q) db.schema
    → RefusesQuery limit db (asked q) (given q) e → IsSome limit
only_limit q limit db e own (inl (told, untyped)) = absurd (let typed = own_typed q db.schema own in cc)
only_limit q limit db e own (inr (inl (told, inl none))) = absurd none
only_limit q limit db e own (inr (inl (told, inr some))) = absurd some.4
only_limit q limit db e own (inr (inr (told, limited))) = limited

own_reason : (q : Query) (old new : State) (e : Error) → HasRound (round_asked q) old.now.schema
    → FailsToQuery (query_text q) (given q) old new e → IsOtherError e → HasReason old new
unfolding FailsToQuery IsNotRun
own_reason q old new e own (inl (inl none)) other =
    let it = own_is_understood q old.now.schema own in
    absurd (no_refusal old (query_text q) (given q) e it.1 it.3 none.0)
own_reason q old new e own (inl (inr fails)) other = store_fails old new fails.0 e fails.1 fails.2 other
own_reason q old new e own (inr h) other =
    let it = own_is_understood q old.now.schema own in
    let plain = subst IsPlain h.1.is it.1 in
    let full = timed (given q) h.0.formats h.1.now in
    let bare : full ≡ given q = ap (λ formats. timed (given q) formats h.1.now) plain.1 ∙ append-nil (given q) in
    let failed = subst (FailsToShow old new (query_text q) h.0 full e) plain.0 h.2 in
    let db : failed.0 ≡ old.now = subst (λ b. IsSourceOf b old.now failed.0) it.2 failed.1 in
    let is = ap (λ r. program_of (command_of r)) (sym h.1.is) ∙ it.0 in
    let refuses = program_refuses h.0.command (asked q) old.step_limit failed.0 full e is failed.2 in
    inr (inr (only_limit q old.step_limit old.now e own
    (subst₂ (λ (d : Database) p. RefusesQuery old.step_limit d (asked q) p e) db bare refuses)))

-- the same of a text and of values that are the query's
module _ (q : Query) (sql : List ℕ) (params : Row) (text : sql ≡ query_text q) (values : params ≡ given q) where
  pub reason : (old new : State) (e : Error) → HasRound (round_asked q) old.now.schema
      → FailsToQuery sql params old new e → IsOtherError e → HasReason old new
  reason old new e own fails = own_reason q old new e own (subst₂ (λ t v. FailsToQuery t v old new e) text values fails)

  pub stop_reason : (old new : State) → HasRound (round_asked q) old.now.schema → Stops sql params old new → HasReason old new
  stop_reason old new own h = reason old new h.0 own h.2 h.1
