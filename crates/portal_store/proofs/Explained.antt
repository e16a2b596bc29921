-- What a refusal says of any tables: of those before a look as of those after it.
use Rattle.portal_store.proofs.Base.{List, [], ◌∷◌, pos, ◌≡◌, ◌≢◌, ◌⊎◌, ◌<◌, ℕ, zero, suc, inl, inr, IsTrue, Ok}
use Rattle.portal_store.proofs.Base.{Err}
use Rattle.portal_store.proofs.Base.{Result, IfErr, IsErrAnd, arith, get_or, length, refl, sym, subst, Int}
use Rattle.portal_store.proofs.Base.{Row, column, HasCleanDisk, State, OpenFault, SaysNothing, IsOfRows, IsCommitted}
use Rattle.portal_store.proofs.Base.{OnlyLooks, AllByRecursion, all_append, take, take_more, ◌+◌}
use Rattle.sqlite.specs.declared.error.Error.{Error}
use Rattle.portal_tables.specs.Steps.{HasRefusal, IsStoreError}
use Rattle.portal_tables.specs.declared.sql.select.Query.{Query}
use Rattle.portal_tables.specs.declared.sql.select.Query.TheVariants.{Office}
use Rattle.portal_tables.proofs.Repeated.{answered_before, answers_still, refused_before}
use Rattle.portal_store.specs.Crash.{IsTrueOfQueries, IsAnswered, IsRejected, Passes, RefusesOne, ShowsOffice, ShowsVersion}
use Rattle.portal_store.specs.Crash.{Suits, first_queries}
use Rattle.portal_store.specs.inner.Asked.{TellsOffice}
use Rattle.portal_store.proofs.Asked.{by_nothing}
use Rattle.portal_store.specs.declared.store.OpenFault.TheVariants.{NotPortal, OtherVersion, Damaged}

-- the version that is shown depends on the database alone
pub version_still : (of : ℕ) (a b : State) → b.now ≡ a.now → IsTrue b.is_open → ShowsVersion of a → ShowsVersion of b
version_still of a b same on h = record {
  row = h.row;
  rest = h.rest;
  shown = answers_still Office a b (h.row ∷ h.rest) same on h.shown;
  version_is = h.version_is;
}

-- one of some queries is refused
pub refused_by : (query : Query) (s : State) (e : Error) → IsStoreError e ⊎ HasRefusal query s e
    → (IsStoreError e → ⊥) → IsRejected query s
refused_by query s e (inl store) other = absurd (other store)
refused_by query s e (inr refused) other = record { error = e; refused = refused; not_store = other }

pub refused_at : (queries : List Query) (at : ℕ) (query : Query) (s : State) → at < length queries
    → IsRejected (get_or queries at query) s → RefusesOne queries s
refused_at [] at query s within h = absurd (omega (arith, within))
refused_at (q ∷ queries) zero query s within h = inl h
refused_at (q ∷ queries) (suc at) query s within h = inr (refused_at queries at query s (omega (arith, within)) h)

-- all of them so far are answered, and the next one is
pub all_more : {X : Type 0} (P : X → Type 0) (xs : List X) (i : ℕ) (x : X) → i < length xs
    → AllByRecursion P (take i xs) → P (get_or xs i x) → AllByRecursion P (take (i + 1) xs)
all_more P xs i x within all here =
    subst (AllByRecursion P) (sym (take_more xs i x within)) (all_append P (take i xs) (get_or xs i x ∷ []) all (here, tt))

-- a fault that says nothing, or that is for the rows alone
pub explains_said : (fault : OpenFault) (Own : Type 0) (of : ℕ) (later : List Query) (s : State) → SaysNothing fault
    → IsTrueOfQueries fault Own of later s
explains_said fault Own of later s = by_nothing (λ f. IsTrueOfQueries f Own of later s) tt tt fault

pub explains_rows : (fault : OpenFault) (Own : Type 0) (of : ℕ) (later : List Query) (s : State) → Suits Own of later s
    → IsOfRows fault → IsTrueOfQueries fault Own of later s
explains_rows NotPortal Own of later s suits h = absurd h
explains_rows OtherVersion Own of later s suits h = absurd h
explains_rows Damaged Own of later s suits h = suits
explains_rows fault Own of later s suits h = tt

-- such a fault is no damage
pub no_damage : (fault : OpenFault) → SaysNothing fault → fault ≡ Damaged → ⊥
no_damage fault h is = (subst SaysNothing is h) tt

-- a fault of queries, and of the rows that the office's shows
pub explains_tables : {V : Type 0} (r : Result V OpenFault) (Own : Type 0) (of : ℕ) (later : List Query) (s : State)
    → r ≢ Err Damaged → r ≢ Err OtherVersion → (r ≡ Err NotPortal → IsTrueOfQueries NotPortal Own of later s)
    → IfErr r (λ fault. IsTrueOfQueries fault Own of later s)
explains_tables (Err NotPortal) Own of later s damaged version refused = refused refl
explains_tables (Err OtherVersion) Own of later s damaged version refused = absurd (version refl)
explains_tables (Err Damaged) Own of later s damaged version refused = absurd (damaged refl)
explains_tables r Own of later s damaged version refused = tt

pub tells_office : {V : Type 0} (r : Result V OpenFault) (of : ℕ) (rows : List Row) (s : State) → ShowsOffice s rows
    → (r ≡ Err NotPortal → rows ≡ [])
    → (r ≡ Err OtherVersion → (row : Row) × (rest : List Row) × (rows ≡ row ∷ rest) × (column row 1 ≢ Int (pos of)))
    → IfErr r (λ fault. fault ≡ Damaged → ⊥) → IfErr r (λ fault. TellsOffice fault of s)
tells_office (Err NotPortal) of rows s shown none other judged = subst (ShowsOffice s) (none refl) shown
tells_office (Err OtherVersion) of rows s shown none other judged =
    let it = other refl in record { row = it.0; rest = it.1; shown = subst (ShowsOffice s) it.2 shown; other = it.3 }
tells_office (Err Damaged) of rows s shown none other judged = absurd (judged refl)
tells_office r of rows s shown none other judged = tt

pub tells_said : (fault : OpenFault) (of : ℕ) (s : State) → SaysNothing fault → TellsOffice fault of s
tells_said fault of s = by_nothing (λ f. TellsOffice f of s) tt tt fault

-- of tables that pass the first queries
pub explains_office : (fault : OpenFault) (Own : Type 0) (of : ℕ) (s : State) → Passes Own first_queries s
    → TellsOffice fault of s → IsTrueOfQueries fault Own of [] s
explains_office NotPortal Own of s passes h = inr (passes, inl h)
explains_office OtherVersion Own of s passes h = (passes, h)
explains_office Damaged Own of s passes h = absurd h
explains_office fault Own of s passes h = tt

-- an error that is handed on, and one that is converted
pub handed : {V : Type 0} {fault : OpenFault} (r : Result V OpenFault) (Says : OpenFault → Type 0)
    → IsErrAnd r (λ f. f ≡ fault) → Says fault → IfErr r Says
handed (Ok v) Says is h = absurd is
handed (Err f) Says is h = subst Says (sym is) h

pub converted : {V : Type 0} {Given Says : OpenFault → Type 0} (r : Result V OpenFault) → IsErrAnd r Given
    → ((fault : OpenFault) → Given fault → Says fault) → IfErr r Says
converted (Ok v) is so = absurd is
converted (Err f) is so = so f is

-- where more is asked
pub explains_wide : (fault : OpenFault) (Own : Type 0) (of : ℕ) (later : List Query) (s : State)
    → (fault ≡ Damaged → ⊥) → IsTrueOfQueries fault Own of [] s → IsTrueOfQueries fault Own of later s
explains_wide NotPortal Own of later s other (inl one) = inl one
explains_wide NotPortal Own of later s other (inr (passes, inl none)) = inr (passes, inl none)
explains_wide NotPortal Own of later s other (inr (passes, inr both)) = absurd both.1
explains_wide Damaged Own of later s other h = absurd (other refl)
explains_wide fault Own of later s other h = h

-- of tables that count as own for another reason
module _ (A B : Type 0) (so : A → B) (s : State) where
  passes_for : (queries : List Query) → Passes A queries s → Passes B queries s
  passes_for queries (inl own) = inl (so own)
  passes_for queries (inr all) = inr all

  pub suits_for : (of : ℕ) (later : List Query) → Suits A of later s → Suits B of later s
  suits_for of later h = record {
    passes = passes_for first_queries h.passes;
    shows = h.shows;
    passes_later = passes_for later h.passes_later;
  }

  pub explains_for : (fault : OpenFault) (of : ℕ) (later : List Query) → IsTrueOfQueries fault A of later s
      → IsTrueOfQueries fault B of later s
  explains_for NotPortal of later (inl one) = inl one
  explains_for NotPortal of later (inr both) = inr (passes_for first_queries both.0, both.1)
  explains_for OtherVersion of later both = (passes_for first_queries both.0, both.1)
  explains_for Damaged of later h = suits_for of later h
  explains_for fault of later h = tt

-- before a look, the same was shown
module _ (a b : State) (settled : IsCommitted a) (looks : OnlyLooks a b) (clean : HasCleanDisk b) where
  pub refused_so : (query : Query) → IsRejected query b → IsRejected query a
  refused_so query h = record {
    error = h.error;
    refused = refused_before query a b settled looks clean h.error h.not_store h.refused;
    not_store = h.not_store;
  }

  pub version_so : (of : ℕ) → ShowsVersion of b → ShowsVersion of a
  version_so of h = record {
    row = h.row;
    rest = h.rest;
    shown = answered_before Office a b settled looks clean (h.row ∷ h.rest) h.shown;
    version_is = h.version_is;
  }

  pub one_so : (queries : List Query) → RefusesOne queries b → RefusesOne queries a
  one_so [] h = absurd h
  one_so (query ∷ queries) (inl it) = inl (refused_so query it)
  one_so (query ∷ queries) (inr more) = inr (one_so queries more)

  pub answered_so : (query : Query) → IsAnswered b query → IsAnswered a query
  answered_so query h = (h.0, answered_before query a b settled looks clean h.0 h.1)

  all_so : (queries : List Query) → AllByRecursion (IsAnswered b) queries → AllByRecursion (IsAnswered a) queries
  all_so [] h = tt
  all_so (query ∷ queries) h = (answered_so query h.0, all_so queries h.1)

  pub passes_so : (Own : Type 0) (queries : List Query) → Passes Own queries b → Passes Own queries a
  passes_so Own queries (inl own) = inl own
  passes_so Own queries (inr all) = inr (all_so queries all)

  pub office_so : (fault : OpenFault) (of : ℕ) → TellsOffice fault of b → TellsOffice fault of a
  office_so NotPortal of h = answered_before Office a b settled looks clean [] h
  office_so OtherVersion of h =
      record {
        row = h.row;
        rest = h.rest;
        shown = answered_before Office a b settled looks clean (h.row ∷ h.rest) h.shown;
        other = h.other;
      }
  office_so fault of h = h
