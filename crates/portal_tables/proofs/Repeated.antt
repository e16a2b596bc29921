-- What a query shows or fails with, it would show or fail with again, and before a look as after it.
use Rattle.portal_tables.proofs.Base.{◌≡◌, ◌⊎◌, inl, inr, ℕ, IsTrue, List, Ok, refl, sym, subst, subst₂, Row}
use Rattle.portal_tables.proofs.Base.{Database, State, Shown, ShowsRows, FailsToQuery, FailsToShow, IsNotRun, Error}
use Rattle.portal_tables.proofs.Base.{HasCleanDisk, understood, reads_listing, IsSourceOf, timed}
use Rattle.portal_tables.proofs.Base.{unchanged, IsPlainIfAny, query_text, given, IsCommitted, OnlyLooks}
use Rattle.sqlite.specs.Effect.{RefusesToRead}
use Rattle.sqlite.specs.State.{IsNoStatement}
use Rattle.portal_tables.specs.Steps.{HasAnswer, HasRefusal, IsStoreError}
use Rattle.portal_tables.specs.declared.sql.select.Query.{Query}
use Rattle.portal_tables.proofs.Shows.{plain}

-- of a text with these values, which are the query's
module _ (q : Query) (sql : List ℕ) (params : Row) (text : sql ≡ query_text q) (values : params ≡ given q) where
  pub answers : (old new : State) (rows : List Row) → Shown sql params old new rows → HasAnswer q old rows
  unfolding Shown
  answers old new rows h =
      let none = (subst IsPlainIfAny h.1.is (plain q sql params text values old.now.schema)).0 in
      let full = timed params h.0.formats h.1.now in
      let it = subst (ShowsRows old new sql h.0 full rows) none h.2 in
      subst₂ (λ t v. Shown t v old old rows) text values
      (h.0, h.1, subst (ShowsRows old old sql h.0 full rows) (sym none) (it.0, it.1, it.2, unchanged old it.3.0.was_open))

  pub fails : (old new : State) (e : Error) → FailsToQuery sql params old new e → IsStoreError e ⊎ HasRefusal q old e
  unfolding FailsToQuery IsNotRun
  fails old new e (inl (inl none)) =
      inr (subst₂ (λ t v. FailsToQuery t v old old e) text values (inl (inl (none.0, unchanged old none.1.0.was_open))))
  fails old new e (inl (inr broken)) = inl (broken.0, broken.1)
  fails old new e (inr h) =
      let none = (subst IsPlainIfAny h.1.is (plain q sql params text values old.now.schema)).0 in
      let full = timed params h.0.formats h.1.now in
      let it = subst (FailsToShow old new sql h.0 full e) none h.2 in
      inr (subst₂ (λ t v. FailsToQuery t v old old e) text values
      (inr (h.0, h.1, subst (FailsToShow old old sql h.0 full e) (sym none) (it.0, it.1, it.2, unchanged old it.3.0.was_open))))

-- the connection is open where a query shows rows, and where it is refused, and not by the store

pub answers_open : (q : Query) (s : State) (rows : List Row) → HasAnswer q s rows → IsTrue s.is_open
unfolding Shown
answers_open q s rows h =
    let none = (subst IsPlainIfAny h.1.is (plain q (query_text q) (given q) refl refl s.now.schema)).0 in
    (subst (ShowsRows s s (query_text q) h.0 (timed (given q) h.0.formats h.1.now) rows) none h.2).3.0.is_open

pub refuses_open : (q : Query) (s : State) (e : Error) → (IsStoreError e → ⊥) → HasRefusal q s e → IsTrue s.is_open
unfolding FailsToQuery IsNotRun
refuses_open q s e other (inl (inl none)) = none.1.0.is_open
refuses_open q s e other (inl (inr broken)) = absurd (other (broken.0, broken.1))
refuses_open q s e other (inr h) =
    let none = (subst IsPlainIfAny h.1.is (plain q (query_text q) (given q) refl refl s.now.schema)).0 in
    (subst (FailsToShow s s (query_text q) h.0 (timed (given q) h.0.formats h.1.now) e) none h.2).3.0.is_open

-- both depend on the database alone, and a refusal on the limit on steps too

pub answers_still : (q : Query) (a b : State) (rows : List Row) → b.now ≡ a.now → IsTrue b.is_open → HasAnswer q a rows
    → HasAnswer q b rows
unfolding Shown
answers_still q a b rows same on h =
    let sql = query_text q in
    let none = (subst IsPlainIfAny h.1.is (plain q sql (given q) refl refl a.now.schema)).0 in
    let full = timed (given q) h.0.formats h.1.now in
    let it = subst (ShowsRows a a sql h.0 full rows) none h.2 in (
      h.0,
      record {
        is = subst (λ (d : Database). understood d.schema sql ≡ Ok h.0) (sym same) h.1.is;
        whole = h.1.whole;
        given = h.1.given;
        now = h.1.now;
      },
      subst (ShowsRows b b sql h.0 full rows) (sym none)
          (it.0, subst (λ (d : Database). IsSourceOf (reads_listing d.schema sql) d it.0) (sym same) it.1, it.2, unchanged b on),
    )

pub refuses_still : (q : Query) (a b : State) (e : Error) → b.now ≡ a.now → b.step_limit ≡ a.step_limit
    → IsTrue b.is_open → (IsStoreError e → ⊥) → HasRefusal q a e → HasRefusal q b e
unfolding FailsToQuery IsNotRun
refuses_still q a b e same limit on other (inl (inl none)) =
    inl (inl (subst (λ (d : Database). IsNoStatement (record b { now = d }) (query_text q) (given q) e) (sym same) none.0, unchanged b on))
refuses_still q a b e same limit on other (inl (inr broken)) = absurd (other (broken.0, broken.1))
refuses_still q a b e same limit on other (inr h) =
    let sql = query_text q in
    let none = (subst IsPlainIfAny h.1.is (plain q sql (given q) refl refl a.now.schema)).0 in
    let full = timed (given q) h.0.formats h.1.now in
    let it = subst (FailsToShow a a sql h.0 full e) none h.2 in
    inr (
      h.0,
      record {
        is = subst (λ (d : Database). understood d.schema sql ≡ Ok h.0) (sym same) h.1.is;
        whole = h.1.whole;
        given = h.1.given;
        now = h.1.now;
      },
      subst (FailsToShow b b sql h.0 full e) (sym none) (
        it.0,
        subst (λ (d : Database). IsSourceOf (reads_listing d.schema sql) d it.0) (sym same) it.1,
        subst (λ l. RefusesToRead l h.0.command it.0 full e) (sym limit) it.2,
        unchanged b on,
      ),
    )

-- what was so after a look was so before it
module _ (q : Query) (a b : State) (settled : IsCommitted a) (looks : OnlyLooks a b) (clean : HasCleanDisk b) where
  pub answered_before : (rows : List Row) → HasAnswer q b rows → HasAnswer q a rows
  answered_before rows h =
      let stays = looks.stays settled clean (answers_open q b rows h) in
      answers_still q b a rows (sym stays.1) stays.0 h

  pub refused_before : (e : Error) → (IsStoreError e → ⊥) → HasRefusal q b e → HasRefusal q a e
  refused_before e other h =
      let stays = looks.stays settled clean (refuses_open q b e other h) in
      refuses_still q b a e (sym stays.1) (sym looks.crash.limit) stays.0 other h
