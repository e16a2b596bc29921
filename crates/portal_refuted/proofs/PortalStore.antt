-- Refutes a store that opens tables without a good world, of another version or with a refused query, tells
-- another fault or want of memory as its own, changes what it refuses, disowns its tables, or leaves a change
-- uncommitted or half done.
use Rattle.std.proofs.Common.{◌≡◌, ◌⊎◌, inl, inr, true, false, List, [], ◌∷◌, length, refl, sym, ap, ◌∙◌, subst, arith, Ok, Err}
use Rattle.std.specs.Prelude.{codes, pos, slice_index_or, Bool, IsErr, IsSome, IsTrue, None, Result}
use Rattle.sqlite.specs.Effect.{Database}
use Rattle.sqlite.specs.Held.{Held, state}
use Rattle.sqlite.specs.Order.{Row, column}
use Rattle.sqlite.specs.declared.types.Value.TheVariants.{Int}
use Rattle.sqlite.specs.State.{FailsToQuery, HasCleanDisk, IsNotRun, Shown, State}
use Rattle.sqlite.specs.Store.{Ghosts}
use Rattle.sqlite.specs.Tree.{Trees}
use Rattle.sqlite.specs.Listing.{understood}
use Rattle.sqlite.specs.declared.error.Error.{Error}
use Rattle.sqlite.specs.declared.error.Error.TheVariants.{SqlInputError}
use Rattle.sqlite.proofs.StateLemmas.{unchanged}
use Rattle.sqlite_trees.specs.declared.error.StoreError.TheVariants.{OutOfMemory, Io, Corrupt, Full, Broken, Unstorable}
use Rattle.sqlite_trees.specs.Objects.{number_in}
use Rattle.portal_list.proofs.Fresh.{fresh_good}
use Rattle.portal_rules.specs.declared.phase.Phase.TheVariants.{Choosing, Ranking, Setup}
use Rattle.portal_rules.specs.declared.phase.Round.TheVariants.{First}
use Rattle.portal_rules.specs.Good.{Good}
use Rattle.portal_rules.specs.declared.keeper.KeepFault.TheVariants as keep
use Rattle.portal_tables.specs.Reads.{HasReason}
use Rattle.portal_rules.specs.World.{World, Change, To, changed, is_setup}
use Rattle.portal_tables.specs.Making.{has_names}
use Rattle.portal_tables.specs.Rows.{portal_row, second_row}
use Rattle.portal_tables.specs.Tables.{HasFirstSchema, IsCurrentSchema, IsFirstSchema, first_version, no_schema}
use Rattle.portal_tables.specs.Tables.{version}
use Rattle.portal_tables.specs.Steps.{IsStoreError}
use Rattle.portal_tables.specs.QueryTexts.{query_text}
use Rattle.portal_tables.specs.declared.sql.names.Names.TheVariants.{All, OfSecond}
use Rattle.portal_tables.specs.declared.sql.select.Query.TheVariants.{Whole}
use Rattle.portal_tables.specs.declared.sql.select.RollTable.TheVariants.{Students}
use Rattle.portal_store.specs.Calls.{ChangesTables, CreatesStore, HasStoreReason, OpensStore, RefusesToCreate, RefusesToOpen}
use Rattle.portal_store.specs.Calls.{RefusesToUpgrade, StaysStore, UpgradesStore}
use Rattle.portal_store.specs.Crash.{HasVersion, IsAnswered, IsLeft, IsRejected, Passes, RefusesOne, IsTrueOfOpening}
use Rattle.portal_store.specs.Crash.{IsTrueOfQueries, ShowsOffice, ShowsVersion, first_queries, later_queries}
use Rattle.portal_store.proofs.Calls.{untouched}
use Rattle.portal_store.specs.Kept.{HasChanged, HasDisk, HasGoodFirst, HasGoodWorld, IsCleanStore, StoreState, kept_world}
use Rattle.portal_store.specs.World.{first_world, world_in, world_of}
use Rattle.portal_store.specs.declared.store.CreateFault.TheVariants as creating
use Rattle.portal_store.specs.declared.store.OpenFault.{OpenFault}
use Rattle.portal_store.specs.declared.store.OpenFault.TheVariants as opening
use Rattle.portal_store.specs.declared.store.UpgradeFault.TheVariants as upgrading
use Rattle.portal_refuted.proofs.PortalTables.{answer_before_the_commit_does_not_commit}
use Rattle.portal_refuted.proofs.PortalTables.{change_that_is_left_out_is_not_committed, fresh, nothing, office}
use Rattle.portal_refuted.proofs.PortalTables.{offices, tables, tables_that_are_made_do_not_stay, version_in}

-- ---- rows that stand for a good world, and rows that do not

pub new_rows_stand_for_a_good_world : HasGoodWorld fresh
unfolding world_in
new_rows_stand_for_a_good_world = (
  First,
  record {
    office = record { phase = Setup; office = office; is = refl };
    second = record { is = refl; says = (refl, (refl, (refl, (refl, tt)))) };
    whole = record { choices = tt; rankings = tt; ranked = tt };
    good = fresh_good office refl;
  },
)

no_rows_stand : HasGoodWorld nothing → ⊥
no_rows_stand (round, stands) = omega (arith, ap (λ (rows : List Row). length rows) stands.office.is)

-- the eleven tables with an office's code of one byte
abbrev bad : Trees
bad = tables (portal_row (pos 2) (pos 0) (codes "x") ∷ []) (second_row (pos 0) ∷ []) []

bad_rows_stand : HasGoodWorld bad → ⊥
unfolding world_in
bad_rows_stand (round, stands) = cc (stands.good.sound.office_form)

-- version 1, with no other rows
abbrev first : Trees
first = tables (portal_row (pos 1) (pos 0) office ∷ []) [] []

first_rows_stand : HasGoodFirst first_version first
unfolding world_in
first_rows_stand = record {
  office = record { phase = Setup; office = office; is = refl };
  whole = record { choices = tt; rankings = tt; ranked = tt };
  good = fresh_good office refl;
}

-- the phase is left as it was
pub change_that_is_left_out_is_no_transition : (old new : Database) → old.trees ≡ fresh → new.trees ≡ fresh
    → HasChanged (To Choosing) old new → ⊥
unfolding world_of world_in
change_that_is_left_out_is_no_transition old new was is changes =
    let both : world_of fresh ≡ changed (world_of fresh) (To Choosing) =
    subst (λ (t : Trees). world_of t ≡ changed (world_of fresh) (To Choosing)) is
    (subst (λ (t : Trees). world_of new.trees ≡ changed (world_of t) (To Choosing)) was changes.world) in
    let clash : true ≡ false = ap (λ (w : World). is_setup w.phase) both in cc

-- ---- a connection over which nothing failed

-- an open connection whose disk never failed, and without a limit
no_reason : (s : State) → IsTrue s.is_open → s.faults ≡ 0 → s.step_limit ≡ None → HasReason s s → ⊥
no_reason s on none unlimited (inl more) = omega (arith, more, none)
no_reason s on none unlimited (inr (inl shut)) = let clash : true ≡ false = sym on ∙ shut in cc
no_reason s on none unlimited (inr (inr limit)) = let clash : false ≡ true = subst IsSome unlimited limit in cc

-- ---- tables of which one is missing

-- the query of the students is not understood, as where there is no such table
abbrev LacksStudents : State → Type 0
LacksStudents s = IsErr (understood s.now.schema (query_text (Whole Students)))

no_answer : (s : State) → LacksStudents s → IsAnswered s (Whole Students) → ⊥
unfolding Shown
no_answer s lacks (rows, shown) = let e = subst IsErr shown.1.is lacks in cc

passes_none : (s : State) (Own : Type 0) → (Own → ⊥) → LacksStudents s → Passes Own first_queries s → ⊥
passes_none s Own other lacks (inl own) = other own
passes_none s Own other lacks (inr all) = no_answer s lacks all.1.1.1.0

-- why not, which is no fault of the store

fault_of : {V E : Type 0} (r : Result V E) → IsErr r → (e : E) × (r ≡ Err e)
fault_of (Ok v) fails = absurd (cc)
fault_of (Err e) fails = (e, refl)

is_of_text : Error → Bool
is_of_text (SqlInputError fault) = true
is_of_text _ = false

never_store : (e : Error) → is_of_text e ≡ true → IsStoreError e → ⊥
unfolding is_of_text
never_store e told (OutOfMemory, is) = let clash : true ≡ false = sym told ∙ ap is_of_text is in cc
never_store e told (Io, is) = let clash : true ≡ false = sym told ∙ ap is_of_text is in cc
never_store e told (Corrupt, is) = let clash : true ≡ false = sym told ∙ ap is_of_text is in cc
never_store e told (Full, is) = let clash : true ≡ false = sym told ∙ ap is_of_text is in cc
never_store e told (Broken, is) = let clash : true ≡ false = sym told ∙ ap is_of_text is in cc
never_store e told (Unstorable, is) = let clash : true ≡ false = sym told ∙ ap is_of_text is in cc

rejected : (s : State) → IsTrue s.is_open → LacksStudents s → IsRejected (Whole Students) s
unfolding FailsToQuery IsNotRun is_of_text
rejected s on lacks =
    let it = fault_of (understood s.now.schema (query_text (Whole Students))) lacks in
    record {
      error = SqlInputError it.0;
      refused = inl (inl (inl (it.0, it.1, refl), unchanged s on));
      not_store = never_store (SqlInputError it.0) refl;
    }

module _ {S : Type 0} (g : Ghosts S) where
  -- ---- what is opened

  pub opened_tables_without_a_row_do_not_stand : (old : Held S) (s : StoreState S) → IsCurrentSchema old.schema
      → HasDisk g s
      → (state g old).now.trees ≡ nothing → OpensStore g old s → ⊥
  opened_tables_without_a_row_do_not_stand old s current disk is opens =
      no_rows_stand (subst HasGoodWorld is ((opens.judged disk).good current))

  pub any_six_tables_do_not_stand : (old : Held S) (s : StoreState S) → IsCurrentSchema old.schema → HasDisk g s
      → (state g old).now.trees ≡ bad → OpensStore g old s → ⊥
  any_six_tables_do_not_stand old s current disk is opens = bad_rows_stand (subst HasGoodWorld is ((opens.judged disk).good current))

  pub version_1_opened_has_another_version : (old : Held S) (s : StoreState S) → HasFirstSchema old.schema → HasDisk g s
      → (state g old).now.trees ≡ first → OpensStore g old s → ⊥
  version_1_opened_has_another_version old s six disk is opens =
      omega (
        arith,
        ap number_in ((subst (HasVersion version) is ((opens.judged disk).version_is six)).version_is
            (portal_row (pos 1) (pos 0) office) refl),
      )

  -- other tables of which one is missing, so that its query is refused
  pub tables_with_a_refused_query_are_not_opened : (old : Held S) (s : StoreState S) → (IsCurrentSchema old.schema → ⊥)
      → LacksStudents (state g old) → HasDisk g s → OpensStore g old s → ⊥
  tables_with_a_refused_query_are_not_opened old s other lacks disk opens =
      passes_none (state g old) _ other lacks (opens.judged disk).suits.passes

  pub opened_store_without_a_row_is_not_consistent : (old : Held S) (s : StoreState S) → IsCleanStore g s
      → (state g s.conn).now.trees ≡ nothing → OpensStore g old s → ⊥
  opened_store_without_a_row_is_not_consistent old s on is opens =
      omega (arith, ap offices is, ap (λ (rows : List Row). length rows) (opens.makes.consistent on).1.office.is)

  pub opened_store_that_is_not_own_is_refuted : (old : Held S) (s : StoreState S) → IsCurrentSchema old.schema
      → s.own ≡ false
      → OpensStore g old s → ⊥
  opened_store_that_is_not_own_is_refuted old s current not_own opens = let clash : false ≡ true = sym not_own
      ∙ opens.makes.own.1 current in cc

  pub opened_store_with_a_fault_is_not_counted : (old : Held S) (s : StoreState S) → s.faults ≡ 1 → OpensStore g old s → ⊥
  opened_store_with_a_fault_is_not_counted old s one opens = omega (arith, one, opens.makes.counted)

  -- ---- what is not opened

  pub damage_told_of_a_good_world_is_refuted : (old new : Held S) → IsCurrentSchema old.schema
      → HasCleanDisk (state g new)
      → (state g old).now.trees ≡ fresh → RefusesToOpen g opening.Damaged old new → ⊥
  damage_told_of_a_good_world_is_refuted old new current clean is refuses =
      ((refuses.judged clean).refuted current).1 (subst HasGoodWorld (sym is) new_rows_stand_for_a_good_world)

  pub no_portal_told_of_an_office_is_refuted : (old new : Held S) → IsCurrentSchema old.schema
      → HasCleanDisk (state g new)
      → (state g old).now.trees ≡ fresh → RefusesToOpen g opening.NotPortal old new → ⊥
  no_portal_told_of_an_office_is_refuted old new current clean is refuses =
      omega (arith, ap offices is, ap (λ (rows : List Row). length rows) ((refuses.judged clean).refuted current))

  pub other_version_told_of_this_one_is_refuted : (old new : Held S) → IsCurrentSchema old.schema
      → HasCleanDisk (state g new)
      → (state g old).now.trees ≡ fresh → RefusesToOpen g opening.OtherVersion old new → ⊥
  other_version_told_of_this_one_is_refuted old new current clean is refuses =
      (subst (IsTrueOfOpening opening.OtherVersion) is ((refuses.judged clean).refuted current)).other
      (portal_row (pos 2) (pos 0) office) refl refl

  pub other_version_told_of_a_missing_table_is_refuted : (old new : Held S) → (IsCurrentSchema old.schema → ⊥)
      → LacksStudents (state g old) → HasCleanDisk (state g new) → RefusesToOpen g opening.OtherVersion old new → ⊥
  other_version_told_of_a_missing_table_is_refuted old new other lacks clean refuses =
      passes_none (state g old) _ other lacks (refuses.judged clean).explained.0

  pub damage_told_of_a_missing_table_is_refuted : (old new : Held S) → (IsCurrentSchema old.schema → ⊥)
      → LacksStudents (state g old) → HasCleanDisk (state g new) → RefusesToOpen g opening.Damaged old new → ⊥
  damage_told_of_a_missing_table_is_refuted old new other lacks clean refuses =
      passes_none (state g old) _ other lacks (refuses.judged clean).explained.passes

  -- none of the eleven queries is refused, and that of the office shows a row
  pub no_portal_told_of_answered_queries_is_refuted : (old new : Held S)
      → (RefusesOne first_queries (state g old) → ⊥) → (RefusesOne later_queries (state g old) → ⊥)
      → (ShowsOffice (state g old) [] → ⊥)
      → HasCleanDisk (state g new) → RefusesToOpen g opening.NotPortal old new → ⊥
  no_portal_told_of_answered_queries_is_refuted old new none none_later some clean refuses = elim (refuses.judged clean).explained [
    | inl one ↦ none one
    | inr rest ↦ elim rest.1 [ inl empty ↦ some empty | inr both ↦ none_later both.1 ]
  ]

  -- tables of version 1 that can be queried, in one way alone, are `OtherVersion`
  pub version_1_is_told_as_another_version : (fault : OpenFault) (old new : Held S) (row : Row) (rest : List Row)
      → ((rows : List Row) → ShowsOffice (state g old) rows → rows ≡ row ∷ rest) → column row 1 ≡ Int (pos 1)
      → (RefusesOne first_queries (state g old) → ⊥) → HasCleanDisk (state g new) → RefusesToOpen g fault old new
      → (fault ≡ opening.OtherVersion) ⊎ ((fault ≡ opening.Store) ⊎ (fault ≡ opening.Memory))
  version_1_is_told_as_another_version fault old new row rest alone one none clean refuses = told fault (refuses.judged clean).explained
    where
      s : State
      s = state g old

      never_2 : ShowsVersion version s → ⊥
      never_2 h =
          let same : h.row ∷ h.rest ≡ row ∷ rest = alone (h.row ∷ h.rest) h.shown in
          let first : column h.row 1 ≡ column row 1 = ap (λ (rows : List Row). column (slice_index_or rows 0 []) 1) same in
          omega (arith, ap number_in (sym h.version_is ∙ first ∙ one))

      told : (fault : OpenFault) → IsTrueOfQueries fault (IsCurrentSchema old.schema) version later_queries s
          → (fault ≡ opening.OtherVersion) ⊎ ((fault ≡ opening.Store) ⊎ (fault ≡ opening.Memory))
      told opening.NotPortal (inl refused) = absurd (none refused)
      told opening.NotPortal (inr (passes, inl empty)) = let e : [] ≡ row ∷ rest = alone [] empty in absurd (cc)
      told opening.NotPortal (inr (passes, inr both)) = absurd (never_2 both.0)
      told opening.OtherVersion h = inl refl
      told opening.Damaged h = absurd (never_2 h.shows)
      told opening.Store h = inr (inl refl)
      told opening.Memory h = inr (inr refl)

  -- tables of which one is missing are `NotPortal`
  pub no_portal_told_of_a_missing_table_is_right : (conn : Held S) → conn.in_transaction ≡ false
      → IsTrue (state g conn).is_open → (IsCurrentSchema conn.schema → ⊥)
      → LacksStudents (state g conn) → RefusesToOpen g opening.NotPortal conn conn
  no_portal_told_of_a_missing_table_is_right conn idle on other lacks = record {
    back = untouched g _ conn idle;
    judged = λ clean. record {
      explained = inl (inr (inr (inr (inl (rejected (state g conn) on lacks)))));
      refuted = λ current. absurd (other current);
    };
  }

  pub foreign_tables_changed_do_not_stay : (fault : OpenFault) (old new : Held S) → HasCleanDisk (state g new)
      → IsTrue (state g new).is_open
      → (state g old).now.trees ≡ nothing → (state g new).now.trees ≡ fresh → RefusesToOpen g fault old new → ⊥
  foreign_tables_changed_do_not_stay fault old new clean is_open was is refuses =
      tables_that_are_made_do_not_stay (state g old) (state g new) was is (refuses.back.stays clean is_open)

  pub tables_after_a_crash_in_a_refusal_were_left_before : (fault : OpenFault) (old new : Held S)
      → HasCleanDisk (state g new)
      → (state g new).may_leave fresh → ((state g old).may_leave fresh → ⊥) → RefusesToOpen g fault old new → ⊥
  tables_after_a_crash_in_a_refusal_were_left_before fault old new clean may not_before refuses =
      elim (refuses.back.crash.crash clean fresh may) [ inl before ↦ not_before before | inr never ↦ never ]

  -- ---- what is created

  pub exists_told_of_an_empty_file_is_refuted : (old new : Held S) → old.schema ≡ no_schema
      → RefusesToCreate g office creating.Exists old new → ⊥
  exists_told_of_an_empty_file_is_refuted old new none refuses =
      let clash : IsTrue false = subst (λ s. IsTrue (has_names All s)) none (refuses.exists.1 refl) in cc

  pub created_world_in_ranking_is_not_the_first : (old : Held S) (s : StoreState S) → IsCleanStore g s
      → kept_world g s ≡ record (first_world office) { phase = Ranking } → CreatesStore g office old s → ⊥
  created_world_in_ranking_is_not_the_first old s clean is creates =
      let clash : true ≡ false = ap (λ (w : World). is_setup w.phase) (sym (creates.world clean) ∙ is) in cc

  pub created_tables_that_are_left_out_are_not_committed : (old : Held S) (s : StoreState S) → old.schema ≡ no_schema
      → HasDisk g s
      → (state g s.conn).now.trees ≡ nothing → CreatesStore g office old s → ⊥
  created_tables_that_are_left_out_are_not_committed old s none disk is creates =
      change_that_is_left_out_is_not_committed (state g old) (state g s.conn) none is (creates.commits disk)

  -- ---- what is upgraded

  pub upgrade_that_leaves_the_version_is_not_committed : (old : Held S) (s : StoreState S) → IsFirstSchema old.schema
      → HasDisk g s
      → (state g old).now.trees ≡ first → (state g s.conn).now.trees ≡ first → UpgradesStore g old s → ⊥
  upgrade_that_leaves_the_version_is_not_committed old s six disk was is upgrades =
      let made = (upgrades.commits disk).changed six (pos 0) office (ap (λ (t : Trees). t 0) was) in
      omega (arith, ap version_in (sym (ap (λ (t : Trees). t 0) is) ∙ made.portal))

  -- of the portal's own six tables, whatever stands beside them
  pub upgraded_tables_without_a_row_did_not_stand : (old : Held S) (s : StoreState S) → HasFirstSchema old.schema
      → HasDisk g s
      → (state g old).now.trees ≡ nothing → UpgradesStore g old s → ⊥
  upgraded_tables_without_a_row_did_not_stand old s six disk is upgrades =
      omega (
        arith,
        ap (λ (rows : List Row). length rows)
            (subst (HasGoodFirst first_version) is ((upgrades.judged disk).first.good six)).office.is,
      )

  pub tables_with_a_refused_query_are_not_upgraded : (old : Held S) (s : StoreState S) → (IsFirstSchema old.schema → ⊥)
      → LacksStudents (state g old) → HasDisk g s → UpgradesStore g old s → ⊥
  tables_with_a_refused_query_are_not_upgraded old s other lacks disk upgrades =
      passes_none (state g old) _ other lacks (upgrades.judged disk).first.suits.passes

  -- `Exists` is owed
  pub tables_with_a_taken_name_are_not_upgraded : (old : Held S) (s : StoreState S) → has_names OfSecond old.schema ≡ true
      → UpgradesStore g old s → ⊥
  tables_with_a_taken_name_are_not_upgraded old s taken upgrades = let clash : true ≡ false = sym taken ∙ upgrades.free in cc

  -- of the portal's own six tables, whatever stands beside them
  pub damage_told_of_a_good_first_version_is_refuted : (old new : Held S) → HasFirstSchema old.schema
      → HasCleanDisk (state g new)
      → (state g old).now.trees ≡ first → RefusesToUpgrade g upgrading.Damaged old new → ⊥
  damage_told_of_a_good_first_version_is_refuted old new six clean is refuses =
      (refuses.judged clean).damaged refl six (subst (HasGoodFirst first_version) (sym is) first_rows_stand)

  pub exists_told_of_a_missing_table_is_refuted : (old new : Held S) → (IsFirstSchema old.schema → ⊥)
      → LacksStudents (state g old) → HasCleanDisk (state g new) → RefusesToUpgrade g upgrading.Exists old new → ⊥
  exists_told_of_a_missing_table_is_refuted old new other lacks clean refuses =
      passes_none (state g old) _ other lacks ((refuses.judged clean).exists refl).0.suits.passes

  -- after a refusal that is not of the store or of memory, a crash leaves no upgraded tables
  pub tables_after_a_crash_in_a_refused_upgrade_were_left_before : (old new : Held S) → HasCleanDisk (state g new)
      → (state g new).may_leave fresh → ((state g old).may_leave fresh → ⊥)
      → RefusesToUpgrade g upgrading.Damaged old new → ⊥
  tables_after_a_crash_in_a_refused_upgrade_were_left_before old new clean may not_before refuses =
      elim (refuses.back.crash.crash clean fresh may) [ inl before ↦ not_before before | inr never ↦ never ]

  -- ---- what a call of a keeper leaves

  pub disowned_store_does_not_stay : (old new : StoreState S) → old.own ≡ true → new.own ≡ false → StaysStore g old new → ⊥
  disowned_store_does_not_stay old new was is stays = let clash : false ≡ true = sym is ∙ (stays.own ∙ was) in cc

  -- want of memory that is told as a fault of the store: nothing failed, and queries have no limit
  pub memory_told_as_the_stores_fault_has_no_reason : (V : Type 0) (s : StoreState S) → IsCleanStore g s → Good (kept_world g s)
      → HasDisk g s → (state g s.conn).faults ≡ 0 → (state g s.conn).step_limit ≡ None
      → HasStoreReason {V = V} g (Err keep.Store) s s → ⊥
  memory_told_as_the_stores_fault_has_no_reason V s clean good disk none unlimited reason =
      no_reason (state g s.conn) clean.1 none unlimited (reason clean good disk refl)

  pub memory_told_as_such_needs_none : (V : Type 0) (s : StoreState S) → HasStoreReason {V = V} g (Err keep.Memory) s s
  memory_told_as_such_needs_none V s clean good disk is = absurd (cc)

  pub change_answered_before_its_commit_is_not_committed : {A E : Type 0} (x : A) (change : Change)
      (old new : StoreState S) → IsTrue old.own → HasDisk g new
      → (state g new.conn).committed.trees ≡ nothing → (state g new.conn).now.trees ≡ fresh
      → ChangesTables {E = E} g change (Ok x) old new → ⊥
  change_answered_before_its_commit_is_not_committed x change old new own disk was is changes =
      answer_before_the_commit_does_not_commit _ (state g old.conn) (state g new.conn) was is (changes.commits own disk)

  pub old_tables_after_a_crash_are_not_durable : {A E : Type 0} (x : A) (change : Change) (old new : StoreState S)
      → IsTrue old.own → HasDisk g new
      → (state g new.conn).may_leave nothing → (state g new.conn).now.trees ≡ fresh
      → ChangesTables {E = E} g change (Ok x) old new → ⊥
  old_tables_after_a_crash_are_not_durable x change old new own disk may is changes =
      omega (arith, ap offices is, ap offices (changes.durable own disk nothing may))

  half_done : (change : Change) (old : Database) → old.trees ≡ fresh → IsLeft change old nothing → ⊥
  half_done change old is (inl same) = omega (arith, ap offices is, ap offices same)
  half_done change old is (inr (after, changed, left)) =
      omega (arith, ap offices left, ap (λ (rows : List Row). length rows) changed.holds.1.office.is)

  -- neither the tables before the change nor those of the changed world
  pub third_tables_after_a_crash_are_not_left : {A E : Type 0} (r : Result A E) (change : Change) (old new : StoreState S)
      → IsCleanStore g old → HasDisk g new
      → (state g old.conn).now.trees ≡ fresh → (state g new.conn).may_leave nothing
      → ChangesTables {V = A} {E = E} g change r old new → ⊥
  third_tables_after_a_crash_are_not_left r change old new clean disk is may changes =
      half_done change (state g old.conn).now is (changes.left clean disk nothing may)
