-- What a result of opening or upgrading says of the database that was found, and what a refusal leaves of it.
use Rattle.std.proofs.Common.{◌≡◌, ◌⊎◌, List, [], ◌∷◌, ℕ, IsTrue, inl, inr, refl, sym, ap, ◌∙◌}
use Rattle.sqlite.specs.Effect.{Database}
use Rattle.sqlite.specs.State.{HasCleanDisk, IsLive, State, Survives}
use Rattle.sqlite.specs.Tree.{Trees}
use Rattle.sqlite.proofs.StateLemmas.{survives_weaker}
use Rattle.portal_rules.specs.Words.{Key}
use Rattle.portal_rules.specs.declared.phase.Round.TheVariants as round
use Rattle.std.specs.List.{AllByRecursion}
use Rattle.portal_rules.specs.World.{World}
use Rattle.portal_tables.specs.Tables.{IsCurrentSchema, IsFirstSchema, first_version, no_schema, version}
use Rattle.portal_tables.specs.Making.{Creates, IsFresh}
use Rattle.portal_tables.specs.Steps.{IsAfter}
use Rattle.portal_tables.specs.declared.sql.select.Query.{Query}
use Rattle.portal_tables.specs.declared.sql.select.Query.TheVariants.{Office}
use Rattle.portal_tables.proofs.Owned.{first_own}
use Rattle.portal_tables.proofs.Repeated.{answers_still, refuses_still}
use Rattle.portal_store.specs.Crash.{AfterCreating, AfterUpgrading, AreBarred, AreFirst, AreOpened, AreRefused}
use Rattle.portal_store.specs.Crash.{AreUpgraded, IsTrueOfQueries, LeavesUpgraded}
use Rattle.portal_store.specs.Crash.{IsAnswered, IsRejected, Passes, RefusesOne, ShowsVersion, Suits, first_queries}
use Rattle.portal_store.specs.Crash.{later_queries}
use Rattle.portal_store.specs.World.{world_in, world_of}
use Rattle.portal_store.specs.declared.store.CreateFault.{CreateFault}
use Rattle.portal_store.specs.declared.store.CreateFault.TheVariants as creating
use Rattle.portal_store.specs.declared.store.OpenFault.{OpenFault}
use Rattle.portal_store.specs.declared.store.OpenFault.TheVariants as opening
use Rattle.portal_store.specs.declared.store.UpgradeFault.{UpgradeFault}
use Rattle.portal_store.specs.declared.store.UpgradeFault.TheVariants as upgrading
use Rattle.portal_store.proofs.Explained.{version_still}
use Rattle.portal_file.specs.Tables.{StandsCurrent, StandsFirst, opened_over}
use Rattle.portal_file.specs.inner.Connected.{IsUnlimited}
use Rattle.portal_file.specs.Jobs.{IsSame, MayMake, MayUpgrade}

-- what queries show, they show a connection that was just opened

module _ (s : State) (free : IsUnlimited s) where
  rejected_still : (query : Query) → IsRejected query s → IsRejected query (opened_over s.now)
  rejected_still query it = record {
    error = it.error;
    refused = refuses_still query s (opened_over s.now) it.error refl (sym free.unlimited) refl it.not_store it.refused;
    not_store = it.not_store;
  }

  one_still : (queries : List Query) → RefusesOne queries s → RefusesOne queries (opened_over s.now)
  one_still [] none = absurd none
  one_still (query ∷ queries) (inl it) = inl (rejected_still query it)
  one_still (query ∷ queries) (inr more) = inr (one_still queries more)

  all_still : (queries : List Query) → AllByRecursion (IsAnswered s) queries
      → AllByRecursion (IsAnswered (opened_over s.now)) queries
  all_still [] h = tt
  all_still (query ∷ queries) h = ((h.0.0, answers_still query s (opened_over s.now) h.0.0 refl refl h.0.1), all_still queries h.1)

  passes_still : (Own : Type 0) (queries : List Query) → Passes Own queries s → Passes Own queries (opened_over s.now)
  passes_still Own queries (inl own) = inl own
  passes_still Own queries (inr all) = inr (all_still queries all)

  shows_still : (of : ℕ) → ShowsVersion of s → ShowsVersion of (opened_over s.now)
  shows_still of h = version_still of s (opened_over s.now) refl refl h

  suits_still : (Own : Type 0) (of : ℕ) (later : List Query) → Suits Own of later s → Suits Own of later (opened_over s.now)
  suits_still Own of later h = record {
    passes = passes_still Own first_queries h.passes;
    shows = shows_still of h.shows;
    passes_later = passes_still Own later h.passes_later;
  }

  explains_still : (fault : OpenFault) (Own : Type 0) (of : ℕ) (later : List Query) → IsTrueOfQueries fault Own of later s
      → IsTrueOfQueries fault Own of later (opened_over s.now)
  explains_still opening.NotPortal Own of later (inl one) = inl (one_still first_queries one)
  explains_still opening.NotPortal Own of later (inr (passes, inl none)) =
      inr (passes_still Own first_queries passes, inl (answers_still Office s (opened_over s.now) [] refl refl none))
  explains_still opening.NotPortal Own of later (inr (passes, inr both)) =
      inr (passes_still Own first_queries passes, inr (shows_still of both.0, one_still later both.1))
  explains_still opening.OtherVersion Own of later (passes, h) = (
    passes_still Own first_queries passes,
    record {
      row = h.row;
      rest = h.rest;
      shown = answers_still Office s (opened_over s.now) (h.row ∷ h.rest) refl refl h.shown;
      other = h.other;
    },
  )
  explains_still opening.Damaged Own of later h = suits_still Own of later h
  explains_still opening.Store Own of later h = tt
  explains_still opening.Memory Own of later h = tt

  -- so what the store says of the tables that the connection showed holds of those that were found

  pub opened_still : AreOpened s → AreOpened (opened_over s.now)
  opened_still h = record { suits = suits_still _ version later_queries h.suits; version_is = h.version_is; good = h.good }

  pub refused_still : (fault : OpenFault) → AreRefused fault s → AreRefused fault (opened_over s.now)
  refused_still fault h = record { explained = explains_still fault _ version later_queries h.explained; refuted = h.refuted }

  first_still : AreFirst s → AreFirst (opened_over s.now)
  first_still h = record { suits = suits_still _ first_version [] h.suits; good = h.good }

  pub upgraded_still : AreUpgraded s → AreUpgraded (opened_over s.now)
  upgraded_still h = record { first = first_still h.first; free = h.free }

  pub barred_still : (fault : UpgradeFault) → AreBarred fault s → AreBarred fault (opened_over s.now)
  barred_still fault h = record {
    explained = λ found same. explains_still found _ first_version [] (h.explained found same);
    barred = h.barred;
    damaged = h.damaged;
    exists = λ is. let it = h.exists is in (first_still it.0, it.1);
  }

-- own tables that were opened or upgraded stood for a world

pub stood_current : (s : State) → IsLive s → IsTrue s.is_open → AreOpened s → IsCurrentSchema s.now.schema
    → (w : World) × StandsCurrent s.now w
stood_current s live on h current = (
  world_of s.now.trees,
  record { schema = current; sound = (live on).0; stands = h.good current; world = refl },
)

pub stood_first : (s : State) → IsLive s → IsTrue s.is_open → AreUpgraded s → IsFirstSchema s.now.schema
    → (w : World) × StandsFirst s.now w
stood_first s live on h first = (
  world_in round.First s.now.trees,
  record { schema = first; sound = (live on).0; stands = h.first.good (first_own s.now.schema first); world = refl },
)

-- an upgrade begins with the database alone
after_still : (fault : UpgradeFault) (s : State) (db : Trees) → AfterUpgrading fault s db
    → AfterUpgrading fault (opened_over s.now) db
after_still upgrading.Store s db made = made
after_still upgrading.Memory s db made = made
after_still upgrading.NotPortal s db made = absurd made
after_still upgrading.OtherVersion s db made = absurd made
after_still upgrading.Damaged s db made = absurd made
after_still upgrading.Exists s db made = absurd made

-- whatever the refusal is
any_late : (fault : UpgradeFault) (s : State) (db : Trees) → AfterUpgrading fault s db → LeavesUpgraded s db
any_late upgrading.Store s db made = made
any_late upgrading.Memory s db made = made
any_late upgrading.NotPortal s db made = absurd made
any_late upgrading.OtherVersion s db made = absurd made
any_late upgrading.Damaged s db made = absurd made
any_late upgrading.Exists s db made = absurd made

pub upgrades_late : (old new : State) (fault : UpgradeFault) → Survives old new (AfterUpgrading fault old)
    → Survives old new (LeavesUpgraded old)
upgrades_late old new fault = survives_weaker old new _ _ (λ clean db made. any_late fault old db made)

-- what a stop before the work leaves are the tables that were found

module _ (old : State) (settled : IsTrue old.is_open → old.now ≡ old.committed)
    (law : (db : Trees) → IsTrue old.is_open → old.may_leave db → db ≡ old.committed.trees) (free : IsUnlimited old) where
  pub same_before : (db : Trees) → old.may_leave db → IsSame old.now db
  same_before db was =
      law db free.is_open was ∙ sym (ap (λ (d : Database). d.trees) (settled free.is_open))

  module _ (new : State) (clean : HasCleanDisk new) where
    pub same_by : Survives old new (λ _. ⊥) → (db : Trees) → new.may_leave db → IsSame old.now db
    same_by survives db may =
        elim (survives.crash clean db may) [ inl was ↦ same_before db was | inr never ↦ absurd never ]

    same_or : (After : Trees → Type 0) → Survives old new After → (db : Trees) → new.may_leave db
        → IsSame old.now db ⊎ After db
    same_or After survives db may =
        elim (survives.crash clean db may) [ inl was ↦ inl (same_before db was) | inr made ↦ inr made ]

    made_or : (office : Key) → old.now.schema ≡ no_schema → Survives old new (IsAfter (Creates office) old)
        → (db : Trees) → new.may_leave db
        → IsSame old.now db ⊎ ((made : Database) × IsFresh office made × (db ≡ made.trees))
    made_or office empty survives db may =
        elim (same_or _ survives db may) [ inl same ↦ inl same | inr made ↦ inr (made.0, made.1 empty, made.2) ]

    pub may_make : (fault : CreateFault) (office : Key) → old.now.schema ≡ no_schema
        → Survives old new (AfterCreating fault office old)
        → (db : Trees) → new.may_leave db → MayMake fault office old.now db
    may_make creating.Exists office empty survives db may = same_by survives db may
    may_make creating.Store office empty survives db may = made_or office empty survives db may
    may_make creating.Memory office empty survives db may = made_or office empty survives db may

    pub may_upgrade : (fault : UpgradeFault) → Survives old new (AfterUpgrading fault old)
        → (db : Trees) → new.may_leave db → MayUpgrade fault old.now db
    may_upgrade fault survives db may =
        elim (same_or _ survives db may) [ inl same ↦ inl same | inr made ↦ inr (after_still fault old db made) ]
