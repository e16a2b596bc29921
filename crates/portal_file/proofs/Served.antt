-- What serving requests over own tables leaves.
use Rattle.std.proofs.Common.{◌≡◌, ℕ, Bool, List, [], ◌∷◌, ◌++◌, Option, Some, None, IsTrue, refl, sym, ap, subst, ◌∙◌}
use Rattle.std.proofs.Common.{◌⊎◌, arith, inl, inr}
use Rattle.std.specs.Prelude.{IfSome}
use Rattle.std.specs.Io.KnownBytes.{Appends}
use Rattle.std.proofs.Math.Logic.{∥∥₁_elim, ∥∥₁_map}
use denote.Struct.Props.{props}
use Rattle.std.specs.List.{AllByRecursion}
use Rattle.portal_rules.specs.World.{World}
use Rattle.portal_rules.specs.Good.{Good}
use Rattle.portal_rules.specs.Keeping.{KeeperState, IsSettled, LastsOrBreaks, AfterCall}
use Rattle.std.specs.Prelude.{Result, Ok}
use Rattle.portal_rules.specs.View.{office_sees}
use Rattle.portal_rules.specs.Run.{end_of}
use Rattle.portal_wire.specs.Conversation.{Exchange, Reaches, requests_of, replies_of}
use Rattle.portal_desk.specs.Kept.{IsMoved, MayReach, Moves}
use Rattle.portal_desk.specs.Session.{SomeSession, Stream, Visit, Tells, count_of, finish_of}
use Rattle.portal_desk.specs.declared.served.Served.{Served}
use Rattle.portal_desk.specs.declared.served.ServeFault.{ServeFault}
use Rattle.portal_desk.proofs.Promised.{RunsGood}
use Rattle.portal_serve.specs.Hall.{office_report}
use Rattle.sqlite.specs.Tree.{Trees}
use Rattle.sqlite.specs.Effect.{Database}
use Rattle.sqlite.specs.Store.{Ghosts}
use Rattle.sqlite.specs.Held.{Held, state}
use Rattle.sqlite.specs.State.{State, HasCleanDisk, IsLive}
use Rattle.sqlite_trees.specs.Objects.{number_in}
use Rattle.portal_store.specs.Kept.{AreConsistent, HasDisk, HasGoodWorld, IsCleanStore, IsConsistent, LeavesWorld}
use Rattle.portal_store.specs.Kept.{StoreState, kept_state, kept_world}
use Rattle.portal_store.specs.Crash.{AreOpened, IsTrueOfOpening}
use Rattle.portal_tables.specs.Tables.{IsCurrentSchema}
use Rattle.portal_store.specs.inner.Keeping.{KeepsClean}
use Rattle.portal_store.specs.World.{world_of}
use Rattle.portal_store.specs.Calls.{OpensStore, RefusesToOpen, RefusesToUpgrade}
use Rattle.portal_store.specs.declared.store.OpenFault.{OpenFault}
use Rattle.portal_store.specs.declared.store.OpenFault.TheVariants as opening
use Rattle.portal_store.specs.declared.store.UpgradeFault.{UpgradeFault}
use Rattle.portal_store.specs.declared.store.UpgradeFault.TheVariants as upgrading
use Rattle.portal_store.proofs.Again.{holds_again, none_but_store}
use Rattle.portal_tables.proofs.Owned.{first_own}
use Rattle.portal_tables.proofs.InTurn.{clean_before}
use Rattle.portal_file.specs.Tables.{IsTurn, Stands, StandsCurrent, StandsFirst}
use Rattle.portal_file.specs.inner.Connected.{AllStand, TreesStand, ClosesAs, Shows, work_of}
use Rattle.portal_file.specs.Tables.{First, Current, Either, idle}
use Rattle.portal_file.specs.Jobs.{IsOfStore, OpensTables, ReportsStream}
use Rattle.portal_file.proofs.Judged.{opened_still, stood_current}
use Rattle.portal_file.proofs.Sets.{World-set}

pub good_end : (w : World) (worlds : List World) → Good w → AllByRecursion Good worlds → Good (end_of w worlds)
good_end w [] good all = good
good_end w (v ∷ worlds) good all = good_end v worlds all.0 all.1

good_run : RunsGood → (w v : World) (es : List Exchange) → Good w → Reaches w es v → Good v
good_run run_good w v es good (worlds, run, same) =
    subst Good (sym same) (good_end w worlds good (run_good w (requests_of es) (replies_of es) worlds good run))

pub good_reach : RunsGood → (w v : World) (es : List Exchange) → Good w → MayReach w es v → Good v
good_reach run_good w v es good (inl run) = good_run run_good w v es good run
good_reach run_good w v es good (inr (front, back, e, other, is, untold, run)) =
    good_run run_good w v (front ++ record e { reply = other } ∷ back) good run

some_same : {A : Type 0} (x y : A) → Some x ≡ Some y → x ≡ y
some_same x y same = cc

none_some : {A : Type 0} (x : A) → None ≡ Some x → ⊥
none_some x same = cc

added : (old new : Option (List ℕ)) (written before after : List ℕ) → Appends old new written → old ≡ Some before
    → new ≡ Some after → after ≡ before ++ written
added (Some xs) (Some ys) written before after adds was now = sym (some_same ys after now) ∙ adds
    ∙ ap (λ z. z ++ written) (some_same xs before was)
added (Some xs) None written before after adds was now = absurd adds
added None new written before after adds was now = absurd (none_some before was)

-- no request reaches no other world
none_reached : (w v : World) → v ≡ w → MayReach w [] v
none_reached w v same = inl ([], tt, same)

-- over a connection, these requests are served
abbrev pub IsTurnOf : State → State → Visit → Type 0
IsTurnOf old new = IsTurn (Shows Either old) (AllStand Either new.may_leave)

-- whatever world was shown, a stop leaves what one before it left, or trees that stand for this world
pub unserved : (old new : State) → (IsTrue old.is_open → old.now ≡ old.committed)
    → ((db : Trees) → IsTrue old.is_open → old.may_leave db → db ≡ old.committed.trees)
    → ((w : World) → Stands Either old.now w → (db : Trees) → new.may_leave db → old.may_leave db ⊎ TreesStand Either db w)
    → IsTurnOf old new idle
unserved old new settled law leaves = record {
  reaches = λ w shows db may.
      ∥∥₁_map shows.stands (λ stands.
      let are : TreesStand Either db w = elim (leaves w stands db may) [
        | inl was ↦ (old.now, ap (λ (d : Database). d.trees) (settled shows.is_open) ∙ sym (law db shows.is_open was), stands)
        | inr are ↦ are
      ] in
      let is : (v : World) × MayReach w [] v × TreesStand Either db v = (w, none_reached w w refl, are) in is);
  tells = tt;
}

-- tables such as each change may rely on stand for their world, if it is good
pub stands_by : (db : Database) (w : World) → IsConsistent db → Good w → world_of db.trees ≡ w → StandsCurrent db w
stands_by db w holds good world =
    let again = holds_again db db holds (subst Good (sym world) good) refl holds.1.sound in
    record { schema = again.current; sound = holds.1.sound; stands = again.stands; world = world }

-- a clean store that was closed leaves its world alone
pub closed_world : {S : Type 0} (g : Ghosts S) (s : StoreState S) (new : Held S) → ClosesAs g s new → IsCleanStore g s
    → (w : World) → kept_world g s ≡ w → Good w
    → AllStand Current (state g new).may_leave (λ v. v ≡ w)
closed_world g s new closes on w same good db may =
    let live : IsTrue (state g new).is_open = subst (λ h. IsTrue (state g h).is_open) (sym closes.same) on.1 in
    let world : world_of (state g new).now.trees ≡ w = ap (λ h. world_of (state g h).now.trees) closes.same ∙ same in
    let stands = stands_by (state g new).now w (closes.kept on) good world in
    let is : (v : World) × (v ≡ w)
    × TreesStand Current db v = (w, refl, ((state g new).now, sym (closes.only live db may), stands)) in
    ∣ is ∣₁

module _ {S : Type 0} (g : Ghosts S) (old new : Held S) (opened served : StoreState S) (run_good : RunsGood)
    (opens : OpensStore g old opened) (closes : ClosesAs g served new) where
  abbrev keeper : StoreState S → KeeperState
  keeper = kept_state g

  disk_at : HasCleanDisk (state g new) → HasDisk g served
  disk_at clean = subst (λ h. HasCleanDisk (state g h)) closes.same clean

  disk_first : HasDisk g opened → HasCleanDisk (state g old)
  disk_first clean = clean_before (state g old) (state g opened.conn) _ opens.makes.crash clean

  -- tables of version 1 are not opened
  not_first : (w : World) → StandsFirst (state g old).now w → HasDisk g opened → ⊥
  not_first w first disk =
      let version = (opens.judged disk).version_is (first_own old.schema first.schema) in
      let same = ap number_in (version.version_is _ first.stands.office.is) in
      absurd (omega (arith, same))

  shown : (w : World) → Shows Either (state g old) w → HasDisk g opened → ∥ StandsCurrent (state g old).now w ∥₁
  shown w shows disk = ∥∥₁_map shows.stands (λ stands. elim stands [ inl current ↦ current | inr first ↦ absurd (not_first w first disk) ])

  at_first : (w : World) → Shows Either (state g old) w → HasDisk g opened → IsCleanStore g opened
      × (kept_world g opened ≡ w)
  at_first w shows disk =
      let current = shown w shows disk in
      let mine : IsTrue opened.own = ∥∥₁_elim current (hlevel props) (λ stands. opens.makes.own.1 stands.schema) in
      let same = opens.same (opens.makes.own.0 mine) disk in (
        (mine, same.0.is_open),
        ap (λ (d : Database). world_of d.trees) same.0.now_is
            ∙ ∥∥₁_elim current (World-set (world_of (state g old).now.trees) w) (λ stands. stands.world),
      )

  stopped : (es : List Exchange) → LastsOrBreaks (keeper opened) (keeper served)
      → (IsSettled (keeper opened) → IsCleanStore g opened → HasDisk g served → (v : World) → LeavesWorld g served v
      → MayReach (kept_world g opened) es v)
      → (w : World) → HasCleanDisk (state g new) → Shows Either (state g old) w
      → AllStand Either (state g new).may_leave (MayReach w es)
  stopped es breaks leaves w clean shows db may =
      let broke = breaks (disk_at clean) in
      let first = at_first w shows broke.0 in
      let own : IsTrue served.own = elim (broke.1 first.0) [ inl up ↦ up.0 | inr down ↦ down.own ] in
      let last = subst (λ h. (state g h).may_leave db) closes.same may in
      let reach = leaves (opens.makes.settled first.0) first.0 (disk_at clean) (world_of db)
      (record { own = own; db = db; left = last; world = refl }) in
      let d = closes.left own (disk_at clean) db last in
      let good = good_reach run_good (kept_world g opened) (world_of db) es (opens.makes.good first.0) reach in
      let stands = stands_by d.0 (world_of db) d.2 good (ap world_of (sym d.1)) in
      let is : (v : World) × MayReach w es v
      × TreesStand Either db v =
      (world_of db, subst (λ u. MayReach u es (world_of db)) first.1 reach, (d.0, sym d.1, inl stands)) in
      ∣ is ∣₁

  pub disk_before : LastsOrBreaks (keeper opened) (keeper served) → HasCleanDisk (state g new)
      → HasCleanDisk (state g old)
  disk_before breaks clean = disk_first (breaks (disk_at clean)).0

  -- the tables that the connection showed were opened
  opened_so : LastsOrBreaks (keeper opened) (keeper served) → HasCleanDisk (state g new) → AreOpened (state g old)
  opened_so breaks clean = opens.judged (breaks (disk_at clean)).0

  -- own tables are left such as each change may rely on
  left_consistent : LastsOrBreaks (keeper opened) (keeper served) → HasCleanDisk (state g new) → (db : Trees)
      → (state g new).may_leave db
      → IsCurrentSchema old.schema → AreConsistent db
  left_consistent breaks clean db may current =
      let broke = breaks (disk_at clean) in
      let same = opens.same current broke.0 in
      let own : IsTrue served.own = elim (broke.1 (opens.makes.own.1 current, same.0.is_open)) [ inl up ↦ up.0 | inr down ↦ down.own ] in
      closes.left own (disk_at clean) db (subst (λ h. (state g h).may_leave db) closes.same may)

  -- work over the tables was done
  pub opened_tables : {A : Type 0} (x : A) → IsLive (state g old) → LastsOrBreaks (keeper opened) (keeper served)
      → HasCleanDisk (state g new) → OpensTables (Ok x) (work_of (state g old) (state g new))
  opened_tables x live breaks clean =
      let is = opened_so breaks clean in
      record {
        judged = λ free. opened_still (state g old) free is;
        stood = λ free. stood_current (state g old) live free.is_open is;
        refused = tt;
        lasting = λ free. left_consistent breaks clean;
        kept = tt;
      }

  pub serves : (v : Visit) → Tells v → Moves (keeper opened) (keeper served) v.exchanges → HasCleanDisk (state g new)
      → IsTurnOf (state g old) (state g new) v
  serves v tells moves clean = record {
    reaches = λ w. stopped v.exchanges moves.breaks moves.leaves w clean;
    tells = tells;
  }

  -- a call that only reads
  pub serves_none : {A E : Type 0} {r : Result A E} → AfterCall r (keeper opened) (keeper served) (λ _. ⊥)
      → HasCleanDisk (state g new) → IsTurnOf (state g old) (state g new) idle
  serves_none uses clean = record {
    reaches = λ w. stopped [] uses.breaks
        (λ settled on disk v left. none_reached (kept_world g opened) v
        (elim (uses.leaves disk v left) [ inl was ↦ settled v was | inr never ↦ absurd never ])) w clean;
    tells = tt;
  }

  -- the report is of the world that the connection showed
  pub reported : KeepsClean g opened served → (text : List ℕ)
      → (IsCleanStore g served → Good (kept_world g opened) → text ≡ office_report (office_sees (kept_world g opened)))
      → HasCleanDisk (state g new) → (w : World) → Shows Either (state g old) w → text ≡ office_report (office_sees w)
  reported lasts text is clean w shows =
      let kept = lasts (disk_at clean) in
      let first = at_first w shows kept.0 in
      is (kept.1 first.0) (opens.makes.good first.0) ∙ ap (λ u. office_report (office_sees u)) first.1

  -- what a call of `pipe` did, however it ended
  pub serves_stream : (r : Result Served ServeFault) (failed : Bool) (remaining left before after : Option (List ℕ))
      → IsMoved (keeper opened) (keeper served)
      → IfSome remaining (SomeSession keeper opened served before after (count_of r) (finish_of r failed left))
      → HasCleanDisk (state g new)
      → (v : Visit) × IsTurnOf (state g old) (state g new) v
      × ReportsStream r (record { remaining = remaining; left = left; before = before; after = after }) v
  serves_stream r failed (Some bytes) left before after moved is clean =
      let stream : Stream = record { bytes = bytes; written = is.written; finish = finish_of r failed left } in
      let v : Visit = record { exchanges = is.exchanges; stream = Some stream } in (
        v,
        serves v is.session.tells is.session.moves clean,
        record {
          known = λ b x y same was now. (some_same bytes b same, added before after is.written x y is.adds was now);
          counted = is.counted;
          ended = (failed, refl);
        },
      )
  serves_stream r failed None left before after (es, moves) none clean =
      let v : Visit = record { exchanges = es; stream = None } in (
        v,
        serves v tt moves clean,
        record { known = λ b x y is was now. absurd (none_some b is); counted = tt; ended = tt },
      )

-- a refusal that is not of the store or of memory is of what the tables hold

pub no_proof : (x y : ⊥) → x ≡ y
no_proof x y = absurd x

of_store : (fault : OpenFault) → ∥ IsOfStore fault ∥₁ → IsOfStore fault
of_store opening.Store told = inl refl
of_store opening.Memory told = inr refl
of_store _ told = absurd (∥∥₁_elim told no_proof (λ t. elim t [ inl e ↦ absurd (cc) | inr e ↦ absurd (cc) ]))

only_store : (db : Trees) → HasGoodWorld db → (fault : OpenFault) → IsTrueOfOpening fault db → IsOfStore fault
only_store db stands opening.NotPortal none = absurd (let e = sym stands.1.office.is ∙ none in cc)
only_store db stands opening.OtherVersion not_so = absurd (not_so.other _ stands.1.office.is refl)
only_store db stands opening.Damaged not_so = absurd (not_so.1 stands)
only_store db stands opening.Store told = inl refl
only_store db stands opening.Memory told = inr refl

pub denied : {S : Type 0} (g : Ghosts S) (old new : Held S) (fault : OpenFault) → RefusesToOpen g fault old new
    → HasCleanDisk (state g new)
    → (w : World) → Shows Current (state g old) w → IsOfStore fault
denied g old new fault refuses clean w shows =
    of_store fault (∥∥₁_map shows.stands (λ stands.
    only_store (state g old).now.trees stands.stands fault ((refuses.judged clean).refuted stands.schema)))

abbrev IsOfStoreToo : UpgradeFault → Type 0
IsOfStoreToo fault = (fault ≡ upgrading.Store) ⊎ (fault ≡ upgrading.Memory)

of_store_too : (fault : UpgradeFault) → ∥ IsOfStoreToo fault ∥₁ → IsOfStoreToo fault
of_store_too upgrading.Store told = inl refl
of_store_too upgrading.Memory told = inr refl
of_store_too _ told = absurd (∥∥₁_elim told no_proof (λ t. elim t [ inl e ↦ absurd (cc) | inr e ↦ absurd (cc) ]))

pub denied_first : {S : Type 0} (g : Ghosts S) (old new : Held S) (fault : UpgradeFault)
    → RefusesToUpgrade g fault old new → HasCleanDisk (state g new)
    → (w : World) → Shows First (state g old) w → IsOfStoreToo fault
denied_first g old new fault refuses clean w shows =
    of_store_too fault (∥∥₁_map shows.stands
    (λ stands. none_but_store (state g old).now.trees stands.stands fault ((refuses.judged clean).barred stands.schema)))
