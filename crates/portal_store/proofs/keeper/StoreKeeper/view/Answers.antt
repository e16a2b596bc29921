use Rattle.portal_store.proofs.Base.{ap, sym, subst, ◌∙◌, Good, IsCacheOf, kept_world, AreEntries, rules}
use Rattle.portal_rules.specs.View as seen
use Rattle.portal_store.proofs.Base.{IsCleanStore, StoreState, state, ◌≡◌}
use Rattle.std.specs.Prelude.{IfErr}
use Rattle.portal_rules.specs.declared.keeper.KeepFault.TheVariants as keep
use Rattle.portal_tables.specs.Reads.{HasReason}
use Rattle.portal_tables.proofs.InTurn.{if_answered}
use Rattle.portal_store.proofs.Reasons.{counted_reason}
use Rattle.portal_store.proofs.Ended.{told_if}
use Rattle.portal_store.proofs.Keeps.{read_by, when_ok}
use Rattle.portal_store.proofs.keeper.StoreKeeper.view.Goals as goal

pub invariant_of-self-2 : goal.invariant_of-self-2
invariant_of-self-2 g c =
    let new = c.show-shown.new.conn in
    let read = read_by new c.self.view_is c.self.invariant.kept c.in_default.ensures.own
    (g.met.S.Store.shut_if_dirty new.store) c.show-shown.ensures in
    record {
      kept = read.kept;
      shown = λ on. subst (IsCacheOf c.show-shown.new.cache) (sym (read.world on))
          (read.told (λ holds was. (holds, c.self.invariant.shown was)) on).0;
      entered = λ on. subst (AreEntries c.self.inside.entries) (sym (read.world on)) (c.self.invariant.entered (read.was on));
    }

pub returns : goal.returns
returns g c =
    let new = c.show-shown.new.conn in
    let is = c.self.view_is in
    let told = c.count_outcome.ensures.same in
    let read = read_by new is c.self.invariant.kept c.in_default.ensures.own (g.met.S.Store.shut_if_dirty new.store) c.show-shown.ensures in
    let call = read.call c.count_outcome.new.faults (g.met.S.Store.settled new.store) c.count_outcome.result told in
    record {
      looks = record { uses = call.uses; same = read.same; counts = search rules };
      alive = call.alive;
      shown = told_if _ c.show-shown.result c.count_outcome.result told
          (when_ok _ _ _ c.show-shown.result (λ on. if_answered c.show-shown.result _ _ _
          (read.told (λ holds was. (holds, c.self.invariant.shown was)) on).1 (λ view shows. shows))
          (λ view shows on good. shows on (subst (λ s. Good (kept_world g.S.Store s)) (sym is) good)
          ∙ ap (λ s. seen.view (kept_world g.S.Store s) c.args.code.now) is));
      reason = λ on good clean.
          let was = subst (λ s. IsCleanStore g.S.Store s) (sym is) on in
          let holds = (c.self.invariant.kept.ready was.0 was.1).holds in
          let told = c.show-shown.ensures.told holds.1.current (holds, c.self.invariant.shown was) clean in
          subst (λ (s : StoreState g.row.S.Denot). IfErr c.count_outcome.result
          (λ fault. fault ≡ keep.Store → HasReason (state g.S.Store s.conn) (state g.S.Store new))) is
          (counted_reason (HasReason (state g.S.Store c.self.inside.conn) (state g.S.Store new)) c.show-shown.result
          c.count_outcome.result _ _ (subst (λ s. Good (kept_world g.S.Store s)) (sym is) good)
          (c.show-shown.ensures.reason holds.1.current clean) told.1 c.count_outcome.ensures.same c.count_outcome.ensures.other);
      store = record { own = search rules; lasts = call.stays_open };
    }
