use Rattle.portal_store.proofs.Base.{ap, sym, subst, ◌∙◌, Good, IsCacheOf, IfOk-weaker, IsCleanStore, kept_world}
use Rattle.portal_store.proofs.Base.{AreEntries, instance, rules}
use Rattle.portal_store.proofs.Ended.{told_if}
use Rattle.portal_store.proofs.Keeps.{read_by, when_ok}
use Rattle.portal_store.proofs.keeper.StoreKeeper.instance.Goals as goal

pub invariant_of-self-in-None : goal.invariant_of-self-in-None
invariant_of-self-in-None g c =
    let new = c.instance_in.new.conn in
    let read = read_by new c.self.view_is c.self.invariant.kept c.in_default.ensures.own
    (g.met.S.Store.shut_if_dirty new.store) c.instance_in.ensures in
    record {
      kept = read.kept;
      shown = λ on. subst (IsCacheOf c.self.inside.cache) (sym (read.world on)) (c.self.invariant.shown (read.was on));
      entered = λ on. subst (AreEntries c.self.inside.entries) (sym (read.world on)) (c.self.invariant.entered (read.was on));
    }

pub returns-in-None : goal.returns-in-None
returns-in-None g c =
    let new = c.instance_in.new.conn in
    let is = c.self.view_is in
    let built = c.instance_in.result in
    let told = c.count_outcome-in-None.ensures.same in
    let read = read_by new is c.self.invariant.kept c.in_default.ensures.own
    (g.met.S.Store.shut_if_dirty new.store) c.instance_in.ensures in
    let call = read.call c.count_outcome-in-None.new.faults (g.met.S.Store.settled new.store) c.count_outcome-in-None.result told in
    record {
      looks = record { uses = call.uses; same = read.same; counts = search rules };
      instance = told_if _ built c.count_outcome-in-None.result told (when_ok _ _ _ built (read.told (λ holds was. holds.1.sound))
          (λ i meant on. meant on (subst (λ s. Good (kept_world g.S.Store s)) (sym is) (c.requires.good (call.uses.clean on))).sound
          ∙ ap (λ s. instance (kept_world g.S.Store s)) is));
      store = record { own = search rules; lasts = call.stays_open };
    }

-- of the entries that are remembered

pub returns-in-Some-clause-instance : goal.returns-in-Some-clause-instance
returns-in-Some-clause-instance g c =
    told_if _ c.instance_of.result c.count_outcome.result c.count_outcome.ensures.same (IfOk-weaker c.instance_of.result _ _ (λ i meant on.
    let w = kept_world g.S.Store (record { conn = c.self.inside.conn; own = c.self.inside.own; faults = c.self.inside.faults }) in
    let told : AreEntries c.self.inside.entries w = c.self.invariant.entered on in
    meant w (subst (λ o. AreEntries o w) c.in-Some.is told)
    (subst (λ s. Good (kept_world g.S.Store s)) (sym c.self.view_is)
    (c.requires.good (subst (λ s. IsCleanStore g.S.Store s) c.self.view_is on))).sound
    ∙ ap (λ s. instance (kept_world g.S.Store s)) c.self.view_is)
    c.instance_of.ensures.meant)
