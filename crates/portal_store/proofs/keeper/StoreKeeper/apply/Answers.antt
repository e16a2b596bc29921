use Rattle.portal_store.proofs.Base.{AreEntries, Commits, Good, IsAfter, IsCacheOf, IsCleanStore, IsCurrentSchema}
use Rattle.portal_store.proofs.Base.{IsTransition, IsTrue, OnOk, StoreState, HasCleanDisk, Survives, change_model, kept_world}
use Rattle.portal_store.proofs.Base.{on_ok_weaker, rules, state, subst, survives_weaker, sym}
use Rattle.portal_store.proofs.Ended.{ends_told}
use Rattle.portal_store.proofs.Keeps.{change_call, change_follows, change_keeps, change_left, change_made, change_same}
use Rattle.portal_store.proofs.keeper.StoreKeeper.apply.Goals as goal

pub invariant_of-self-2 : goal.invariant_of-self-2
invariant_of-self-2 g c =
    let change = change_model c.args.change.now in
    let new = c.commit_change-taken.new.conn in
    let is = c.self.view_is in
    let kept = c.self.invariant.kept in
    let own = c.in_default.ensures.own in
    let dirty = g.met.S.Store.shut_if_dirty new.store in
    let good = c.requires.good in
    let leaves = c.requires.leaves_good in
    let made = c.count_outcome-made.result in
    let ends = ends_told {D = IsTransition change} c.count_outcome-made.ensures.same c.commit_change-taken.ensures.ends in
    record {
      kept = change_keeps change new is kept own dirty good leaves made ends c.commit_change-taken.ensures.left;
      shown = change_follows change new is kept own dirty good leaves IsCacheOf c.self.inside.cache c.follow.new.self
          (λ on clean. c.self.invariant.shown on) made ends
          (on_ok_weaker made (λ follows w sound. follows w) c.follow.ensures.made) c.follow.ensures.not_made;
      entered = change_follows change new is kept own dirty good leaves AreEntries c.commit_change-taken.new.entries c.follow-2.new.entries
          (λ on clean. let old = kept.ready on.0 on.1 in
          c.commit_change-taken.ensures.entries (subst (λ (s : StoreState _). IsTrue s.own → IsCurrentSchema s.conn.schema)
          (sym is) own on.0) old.holds (subst (λ s. IsCleanStore g.S.Store s → Good (kept_world g.S.Store s)) (sym is) good on) clean
          (c.self.invariant.entered on))
          made ends c.follow-2.ensures.made c.follow-2.ensures.not_made;
    }

pub returns : goal.returns
returns g c =
    let change = change_model c.args.change.now in
    let old = c.self.inside.conn in
    let new = c.commit_change-taken.new.conn in
    let is = c.self.view_is in
    let kept = c.self.invariant.kept in
    let own = c.in_default.ensures.own in
    let dirty = g.met.S.Store.shut_if_dirty new.store in
    let good = c.requires.good in
    let leaves = c.requires.leaves_good in
    let made = c.count_outcome-made.result in
    let ends = ends_told {D = IsTransition change} c.count_outcome-made.ensures.same c.commit_change-taken.ensures.ends in
    let keeps = change_keeps change new is kept own dirty good leaves made ends c.commit_change-taken.ensures.left in
    let call = change_call change new is kept own dirty good leaves c.count_outcome-made.new.faults
    (g.met.S.Store.settled new.store) made ends keeps in
    let here : IsTrue c.args.self.now.own → IsCurrentSchema old.schema =
    λ mine. subst (λ (s : StoreState _). IsCurrentSchema s.conn.schema) (sym is) (own mine) in
    record {
      changes = record {
        uses = call.uses;
        alive = call.alive;
        made = change_made change new is kept own dirty good leaves made ends;
        same = change_same change new is kept own dirty good leaves made ends;
        counts = search rules;
      };
      store = record { own = search rules; lasts = call.stays_open };
      tables = record {
        commits = λ mine. subst (λ (s : StoreState _). HasCleanDisk (state g.S.Store new)
            → OnOk made (Commits (IsTransition change) (state g.S.Store s.conn) (state g.S.Store new))) is (ends.ok (here mine));
        durable = λ mine. ends.durable (here mine);
        crash = λ mine. subst (λ (s : StoreState _). Survives (state g.S.Store s.conn) (state g.S.Store new)
            (IsAfter (IsTransition change) (state g.S.Store s.conn))) is
            (survives_weaker (state g.S.Store old) (state g.S.Store new) _ _ (λ clean db left. left (here mine)) ends.crash);
        left = change_left change new is kept own dirty good leaves (g.met.S.Store.settled old.store) ends.crash;
      };
    }
