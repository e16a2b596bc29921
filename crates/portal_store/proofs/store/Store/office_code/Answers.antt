use Rattle.portal_store.proofs.Base.{◌∙◌, AreEntries, IsCacheOf, ap, kept_world, reads_both, rules, subst}
use Rattle.portal_store.proofs.Base.{sym}
use Rattle.portal_store.proofs.Base.{IsCleanStore, StoreState, state, ◌≡◌, Good, HasGoodWorldIn, MatchResult-weaker}
use Rattle.std.specs.Prelude.{IfErr}
use Rattle.portal_rules.specs.declared.keeper.KeepFault.TheVariants as keep
use Rattle.portal_tables.specs.Reads.{HasReason}
use Rattle.portal_tables.proofs.InTurn.{if_answered}
use Rattle.portal_store.proofs.Rounds.{world_told}
use Rattle.portal_store.proofs.Reasons.{counted_reason}
use Rattle.portal_store.proofs.Ended.{told_if}
use Rattle.portal_store.proofs.Keeps.{read_by}
use Rattle.portal_store.proofs.store.Store.office_code.Goals as goal

pub invariant_of-self-2 : goal.invariant_of-self-2
invariant_of-self-2 g c =
    let new = c.office_code-code.new.conn in
    let read = read_by new c.self.view_is c.self.invariant.kept c.in_default.ensures.own (g.met.S.Store.shut_if_dirty new.store)
    (reads_both c.office_code-code.ensures) in
    record {
      kept = read.kept;
      shown = λ on. subst (IsCacheOf c.self.inside.cache) (sym (read.world on)) (c.self.invariant.shown (read.was on));
      entered = λ on. subst (AreEntries c.self.inside.entries) (sym (read.world on)) (c.self.invariant.entered (read.was on));
    }

pub returns : goal.returns
returns g c =
    let new = c.office_code-code.new.conn in
    let code = c.office_code-code.result in
    let told = c.count_outcome.ensures.same in
    let read = read_by new c.self.view_is c.self.invariant.kept c.in_default.ensures.own (g.met.S.Store.shut_if_dirty new.store)
    (reads_both c.office_code-code.ensures) in
    let call = read.call c.count_outcome.new.faults (g.met.S.Store.settled new.store) c.count_outcome.result told in
    record {
      looks = record { uses = call.uses; same = read.same; counts = search rules };
      alive = call.alive;
      code = λ on. told_if _ code c.count_outcome.result told
          (if_answered code _ _ _ (read.told (λ holds was. holds.1.sound) on)
          (λ code is_code. is_code ∙ ap (λ s. (kept_world g.S.Store s).office) c.self.view_is));
      reason = λ on good clean.
          let was = subst (λ s. IsCleanStore g.S.Store s) (sym c.self.view_is) on in
          let holds = (c.self.invariant.kept.ready was.0 was.1).holds in
          let said = (reads_both c.office_code-code.ensures).told holds.1.current holds.1.sound clean in
          let here = subst (λ s. Good (kept_world g.S.Store s)) (sym c.self.view_is) good in
          subst (λ (s : StoreState g.row.S.Denot). IfErr c.count_outcome.result
          (λ fault. fault ≡ keep.Store → HasReason (state g.S.Store s.conn) (state g.S.Store new))) c.self.view_is
          (counted_reason (HasReason (state g.S.Store c.self.inside.conn) (state g.S.Store new)) code c.count_outcome.result _
          (HasGoodWorldIn holds.0 (state g.S.Store c.self.inside.conn).now.trees)
          (record {
            office = holds.1.office;
            second = holds.1.second;
            whole = holds.1.whole;
            good = subst Good (world_told holds.0 (state g.S.Store c.self.inside.conn).now.trees holds.1.second) here;
          })
          ((reads_both c.office_code-code.ensures).reason holds.1.current clean)
          (MatchResult-weaker code said (λ v x. x) (λ fault no. no holds.0)) told c.count_outcome.ensures.other);
      store = record { own = search rules; lasts = call.stays_open };
    }
