use Rattle.portal_store.proofs.Base.{sym, subst, IsCleanStore, LeavesConsistent}
use Rattle.portal_store.proofs.store.Store.into_connection.Goals as goal

pub returns-clause-kept : goal.returns-clause-kept
returns-clause-kept g c on =
    let here = subst (λ s. IsCleanStore g.S.Store s) (sym c.self.view_is) on in
    (c.self.invariant.kept.ready here.0 here.1).holds

pub returns-clause-left : goal.returns-clause-left
returns-clause-left g c = subst (λ s. LeavesConsistent g.S.Store s) c.self.view_is c.self.invariant.kept.left
