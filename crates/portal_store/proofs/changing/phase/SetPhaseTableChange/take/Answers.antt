use Rattle.portal_store.proofs.Base.{does_more, made_more, made_goes}
use Rattle.portal_store.proofs.Holding.{phase_turns}
use Rattle.portal_store.proofs.changing.phase.SetPhaseTableChange.take.Goals as goal

pub returns : goal.returns
returns g c =
    does_more g.S.Store _ _ _ _ _ c.set_phase.ensures
    (λ made. made_goes _ _ _ (made_more _ _ _ _ made (phase_turns c.args.self.round c.args.self.phase _ _)))
