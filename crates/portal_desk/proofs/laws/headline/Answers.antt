use Rattle.portal_desk.proofs.Promised as promised
use Rattle.portal_desk.proofs.laws.headline.Goals as goal

pub returns : goal.returns
returns g c = λ k sessions served.
    promised.headline c.run_good.ensures c.published_best.ensures.step c.published_best.ensures.run g.K.Keeper.state
    k sessions served
