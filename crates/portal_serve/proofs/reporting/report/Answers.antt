use Rattle.portal_serve.proofs.Base.{subst, IsOfficeReport}
use Rattle.std.proofs.lemmas.Result.{IfOk-weaker}
use Rattle.portal_serve.proofs.Seen.{told_is}
use Rattle.portal_serve.proofs.reporting.report.Goals as goal

pub returns-clause-text : goal.returns-clause-text
returns-clause-text g c =
    IfOk-weaker c.report_for.result _ _
    (λ text h on good. told_is (g.K.Keeper.state c.args.keeper.now).world c.as_bytes.result.now text.items
    (subst (λ v. IsOfficeReport v text.items) (c.in_ok-view.ensures.shown on good) h)) c.report_for.ensures.text
