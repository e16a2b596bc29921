use Rattle.portal_words.proofs.Base.{IfOk-weaker}
use Rattle.portal_words.proofs.build.portal.Goals as goal

pub returns : goal.returns
returns c =
    let serve = c.in_ok-with_serve.ensures _ (c.in_ok-init.ensures _ c.in_ok-with_files.ensures) in
    let report = c.in_ok-report.ensures _ (c.in_ok-pipe.ensures _ serve) in
    IfOk-weaker c.with_database-4.result _ _ (λ m adds. adds _ report) c.with_database-4.ensures
