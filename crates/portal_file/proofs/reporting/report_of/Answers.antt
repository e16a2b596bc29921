use Rattle.std.proofs.Common.{sym, ap, subst, ◌∙◌}
use Rattle.portal_rules.specs.Good.{Good}
use Rattle.portal_rules.specs.View.{office_sees}
use Rattle.portal_desk.proofs.InTurn.{uses_then}
use Rattle.portal_serve.specs.Hall.{office_report}
use Rattle.portal_file.proofs.Base.{if_ok}
use Rattle.portal_file.proofs.reporting.report_of.Goals as goal

pub returns-in-Ok-clause-text : goal.returns-in-Ok-clause-text
returns-in-Ok-clause-text g c =
    if_ok c.report.result _ _
    (λ text is on good.
    let same = c.in-Ok.ensures.looks.same (c.report.ensures.uses.clean on) in
    is on (subst Good (sym same) good) ∙ ap (λ w. office_report (office_sees w)) same) c.report.ensures.text

pub returns-in-Ok-clause-uses : goal.returns-in-Ok-clause-uses
returns-in-Ok-clause-uses g c =
    uses_then c.in-Ok.office c.report.result _ _ _ _ _ c.in-Ok.ensures.looks.uses c.report.ensures.uses
    (λ clean w never. never)
