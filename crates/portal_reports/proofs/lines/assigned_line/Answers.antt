use Rattle.portal_reports.proofs.Base.{◌++◌, codes, decimal, append_assoc, said}
use Rattle.portal_reports.proofs.lines.assigned_line.Goals as goal

pub returns : goal.returns
returns c =
    said c.format.result (codes "assigned " ++ (decimal c.args.assigned ++ (codes " of " ++ (decimal c.args.students ++ codes "\n")))) _
    c.format.ensures.ok
    (simp append_assoc)
