use Rattle.portal_answer.proofs.Base.{◌≡◌, ◌∙◌, ◌++◌, ap, rules, codes, append_assoc, decimal, refusal}
use Rattle.portal_answer.proofs.refusal.bad_field.Goals as goal

pub returns : goal.returns
returns c =
    let written : c.into_bytes-text.result.items
    ≡ codes "refused bad_field row " ++ (decimal c.args.row ++ (codes " column " ++ (decimal c.args.column ++ codes "\n"))) =
    search (rules, append_assoc) in
    ap refusal (written ∙ simp append_assoc)
