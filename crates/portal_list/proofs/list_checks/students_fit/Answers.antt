use Rattle.std.proofs.lemmas.Iterator.{YieldsList-from_slice}
use Rattle.portal_list.proofs.Base.{rules}
use Rattle.portal_list.proofs.Decided.{all_decided}
use Rattle.portal_list.proofs.list_checks.students_fit.Goals as goal

pub returns : goal.returns
returns c = all_decided _ _ _ _ c.all.ensures.ran (YieldsList-from_slice c.args.students.now (cc)) (λ x b q k. search rules)
