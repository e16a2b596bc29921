use Rattle.std.proofs.lemmas.Iterator.{YieldsList-from_slice}
use Rattle.portal_list.proofs.Base.{rules}
use Rattle.portal_list.proofs.Decided.{all_decided}
use Rattle.portal_list.proofs.roll_checks.are_valid.Goals as goal

pub returns : goal.returns
returns g c = all_decided _ _ _ _ c.all.ensures.ran (YieldsList-from_slice c.args.rows.now (cc)) (λ x b q k. search rules)
