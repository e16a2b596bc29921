use Rattle.portal_rules.proofs.Base.{refl, caller}
use Rattle.portal_rules.proofs.Unseen.{others, struck}
use Rattle.portal_rules.proofs.Acts.{own_kept}
use Rattle.portal_rules.proofs.laws.others_unseen.Goals as goal

pub returns : goal.returns
returns c = record {
  others = others;
  own_list = λ w v c ask reply step calm. own_kept w v c (caller w c) refl ask calm step.left;
  struck = struck;
}
