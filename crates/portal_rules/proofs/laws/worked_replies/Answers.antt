use Rattle.portal_rules.proofs.Base.{refl}
use Rattle.std.specs.Fmt.{digits}
use Rattle.portal_rules.proofs.laws.worked_replies.Goals as goal

pub returns : goal.returns
unfolding digits
returns c = record {
  applicants = record { to_lee = refl; in_another_order = refl; to_ann = refl; to_nobody = refl };
  moves = record { too_early = refl; published = refl };
  result = record { to_ann = refl; to_cyr = refl; csv = refl; text = refl };
  opening = record { opened = refl; catalogue = refl; to_ann = refl; to_cyr = refl };
}
