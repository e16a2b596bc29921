use Rattle.portal_rules.proofs.Named as named
use Rattle.portal_rules.proofs.laws.named_by_code.Goals as goal

pub returns : goal.returns
returns c = record {
  office = λ w good. named.office_named w good.sound;
  lecturers = λ w good. named.lecturers_named w good.sound;
  students = λ w good. named.students_named w good.sound;
  others = λ w code good. named.others_named w good.sound code;
}
