use Rattle.spa_model.proofs.Base.{◌∙◌, ap}
use Rattle.spa_model.proofs.Keys.{has_key}
use Rattle.spa_model.proofs.build.numbers.numbered_project.Goals as goal

pub returns : goal.returns
returns c = record {
  key = c.in_ok-key_of.ensures ∙ c.deref-2.ensures.value ∙ ap (λ x. x.key) c.line.view_is;
  capacity = ap (λ x. x.capacity) c.line.view_is;
  lecturer = has_key (λ x. x.key) c.args.lecturers.now c.in-Some.number c.args.line.now.lecturer c.in-Some.ensures.found.0
      (λ d. c.in-Some.ensures.found.1 d ∙ c.deref.ensures.value ∙ ap (λ x. x.lecturer) c.line.view_is);
}
