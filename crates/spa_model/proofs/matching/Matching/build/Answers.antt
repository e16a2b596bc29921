use Rattle.spa_model.proofs.Base.{◌∙◌, subst, HasPairs, rules}
use Rattle.spa_model.proofs.AssignedPairs.{known_pairs, apart_pairs, has_pairs, is_matching}
use Rattle.spa_model.proofs.matching.Matching.build.Goals as goal

pub assigned_projects-requires-clause-known : goal.assigned_projects-requires-clause-known
assigned_projects-requires-clause-known c = search (rules, known_pairs)

pub assigned_projects-requires-clause-apart : goal.assigned_projects-requires-clause-apart
assigned_projects-requires-clause-apart c = search (rules, apart_pairs)

pub returns-clause-ok : goal.returns-clause-ok
returns-clause-ok c =
    let pairs : HasPairs c.args.instance.now c.args.pairs.items c.in_ok-own.own.items =
    subst (λ lines. HasPairs c.args.instance.now lines c.in_ok-own.own.items) c.as_slice-lines.ensures.value
    (has_pairs c.args.instance.now c.as_slice-lines.result.now c.deref-3.result.now c.deref-4.result.now c.in_ok-own.own.items
    c.students.ensures.lawful c.in_ok-check_pairs.ensures.ok
    (c.deref-3.ensures.value ∙ c.in_ok-students.ensures) (c.deref-4.ensures.value ∙ c.in_ok-projects.ensures)
    (rw c.students.ensures.count at c.in_ok-own.ensures)) in
    record { pairs = pairs; fits = search (rules, is_matching); sound = search rules }
