use Rattle.portal_list.proofs.Base.{rules, arith, common_steps, ◌∙◌, ap, map, option_map}
use Rattle.portal_list.proofs.Fitting.{next_map, rest_map, students_step}
use Rattle.portal_list.proofs.joining.student_entries.Goals as goal

pub returns-in_default : goal.returns-in_default
returns-in_default c = search rules

pub returns-in_default-earlier_for : goal.returns-in_default-earlier_for
returns-in_default-earlier_for c = search rules

pub loop-row-preserved : goal.loop-row-preserved
loop-row-preserved c =
    students_step c.args.round c.loop-row.entries.items c.push.new.self.items c.in-Some.row _ _
    (map (λ x. (x.0, x.1.items)) c.loop-row.choices.items) (map (λ x. (x.0, x.1.items)) c.take_for.new.rest.items)
    c.loop-row.pairs.items c.take_for-placed.new.rest.items
    (map (λ x. (x.0, x.1.items)) c.loop-row.earlier_choices.items) (map (λ x. (x.0, x.1.items)) c.earlier_for.new.rest.items)
    c.loop-row.earlier_pairs.items c.take_for-earlier_placement.new.rest.items
    c.in-Some-take_for.choice.items c.take_for-placed.result c.in-Some-earlier_for.earlier_choice.items c.take_for-earlier_placement.result
    _
    c.loop-row.invariant c.in-Some.ensures.steps.0
    (ap (map (λ x. (x.0, x.1.items))) c.take_for.ensures.left ∙ rest_map (λ v. v.items) c.in-Some.row.key c.loop-row.choices.items)
    c.take_for-placed.ensures.left
    c.earlier_for.ensures.left
    c.take_for-earlier_placement.ensures.left
    (ap (option_map (λ v. v.items)) c.in-Some-take_for.ensures.taken ∙ next_map (λ v. v.items) c.in-Some.row.key c.loop-row.choices.items)
    c.take_for-placed.ensures.taken
    c.in-Some-earlier_for.ensures.taken
    c.take_for-earlier_placement.ensures.taken
    c.in_ok-push.ensures.items

pub returns : goal.returns
returns c = grind (arith, common_steps)
