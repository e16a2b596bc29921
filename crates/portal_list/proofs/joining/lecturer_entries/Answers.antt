use Rattle.portal_list.proofs.Base.{◌∙◌, ap, map, option_map}
use Rattle.portal_list.proofs.Fitting.{next_map, rest_map, lecturers_step}
use Rattle.portal_list.proofs.joining.lecturer_entries.Goals as goal

pub loop-row-preserved : goal.loop-row-preserved
loop-row-preserved c =
    lecturers_step c.loop-row.entries.items c.push.new.self.items c.in-Some.row _ _
    (map (λ r. (r.0, r.1.items)) c.loop-row.rest.items) (map (λ r. (r.0, r.1.items)) c.take_for-ranking.new.rest.items)
    (map (λ r. (r.0, r.1.items)) c.loop-row.earlier.items) (map (λ r. (r.0, r.1.items)) c.take_for-earlier_ranking.new.rest.items)
    (option_map (λ v. v.items) c.take_for-ranking.result) (option_map (λ v. v.items) c.take_for-earlier_ranking.result) _
    c.loop-row.invariant c.in-Some.ensures.steps.0
    (ap (map (λ r. (r.0, r.1.items))) c.take_for-ranking.ensures.left ∙ rest_map (λ v. v.items) c.in-Some.row.key c.loop-row.rest.items)
    (ap (map (λ r. (r.0, r.1.items))) c.take_for-earlier_ranking.ensures.left
    ∙ rest_map (λ v. v.items) c.in-Some.row.key c.loop-row.earlier.items)
    (ap (option_map (λ v. v.items)) c.take_for-ranking.ensures.taken ∙ next_map (λ v. v.items) c.in-Some.row.key c.loop-row.rest.items)
    (ap (option_map (λ v. v.items)) c.take_for-earlier_ranking.ensures.taken
    ∙ next_map (λ v. v.items) c.in-Some.row.key c.loop-row.earlier.items)
    c.in_ok-push.ensures.items
