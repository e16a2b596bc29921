use Rattle.portal_list.proofs.Base.{List, ◌∷◌, [], ◌++◌, map, take, ◌∙◌, ap, sym, map_push, Key, applicant_keys}
use Rattle.portal_rules.proofs.Growing.{grown}
use Rattle.portal_list.proofs.changes.fill.fills_from.Goals as goal

pub loop-lecturer-preserved : goal.loop-lecturer-preserved
loop-lecturer-preserved c =
    let fill : Key → Key × List Key = λ k. (k, applicant_keys c.args.projects.now c.args.wanted.now k) in
    let i = c.loop-lecturer.lecturer-index in
    ap (map {B = Key × List Key} (λ f. (f.0, f.1.items))) c.in_ok-push.ensures.items
    ∙ map_push {Y = Key × List Key} (λ f. (f.0, f.1.items)) c.loop-lecturer.fills.items _
    ∙ (λ j. c.loop-lecturer.invariant j ++ (c.in_ok-copy.ensures j, c.in_ok-keys.ensures j) ∷ [])
    ∙ sym (ap (map fill) (grown c.args.lecturers.now i c.lecturer-item.result c.loop-lecturer-test.true (sym c.lecturer-item.is))
    ∙ map_push fill (take i c.args.lecturers.now) c.lecturer-item.result)
