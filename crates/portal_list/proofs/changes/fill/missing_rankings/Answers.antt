use Rattle.portal_list.proofs.Base.{◌≡◌, map, subst, IfOk-weaker, rules, missing}
use Rattle.portal_list.proofs.changes.fill.missing_rankings.Goals as goal

pub returns : goal.returns
returns c =
    IfOk-weaker c.try_map.result _ _ (λ v made. subst
    (λ ss. v.items ≡ map (missing c.args.projects.now ss) c.args.lecturers.now) c.in_ok-wanted.ensures
    (made (missing c.args.projects.now c.in_ok-wanted.wanted) (λ x o h. search rules))) c.try_map.ensures
