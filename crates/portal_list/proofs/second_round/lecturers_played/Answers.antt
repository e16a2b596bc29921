use Rattle.portal_list.proofs.Base.{IfOk-weaker, rules, lecturer_played}
use Rattle.portal_list.proofs.second_round.lecturers_played.Goals as goal

pub returns : goal.returns
returns c = IfOk-weaker c.try_filter_map.result _ _
    (λ v made. made (lecturer_played c.args.projects.now c.args.pairs.now) (λ x o h. search rules)) c.try_filter_map.ensures
