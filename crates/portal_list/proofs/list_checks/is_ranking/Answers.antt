use Rattle.portal_list.proofs.Base.{false≢true, length-map, rules}
use Rattle.portal_list.proofs.Pigeons.{ranking_long, ranking_so}
use Rattle.portal_list.proofs.list_checks.is_ranking.Goals as goal

pub returns-then-ranking-applicants : goal.returns-then-ranking-applicants
returns-then-ranking-applicants c = search (rules, false≢true, ranking_long, length-map)

pub returns : goal.returns
returns c = search (rules, ranking_so, length-map)
