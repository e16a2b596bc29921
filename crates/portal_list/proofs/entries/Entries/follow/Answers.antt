use Rattle.portal_list.proofs.Base.{length-map, rules, take_at}
use Rattle.portal_list.proofs.Followed.{list_followed, ranking_followed, fill_followed}
use Rattle.portal_list.proofs.entries.Entries.follow.Goals as goal

pub returns-in_ok-replace_list-in-Choices-clause-made : goal.returns-in_ok-replace_list-in-Choices-clause-made
returns-in_ok-replace_list-in-Choices-clause-made c done w sound e = search (rules, take_at, length-map, list_followed)

pub returns-in_ok-replace_list-in-Ranking-clause-made : goal.returns-in_ok-replace_list-in-Ranking-clause-made
returns-in_ok-replace_list-in-Ranking-clause-made c done w sound e = search (rules, take_at, length-map, ranking_followed)

pub returns-in_ok-fill_rankings-in-Fill-clause-made : goal.returns-in_ok-fill_rankings-in-Fill-clause-made
returns-in_ok-fill_rankings-in-Fill-clause-made c done w sound e = search (rules, take_at, length-map, fill_followed)
