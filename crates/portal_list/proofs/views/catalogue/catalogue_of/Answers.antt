use Rattle.portal_list.proofs.Base.{map_same, rules}
use Rattle.portal_list.proofs.Listings.{offered_rows}
use Rattle.portal_list.proofs.views.catalogue.catalogue_of.Goals as goal

pub returns-in-First : goal.returns-in-First
returns-in-First c = search (rules, offered_rows)

pub returns-in_ok-left-in-Second : goal.returns-in_ok-left-in-Second
returns-in_ok-left-in-Second c = search (rules, map_same, offered_rows)
