use Rattle.portal_list.proofs.Base.{◌≡◌, catalogue_in, List, [], map, Setup, Key, with_place, AllEntries, world_with}
use Rattle.portal_list.proofs.Base.{rules, catalogue_placed}
use Rattle.portal_list.proofs.keeper.ListKeeper.publish.Goals as goal

-- A result leaves the catalogue of a round as it was.
shown_placed : (e : AllEntries) (pairs : List (Key × Key))
    → catalogue_in (record e { students = map (with_place pairs) e.students }) ≡ catalogue_in e
shown_placed e pairs = catalogue_placed (world_with Setup [] e) pairs

pub invariant_of-self-2 : goal.invariant_of-self-2
invariant_of-self-2 c = search (rules, shown_placed)

pub returns-in_err-place-clause-same : goal.returns-in_err-place-clause-same
returns-in_err-place-clause-same c = search rules
