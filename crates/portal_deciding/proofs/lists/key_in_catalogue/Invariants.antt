use Rattle.portal_rules.proofs.Base.{◌≡◌, false, take, in_catalogue}
use Rattle.portal_deciding.proofs.lists.key_in_catalogue.Given as goal

abbrev pub invariant-loop-listing : goal.invariant-loop-listing
invariant-loop-listing l = in_catalogue (take l.listing-index l.catalogue) l.text ≡ false
