-- For each other order within the lists of a run there is a run with the same replies.
use Rattle.portal_rules.proofs.Base.{List, [], ◌∷◌, AllByRecursion, AllZip, Wish, Request, SameWish, Equal, Sets}
use Rattle.portal_rules.proofs.Base.{SameRequest}
use Rattle.portal_rules.proofs.Disclosed.{places_unseen}
use Rattle.portal_core.specs.Replies.{HasReply}
use Rattle.portal_core.specs.Unseen.{OrderUndeducible}
use Rattle.portal_core.proofs.Going.{run_there, run_only}

same_has : (p q : Wish) → SameWish p q → HasReply p → HasReply q
same_has _ _ (Equal wish) has = has
same_has _ _ (Sets reordered) has = tt

all_have : (asked others : List Request) → AllZip SameRequest asked others → AllByRecursion (λ r. HasReply r.wish) asked
    → AllByRecursion (λ r. HasReply r.wish) others
all_have [] [] z all = tt
all_have [] (r ∷ rs) z all = absurd z
all_have (q ∷ qs) [] z all = absurd z
all_have (q ∷ qs) (r ∷ rs) z all = (same_has q.wish r.wish z.0.wish all.0, all_have qs rs z.1 all.1)

pub order_undeducible : OrderUndeducible
order_undeducible v w asked others told after good same z run all =
    let other = run_there w others good (all_have asked others z (run_only v asked told after run all)) in
    (other.0, other.1, other.2, other.3, places_unseen v w asked others told other.0 after other.1 same z run all other.2 other.3)
