-- What does not depend on the order of a list.
use Rattle.portal_rules.proofs.Base.{◌≡◌, [], suc, Bool, false, List, ◌∷◌, length, refl, sym, ◌∙◌, ap, arith, None}
use Rattle.portal_rules.proofs.Base.{◌||◌, list_any, AllByRecursion, or_parts, Key, equals, has, is_empty, AreDistinct}
use Rattle.portal_rules.proofs.Base.{Listing, choice_fault, Reordered, Empty, Front, Turn, Chain}
use Rattle.portal_rules.proofs.AllLaws.{is_sym, or_swap}
use Rattle.portal_rules.proofs.ListFaults.{chosen, choice_taken}

pub any_reordered : (p : Key → Bool) (ks ls : List Key) → Reordered ks ls → list_any p ks ≡ list_any p ls
any_reordered p _ _ Empty = refl
any_reordered p _ _ (Front k r) = ap (λ b. p k || b) (any_reordered p _ _ r)
any_reordered p _ _ (Turn k l ks) = or_swap (p k) (p l) (list_any p ks)
any_reordered p _ _ (Chain r s) = any_reordered p _ _ r ∙ any_reordered p _ _ s

pub reordered_back : (ks ls : List Key) → Reordered ks ls → Reordered ls ks
reordered_back _ _ Empty = Empty
reordered_back _ _ (Front k r) = Front k (reordered_back _ _ r)
reordered_back _ _ (Turn k l ks) = Turn l k ks
reordered_back _ _ (Chain r s) = Chain (reordered_back _ _ s) (reordered_back _ _ r)

pub reordered_itself : (ks : List Key) → Reordered ks ks
reordered_itself [] = Empty
reordered_itself (k ∷ ks) = Front k (reordered_itself ks)

pub empty_reordered : (ks ls : List Key) → Reordered ks ls → is_empty ks ≡ is_empty ls
empty_reordered _ _ Empty = refl
empty_reordered _ _ (Front k r) = refl
empty_reordered _ _ (Turn k l ks) = refl
empty_reordered _ _ (Chain r s) = empty_reordered _ _ r ∙ empty_reordered _ _ s

pub length_reordered : (ks ls : List Key) → Reordered ks ls → length ks ≡ length ls
length_reordered _ _ Empty = refl
length_reordered _ _ (Front k r) = ap suc (length_reordered _ _ r)
length_reordered _ _ (Turn k l ks) = refl
length_reordered _ _ (Chain r s) = length_reordered _ _ r ∙ length_reordered _ _ s

pub all_reordered : (P : Key → Type 0) (ks ls : List Key) → Reordered ks ls → AllByRecursion P ks → AllByRecursion P ls
all_reordered P _ _ Empty all = tt
all_reordered P _ _ (Front k r) all = (all.0, all_reordered P _ _ r all.1)
all_reordered P _ _ (Turn k l ks) all = (all.1.0, (all.0, all.1.1))
all_reordered P _ _ (Chain r s) all = all_reordered P _ _ s (all_reordered P _ _ r all)

pub distinct_reordered : (ks ls : List Key) → Reordered ks ls → AreDistinct ks → AreDistinct ls
distinct_reordered _ _ Empty d = tt
distinct_reordered _ _ (Front k r) d = (sym (any_reordered (equals k) _ _ r) ∙ d.0, distinct_reordered _ _ r d.1)
distinct_reordered _ _ (Turn k l ks) d =
    let apart : (equals k l ≡ false) × (has ks k ≡ false) = or_parts (equals k l) (has ks k) d.0 in
    (ap (λ b. b || has ks l) (is_sym l k ∙ apart.0) ∙ d.1.0, (apart.1, d.1.1))
distinct_reordered _ _ (Chain r s) d = distinct_reordered _ _ s (distinct_reordered _ _ r d)

-- whether a list is taken does not depend on its order
pub accepted_reordered : (cat : List Listing) (ks ls : List Key) → Reordered ks ls → choice_fault cat ks ≡ None
    → choice_fault cat ls ≡ None
accepted_reordered cat ks ls r e =
    let (few, fit) = chosen cat ks e in
    let long = length_reordered ks ls r in
    choice_taken cat ls (omega arith)
    (record { only = all_reordered _ ks ls r fit.only; once = distinct_reordered ks ls r fit.once; new = all_reordered _ ks ls r fit.new })
