-- Lists without repeats that hold the same keys are as long as each other.
use Rattle.portal_list.proofs.Base.{◌≡◌, ◌+◌, ◌≤◌, Bool, true, false, cond, List, [], ◌∷◌, length, refl, arith}
use Rattle.portal_list.proofs.Base.{AllByRecursion, or-true, Key, equals, has, Rise, AreDistinct, IsRanking, is_same}
use Rattle.portal_list.proofs.Base.{is_own, all_weaker, all_both, none_of, rise_distinct}

-- the keys without the first that is k
without : Key → List Key → List Key
without k [] = []
without k (a ∷ as') = cond (equals k a) as' (a ∷ without k as')

length_without : (k : Key) (ks : List Key) → has ks k ≡ true → length (without k ks) + 1 ≡ length ks
unfolding without
length_without k [] h = cc
length_without k (a ∷ ks) h = grind (arith, length_without k ks)

has_without : (k x : Key) (ks : List Key) → equals k x ≡ false → has ks x ≡ true → has (without k ks) x ≡ true
unfolding without
has_without k x [] other h = h
has_without k x (a ∷ ks) other h = grind (arith, has_without k x ks other, is_same x a, is_same k a, is_own k)

pub fits : (ks all : List Key) → AreDistinct ks → AllByRecursion (λ k. has all k ≡ true) ks → length ks ≤ length all
fits [] all once known = omega arith
fits (k ∷ ks) all once known =
    let left : AllByRecursion (λ x. has (without k all) x ≡ true) ks =
    all_weaker (λ x. (equals k x ≡ false) × (has all x ≡ true)) (λ x. has (without k all) x ≡ true)
    (λ x h. has_without k x all h.0 h.1) ks (all_both (λ x. equals k x ≡ false) (λ x. has all x ≡ true) ks
    (none_of ks k once.0) known.1) in
    omega (arith, fits ks (without k all) once.1 left, length_without k all known.0)

-- each key of a list is on it
own : (front ks : List Key) → AllByRecursion (λ k. has ks k ≡ true) ks
own front [] = tt
own front (k ∷ ks) = (
  rw (is_own k) refl,
  all_weaker (λ x. has ks x ≡ true) (λ x. has (k ∷ ks) x ≡ true) (λ x h. rw h (or-true (equals x k))) ks (own front ks),
)

pub all_on : (ks all : List Key) → AreDistinct ks → AllByRecursion (λ k. has all k ≡ true) ks → length all ≤ length ks
    → AllByRecursion (λ a. has ks a ≡ true) all
all_on ks all once known long = all_weaker (λ a. has all a ≡ true) (λ a. has ks a ≡ true) (λ a h. at a (has ks a) refl h) all (own [] all)
  where
    at : (a : Key) (b : Bool) → has ks a ≡ b → has all a ≡ true → b ≡ true
    at a true e h = refl
    at a false e h = absurd (omega (arith, fits (a ∷ ks) all (e, once) (h, known)))

pub ranking_long : (all r : List Key) → Rise all → IsRanking all r → length r ≡ length all
ranking_long all r rise is_r = omega (arith, fits r all is_r.once is_r.only, fits all r (rise_distinct all rise) is_r.all)

pub ranking_so : (all r : List Key) → length r ≡ length all → AllByRecursion (λ k. has all k ≡ true) r → AreDistinct r
    → IsRanking all r
ranking_so all r long only once = record { all = all_on r all once only (omega arith); only = only; once = once }
