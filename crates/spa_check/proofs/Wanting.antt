-- What a student wants, as a front of the student's list.
use Rattle.spa_check.proofs.Base.{◌≡◌, ◌↔◌, ◌⊎◌, ℕ, ◌+◌, ◌<◌, ◌≤◌, false, eqb, List, [], ◌∷◌, length, take, get_or}
use Rattle.spa_check.proofs.Base.{Option, Some, None, refl, sym, ◌∙◌, ap, arith, Contains, position, get_or_default}
use Rattle.spa_check.proofs.Base.{Spa, Wants, choices_of, project_of, place, rules, zero, suc, Bool, true, not, cond}
use Rattle.spa_check.proofs.Base.{ltb, nat_le, position_or_len, filter, ltb-false, le-leb, leb-true, length-take-le}
use Rattle.spa_check.proofs.Base.{get_or-take, take_all, All-contains, All-contains_itself, All-filter, filter_passes}
use Rattle.spa_check.proofs.Base.{Improves, IsAcceptable, not_below, IsLeastIn}
use Rattle.spa_model.proofs.Places.{place-get_or-le, get_or-place, place-le-length}

-- the first place that holds x
pub place-position : (xs : List ℕ) (x : ℕ) → position_or_len (λ y. eqb y x) xs ≡ place xs x
place-position [] x = refl
place-position (y ∷ xs) x = by_test (eqb y x) (place-position xs x)
  where
    by_test : (b : Bool) → position_or_len (λ z. eqb z x) xs ≡ place xs x
        → cond (not b) (1 + position_or_len (λ z. eqb z x) xs) 0 ≡ cond b 0 (1 + place xs x)
    by_test true e = refl
    by_test false e = ap (λ n. 1 + n) e

-- what stands on a front of a list has a place there
pub front_holds : (xs : List ℕ) (n p : ℕ) → n ≤ length xs → Contains (take n xs) p ↔ (place xs p < n)
front_holds xs n p h =
    let size : length (take n xs) ≡ n = length-take-le n xs h in (
      λ (k, below, at).
          let there : get_or xs k 0 ≡ p = get_or_default xs k 0 p (omega arith) ∙ sym (get_or-take n xs k p (omega arith)) ∙ at in
          let le : place xs p ≤ k = rw there at (place-get_or-le xs k 0 (omega arith)) in
          omega arith,
      λ below. (place xs p, omega arith, get_or-take n xs (place xs p) p below ∙ get_or-place xs p p (omega arith)),
    )

-- all of the list is wanted by who has no project
pub wanted_all : (i : Spa) (m : List (Option ℕ)) (s p : ℕ) → project_of m s ≡ None
    → Contains (choices_of i s) p ↔ Wants i m s p
wanted_all i m s p none = search (rules, front_holds, take_all)

-- what stands before the own project is wanted
pub wanted_front : (i : Spa) (m : List (Option ℕ)) (s own p : ℕ) → project_of m s ≡ Some own → IsAcceptable i s own
    → Contains (take (place (choices_of i s) own) (choices_of i s)) p ↔ Wants i m s p
wanted_front i m s own p has on =
    let front = front_holds (choices_of i s) (place (choices_of i s) own) p (place-le-length (choices_of i s) own) in (
      λ stands. let before : place (choices_of i s) p < place (choices_of i s) own = front.0 stands in
          (omega (arith, place-le-length (choices_of i s) own), rw has (before, on)),
      λ w. front.1 ((by_own (project_of m s) has w.1).0),
    )
  where
    by_own : (o : Option ℕ) → o ≡ Some own → Improves i s p o
        → (place (choices_of i s) p < place (choices_of i s) own) × (place (choices_of i s) own < length (choices_of i s))
    by_own o e h = rw e at h

-- what a search for the first place answers
pub place_found : (xs : List ℕ) (x k : ℕ) (r : Option ℕ) → r ≡ position (λ y. eqb y x) xs → r ≡ Some k → k ≡ place xs x
place_found xs x k r is some = by_test (ltb (position_or_len (λ y. eqb y x) xs) (length xs)) (sym some ∙ is)
  where
    by_test : (b : Bool) → Some k ≡ cond b (Some (position_or_len (λ y. eqb y x) xs)) None → k ≡ place xs x
    by_test true e = let same : k ≡ position_or_len (λ y. eqb y x) xs = cc in same ∙ place-position xs x
    by_test false e = absurd (cc)

pub place_none : (xs : List ℕ) (x : ℕ) (r : Option ℕ) → r ≡ position (λ y. eqb y x) xs → r ≡ None
    → length xs ≡ place xs x
place_none xs x r is none = by_test (ltb (position_or_len (λ y. eqb y x) xs) (length xs)) refl (sym none ∙ is)
  where
    by_test : (b : Bool) → ltb (position_or_len (λ y. eqb y x) xs) (length xs) ≡ b
        → None ≡ cond b (Some (position_or_len (λ y. eqb y x) xs)) None → length xs ≡ place xs x
    by_test true t e = absurd (cc)
    by_test false t e = omega (
      arith,
      ltb-false (position_or_len (λ y. eqb y x) xs) (length xs) t,
      place-position xs x,
      place-le-length xs x,
    )

-- what passes a test and is on a list is kept by a filter
in_filter : (test : ℕ → Bool) (xs : List ℕ) (q : ℕ) → Contains xs q → test q ≡ true → Contains (filter test xs) q
in_filter test [] q (k, h, e) t = absurd (omega arith)
in_filter test (x ∷ xs) q (zero, h, e) t = let kept : test x ≡ true = rw e t in rw kept (0, omega arith, e)
in_filter test (x ∷ xs) q (suc k, h, e) t = by_test (test x) (in_filter test xs q (k, omega arith, e) t)
  where
    by_test : (b : Bool) → Contains (filter test xs) q → Contains (cond b (x ∷ filter test xs) (filter test xs)) q
    by_test true (j, l, f) = (suc j, omega arith, f)
    by_test false has = has

-- what a filter keeps is on the list and passes
pub from_filter : (test : ℕ → Bool) (xs : List ℕ) (q : ℕ) → Contains (filter test xs) q
    → Contains xs q × (test q ≡ true)
from_filter test xs q has = (
  All-contains (Contains xs) (filter test xs) q (All-filter test (Contains xs) xs (All-contains_itself xs)) has,
  All-contains (λ y. test y ≡ true) (filter test xs) q (filter_passes test xs) has,
)

module _ (i : Spa) (m : List (Option ℕ)) (s from : ℕ) (list : List ℕ) (wanted : (q : ℕ) → Contains list q ↔ Wants i m s q) where
  -- what is wanted and not below is kept
  kept : (q : ℕ) → Wants i m s q → from ≤ q → Contains (not_below from list) q
  kept q w h = in_filter (λ p. nat_le from p) list q ((wanted q).1 w) (le-leb from q h)

  -- the least one is wanted
  pub least_wanted : (p : ℕ) → IsLeastIn (not_below from list) p → Wants i m s p × (from ≤ p)
  least_wanted p least =
      let there = from_filter (λ q. nat_le from q) list p least.0 in
      ((wanted p).0 there.0, leb-true from p there.1)

  -- nothing wanted lies between
  pub apart_from : (p : ℕ) → IsLeastIn (not_below from list) p → (q : ℕ) → Wants i m s q → (q < from) ⊎ (p ≤ q)
  apart_from p least q w = search (rules, kept)

  -- nothing wanted is left
  pub below_from : length (not_below from list) ≡ 0 → (q : ℕ) → Wants i m s q → q < from
  below_from nothing q w = search (rules, kept)
