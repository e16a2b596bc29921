-- What `all` tells of a slice, where the closure tells whether a fact holds.
use Rattle.portal_list.proofs.Base.{◌≡◌, ℕ, ◌<◌, Bool, true, false, List, [], ◌∷◌, length, refl, arith, suc}
use Rattle.portal_list.proofs.Base.{AllByRecursion, Option, all_at, at_place, IsTrue, ◌↔◌, false≢true, iff_false}
use Rattle.std.specs.Bool.{MatchBool}
use Rattle.std.specs.Fn.{Called}
use Rattle.std.specs.Iterator.{YieldsThen}
use Rattle.std.specs.List.{FoldsTo, AllWithin, HoldsAt}
use Rattle.std.specs.Option.{MatchOption}
use Rattle.std.proofs.lemmas.Iterator.{YieldsList, cases_from_all}
use denote.Param.Members.{Mut}

-- a test of each item by a closure that tells whether P holds
pub all_decided : {S A B F : Type 0} {steps : S → Option A → S → Type 0} {v : A → B} {g : Mut F (A × Unit {0}) Bool} {s : S} {all : List B}
    (u : S) (f : F) (r : Bool) (P : B → Type 0)
    → (xs : List A) × (o : Option A) × (j : F) × YieldsThen steps s xs o u × FoldsTo (λ p x q. Called g p (x, tt) true q) f xs j
    × MatchOption o (r ≡ true) (λ x. (r ≡ false) × ((h : F) × Called g j (x, tt) false h))
    → YieldsList steps v s all → ((x : A) (b : Bool) (q : F) → Called g f (x, tt) b q → (q ≡ f) × (IsTrue b ↔ P (v x)))
    → IsTrue r ↔ AllByRecursion P all
all_decided {B = B} {v = v} {all = all} u f r P ran chain tells =
    decided r (cases_from_all u f r P (λ y. P y → ⊥) ran chain (λ x q call. ((tells x true q call).0, (tells x true q call).1.0 refl))
    (λ x q call. iff_false (tells x false q call).1 refl))
  where
    each : (xs : List B) → AllWithin P xs 0 (length xs) → AllByRecursion P xs
    each [] h = tt
    each (x ∷ xs) h = (h 0 x (omega arith) (omega arith), each xs (λ k d low high. h (suc k) d (omega arith) (omega arith)))

    decided : (b : Bool)
        → MatchBool b (AllWithin P all 0 (length all)) ((k : ℕ) × (k < length all) × HoldsAt (λ y. P y → ⊥) all k)
        → IsTrue b ↔ AllByRecursion P all
    decided true h = (λ _. each all h, λ _. refl)
    decided false (k, low, fails) = (
      λ e. absurd (false≢true e),
      λ holds. let x = at_place all k low in
          absurd (fails x.0 (all_at P all k x.0 holds low)),
    )
