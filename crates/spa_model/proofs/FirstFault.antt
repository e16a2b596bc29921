-- The fault of the least number.
use Rattle.spa_model.proofs.Base.{◌≡◌, ℕ, ◌+◌, ◌<◌, cond, eqb, List, Option, Some, None, refl, arith, Pair, IsLeastOf}
use Rattle.spa_model.proofs.Base.{MatchingFault, NoSuchStudent, NoSuchProject, NotAcceptable, StudentTwice, ProjectOver}
use Rattle.spa_model.proofs.Base.{LecturerOver, Spa, HasNone, AreSound, rules, HasPairFault, number_of_pair_fault}
use Rattle.spa_model.proofs.Base.{IsPairRefusal}
use Rattle.spa_model.specs.declared.matching.MatchingFault.TheVariants.{Memory}

-- the fault with a number
abbrev pub fault_of : ℕ → MatchingFault
fault_of n = cond (eqb n 1) NoSuchStudent
    (cond (eqb n 2) NoSuchProject (cond (eqb n 3) NotAcceptable
    (cond (eqb n 4) StudentTwice (cond (eqb n 5) ProjectOver (cond (eqb n 6) LecturerOver Memory)))))

pub fault_of-number : (f : MatchingFault) → fault_of (number_of_pair_fault f) ≡ f
fault_of-number NoSuchStudent = refl
fault_of-number fault = refl

-- no row has a fault of a number below n
abbrev pub NoneBelow : Spa → List Pair → ℕ → Type 0
NoneBelow i lines n = (f : MatchingFault) → number_of_pair_fault f < n → HasNone i lines f

pub none_below_one : (i : Spa) (lines : List Pair) → NoneBelow i lines 1
none_below_one i lines NoSuchStudent h = absurd (omega arith)
none_below_one i lines fault h = absurd (omega arith)

-- nor the next one, where none is told
pub none_below_more : (i : Spa) (lines : List Pair) (fault : MatchingFault) (row : Option ℕ)
    → NoneBelow i lines (number_of_pair_fault fault) → IsLeastOf (HasPairFault i lines fault) row → row ≡ None
    → NoneBelow i lines (number_of_pair_fault fault + 1)
none_below_more i lines fault row below least told f h = search (rules, fault_of-number)

-- the first fault is told
pub first_fault : (i : Spa) (lines : List Pair) (fault told : MatchingFault) (row : Option ℕ) (r : ℕ)
    → NoneBelow i lines (number_of_pair_fault fault) → IsLeastOf (HasPairFault i lines fault) row
    → (told ≡ fault) × (row ≡ Some r) → IsPairRefusal i lines told r
first_fault i lines fault told row r below least e = rw e.0 (by_fault fault below (rw e.1 at least))
  where
    by_fault : (f : MatchingFault) → NoneBelow i lines (number_of_pair_fault f)
        → IsLeastOf (HasPairFault i lines f) (Some r) → IsPairRefusal i lines f r
    by_fault Memory b l = absurd l.0
    by_fault other b l = record { here = l.0; least = l.1; none_before = b }

-- there is none at all
pub sound_pairs : (i : Spa) (lines : List Pair) → NoneBelow i lines 7 → AreSound i lines
sound_pairs i lines below Memory = λ r h. h
sound_pairs i lines below fault = below fault (omega arith)
