-- The status of an answer is at most 2.
use Rattle.portal_answer.proofs.Base.{◌≡◌, ℕ, Bool, true, false, List, Option, Result, Ok, Err, refl, sym, subst, inl}
use Rattle.portal_answer.proofs.Base.{inr, arith, length, InstanceFault, File, rows, RollFault, Spa, Pair, Text, Output}
use Rattle.portal_answer.proofs.Base.{refused_instance, OfMatching, OfPairs, OfRead, IfLonger, IsAnswer, Task, Check}
use Rattle.portal_answer.proofs.Base.{Solve}
use Rattle.portal_answer.proofs.Base.{◌≤◌, ◌==◌, if◌then◌else◌, refused_file}
use Rattle.spa_rows.specs.declared.faults.InstanceFault.TheVariants as instance
use Rattle.portal_rolls.specs.declared.fault.RollFault.TheVariants as file

-- a told text of a known status
of_status : (t u : Output) (n : ℕ) → t ≡ u → u.status ≡ n → n ≤ 2 → t.status ≤ 2
of_status t u n e is small = let P : Output → Type 0 = λ x. x.status ≤ 2 in subst P (sym e) (omega arith)

file_status : (fault : RollFault) → (refused_file fault).status ≡ 2
file_status file.NoHeader = refl
file_status _ = refl

instance_status : (fault : InstanceFault) (row : ℕ) → (refused_instance fault row).status ≡ 2
instance_status instance.TooMany row = refl
instance_status _ row = refl

choice_status : (b : Bool) → (if b then 0 else 1) ≤ 2
choice_status true = omega arith
choice_status false = omega arith

tells_status : (task : Task) (i : Spa) (m : List (Option ℕ)) (t : Output) → OfMatching task i m t → t.status ≤ 2
tells_status Check i m t h = of_status t _ _ h.2 refl (choice_status (length h.0 == 0))
tells_status Solve i m t h = of_status t _ 0 h.2 refl (omega arith)

pairs_status : (task : Task) (i : Spa) (pairs : List Pair) (t : Output) → OfPairs task i pairs t → t.status ≤ 2
pairs_status task i pairs t h = elim h [
  | inl bad ↦ of_status t _ 2 bad.3 refl
      (omega arith)
  | inr good ↦ tells_status task i good.0 t good.2
]

read_status : (task : Task) (r : Result File RollFault) (t : Output) → OfRead task r t → t.status ≤ 2
read_status task (Err fault) t h = of_status t _ 2 h (file_status fault) (omega arith)
read_status task (Ok f) t h = elim h [
  | inl bad ↦ of_status t _ 2 bad.3 (instance_status bad.0 bad.1)
      (omega arith)
  | inr good ↦ pairs_status task good.0 f.pairs t good.2
]

longer_status : (task : Task) (b : Bool) (bytes : Text) (t : Output) → IfLonger task b bytes t → t.status ≤ 2
longer_status task true bytes t h = of_status t _ 2 h refl (omega arith)
longer_status task false bytes t h = read_status task (rows bytes) t h

pub answer_status : (task : Task) (bytes : Text) (t : Output) → IsAnswer task bytes t → t.status ≤ 2
answer_status task bytes t h = longer_status task _ bytes t h
