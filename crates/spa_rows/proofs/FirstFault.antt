-- The faults one after another: what a refusal says, and what is known once there is none.
use Rattle.spa_rows.proofs.Base.{◌≡◌, ℕ, ◌+◌, ◌<◌, Option, Some, None, Ok, Err, refl, sym, ◌∙◌, ap, arith}
use Rattle.spa_rows.proofs.Base.{if◌then◌else◌, false≢true, Rows, IsLeastOf, HasFault, HasNoneBefore, IsFirstFault}
use Rattle.spa_rows.proofs.Base.{IsRefusal, number_of, InstanceFault, TooMany, BadKey, KeyTwice, BadCapacity}
use Rattle.spa_rows.proofs.Base.{NoSuchLecturer, NoSuchProject, RepeatInList, ListTooLong, NotApplicant}
use Rattle.spa_rows.proofs.Base.{ApplicantMissing, Memory, rules, Result, IsOk, IsErrAnd, OnOk, IfErr, MatchOption}
use Rattle.spa_rows.proofs.Base.{◌==◌}
use Rattle.spa_rows.specs.declared.faults.BadInstance.{BadInstance}

fault_at : ℕ → InstanceFault
fault_at n = if n == 1 then TooMany else
    (if n == 2 then BadKey else (if n == 3 then KeyTwice
    else (if n == 4 then BadCapacity else (if n == 5 then NoSuchLecturer
    else (if n == 6 then NoSuchProject else (if n == 7 then RepeatInList
    else (if n == 8 then ListTooLong else (if n == 9 then NotApplicant else (if n == 10 then ApplicantMissing else Memory)))))))))

back : (f : InstanceFault) → fault_at (number_of f) ≡ f
unfolding fault_at
back TooMany = refl
back f = refl

-- two faults of one number are one
pub same_number : (f g : InstanceFault) → number_of f ≡ number_of g → f ≡ g
same_number f g e = sym (back f) ∙ ap fault_at e ∙ back g

-- no row has this fault either
pub none_before_next : (rows : Rows) (fault next : InstanceFault) → number_of next ≡ number_of fault + 1
    → HasNoneBefore rows fault → IsLeastOf (HasFault rows fault) None → HasNoneBefore rows next
none_before_next rows fault next step before none f below q has = search (rules, same_number)

-- a fault that is the first is a refusal
pub refusal_first : (rows : Rows) (fault : InstanceFault) (r : ℕ) → IsFirstFault rows fault r → IsRefusal rows fault r
refusal_first rows Memory r first = absurd first.here
refusal_first rows fault r first = first

module _ (rows : Rows) (fault : InstanceFault) where
  -- where the one fault is refused, it is the first
  pub refuse_err : {X : Type 0} (row : Option ℕ) (result : Result X BadInstance)
      → MatchOption row (IsOk result) (λ r. result ≡ Err (record { fault = fault; row = r })) → HasNoneBefore rows fault
      → IsLeastOf (HasFault rows fault) row → IfErr result (λ e. IsRefusal rows e.fault e.row)
  refuse_err None (Ok x) told before least = tt
  refuse_err None (Err e) told before least = absurd (false≢true told)
  refuse_err (Some r) (Ok x) told before least = tt
  refuse_err (Some r) (Err e) told before least = search (rules, refusal_first)

  -- where it is not, no row has it
  pub refuse_ok : {X : Type 0} (next : InstanceFault) (row : Option ℕ) (result : Result X BadInstance)
      → number_of next ≡ number_of fault + 1
      → MatchOption row (IsOk result) (λ r. result ≡ Err (record { fault = fault; row = r })) → HasNoneBefore rows fault
      → IsLeastOf (HasFault rows fault) row → OnOk result (HasNoneBefore rows next)
  refuse_ok next None (Ok x) step told before least = none_before_next rows fault next step before least
  refuse_ok next None (Err e) step told before least = tt
  refuse_ok next (Some r) (Ok x) step told before least = absurd (cc)
  refuse_ok next (Some r) (Err e) step told before least = tt

positive : (f : InstanceFault) → 0 < number_of f
positive TooMany = omega arith
positive f = omega arith

-- no fault stands before the first
pub none_before_first : (rows : Rows) → HasNoneBefore rows TooMany
none_before_first rows f below = absurd (omega (arith, below, positive f))

-- an error handed on as it was
pub handed_on : {X E : Type 0} (result : Result X E) (y : E) (P : E → Type 0) → IsErrAnd result (λ e. e ≡ y) → P y
    → IfErr result P
handed_on (Ok x) y P is h = tt
handed_on (Err e) y P is h = rw is h
