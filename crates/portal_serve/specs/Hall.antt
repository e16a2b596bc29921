-- The outcomes of the accepted connections, in order, and the report to the office.
use Rattle.std.specs.Prelude.{Bool, true, false, not, Result, Ok, Err, ◌≡◌, ◌≢◌, ◌≤◌, List, [], ◌∷◌, ◌++◌, length}
use Rattle.std.specs.Prelude.{count_by, All, ℕ, if◌then◌else◌}
use Rattle.portal_desk.specs.declared.served.Cause.{Cause}
use Rattle.portal_desk.specs.declared.served.Cause.TheVariants.{Store}
use Rattle.portal_desk.specs.declared.served.Served.{Served}
use Rattle.portal_desk.specs.declared.served.ServeFault.{ServeFault}
use Rattle.portal_serve.specs.declared.server.Outcome.{Outcome}
use Rattle.portal_serve.specs.declared.server.Hall.{Hall}
use Rattle.portal_serve.specs.declared.server.Ended.{Ended}
use Rattle.portal_serve.specs.declared.server.Ended.TheVariants.{Full, StoreFault}
use Rattle.portal_rules.specs.Calls.{OfficeSees}
use Rattle.portal_rules.specs.World.{has_result}
use Rattle.portal_rules.specs.Bodies.{result_text, line_feed}
use Rattle.portal_reports.specs.Status.{status_text}
use Rattle.portal_wire.specs.Conversation.{Exchange}
use Rattle.portal_rules.specs.Keeping.{KeeperState}
use Rattle.portal_desk.specs.Kept.{DeskState, Moves, Worked}

-- some requests of which this holds were served, whatever is known of their bytes
abbrev pub IsMovedBy : (List Exchange → Type 0) → KeeperState → KeeperState → Type 0
IsMovedBy Told old new = (es : List Exchange) × Moves old new es × Told es

abbrev pub is_store_cause : Cause → Bool
is_store_cause Store = true
is_store_cause _ = false

-- the cause is a fault of the connection or of memory, not of the store
abbrev pub is_own_fault : Result Served ServeFault → Bool
is_own_fault (Ok served) = false
is_own_fault (Err fault) = not (is_store_cause fault.cause)

abbrev pub is_store_fault : Result Served ServeFault → Bool
is_store_fault (Ok served) = false
is_store_fault (Err fault) = is_store_cause fault.cause

-- the desk has not failed by the end of the connection
pub record StillWorks (outcome : Outcome) : Type 0 where
  pub working : outcome.failed ≡ false
  pub sound : is_store_fault outcome.ended ≡ false

-- after a fault of the store the desk has failed at the last outcome alone, otherwise at none
abbrev pub EndsBy : Ended → List Outcome → Type 0
EndsBy StoreFault outcomes =
    (before : List Outcome) × (last : Outcome) × (outcomes ≡ before ++ last ∷ []) × All StillWorks before
    × (last.failed ≡ true)
EndsBy _ outcomes = All StillWorks outcomes

-- the hall counts one outcome for each accepted connection, and those with a fault of their own
pub record CountsOutcomes (hall : Hall) (outcomes : List Outcome) : Type 0 where
  pub accepted : hall.accepted ≡ length outcomes
  pub faults : hall.faults ≡ count_by (λ outcome. is_own_fault outcome.ended) outcomes
  pub ends : EndsBy hall.ended outcomes

-- what serving up to `most` connections on a desk did, with this result
pub record ServesHall {K : Type 0} (state : K → KeeperState) (hall : Hall) (most : ℕ) (old new : DeskState K) : Type 0 where
  pub worked : Worked state old new
  -- as many connections are faulty as were accepted, or fewer
  pub faults : hall.faults ≤ hall.accepted
  -- and no more were accepted than were asked for
  pub accepted : hall.accepted ≤ most
  -- `Full` means all of them
  pub full : hall.ended ≡ Full → hall.accepted ≡ most
  -- `StoreFault` means that the desk has failed
  pub store : hall.ended ≡ StoreFault → new.failed ≡ true
  -- any other end leaves it as it was
  pub calm : hall.ended ≢ StoreFault → new.failed ≡ old.failed
  -- and a desk that had failed takes no connection then
  pub shut : hall.ended ≢ StoreFault → new.failed ≡ true → hall.accepted ≡ 0

-- the report: the state of the round and, once there is a result, an empty line and the result
abbrev pub office_report : OfficeSees → List ℕ
office_report v = status_text v ++ (if has_result v.round v.phase then line_feed ++ result_text v else [])
