-- Refutes `respond` that answers and keeps nothing, keeps part, acts twice, answers always the same,
-- or changes the world with a 503; and a desk that fails without a count.
use Rattle.std.proofs.Common.{◌≡◌, ℕ, inl, inr, ◌⊎◌, true, false, List, [], ◌∷◌, length, refl, sym, ap, arith, subst}
use Rattle.std.specs.Prelude.{codes}
use Rattle.portal_rules.specs.Answer.{Answer, answered}
use Rattle.portal_rules.specs.Bodies.{projects_body, filled_body}
use Rattle.portal_rules.specs.Run.{Request, Calls, Serves, unavailable}
use Rattle.portal_rules.specs.Calls.{AbstractCall}
use Rattle.portal_rules.specs.Words.{Key}
use Rattle.portal_rules.specs.World.{World, Student, Choices, Fill, changed}
use Rattle.portal_rules.specs.examples.Worked.{listed}
use Rattle.portal_wire.specs.Conversation.{Exchange, Reaches}
use Rattle.portal_desk.specs.Kept.{Acted, FailsByCount, Moves}
use Rattle.portal_refuted.proofs.Keepers.{lists, broken, shut, empty, choosing}
use Rattle.portal_refuted.proofs.PortalDeciding.{value_in, size_in}

-- ---- Ann replaces her list of two projects by one or by two

abbrev wants : List Key → Request
wants list = record { code = codes "ann-code-1"; head = false; closes = false; wish = Calls (AbstractCall.SetChoices list) }

abbrev pub one : Request
one = wants (codes "P3" ∷ [])

abbrev pub told : Answer
told = answered 200 (projects_body (codes "P3" ∷ []))

abbrev after : World
after = changed choosing (Choices (codes "S1") (codes "P3" ∷ []))

abbrev size_of_first : List Student → ℕ
size_of_first [] = 0
size_of_first (s ∷ ss) = length s.choice

abbrev list_size : World → ℕ
list_size w = size_of_first w.students

pub kept_none : Serves choosing one told choosing → ⊥
kept_none (inl step) = omega (arith, ap list_size step.left)
kept_none (inr none) = omega (arith, ap (λ (a : Answer). a.status) none.0)

pub answered_list_that_is_not_kept_serves_nothing : Acted (lists choosing 0) (lists choosing 0) one told → ⊥
answered_list_that_is_not_kept_serves_nothing acted = kept_none (acted.serves tt)

pub list_without_its_last_serves_nothing : (a : Answer) → a.status ≡ 200
    → Acted (lists choosing 0) (lists after 0) (wants (codes "P3" ∷ codes "P1" ∷ [])) a → ⊥
list_without_its_last_serves_nothing a ok acted = elim (acted.serves tt) [
  | inl step ↦ omega (arith, ap list_size step.left)
  | inr none ↦ omega (arith, ok, ap (λ (b : Answer). b.status) none.0)
]

pub refusal_of_everything_serves_nothing : (a : Answer) → a.status ≡ 403
    → Acted (lists choosing 0) (lists choosing 0) one a → ⊥
refusal_of_everything_serves_nothing a refuses acted = elim (acted.serves tt) [
  | inl step ↦ omega (arith, refuses, ap (λ (b : Answer). b.status) step.told)
  | inr none ↦ omega (arith, refuses, ap (λ (b : Answer). b.status) none.0)
]

pub change_under_a_503_serves_nothing : Acted (lists choosing 0) (lists after 0) one unavailable → ⊥
change_under_a_503_serves_nothing acted = elim (acted.serves tt) [
  | inl step ↦ omega (arith, ap (λ (b : Answer). b.status) step.told)
  | inr none ↦ omega (arith, ap list_size none.1)
]

pub answer_that_shuts_the_keeper_does_not_last : Acted (lists choosing 0) (shut after 0) one told → ⊥
answer_that_shuts_the_keeper_does_not_last acted =
    (acted.lasts (λ is. omega (arith, ap (λ (b : Answer). b.status) is)) tt).1 tt

pub answer_of_a_broken_keeper_is_refuted : Acted (broken choosing 0) (broken choosing 0) one told → ⊥
answer_of_a_broken_keeper_is_refuted acted = kept_none (acted.broken tt tt choosing)

pub keeper_made_clean_by_a_request_is_refuted : (a : Answer) → Acted (broken choosing 0) (lists choosing 0) one a → ⊥
keeper_made_clean_by_a_request_is_refuted a acted = acted.clean tt

-- the change is shown, but a stop may still leave the list before it
pub answer_before_the_commit_is_not_settled : Acted (lists choosing 0)
    (record (lists after 0) { leaves = λ v. (v ≡ after) ⊎ (v ≡ choosing) }) one told → ⊥
answer_before_the_commit_is_not_settled acted = omega (arith, ap list_size (acted.settled (λ w is. is) tt choosing (inr refl)))

-- the disk failed in the request, and a stop leaves neither the world before nor the one after it
pub third_world_after_a_stop_is_not_left : Acted (lists choosing 0)
    (record (broken choosing 1) { leaves = λ v. v ≡ empty }) one unavailable → ⊥
third_world_after_a_stop_is_not_left acted = elim (acted.leaves tt empty refl) [
  | inl before ↦ omega (arith, ap (λ (w : World). length w.students) before)
  | inr may ↦ turned (may.turned tt)
] where
  turned : (other : Answer) × Serves choosing one other empty → ⊥
  turned (other, inl step) = omega (arith, ap (λ (w : World). length w.students) step.left)
  turned (other, inr none) = omega (arith, ap (λ (w : World). length w.students) none.1)

serves_one : Serves choosing one told after
serves_one = inl (record { form = tt; told = refl; left = refl })

pub list_kept_once : Acted (lists choosing 0) (lists after 0) one told
list_kept_once = record {
  clean = λ c. c;
  serves = λ c. serves_one;
  lasts = λ answered d. (d, λ c. c);
  breaks = λ d. (d, (λ c. inl c), λ b. b);
  broken = λ d b. absurd b;
  settled = λ was c w is. is;
  leaves = λ d w is. inr (record {
    alive = λ b. b;
    untold = λ b. absurd b;
    turned = λ c. (told, subst (λ (v : World). Serves choosing one told v) (sym is) serves_one);
  });
}

-- the disk failed in the request: a 503, and a stop leaves the world before it or after it
pub store_fault_with_a_503 : Acted (lists choosing 0) (record (broken choosing 1) { leaves = λ v. v ≡ after }) one
    unavailable
store_fault_with_a_503 = record {
  clean = λ c. absurd c;
  serves = λ c. absurd c;
  lasts = λ answered. absurd (answered refl);
  breaks = λ d. (d, (λ c. inr tt), λ b. absurd b);
  broken = λ d b w. inr (refl, refl);
  settled = λ was c. absurd c;
  leaves = λ d w is. inr (record {
    alive = λ b. b;
    untold = λ b. refl;
    turned = λ c. (told, subst (λ (v : World). Serves choosing one told v) (sym is) serves_one);
  });
}

-- ---- the office fills rankings twice, and is told of the second time

abbrev fills : Request
fills = record { code = codes "office-code-0"; head = false; closes = false; wish = Calls AbstractCall.FillRankings }

pub request_that_acts_twice_serves_nothing : Acted (lists listed 0) (lists (changed (changed listed Fill) Fill) 0)
    fills (answered 200 (filled_body [])) → ⊥
request_that_acts_twice_serves_nothing acted = elim (acted.serves tt) [
  | inl step ↦ omega (arith, ap (λ (b : Answer). size_in (value_in 0 b.body)) step.told)
  | inr none ↦ omega (arith, ap (λ (b : Answer). b.status) none.0)
]

pub request_that_acts_once_serves_it : Serves listed fills (answered 200 (filled_body (codes "L1" ∷ codes "L2" ∷ [])))
    (changed listed Fill)
request_that_acts_once_serves_it = inl (record { form = tt; told = refl; left = refl })

-- ---- what one exchange does to a keeper

abbrev pub accepted : Exchange
accepted = record { request = one; reply = told }

pub exchange_that_moves_nothing_does_not_reach : Moves (lists choosing 0) (lists choosing 0) (accepted ∷ []) → ⊥
exchange_that_moves_nothing_does_not_reach moves = by_worlds (moves.reaches tt)
  where
    by_worlds : Reaches choosing (accepted ∷ []) choosing → ⊥
    by_worlds ([], run, end) = run
    by_worlds (v ∷ [], run, end) = kept_none (subst (λ (u : World). Serves choosing one told u) (sym end) run.0)
    by_worlds (v ∷ u ∷ worlds, run, end) = run.1

pub exchange_that_is_lost_does_not_reach : Moves (lists choosing 0) (lists after 0) [] → ⊥
exchange_that_is_lost_does_not_reach moves = by_worlds (moves.reaches tt)
  where
    by_worlds : Reaches choosing [] after → ⊥
    by_worlds ([], run, end) = omega (arith, ap list_size end)
    by_worlds (v ∷ worlds, run, end) = run

pub exchange_reaches_its_world : Reaches choosing (accepted ∷ []) after
exchange_reaches_its_world = (after ∷ [], (serves_one, tt), refl)

-- ---- whether the desk has failed

pub failure_without_a_counted_fault_is_refuted : FailsByCount false true 0 0 → ⊥
failure_without_a_counted_fault_is_refuted counts = omega (arith, counts)

pub forgotten_failure_is_refuted : FailsByCount false false 0 1 → ⊥
forgotten_failure_is_refuted counts = omega (arith, counts)

pub failed_desk_that_recovers_is_refuted : FailsByCount true false 0 0 → ⊥
failed_desk_that_recovers_is_refuted counts = cc (counts.0)

pub failure_with_a_counted_fault : FailsByCount false true 0 1
failure_with_a_counted_fault = refl
