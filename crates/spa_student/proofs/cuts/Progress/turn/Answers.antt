use Rattle.std.proofs.Common.{rules}
use Rattle.spa_student.proofs.Base.{◌≡◌, ℕ, ◌<◌, ◌≤◌, length, get_or, set, sum, Option, Some, None, refl, sym, ◌∙◌, ap}
use Rattle.spa_student.proofs.Base.{arith, choices_of, Progress, Puts, IfSome, MatchOption, Exchanges}
use Rattle.spa_student.proofs.CutSteps.{moved_state, moved_next, sum_moved}
use Rattle.spa_student.proofs.cuts.Progress.turn.Goals as goal

pub put-requires-clause-state : goal.put-requires-clause-state
put-requires-clause-state c =
    let free = c.requires.free in
    let next = c.next-k.ensures in
    moved_state c.args.instance.now c.args.self.now c.requires.state c.args.s c.next-k.result free.in_range free.unassigned
    next.from next.to next.cut _ refl

pub put-requires-clause-next : goal.put-requires-clause-next
put-requires-clause-next c =
    let free = c.requires.free in
    let next = c.next-k.ensures in
    let within : c.next-k.result < length (choices_of c.args.instance.now c.args.s) =
    omega (arith, ap length c.choices-list.ensures.gives) in
    rw c.choices-list.ensures.gives
    (moved_next c.args.instance.now c.args.self.now c.requires.state c.args.s c.next-k.result free.in_range free.unassigned
    next.from next.to next.cut _ refl within (next.uncut within))

-- where somebody was let go, two cursors moved
grown : (before moved after : Progress) (s k p : ℕ) → moved.cursors.items ≡ set before.cursors.items s k
    → s < length before.cursors.items → get_or before.cursors.items s 0 ≤ k
    → length moved.projects.items ≡ length before.cursors.items
    → (o : Option ℕ) → MatchOption o (Puts s p moved after) (λ w. Exchanges s p w moved after)
    → IfSome o (λ w. sum before.cursors.items < sum after.cursors.items)
grown before moved after s k p now s_in from rows None done = tt
grown before moved after s k p now s_in from rows (Some w) done =
    rw (done.cursors, now) (sum_moved before.cursors.items s k w s_in from (omega (arith, done.in_range)))

pub returns-then-k-list-clause-moves : goal.returns-then-k-list-clause-moves
returns-then-k-list-clause-moves c =
    let marks = c.requires.state.marks in
    grown c.args.self.now _ c.put.new.self c.args.s c.next-k.result _ refl
    (omega (arith, c.requires.free.in_range, marks.cursor_rows)) c.next-k.ensures.from
    (marks.assigned.students ∙ sym marks.cursor_rows) c.put.result c.put.ensures.moves

pub returns-else-k-list-clause-state : goal.returns-else-k-list-clause-state
returns-else-k-list-clause-state c =
    let free = c.requires.free in
    let next = c.next-k.ensures in
    moved_state c.args.instance.now c.args.self.now c.requires.state c.args.s c.next-k.result free.in_range free.unassigned
    next.from next.to next.cut _ refl

pub returns-else-k-list-clause-settled : goal.returns-else-k-list-clause-settled
returns-else-k-list-clause-settled c = search rules
