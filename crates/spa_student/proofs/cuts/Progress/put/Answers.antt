use Rattle.spa_student.proofs.Base.{arith, get_or_read, rules}
use Rattle.spa_student.proofs.CutSteps.{placed_uncut, placed_state, project_state, lecturer_state}
use Rattle.spa_student.proofs.cuts.Progress.put.Goals as goal

pub let_go_at-requires-clause-uncut : goal.let_go_at-requires-clause-uncut
let_go_at-requires-clause-uncut c = placed_uncut c.args.instance.now c.args.self.now c.place.new.self c.requires.state.marks c.args.s
    c.args.p c.requires.next c.place.ensures.puts c.place.ensures.cuts c.requires.state.holds

pub let_go_by_lecturer-requires-clause-uncut : goal.let_go_by_lecturer-requires-clause-uncut
let_go_by_lecturer-requires-clause-uncut c =
    placed_uncut c.args.instance.now c.args.self.now c.place.new.self c.requires.state.marks c.args.s c.args.p c.requires.next
    c.place.ensures.puts c.place.ensures.cuts c.requires.state.holds

pub returns-then-index-project_capacity-clause-state : goal.returns-then-index-project_capacity-clause-state
returns-then-index-project_capacity-clause-state c = search (rules, get_or_read, project_state)

pub returns-then-index-lecturer_capacity-clause-state : goal.returns-then-index-lecturer_capacity-clause-state
returns-then-index-lecturer_capacity-clause-state c = grind (arith, get_or_read, lecturer_state)

pub returns-clause-state : goal.returns-clause-state
returns-clause-state c = search (rules, get_or_read, placed_state)
