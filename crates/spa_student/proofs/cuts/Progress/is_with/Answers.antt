use Rattle.std.proofs.Common.{arith}
use Rattle.std.proofs.lemmas.Grind.{common_steps}
use Rattle.spa_student.proofs.Base.{◌≡◌, Some, None, sym, ◌∙◌, get_or_read, project_of}
use Rattle.spa_student.proofs.cuts.Progress.is_with.Goals as goal

-- a project that is assigned is there
pub lecturer_of-requires : goal.lecturer_of-requires
lecturer_of-requires c =
    let has : project_of c.args.self.now.projects.items c.args.s
    ≡ Some c.in-Some.q = sym (get_or_read c.args.self.now.projects.items c.args.s c.index.result.now c.requires.in_range c.index.ensures
    None) ∙ c.in-Some.is in
    c.requires.marks.lawful.known c.args.s c.in-Some.q (c.requires.marks.assigned.acceptable c.args.s c.in-Some.q has)

pub returns-in-Some : goal.returns-in-Some
returns-in-Some c = grind (arith, common_steps)
