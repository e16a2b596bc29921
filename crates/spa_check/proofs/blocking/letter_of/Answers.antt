use Rattle.std.proofs.Common.{rules}
use Rattle.spa_check.proofs.Base.{◌≡◌, ◌⊎◌, arith, get_or, IsWith, SomeWorseWith, ranking_of, at_lecturer, Group}
use Rattle.spa_check.proofs.Base.{IsGroup, ltb-true, limit_of}
use Rattle.spa_check.proofs.Grouping.{worse_with}
use Rattle.spa_check.proofs.blocking.letter_of.Goals as goal
use Rattle.spa_check.proofs.blocking.letter_of.Goals.{then-is_with, else-is_with}

pub returns-then-depth-lecturers : goal.returns-then-depth-lecturers
returns-then-depth-lecturers c =
    let nobody : Group = record { count = 0; depth = 0 } in
    let at = c.requires.projects.each c.args.p nobody (omega (arith, c.requires.projects.size)) in
    let with : IsGroup (ranking_of c.args.instance.now c.lecturer_of-l.result) (IsWith c.args.instance.now c.args.matching.now c.lecturer_of-l.result) (at_lecturer c.args.instance.now c.args.matching.now c.lecturer_of-l.result) (get_or c.args.lecturers.now c.lecturer_of-l.result nobody) =
    c.requires.lecturers.each c.lecturer_of-l.result nobody (omega (arith, c.requires.lecturers.size)) in
    let worse = worse_with c.args.instance.now c.args.matching.now c.lecturer_of-l.result c.args.s c.depth_of-depth.result
    (get_or c.args.lecturers.now c.lecturer_of-l.result nobody) c.lecturer_of-l.ensures.lawful c.requires.fits
    with c.depth_of-depth.ensures in
    let full : at_lecturer c.args.instance.now c.args.matching.now c.lecturer_of-l.result
    ≡ limit_of c.args.instance.now c.lecturer_of-l.result =
    omega (arith, with.count, c.requires.fits.lecturers c.lecturer_of-l.result) in
    let either : IsWith c.args.instance.now c.args.matching.now c.lecturer_of-l.result c.args.s
    ⊎ SomeWorseWith c.args.instance.now c.args.matching.now c.lecturer_of-l.result c.args.s =
    grind (arith, then-is_with, else-is_with, ltb-true) in
    (c.requires.wants, omega (arith, at.count), rw c.lecturer_of-l.ensures.gives at full, rw c.lecturer_of-l.ensures.gives at either)

pub returns-else-depth-lecturers : goal.returns-else-depth-lecturers
returns-else-depth-lecturers c = search rules
