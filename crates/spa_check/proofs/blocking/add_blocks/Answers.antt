use Rattle.spa_check.proofs.Base.{arith, AreBlocksBefore}
use Rattle.spa_check.proofs.Listing.{blocks_jump, blocks_skip, blocks_push, blocks_row}
use Rattle.spa_check.proofs.Wanting.{least_wanted, apart_from, below_from}
use Rattle.spa_check.proofs.blocking.add_blocks.Goals as goal
use Rattle.spa_check.proofs.blocking.add_blocks.Goals.{in-Some-letter_of+in_ok-push, in_default-letter_of}

pub letter_of-requires-clause-project : goal.letter_of-requires-clause-project
letter_of-requires-clause-project c =
    let found = least_wanted c.args.instance.now c.args.matching.now c.args.s c.loop-p.next c.wanted_projects-list.result.now
    c.wanted_projects-list.ensures.each c.in-Some.p c.in-Some.ensures in
    c.wanted_projects-list.ensures.lawful.known c.args.s c.in-Some.p found.0.0

pub letter_of-requires-clause-wants : goal.letter_of-requires-clause-wants
letter_of-requires-clause-wants c = (least_wanted c.args.instance.now c.args.matching.now c.args.s c.loop-p.next
    c.wanted_projects-list.result.now c.wanted_projects-list.ensures.each c.in-Some.p c.in-Some.ensures).0

pub overflow_add-next : goal.overflow_add-next
overflow_add-next c =
    let found = least_wanted c.args.instance.now c.args.matching.now c.args.s c.loop-p.next c.wanted_projects-list.result.now
    c.wanted_projects-list.ensures.each c.in-Some.p c.in-Some.ensures in
    omega (
      arith,
      c.wanted_projects-list.ensures.lawful.known c.args.s c.in-Some.p found.0.0,
      c.wanted_projects-list.ensures.lawful.project_count,
    )

pub loop-p-smaller : goal.loop-p-smaller
loop-p-smaller c =
    let found = least_wanted c.args.instance.now c.args.matching.now c.args.s c.loop-p.next c.wanted_projects-list.result.now
    c.wanted_projects-list.ensures.each c.in-Some.p c.in-Some.ensures in
    omega (arith, c.wanted_projects-list.ensures.lawful.known c.args.s c.in-Some.p found.0.0, found.1)

pub loop-p-preserved : goal.loop-p-preserved
loop-p-preserved c =
    let found = least_wanted c.args.instance.now c.args.matching.now c.args.s c.loop-p.next c.wanted_projects-list.result.now
    c.wanted_projects-list.ensures.each c.in-Some.p c.in-Some.ensures in
    let here : AreBlocksBefore c.args.instance.now c.args.matching.now c.args.s c.in-Some.p c.loop-p.blocks.items =
    blocks_jump c.args.instance.now c.args.matching.now c.loop-p.blocks.items c.args.s c.loop-p.next c.in-Some.p found.1
    (apart_from c.args.instance.now c.args.matching.now c.args.s c.loop-p.next c.wanted_projects-list.result.now
    c.wanted_projects-list.ensures.each c.in-Some.p c.in-Some.ensures) c.loop-p.invariant in
    elim c.match-letter_of.branch [
      | in-Some-letter_of+in_ok-push w ↦ rw (w.blocks-is, w.in_ok-push.ensures.items)
          (blocks_push c.args.instance.now c.args.matching.now c.loop-p.blocks.items c.args.s c.in-Some.p w.in-Some-letter_of.letter
          w.in-Some-letter_of.ensures here)
      | in_default-letter_of w ↦ rw w.blocks-is
          (blocks_skip c.args.instance.now c.args.matching.now c.loop-p.blocks.items c.args.s c.in-Some.p w.in_default-letter_of.ensures
          here)
    ]

pub returns : goal.returns
returns c = blocks_row c.args.instance.now c.args.matching.now c.loop-p.blocks.items c.args.s c.loop-p.next
    (below_from c.args.instance.now c.args.matching.now c.args.s c.loop-p.next c.wanted_projects-list.result.now
    c.wanted_projects-list.ensures.each c.in_default.ensures) c.loop-p.invariant
