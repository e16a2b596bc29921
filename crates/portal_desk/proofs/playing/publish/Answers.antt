use Rattle.portal_desk.proofs.InTurn.{changes_then}
use Rattle.portal_desk.proofs.Played.{published, solved_good}
use Rattle.portal_desk.proofs.playing.publish.Goals as goal

pub apply-requires-clause-leaves_good : goal.apply-requires-clause-leaves_good
apply-requires-clause-leaves_good g c = λ now.
    let before = c.instance.ensures.looks.uses.clean now in
    rw (c.instance.ensures.looks.same now) (solved_good _ c.in_ok-instance.instance c.in-Ok.pairs.items (c.requires.good before)
    (c.requires.ready before) (c.in_ok-instance.ensures.instance now) c.in-Ok.ensures)

pub returns-in-Ok : goal.returns-in-Ok
returns-in-Ok g c = record {
  changes = changes_then c.in_ok-instance.instance c.apply.result _ _ _ _ _ c.in_ok-instance.ensures.looks c.apply.ensures.changes
      (λ now w made.
      published _ _ _ c.in_ok-instance.instance c.in-Ok.pairs.items (c.requires.good (c.instance.ensures.looks.uses.clean now))
      (c.in_ok-instance.ensures.instance now) c.in-Ok.ensures (c.instance.ensures.looks.same now) made);
}
