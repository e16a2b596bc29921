use Rattle.portal_desk.proofs.playing.perform_act.Goals as goal

pub returns-in-Apply : goal.returns-in-Apply
returns-in-Apply g c = record { changes = rw c.in-Apply.is c.apply.ensures.changes }

pub returns-in-Publish : goal.returns-in-Publish
returns-in-Publish g c = record { changes = rw c.in-Publish.is c.publish.ensures.changes }
