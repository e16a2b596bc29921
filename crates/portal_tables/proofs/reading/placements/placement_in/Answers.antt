use Rattle.portal_tables.proofs.InTurn.{reads_open}
use Rattle.portal_tables.proofs.reading.placements.placement_in.Goals as goal

pub returns-in-Second : goal.returns-in-Second
returns-in-Second g c = rw c.in-Second.is (reads_open (rw c.bytes_at.ensures at c.second_placement_in.ensures))
