use Rattle.portal_desk.proofs.Base.{◌≡◌, ◌-◌, ◌+◌, ◌≤◌, length, if◌then◌else◌, ReadsMore, request_limit}
use Rattle.portal_desk.proofs.reading.next_frame.Given as goal

abbrev pub decreases-loop-found : goal.decreases-loop-found
decreases-loop-found g l = request_limit - length l.buffer.items + (if l.ended then 0 else 1)

abbrev pub invariant-loop-found : goal.invariant-loop-found
invariant-loop-found g l = record {
  reads : ReadsMore (g.R.Source.remaining l.initial.source) (g.R.Source.remaining l.source) l.initial.buffer.items l.buffer.items l.ended;
  held : length l.buffer.items ≤ request_limit;
  calm : g.R.Source.failed l.source ≡ g.R.Source.failed l.initial.source;
  named : g.R.Source.name l.source ≡ g.R.Source.name l.initial.source;
}
