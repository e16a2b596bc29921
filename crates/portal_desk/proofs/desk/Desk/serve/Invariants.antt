use Rattle.portal_desk.proofs.Base.{◌≡◌, true, ◌-◌, ◌<◌, ◌≤◌, length, Worked, request_limit, connection_limit}
use Rattle.portal_desk.proofs.Taking.{TakenBy}
use Rattle.portal_desk.proofs.Telling.{SoFar}
use Rattle.portal_desk.proofs.desk.Desk.serve.Given as goal

abbrev pub decreases-loop-found : goal.decreases-loop-found
decreases-loop-found g l = connection_limit - l.done

abbrev pub invariant-loop-found : goal.invariant-loop-found
invariant-loop-found g l = record {
  bound : l.done < connection_limit;
  reader : g.R.Source.failed l.source ≡ g.R.Source.failed l.initial.source;
  writer : g.W.Sink.failed l.sink ≡ g.W.Sink.failed l.initial.sink;
  source : g.R.Source.name l.source ≡ g.R.Source.name l.initial.source;
  sink : g.W.Sink.name l.sink ≡ g.W.Sink.name l.initial.sink;
  calm : l.self.failed ≡ l.initial.self.failed;
  waits : l.initial.self.failed ≡ true → (l.done ≡ 0) × (l.self ≡ l.initial.self);
  held : length l.buffer.items ≤ request_limit;
  taken : TakenBy l.done (length l.buffer.items) (g.R.Source.remaining l.initial.source) (g.R.Source.remaining l.source);
  worked : Worked g.K.Keeper.state l.initial.self l.self;
  told : SoFar g.K.Keeper.state (g.R.Source.remaining l.initial.source) (g.R.Source.remaining l.source) l.initial.self.keeper l.self.keeper
      (g.W.Sink.contents l.initial.sink) (g.W.Sink.contents l.sink) l.buffer.items l.done;
}
