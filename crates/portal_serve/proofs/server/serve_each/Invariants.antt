use Rattle.portal_serve.proofs.Base.{◌≡◌, ◌≤◌, true}
use Rattle.portal_desk.specs.Kept.{Worked}
use Rattle.portal_serve.proofs.Outcomes.{Passed}
use Rattle.portal_serve.proofs.server.serve_each.Given as goal

abbrev pub invariant-loop-accepted : goal.invariant-loop-accepted
invariant-loop-accepted g l = record {
  worked : Worked g.K.Keeper.state l.initial.desk l.desk;
  few : l.faults ≤ l.accepted;
  told : Passed g.K.Keeper.state l.initial.desk l.desk (g.C.Connections.series l.initial.connections)
      (g.C.Connections.series l.connections) l.accepted l.faults;
  shut : l.desk.failed ≡ true → l.accepted ≡ 0;
  calm : l.desk.failed ≡ l.initial.desk.failed;
}
