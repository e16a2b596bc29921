use Rattle.portal_list.proofs.Base.{◌≡◌, ◌++◌, take, drop, map, missing, filled}
use Rattle.portal_list.proofs.changes.fill.fill_rankings.Given as goal

abbrev pub invariant-loop-i : goal.invariant-loop-i
invariant-loop-i l = record {
  lecturers : l.lecturers ≡ map (filled l.projects l.students) (take l.i l.initial.lecturers) ++ drop l.i l.initial.lecturers;
  rankings : drop l.i l.rankings.items ≡ map (missing l.projects l.students) (drop l.i l.initial.lecturers);
}
