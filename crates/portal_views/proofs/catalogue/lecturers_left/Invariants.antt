use Rattle.portal_views.proofs.Base.{◌≡◌, lecturer_left, take, filter_map}
use Rattle.portal_views.proofs.catalogue.lecturers_left.Given as goal

abbrev pub invariant-loop-lecturer : goal.invariant-loop-lecturer
invariant-loop-lecturer l = l.found.items ≡ filter_map (lecturer_left l.projects l.pairs) (take l.lecturer-index l.lecturers)
