use Rattle.portal_views.proofs.Base.{◌≡◌, take, own_listed}
use Rattle.portal_views.proofs.lecturer.keys_listed.Given as goal

abbrev pub invariant-loop-project : goal.invariant-loop-project
invariant-loop-project l = l.own.items ≡ own_listed (take l.project-index l.catalogue) l.lecturer
