use Rattle.portal_list.proofs.Base.{take, AllByRecursion, applicant_keys, HasRanking}
use Rattle.portal_list.proofs.list_checks.rankings_fit.Given as goal

abbrev pub invariant-loop-lecturer : goal.invariant-loop-lecturer
invariant-loop-lecturer l = AllByRecursion (λ x. HasRanking l.asked (applicant_keys l.projects l.students x.row.key) x.ranking)
    (take l.lecturer-index l.lecturers)
