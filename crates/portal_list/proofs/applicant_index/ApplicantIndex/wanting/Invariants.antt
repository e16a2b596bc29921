use Rattle.portal_list.proofs.Base.{◌≡◌, map, take, student_key, wanting}
use Rattle.portal_list.proofs.applicant_index.ApplicantIndex.wanting.Given as goal

abbrev pub invariant-loop-i : goal.invariant-loop-i
invariant-loop-i l = map (λ k. k.now) l.keys.items ≡ map student_key (wanting (map (λ k. k.now) l.projects) (take l.i l.self))
