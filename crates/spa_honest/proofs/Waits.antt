-- What a student would rather have has no room; room after a stable matching gains nobody anything.
use Rattle.spa_honest.proofs.Base.{◌≡◌, ℕ, ◌<◌, List, length, set, Option, Some, None, ◌∙◌, arith, length-set}
use Rattle.spa_honest.proofs.Base.{get_or-set_other, A, Spa, project_of, lecturer_of, IsAcceptable, IsAsGood, Wants, IsStable}
use Rattle.spa_honest.proofs.Base.{IsBest, IsRanked, put_same, acceptable_in_range, AddsTo, HasRoom, DifferInOneList}
use Rattle.spa_honest.proofs.Base.{put_at_project, put_at_lecturer, at_project, at_lecturer, capacity_of, limit_of}
use Rattle.spa_student.proofs.Machine.{one_more}
use Rattle.spa_honest.proofs.Gains.{no_one_gains_over_both}

-- NOBODY FINDS BETTER: the pair would block
pub left_finds_none : (i : Spa) (m : List (Option ℕ)) (s p : ℕ) → IsStable i m → Wants i m s p → HasRoom i m p → ⊥
left_finds_none i m s p stable wants room = stable.unblocked s p A (wants, room.0, room.1)

-- WAITING NEVER PAYS: p is what a second round may add
pub waiting_never_pays : (i j : Spa) (s p : ℕ) (m n : List (Option ℕ)) → IsRanked i → IsRanked j → DifferInOneList i j s
    → IsBest i m → IsStable j n → project_of n s ≡ None → IsAcceptable i s p → HasRoom j n p
    → IsAsGood i s (project_of m s) (Some p)
waiting_never_pays i j s p m n lawful law differ best stable left on room =
    no_one_gains_over_both i j s m n (set n s (Some p)) lawful law differ best stable adds p (put_same j n s p in_range left) on
  where
    in_range : s < length n
    in_range = omega (arith, acceptable_in_range i s p on, stable.matching.students, differ.students)

    adds : AddsTo j n (set n s (Some p))
    adds = record {
      students = length-set n s (Some p);
      keeps = λ t q e. get_or-set_other n s t (Some p) None (λ same. let none : project_of n t ≡ None = rw same left in cc) ∙ e;
      projects = one_more (at_project n) (at_project (set n s (Some p))) (capacity_of j) p
          (λ q. omega (arith, put_at_project j n s p in_range left q)) room.0 stable.matching.projects;
      lecturers = one_more (at_lecturer j n) (at_lecturer j (set n s (Some p))) (limit_of j) (lecturer_of j p)
          (λ l. omega (arith, put_at_lecturer j n s p in_range left l)) room.1 stable.matching.lecturers;
    }
