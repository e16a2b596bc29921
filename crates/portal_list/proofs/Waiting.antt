-- A lecturer is still to rank.
use Rattle.portal_list.proofs.Base.{◌≡◌, Bool, true, false, cond, List, [], ◌∷◌, refl, sym, ◌∙◌, ap, map, filter}
use Rattle.portal_list.proofs.Base.{is_none, not, ◌&&◌, ◌||◌, list_any, Key, equals, has, is_empty, World, Student}
use Rattle.portal_list.proofs.Base.{Lecturer, is_still_to_rank, ProjectRow, is_waiting, and_comm, any_or, any_nowhere}
use Rattle.portal_list.proofs.Base.{is_wanted, arith}

-- some element passes
any_left : {X : Type 0} (p : X → Bool) (xs : List X) → not (is_empty (filter p xs)) ≡ list_any p xs
any_left p [] = refl
any_left p (x ∷ xs) = grind (arith, any_left p xs)

-- some list holds a project of the lecturer
wanted : (ss : List Student) (l : Key) (ps : List ProjectRow)
    → list_any (λ s. list_any (λ p. has s.choice p.key) (filter (λ p. equals p.lecturer l) ps)) ss ≡ is_wanted ss ps l
wanted ss l [] = any_nowhere ss
wanted ss l (p ∷ ps) =
    elim (equals p.lecturer l) as (λ b. list_any
    (λ s. list_any (λ q. has s.choice q.key) (cond b (p ∷ filter (λ q. equals q.lecturer l) ps) (filter (λ q. equals q.lecturer l) ps)))
    ss ≡ ((b && list_any (λ s. has s.choice p.key) ss) || is_wanted ss ps l)) [
      | true ↦ any_or (λ (s : Student). has s.choice p.key)
          (λ s. list_any (λ q. has s.choice q.key) (filter (λ q. equals q.lecturer l) ps)) ss
          ∙ ap (λ b. list_any (λ s. has s.choice p.key) ss || b) (wanted ss l ps)
      | false ↦ wanted ss l ps
    ]

pub waiting_is : (w : World) (l : Lecturer) → is_waiting w.students w.projects l ≡ is_still_to_rank w l
waiting_is w l =
    and_comm (is_none l.ranking) (is_wanted w.students w.projects l.row.key)
    ∙ ap (λ b. b && is_none l.ranking) (sym (any_left _ w.students ∙ wanted w.students l.row.key w.projects))

pub waiting_lecturers : (w : World)
    → map (λ (l : Lecturer). l.row.key) (filter (is_waiting w.students w.projects) w.lecturers)
    ≡ map (λ l. l.row.key) (filter (is_still_to_rank w) w.lecturers)
waiting_lecturers w = λ i. map (λ (l : Lecturer). l.row.key) (filter (λ l. waiting_is w l i) w.lecturers)
