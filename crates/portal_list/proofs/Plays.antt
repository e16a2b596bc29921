-- Who takes part in the second round, from the rows and the pairs of the first round's result.
use Rattle.portal_list.proofs.Base.{◌≡◌, Bool, true, cond, List, [], ◌∷◌, map, refl, sym, ◌∙◌, ap, filter, nat_lt}
use Rattle.portal_list.proofs.Base.{arith, ◌&&◌, Option, Some, None, option_map, filter_map, Round, First, Second}
use Rattle.portal_list.proofs.Base.{ProjectRow, Key, has, Rise, Lecturer, Student, lecturer_key, project_key}
use Rattle.portal_list.proofs.Base.{pairs_with, lowered_lecturer, lecturers_left, projects_left, alone_lecturer}
use Rattle.portal_list.proofs.Base.{map_same, rise_kept, lecturer_played, project_played, takes_part, rules}
use Rattle.portal_list.proofs.Base.{lowered_project, students_in}
use Rattle.portal_rules.proofs.AllLaws.{any_map}
use Rattle.portal_rules.proofs.InPlay.{filter_kept}
use Rattle.portal_rules.proofs.Rooms.{project_left_is, lecturer_left_is, each_left}
use Rattle.portal_list.proofs.Rising.{map_map}

mapped_case : {X Y : Type 0} (f : X → Y) (x : X) (b : Bool)
    → option_map f (cond b (Some x) None) ≡ cond b (Some (f x)) None
mapped_case f x b = grind arith

both_case : {X : Type 0} (x : X) (a b : Bool) → cond {A = Option X} b (cond a (Some x) None) None ≡ cond (a && b) (Some x) None
both_case x a b = grind arith

module _ (ls : List Lecturer) (ps : List ProjectRow) (ss : List Student) where
  abbrev pairs : List (Key × Key)
  pairs = pairs_with (λ s. s.earlier_placement) ss

  abbrev has_room : Lecturer → Bool
  has_room l = nat_lt 0 l.row.capacity

  lecturer_is : (l : Lecturer)
      → lecturer_played ps pairs l ≡ cond (has_room (lowered_lecturer ps ss l)) (Some (alone_lecturer (lowered_lecturer ps ss l))) None
  lecturer_is l = search (rules, lecturer_left_is, mapped_case)

  pub lecturers_are : filter_map (lecturer_played ps pairs) ls ≡ map alone_lecturer (lecturers_left ls ps ss)
  lecturers_are =
      each_left (lecturer_played ps pairs) has_room (λ l. alone_lecturer (lowered_lecturer ps ss l)) lecturer_is ls
      ∙ ap (filter has_room) (sym (map_map alone_lecturer (lowered_lecturer ps ss) ls))
      ∙ filter_kept alone_lecturer has_room (λ l. refl) (map (lowered_lecturer ps ss) ls)

  project_is : (left : List Lecturer) (p : ProjectRow) → project_played left pairs p
      ≡ cond (nat_lt 0 (lowered_project ss p).capacity && has (map lecturer_key left) p.lecturer) (Some (lowered_project ss p)) None
  project_is left p = search (rules, any_map, project_left_is, both_case)

  pub projects_are : (left : List Lecturer) → left ≡ map alone_lecturer (lecturers_left ls ps ss)
      → filter_map (project_played left pairs) ps ≡ projects_left ls ps ss
  projects_are left same = search (rules, map_same, each_left, project_is)

  pub left_rise : Rise (map project_key ps) → Rise (map project_key (projects_left ls ps ss))
  left_rise rise = search (rules, rise_kept, map_same)

-- the students who take part
filter_true : {X : Type 0} (xs : List X) → filter (λ (x : X). true) xs ≡ xs
filter_true [] = refl
filter_true (x ∷ xs) = ap (λ ys. x ∷ ys) (filter_true xs)

pub part_is : (r : Round) (ss : List Student) → filter (takes_part r) ss ≡ students_in r ss
part_is First ss = filter_true ss
part_is Second ss = refl

filter_both : {X : Type 0} (a b : X → Bool) (xs : List X) → filter (λ x. a x && b x) xs ≡ filter b (filter a xs)
filter_both a b [] = refl
filter_both a b (x ∷ xs) = grind (arith, filter_both a b xs)

pub part_and : (b : Student → Bool) (r : Round) (ss : List Student)
    → filter (λ s. takes_part r s && b s) ss ≡ filter b (students_in r ss)
part_and b r ss = filter_both (takes_part r) b ss ∙ ap (filter b) (part_is r ss)
