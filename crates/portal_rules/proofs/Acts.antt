-- What a list or ranking that is put leaves of a caller, and what one sees after one's own call.
use Rattle.portal_rules.proofs.Base.{◌≡◌, true, false, cond, List, refl, ◌∙◌, ap, map, Some, option_map, find}
use Rattle.portal_rules.proofs.Base.{filter_map, Key, equals, World, in_play, Choices, Ranks, Students, Placements}
use Rattle.portal_rules.proofs.Base.{changed, in_first, with_students, with_choice, with_ranking, First, Second}
use Rattle.portal_rules.proofs.Base.{StudentRow, Office, Lecturer, Student, Caller, NoCaller, OfficeCaller}
use Rattle.portal_rules.proofs.Base.{LecturerCaller, StudentCaller, student_with, caller, sight_of, view, listing_with}
use Rattle.portal_rules.proofs.Base.{listings, catalogue, student_sees, lecturer_sees, office_sees, AbstractCall}
use Rattle.portal_rules.proofs.Base.{Decision, decision, StepLeaves, Calls, is_move_or_add, arith, Fill, [], Sight}
use Rattle.portal_rules.proofs.Base.{with_own}
use Rattle.portal_rules.specs.World as rows
use Rattle.portal_rules.proofs.Keys.{is_own, find_map}
use Rattle.portal_rules.proofs.Reranked.{re_called, caller_kept, names_kept}
use Rattle.portal_rules.proofs.Fills.{view_filled}
use Rattle.portal_rules.proofs.InPlay.{play_chosen, play_ranked, play_placed, play_joined, ranking_row}

-- a change of a list keeps the row

pub choice_row : (k : Key) (list : List Key) (s : rows.Student) → (with_choice k list s).row ≡ s.row
choice_row k list s = elim (equals s.row.key k) as (λ b. (cond b (record s { choice = list }) s).row ≡ s.row) [ true ↦ refl | false ↦ refl ]

-- the caller after a change of a list

abbrev pub re_chosen : Key → List Key → Caller → Caller
re_chosen k list (StudentCaller s) = StudentCaller (with_choice k list s)
re_chosen k list x = x

pub caller_chosen : (w : World) (k : Key) (list : List Key) (c : Key)
    → caller (changed w (Choices k list)) c ≡ re_chosen k list (caller w c)
caller_chosen w k list c =
    let found : find (λ (s : rows.Student). equals s.row.code c) (map (with_choice k list) w.students)
    ≡ option_map (with_choice k list) (student_with w c)
    = find_map (with_choice k list) (λ s. equals s.row.code c) (λ s. equals s.row.code c)
    (λ s. ap (λ r. equals r.code c) (choice_row k list s)) w.students in
    grind (arith, found)

pub caller_ranked : (w : World) (k : Key) (list : List Key) (c : Key)
    → caller (changed w (Ranks k list)) c ≡ re_called (with_ranking k list) (caller w c)
caller_ranked w k list c = caller_kept (with_ranking k list) (ranking_row k list) w c

-- a ranking changes no name
pub catalogue_ranked : (w : World) (k : Key) (list : List Key) → catalogue (changed w (Ranks k list)) ≡ catalogue w
catalogue_ranked w k list =
    (λ i. listings (play_ranked w k list i).lecturers (play_ranked w k list i).projects)
    ∙ λ i. filter_map (λ p. option_map (listing_with p)
    (names_kept (with_ranking k list) (ranking_row k list) (in_play w).lecturers p.lecturer i)) (in_play w).projects

-- nor does a student's list
pub catalogue_chosen : (w : World) (k : Key) (list : List Key) → catalogue (changed w (Choices k list)) ≡ catalogue w
catalogue_chosen w k list = λ i. listings (play_chosen w k list i).lecturers (play_chosen w k list i).projects

-- nor do the result and new students
pub catalogue_placed : (w : World) (pairs : List (Key × Key)) → catalogue (changed w (Placements pairs)) ≡ catalogue w
catalogue_placed w pairs = λ i. listings (play_placed w pairs i).lecturers (play_placed w pairs i).projects

pub catalogue_joined : (w : World) (rs : List StudentRow) → catalogue (changed w (Students rs)) ≡ catalogue w
catalogue_joined w rs = elim w.round as (λ r. catalogue (in_first r (with_students w rs) w) ≡ catalogue w) [
  | First ↦ λ i. listings (play_joined w rs i).lecturers (play_joined w rs i).projects
  | Second ↦ refl
]

-- the caller's own list

pub view_chosen : (w : World) (c : Key) (s : rows.Student) (list : List Key) → caller w c ≡ StudentCaller s
    → view (changed w (Choices s.row.key list)) c ≡ Student (record (student_sees w s) { choices = list })
view_chosen w c s list e =
    ap (sight_of (changed w (Choices s.row.key list)))
    (caller_chosen w s.row.key list c ∙ ap (re_chosen s.row.key list) e
    ∙ ap (λ b. StudentCaller (cond b (record s { choice = list }) s)) (is_own s.row.key))
    ∙ λ i. Student (record (student_sees w s) { catalogue = catalogue_chosen w s.row.key list i; choices = list })

pub view_ranked : (w : World) (c : Key) (l : rows.Lecturer) (list : List Key) → caller w c ≡ LecturerCaller l
    → view (changed w (Ranks l.row.key list)) c ≡ Lecturer (record (lecturer_sees w l) { ranking = Some list })
view_ranked w c l list e =
    ap (sight_of (changed w (Ranks l.row.key list)))
    (caller_ranked w l.row.key list c ∙ ap (re_called (with_ranking l.row.key list)) e
    ∙ ap (λ b. LecturerCaller (cond b (record l { ranking = Some list }) l)) (is_own l.row.key))
    ∙ λ i. Lecturer (record (lecturer_sees w l) { catalogue = catalogue_ranked w l.row.key list i; ranking = Some list })

-- after a call that is no Move and no Add, the caller sees what `own` says
module _ (w w' : World) (c : Key) where
  abbrev Shows : Sight → AbstractCall → Decision → Type 0
  Shows v ask d = is_move_or_add (Calls ask) ≡ false → StepLeaves w d.act w' → view w' c ≡ with_own v d.act

  stays : (x : Caller) → caller w c ≡ x → w' ≡ w → view w' c ≡ sight_of w x
  stays x e same = ap (λ u. view u c) same ∙ ap (sight_of w) e

  pub own_kept : (x : Caller) → caller w c ≡ x → (ask : AbstractCall)
      → Shows (sight_of w x) ask (decision (sight_of w x) ask)
  own_kept NoCaller e ask = λ calm. stays NoCaller e
  own_kept (StudentCaller s) e ask =
      let own : (list : List Key) → w' ≡ changed w (Choices s.row.key list)
      → view w' c ≡ Student (record (student_sees w s) { choices = list }) = λ list done. ap (λ u. view u c) done
      ∙ view_chosen w c s list e in
      grind (arith, stays (StudentCaller s) e, own)
  own_kept (LecturerCaller l) e ask =
      let own : (list : List Key) → w' ≡ changed w (Ranks l.row.key list)
      → view w' c ≡ Lecturer (record (lecturer_sees w l) { ranking = Some list }) = λ list done. ap (λ u. view u c) done
      ∙ view_ranked w c l list e in
      grind (arith, stays (LecturerCaller l) e, own)
  own_kept OfficeCaller e ask =
      let own : w' ≡ changed w Fill → view w' c ≡ Office (record (office_sees w) { still_to_rank = [] }) = λ done. ap (λ u. view u c) done
      ∙ view_filled w c e in
      grind (arith, stays OfficeCaller e, own)

-- a Move and an Add call are no change of one's own list

abbrev Unchanged : Sight → AbstractCall → Decision → Type 0
Unchanged v ask d = is_move_or_add (Calls ask) ≡ true → with_own v d.act ≡ v

pub own_move : (v : Sight) (ask : AbstractCall) → Unchanged v ask (decision v ask)
own_move v ask = grind arith
