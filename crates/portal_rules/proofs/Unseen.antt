-- What others do is not seen.
use Rattle.portal_rules.proofs.Base.{◌≡◌, Bool, true, false, cond, List, [], ◌∷◌, ◌++◌, refl, sym, ◌∙◌, ap, subst, map}
use Rattle.portal_rules.proofs.Base.{Some, find, Key, equals, Rise, Choices, Ranks, changed, with_choice, with_ranking}
use Rattle.portal_rules.proofs.Base.{World, is_choosing, is_published, is_from_ranking, shown_placement, is_at}
use Rattle.portal_rules.proofs.Base.{lecturer_key, student_key, applicants_to, placed_at, projects_of, Phase, Person}
use Rattle.portal_rules.proofs.Base.{LecturerSees, Lecturer, Student, Caller, NoCaller, OfficeCaller, LecturerCaller}
use Rattle.portal_rules.proofs.Base.{StudentCaller, lecturer_with, student_with, caller, sight_of, view, student_sees}
use Rattle.portal_rules.proofs.Base.{lecturer_sees, persons, AbstractCall, Answer, Decision, refuses, decision, Good}
use Rattle.portal_rules.proofs.Base.{StepLeaves, Step, Serves, Run, Request, end_of, replies_to, arith, IsMember}
use Rattle.portal_rules.proofs.Base.{IsIdle}
use Rattle.portal_rules.specs.World as rows
use Rattle.portal_rules.proofs.Keys.{is_same, is_own, found_passes, one_row}
use Rattle.portal_rules.proofs.Reranked.{re_called}
use Rattle.portal_rules.proofs.Acts.{caller_chosen, caller_ranked, re_chosen, choice_row, catalogue_chosen}
use Rattle.portal_rules.proofs.Acts.{catalogue_ranked}
use Rattle.portal_rules.proofs.AllLaws.{kept_filtered}

-- whom a code names was found by that code

pub lecturer_found : (w : World) (c : Key) (l : rows.Lecturer) → caller w c ≡ LecturerCaller l
    → lecturer_with w c ≡ Some l
lecturer_found w c l e = grind arith

pub student_found : (w : World) (c : Key) (s : rows.Student) → caller w c ≡ StudentCaller s → student_with w c ≡ Some s
student_found w c s e = grind arith

-- two codes name two rows
apart : {X : Type 0} (key code : X → Key) (xs : List X) (c d : Key) (x y : X) → Rise (map key xs)
    → find (λ z. equals (code z) d) xs ≡ Some x → find (λ z. equals (code z) c) xs ≡ Some y → equals d c ≡ false
    → equals (key y) (key x) ≡ false
apart key code xs c d x y rise ex ey other =
    let one : equals (key y) (key x) ≡ true → y ≡ x = λ e. one_row key _ _ xs y x rise ey ex (is_same _ _ e) in
    let of_c : code y ≡ c = is_same _ _ (found_passes _ xs y ey) in
    let of_d : code x ≡ d = is_same _ _ (found_passes _ xs x ex) in
    grind (arith, one, is_own d)

-- while the lists are open a lecturer sees nothing of them

pub choosing_open : (phase : Phase) → is_choosing phase ≡ true
    → (is_from_ranking phase ≡ false) × (is_published phase ≡ false)
choosing_open phase e = grind arith

abbrev pub person_of : rows.Student → Person
person_of s = record { key = s.row.key; name = s.row.name }

placed_chosen : (w : World) (k : Key) (list : List Key) (p : Key)
    → persons (placed_at (changed w (Choices k list)) p) ≡ persons (placed_at w p)
placed_chosen w k list p = kept_filtered person_of (with_choice k list) (λ s. is_at p (shown_placement w.phase s))
    (λ s i. record { key = (choice_row k list s i).key; name = (choice_row k list s i).name }) (λ s. grind arith) w.students

abbrev gated : World → rows.Lecturer → Bool → LecturerSees
gated w l closed = record (lecturer_sees w l) {
  applicants = map (λ p. (p.key, cond closed (persons (applicants_to w p.key)) []))
      (projects_of w l.row.key);
}

lecturer_blind : (w : World) (k : Key) (list : List Key) (l : rows.Lecturer) → is_choosing w.phase ≡ true
    → lecturer_sees (changed w (Choices k list)) l ≡ lecturer_sees w l
lecturer_blind w k list l e =
    let shut : is_from_ranking w.phase ≡ false = (choosing_open w.phase e).0 in
    (λ i. gated (changed w (Choices k list)) l (shut i))
    ∙ (λ i. record (gated w l false) {
      catalogue = catalogue_chosen w k list i;
      placed = map (λ p. (p.key, placed_chosen w k list p.key i)) (projects_of w l.row.key);
    })
    ∙ sym (λ i. gated w l (shut i))

pub choice_other : (k : Key) (list : List Key) (s : rows.Student) → equals s.row.key k ≡ false
    → with_choice k list s ≡ s
choice_other k list s e = ap (λ b. cond b (record s { choice = list }) s) e

pub ranking_other : (k : Key) (list : List Key) (l : rows.Lecturer) → equals l.row.key k ≡ false
    → with_ranking k list l ≡ l
ranking_other k list l e = ap (λ b. cond b (record l { ranking = Some list }) l) e

pub office_not : (w : World) (c : Key) → equals w.office c ≡ false → caller w c ≡ OfficeCaller → ⊥
office_not w c no' e = grind arith

pub is_office : (w : World) (c : Key) → caller w c ≡ OfficeCaller → w.office ≡ c
is_office w c e = is_same w.office c (grind arith)

-- a student's new list, seen by another
chosen_unseen : (w : World) (c d : Key) (s : rows.Student) (list : List Key) → Good w → caller w d ≡ StudentCaller s
    → equals d c ≡ false → equals w.office c ≡ false → is_choosing w.phase ≡ true
    → (x : Caller) → caller w c ≡ x → view (changed w (Choices s.row.key list)) c ≡ sight_of w x
chosen_unseen w c d s list good es other office open' x e =
    ap (sight_of (changed w (Choices s.row.key list))) (caller_chosen w s.row.key list c ∙ ap (re_chosen s.row.key list) e) ∙ seen x e
  where
    seen : (x : Caller) → caller w c ≡ x
        → sight_of (changed w (Choices s.row.key list)) (re_chosen s.row.key list x) ≡ sight_of w x
    seen NoCaller e = refl
    seen OfficeCaller e = absurd (office_not w c office e)
    seen (LecturerCaller l) e = ap Lecturer (lecturer_blind w s.row.key list l open')
    seen (StudentCaller t) e =
        ap (λ u. Student (student_sees (changed w (Choices s.row.key list)) u))
        (choice_other s.row.key list t (apart student_key (λ s. s.row.code) w.students c d s t good.sound.students_rise
        (student_found w d s es) (student_found w c t e) other))
        ∙ λ i. Student (record (student_sees w t) { catalogue = catalogue_chosen w s.row.key list i })

-- a lecturer's new ranking, seen by another
ranked_unseen : (w : World) (c d : Key) (l : rows.Lecturer) (list : List Key) → Good w → caller w d ≡ LecturerCaller l
    → equals d c ≡ false → equals w.office c ≡ false
    → (x : Caller) → caller w c ≡ x → view (changed w (Ranks l.row.key list)) c ≡ sight_of w x
ranked_unseen w c d l list good el other office x e =
    ap (sight_of (changed w (Ranks l.row.key list))) (caller_ranked w l.row.key list c ∙ ap (re_called (with_ranking l.row.key list)) e)
    ∙ seen x e
  where
    seen : (x : Caller) → caller w c ≡ x
        → sight_of (changed w (Ranks l.row.key list)) (re_called (with_ranking l.row.key list) x) ≡ sight_of w x
    seen NoCaller e = refl
    seen OfficeCaller e = absurd (office_not w c office e)
    seen (LecturerCaller m) e =
        ap (λ u. Lecturer (lecturer_sees (changed w (Ranks l.row.key list)) u))
        (ranking_other l.row.key list m (apart lecturer_key (λ l. l.row.code) w.lecturers c d l m good.sound.lecturers_rise
        (lecturer_found w d l el) (lecturer_found w c m e) other))
        ∙ λ i. Lecturer (record (lecturer_sees w m) { catalogue = catalogue_ranked w l.row.key list i })
    seen (StudentCaller t) e = λ i. Student (record (student_sees w t) { catalogue = catalogue_ranked w l.row.key list i })

-- the call of a student or a lecturer
module _ (w v : World) (c d : Key) (good : Good w) (other : equals d c ≡ false) (office : equals w.office c ≡ false) where
  abbrev Hides : AbstractCall → Decision → Type 0
  Hides ask done = StepLeaves w done.act v → view v c ≡ view w c

  idle_case : (ask : AbstractCall) (reply : Answer) → Hides ask (refuses reply)
  idle_case ask reply left = ap (λ u. view u c) left

  member_case : (x : Caller) → caller w d ≡ x → IsMember (sight_of w x) → (ask : AbstractCall)
      → Hides ask (decision (sight_of w x) ask)
  member_case (LecturerCaller l) e m ask =
      let own : (list : List Key) → v ≡ changed w (Ranks l.row.key list) → view v c ≡ view w c = λ list left. ap (λ u. view u c) left
      ∙ ranked_unseen w c d l list good e other office (caller w c) refl in
      grind (arith, idle_case ask, own)
  member_case (StudentCaller s) e m ask =
      let own : (list : List Key) → is_choosing w.phase ≡ true → v ≡ changed w (Choices s.row.key list) → view v c ≡ view w c
      = λ list now left. ap (λ u. view u c) left ∙ chosen_unseen w c d s list good e other office now (caller w c) refl in
      grind (arith, idle_case ask, own)
  member_case x e m ask = grind arith

pub others : (w v : World) (c d : Key) (ask : AbstractCall) (reply : Answer) → Good w → Step w d ask reply v
    → IsMember (view w d) → equals d c ≡ false → equals w.office c ≡ false → view v c ≡ view w c
others w v c d ask reply good step member other office = member_case w v c d good other office (caller w d) refl member ask step.left

-- an idle request may be struck out

idle_stays : (w v : World) (r : Request) (a : Answer) → Serves w r a v → IsIdle w r → v ≡ w
idle_stays w v r a s idle = grind arith

joined : (w : World) (before rest : List Request) (told said : List Answer) (after later : List World)
    → Run w before told after → Run (end_of w after) rest said later
    → Run w (before ++ rest) (told ++ said) (after ++ later)
joined w [] rest [] said [] later run next = next
joined w (r ∷ rs) rest (a ∷ told) said (v ∷ after) later run next = (run.0, joined v rs rest told said after later run.1 next)
joined w before rest told said after later run next = grind arith

same_told : (c : Key) (w : World) (before : List Request) (r : Request) (rest : List Request) (told : List Answer) (a : Answer)
    (said : List Answer) (after : List World)
    → Run w before told after → equals r.code c ≡ false
    → replies_to c (before ++ rest) (told ++ said) ≡ replies_to c (before ++ r ∷ rest) (told ++ a ∷ said)
same_told c w [] r rest [] a said [] run other = ap (λ b. cond b (a ∷ replies_to c rest said) (replies_to c rest said)) (sym other)
same_told c w (q ∷ qs) r rest (b ∷ told) a said (v ∷ after) run other =
    ap (λ x. cond (equals q.code c) (b ∷ x) x) (same_told c v qs r rest told a said after run.1 other)
same_told c w before r rest told a said after run other = grind arith

pub struck : (c : Key) (w v : World) (before : List Request) (r : Request) (rest : List Request) (told : List Answer) (a : Answer)
    (said : List Answer) (after later : List World)
    → Run w before told after → Serves (end_of w after) r a v → Run v rest said later → equals r.code c ≡ false → IsIdle (end_of w after) r
    → Run w (before ++ rest) (told ++ said) (after ++ later)
    × (replies_to c (before ++ rest) (told ++ said) ≡ replies_to c (before ++ r ∷ rest) (told ++ a ∷ said))
struck c w v before r rest told a said after later run s next other idle = (
  joined w before rest told said after later run (subst (λ u. Run u rest said later) (idle_stays (end_of w after) v r a s idle) next),
  same_told c w before r rest told a said after run other,
)
