-- Until ranking opens, nothing that others ask changes what a caller is told.
use Rattle.portal_rules.proofs.Base.{◌≡◌, ◌≢◌, Bool, true, false, cond, List, [], ◌∷◌, refl, sym, ◌∙◌, ap, subst, inl, map}
use Rattle.portal_rules.proofs.Base.{filter, ◌||◌, Option, Some, None, option_map, cons_option, arith}
use Rattle.portal_rules.proofs.Base.{or_parts, AllByRecursion, Key, equals, put, put_all, World, student_key, is_at}
use Rattle.portal_rules.proofs.Base.{shown_placement, placed_at, applicants_to, projects_of, pairs_with, is_from_ranking}
use Rattle.portal_rules.proofs.Base.{is_ranking, is_still_to_rank, Choices, Lecturers, Projects}
use Rattle.portal_rules.proofs.Base.{Students, To, SecondRound, Change, changed, in_first, with_lecturers}
use Rattle.portal_rules.proofs.Base.{with_projects, with_students, with_choice, new_student}
use Rattle.portal_rules.proofs.Base.{Caller, NoCaller, OfficeCaller}
use Rattle.portal_rules.proofs.Base.{LecturerCaller, StudentCaller, caller, caller_among, lecturer_with, student_with}
use Rattle.portal_rules.proofs.Base.{sight_of, view, catalogue, listings, persons, student_sees, lecturer_sees}
use Rattle.portal_rules.proofs.Base.{office_sees, LecturerSees, OfficeSees, AbstractCall, Answer, Act, Nothing, Apply}
use Rattle.portal_rules.proofs.Base.{Publish, Render, Decision, refuses, decision, answer, to_office, Good, StepLeaves, Step}
use Rattle.portal_rules.proofs.Base.{Wish, Calls, NoCall, Request, Answers, Run, AllAnswered, end_of, replies_to}
use Rattle.portal_rules.proofs.Base.{unavailable}
use Rattle.portal_rules.specs.declared.phase.Phase.{Phase}
use Rattle.portal_rules.specs.declared.phase.Round.{Round}
use Rattle.portal_rules.specs.declared.phase.Round.TheVariants.{First, Second}
use Rattle.portal_rules.specs.declared.view.View.{View as Sight}
use Rattle.portal_rules.specs.declared.view.View.TheVariants.{Lecturer, Student}
use Rattle.portal_rules.specs.World as rows
use Rattle.portal_rules.proofs.Keys.{is_same, is_own, find_map, found_passes}
use Rattle.portal_rules.proofs.AllLaws.{all_weaker, is_sym, kept_filtered, map_same}
use Rattle.portal_rules.proofs.InPlay.{lecturers_kept, projects_kept}
use Rattle.portal_rules.proofs.Opened.{rows_with}
use Rattle.portal_rules.proofs.Unseen.{office_not, student_found, person_of}
use Rattle.portal_rules.proofs.Cases.{by_student, by_lecturer, by_office}
use Rattle.portal_rules.proofs.Hearing.{really}
use Rattle.portal_rules.proofs.Steps.{step_good}
use Rattle.portal_core.specs.Unseen.{own_and_office, OthersPurged}
use Rattle.portal_core.proofs.Going.{step_there, told_else}

-- acts that leave the lists open
abbrev is_open_act : Act → Bool
is_open_act Nothing = true
is_open_act (Render sheet) = true
is_open_act (Apply (Choices k list)) = true
is_open_act (Apply (Lecturers rs)) = true
is_open_act (Apply (Projects rs)) = true
is_open_act (Apply (Students rs)) = true
is_open_act (Apply (To phase)) = true
is_open_act _ = false

-- before ranking there are no others
module _ (w : World) (shut : is_from_ranking w.phase ≡ false) where
  abbrev Opens : AbstractCall → Decision → Type 0
  Opens ask d = is_open_act d.act ≡ true

  no_ranking : is_ranking w.phase ≡ true → ⊥
  no_ranking now = grind (arith, shut)

  no_phase : (phase : Phase) → w.phase ≡ phase → is_from_ranking phase ≡ true → ⊥
  no_phase phase at closed = let e : true ≡ false = sym closed ∙ sym (ap is_from_ranking at) ∙ shut in cc

  opens : (x : Caller) (ask : AbstractCall) → Opens ask (decision (sight_of w x) ask)
  opens NoCaller ask = refl
  opens (StudentCaller s) ask = by_student Opens (λ ask reply. refl) (student_sees w s) (λ list now left none. refl) ask
  opens (LecturerCaller l) ask = by_lecturer Opens (λ ask reply. refl) (lecturer_sees w l) (λ list now none. absurd (no_ranking now)) ask
  opens OfficeCaller ask =
      by_office Opens (λ ask reply. refl) (office_sees w)
      (record {
        lecturers = λ rs new n now took. refl;
        projects = λ rs new n now took. refl;
        students = λ rs new n now took. refl;
        choosing = λ named at. refl;
        ranking = λ named at. refl;
        published = λ named at none. absurd (no_phase _ at refl);
        opened = λ one at. absurd (no_phase _ at refl);
        filled = λ now some. absurd (no_ranking now);
        sheets = λ ask text sheet calm. refl;
      }) ask

-- the world after such an act
abbrev after_act : World → Act → World
after_act w (Apply change) = changed w change
after_act w _ = w

leaves_after : (w v : World) (a : Act) → is_open_act a ≡ true → StepLeaves w a v → v ≡ after_act w a
leaves_after w v Nothing lets l = l
leaves_after w v (Render sheet) lets l = l
leaves_after w v (Apply change) lets l = l
leaves_after w v Publish lets l = cc

-- no change is one of the office's code
office_first : (r : Round) (v w : World) → v.office ≡ w.office → (in_first r v w).office ≡ w.office
office_first First v w same = same
office_first Second v w same = refl

office_changed : (w : World) (change : Change) → (changed w change).office ≡ w.office
office_changed w (Lecturers rs) = office_first w.round (with_lecturers w rs) w refl
office_changed w (Projects rs) = office_first w.round (with_projects w rs) w refl
office_changed w (Students rs) = office_first w.round (with_students w rs) w refl
office_changed w SecondRound = grind arith
office_changed w change = refl

-- one reply more
pub same_both : (own : Bool) (x y : Answer) (xs ys : List Answer) → (own ≡ true → x ≡ y) → xs ≡ ys
    → cond own (x ∷ xs) xs ≡ cond own (y ∷ ys) ys
same_both true x y xs ys one rest = λ i. one refl i ∷ rest i
same_both false x y xs ys one rest = rest

module _ (c : Key) where
  -- a world without the lists of others

  abbrev clear : rows.Student → rows.Student
  clear s = cond (equals s.row.code c) s (record s { choice = [] })

  abbrev cleared : World → World
  cleared w = record w { students = map clear w.students }

  abbrev Alike : World → World → Type 0
  Alike v u = cleared v ≡ cleared u

  clear_row : (s : rows.Student) → (clear s).row ≡ s.row
  clear_row s = elim (equals s.row.code c) as (λ b. (cond b s (record s { choice = [] })).row ≡ s.row) [ true ↦ refl | false ↦ refl ]

  clear_earlier : (s : rows.Student) → (clear s).earlier_placement ≡ s.earlier_placement
  clear_earlier s = elim (equals s.row.code c) as
      (λ b. (cond b s (record s { choice = [] })).earlier_placement ≡ s.earlier_placement) [ true ↦ refl | false ↦ refl ]

  clear_person : (s : rows.Student) → person_of (clear s) ≡ person_of s
  clear_person s = λ i. record { key = (clear_row s i).key; name = (clear_row s i).name }

  clear_shown : (phase : Phase) (s : rows.Student) → shown_placement phase (clear s) ≡ shown_placement phase s
  clear_shown phase s = elim (equals s.row.code c) as
      (λ b. shown_placement phase (cond b s (record s { choice = [] })) ≡ shown_placement phase s) [ true ↦ refl | false ↦ refl ]

  clear_twice : (s : rows.Student) → clear (clear s) ≡ clear s
  clear_twice s = grind arith

  all_twice : (ss : List rows.Student) → map clear (map clear ss) ≡ map clear ss
  all_twice [] = refl
  all_twice (s ∷ ss) = λ i. clear_twice s i ∷ all_twice ss i

  -- the caller sees the same in it

  fixed : (o : Option rows.Student) → ((s : rows.Student) → o ≡ Some s → equals s.row.code c ≡ true) → option_map clear o ≡ o
  fixed None own = refl
  fixed (Some s) own = ap Some (ap (λ b. cond b s (record s { choice = [] })) (own s refl))

  caller_cleared : (w : World) → caller (cleared w) c ≡ caller w c
  caller_cleared w =
      let found : student_with (cleared w) c ≡ student_with w c
      = find_map clear (λ s. equals s.row.code c) (λ s. equals s.row.code c) (λ s. ap (λ r. equals r.code c) (clear_row s)) w.students
      ∙ fixed (student_with w c) (λ s e. found_passes (λ (s : rows.Student). equals s.row.code c) w.students s e) in
      λ i. cond (equals w.office c) OfficeCaller (caller_among (lecturer_with w c) (found i))

  catalogue_cleared : (w : World) → catalogue (cleared w) ≡ catalogue w
  catalogue_cleared w = λ i. listings (lecturers_kept clear clear_earlier w.round w.lecturers w.projects w.students i)
      (projects_kept clear clear_earlier w.round w.lecturers w.projects w.students i)

  placed_cleared : (w : World) (p : Key) → persons (placed_at (cleared w) p) ≡ persons (placed_at w p)
  placed_cleared w p = kept_filtered person_of clear (λ s. is_at p (shown_placement w.phase s)) clear_person
      (λ s. ap (is_at p) (clear_shown w.phase s)) w.students

  abbrev gated : World → rows.Lecturer → Bool → LecturerSees
  gated w l closed = record (lecturer_sees w l) {
    applicants = map (λ p. (p.key, cond closed (persons (applicants_to w p.key)) []))
        (projects_of w l.row.key);
  }

  lecturer_cleared : (w : World) (l : rows.Lecturer) → is_from_ranking w.phase ≡ false → lecturer_sees (cleared w) l ≡ lecturer_sees w l
  lecturer_cleared w l shut =
      (λ i. gated (cleared w) l (shut i))
      ∙ (λ i. record (gated w l false) {
        catalogue = catalogue_cleared w i;
        placed = map (λ p. (p.key, placed_cleared w p.key i)) (projects_of w l.row.key);
      })
      ∙ sym (λ i. gated w l (shut i))

  view_cleared : (w : World) → is_from_ranking w.phase ≡ false → equals w.office c ≡ false → view (cleared w) c ≡ view w c
  view_cleared w shut other = ap (sight_of (cleared w)) (caller_cleared w) ∙ seen (caller w c) refl
    where
      seen : (x : Caller) → caller w c ≡ x → sight_of (cleared w) x ≡ sight_of w x
      seen NoCaller e = refl
      seen OfficeCaller e = absurd (office_not w c other e)
      seen (LecturerCaller l) e = ap Lecturer (lecturer_cleared w l shut)
      seen (StudentCaller s) e = λ i. Student (record (student_sees w s) { catalogue = catalogue_cleared w i })

  -- and the office all but whose list is empty

  pairs_cleared : (phase : Phase) (ss : List rows.Student)
      → pairs_with (shown_placement phase) (map clear ss) ≡ pairs_with (shown_placement phase) ss
  pairs_cleared phase [] = refl
  pairs_cleared phase (s ∷ ss) = λ i. cons_option (option_map (λ p. ((clear_row s i).key, p)) (clear_shown phase s i))
      (pairs_cleared phase ss i)

  abbrev but_lists : OfficeSees → List Key → OfficeSees
  but_lists o list = record o { without_list = list }

  abbrev office_gated : World → Bool → OfficeSees
  office_gated w closed = record (office_sees w) {
    still_to_rank = cond closed
        (map (λ l. l.row.key) (filter (is_still_to_rank w) w.lecturers)) [];
  }

  office_cleared : (w : World) → is_from_ranking w.phase ≡ false
      → office_sees (cleared w) ≡ but_lists (office_sees w) (office_sees (cleared w)).without_list
  office_cleared w shut =
      (λ i. office_gated (cleared w) (shut i))
      ∙ (λ i. record (office_gated w false) {
        students = map_same (λ (s : rows.Student). s.row) clear clear_row w.students i;
        catalogue = catalogue_cleared w i;
        without_list = (office_sees (cleared w)).without_list;
        pairs = pairs_cleared w.phase w.students i;
      })
      ∙ sym (λ i. but_lists (office_gated w (shut i)) (office_sees (cleared w)).without_list)

  act_same : (o : OfficeSees) (list : List Key) (ask : AbstractCall) → (to_office (but_lists o list) ask).act ≡ (to_office o ask).act
  act_same o list ask = grind arith

  -- a change of one is a change of the other

  twice : (f : rows.Student → rows.Student) → ((s : rows.Student) → clear (f s) ≡ clear (f (clear s)))
      → (ss : List rows.Student) → map clear (map f ss) ≡ map clear (map f (map clear ss))
  twice f same [] = refl
  twice f same (s ∷ ss) = λ i. same s i ∷ twice f same ss i

  put_cleared : (x : rows.Student) (ss : List rows.Student)
      → map clear (put student_key x ss) ≡ map clear (put student_key x (map clear ss))
  put_cleared x [] = refl
  put_cleared x (s ∷ ss) = grind (arith, clear_row s, clear_twice s, all_twice ss, put_cleared x ss)

  put_alike : (xs ss ts : List rows.Student) → map clear ss ≡ map clear ts
      → map clear (put_all student_key xs ss) ≡ map clear (put_all student_key xs ts)
  put_alike [] ss ts e = e
  put_alike (x ∷ xs) ss ts e =
      put_alike xs (put student_key x ss) (put student_key x ts)
      (put_cleared x ss ∙ ap (λ l. map clear (put student_key x l)) e ∙ sym (put_cleared x ts))

  choice_cleared : (k : Key) (list : List Key) (s : rows.Student)
      → clear (with_choice k list s) ≡ clear (with_choice k list (clear s))
  choice_cleared k list s = grind arith

  all_cleared : (w : World) → cleared w ≡ cleared (cleared w)
  all_cleared w = λ i. record w { students = sym (all_twice w.students) i }

  in_either : (r : Round) (w new other : World) → cleared new ≡ cleared other
      → cleared (in_first r new w) ≡ cleared (in_first r other (cleared w))
  in_either First w new other e = e
  in_either Second w new other e = all_cleared w

  absorbs : (w : World) (a : Act) → is_open_act a ≡ true → cleared (after_act w a) ≡ cleared (after_act (cleared w) a)
  absorbs w (Render sheet) lets = λ i. record w { students = sym (all_twice w.students) i }
  absorbs w Nothing lets = all_cleared w
  absorbs w (Apply (Choices k list)) lets = λ i. record w { students = twice (with_choice k list) (choice_cleared k list) w.students i }
  absorbs w (Apply (To phase)) lets = all_cleared (record w { phase = phase })
  absorbs w (Apply (Lecturers rs)) lets = in_either w.round w (with_lecturers w rs) (with_lecturers (cleared w) rs)
      (all_cleared (with_lecturers w rs))
  absorbs w (Apply (Projects rs)) lets = in_either w.round w (with_projects w rs) (with_projects (cleared w) rs)
      (all_cleared (with_projects w rs))
  absorbs w (Apply (Students rs)) lets = in_either w.round w (with_students w rs) (with_students (cleared w) rs)
      (λ i. record w { students = put_alike (map new_student rs) w.students (map clear w.students) (sym (all_twice w.students)) i })
  absorbs w a lets = absurd (cc)

  both_left : (v u v' u' : World) (a : Act) → is_open_act a ≡ true → Alike v u → StepLeaves v a v' → StepLeaves u a u'
      → Alike v' u'
  both_left v u v' u' a lets e l m =
      ap cleared (leaves_after v v' a lets l) ∙ absorbs v a lets ∙ ap (λ x. cleared (after_act x a)) e
      ∙ sym (absorbs u a lets) ∙ ap cleared (sym (leaves_after u u' a lets m))

  -- what the caller and the office bring about is the same in both

  module _ (v u : World) (e : Alike v u) (shut : is_from_ranking v.phase ≡ false) (other : equals v.office c ≡ false) where
    shut_too : is_from_ranking u.phase ≡ false
    shut_too = ap (λ (x : World). is_from_ranking x.phase) (sym e) ∙ shut

    views_alike : view v c ≡ view u c
    views_alike =
        sym (view_cleared v shut other) ∙ ap (λ x. view x c) e
        ∙ view_cleared u shut_too (ap (λ (x : World). equals x.office c) (sym e) ∙ other)

    act_of_office : (w : World) → is_from_ranking w.phase ≡ false → (ask : AbstractCall)
        → (to_office (office_sees w) ask).act ≡ (to_office (office_sees (cleared w)) ask).act
    act_of_office w closed ask =
        sym (ap (λ o. (to_office o ask).act) (office_cleared w closed)
        ∙ act_same (office_sees w) (office_sees (cleared w)).without_list ask)

    office_alike : (ask : AbstractCall)
        → (decision (view v v.office) ask).act ≡ (decision (view u v.office) ask).act
    office_alike ask =
        ap (λ b. (decision (sight_of v (cond b OfficeCaller (caller_among (lecturer_with v v.office) (student_with v v.office)))) ask).act)
        (is_own v.office)
        ∙ act_of_office v shut ask ∙ ap (λ x. (to_office (office_sees x) ask).act) e ∙ sym (act_of_office u shut_too ask)
        ∙ sym (ap (λ b. (decision (sight_of u (cond b OfficeCaller (caller_among (lecturer_with u v.office) (student_with u v.office))))
        ask).act) (ap (λ (x : World). equals x.office v.office) (sym e) ∙ is_own v.office))

    acts_alike : (code : Key) → (equals code c || equals code v.office) ≡ true → (ask : AbstractCall)
        → (decision (view v code) ask).act ≡ (decision (view u code) ask).act
    acts_alike code mine ask = by_code (equals code c) refl
      where
        by_code : (b : Bool) → equals code c ≡ b → (decision (view v code) ask).act ≡ (decision (view u code) ask).act
        by_code true own =
            subst (λ k. (decision (view v k) ask).act ≡ (decision (view u k) ask).act) (sym (is_same code c own))
            (ap (λ x. (decision x ask).act) views_alike)
        by_code false own =
            let office : equals code v.office ≡ true = ap (λ b. b || equals code v.office) (sym own) ∙ mine in
            subst (λ k. (decision (view v k) ask).act ≡ (decision (view u k) ask).act) (sym (is_same code v.office office))
            (office_alike ask)

    step_alike : (code : Key) → (equals code c || equals code v.office) ≡ true → (ask : AbstractCall) (a b : Answer) (v' u' : World)
        → Step v code ask a v' → Step u code ask b u' → Alike v' u'
    step_alike code mine ask a b v' u' s t =
        both_left v u v' u' (decision (view v code) ask).act (opens v shut (caller v code) ask) e s.left
        (subst (λ act. StepLeaves u act u') (sym (acts_alike code mine ask)) t.left)

  -- what another brings about is not seen

  choice_unseen : (k : Key) (list : List Key) (ss : List rows.Student)
      → AllByRecursion (λ s. equals s.row.key k ≡ true → equals s.row.code c ≡ false) ss
      → map clear (map (with_choice k list) ss) ≡ map clear ss
  choice_unseen k list [] all = refl
  choice_unseen k list (s ∷ ss) all =
      let here : clear (with_choice k list s) ≡ clear s = grind (arith, all.0) in
      λ i. here i ∷ choice_unseen k list ss all.1 i

  module _ (v v' : World) (code : Key) (good : Good v) (shut : is_from_ranking v.phase ≡ false) (another : equals code c ≡ false)
      (no_office : equals code v.office ≡ false) where
    abbrev Unseen : AbstractCall → Decision → Type 0
    Unseen ask d = StepLeaves v d.act v' → Alike v' v

    same_left : (ask : AbstractCall) (reply : Answer) → Unseen ask (refuses reply)
    same_left ask reply left = ap cleared left

    chosen_unseen : (s : rows.Student) → caller v code ≡ StudentCaller s → (list : List Key)
        → v' ≡ changed v (Choices s.row.key list) → Alike v' v
    chosen_unseen s is list left =
        let found : student_with v code ≡ Some s = student_found v code s is in
        let own : s.row.code ≡ code = is_same _ _ (found_passes (λ (t : rows.Student). equals t.row.code code) v.students s found) in
        let all : AllByRecursion (λ (t : rows.Student). equals t.row.key s.row.key ≡ true → equals t.row.code c ≡ false) v.students
        = all_weaker _ _ (λ t one same. ap (λ (x : rows.Student). equals x.row.code c) (one (is_same t.row.key s.row.key same))
        ∙ ap (λ k. equals k c) own ∙ another) v.students (rows_with student_key _ v.students s good.sound.students_rise found) in
        ap cleared left ∙ λ i. record v { students = choice_unseen s.row.key list v.students all i }

    unseen : (x : Caller) → caller v code ≡ x → (ask : AbstractCall) → Unseen ask (decision (sight_of v x) ask)
    unseen NoCaller is ask = λ left. ap cleared left
    unseen OfficeCaller is ask = λ left. absurd (office_not v code (is_sym v.office code ∙ no_office) is)
    unseen (StudentCaller s) is ask = by_student Unseen same_left (student_sees v s) (λ list now left none. chosen_unseen s is list) ask
    unseen (LecturerCaller l) is ask = by_lecturer Unseen same_left (lecturer_sees v l)
        (λ list now none. absurd (no_ranking v shut now)) ask

  -- one request

  abbrev Shut : World → Type 0
  Shut w = is_from_ranking w.phase ≡ false

  served_unseen : (v v' : World) (r : Request) (wish : Wish) (a : Answer) → Good v → Shut v → equals r.code c ≡ false
      → equals r.code v.office ≡ false → Answers v r wish a v' → Alike v' v
  served_unseen v v' r (Calls ask) a good shut another no_office s =
      unseen v v' r.code good shut another no_office (caller v r.code) refl ask s.left
  served_unseen v v' r (NoCall refusal) a good shut another no_office s = ap cleared s.1

  office_stays : (v v' : World) (a : Act) → StepLeaves v a v' → v'.office ≡ v.office
  office_stays v v' Nothing l = ap (λ (x : World). x.office) l
  office_stays v v' (Render sheet) l = ap (λ (x : World). x.office) l
  office_stays v v' Publish l = ap (λ (x : World). x.office) l.1
  office_stays v v' (Apply change) l = ap (λ (x : World). x.office) l ∙ office_changed v change

  served_office : (v v' : World) (r : Request) (wish : Wish) (a : Answer) → Answers v r wish a v' → v'.office ≡ v.office
  served_office v v' r (Calls ask) a s = office_stays v v' _ s.left
  served_office v v' r (NoCall refusal) a s = ap (λ (x : World). x.office) s.1

  served_good : (v v' : World) (r : Request) (wish : Wish) (a : Answer) → Good v → Answers v r wish a v' → Good v'
  served_good v v' r (Calls ask) a good s = step_good v v' r.code ask a good s
  served_good v v' r (NoCall refusal) a good s = subst Good (sym s.1) good

  -- the request in the other world, with the same reply if it is the caller's
  record Mate (v u v' : World) (r : Request) (wish : Wish) (a : Answer) : Type 0 where
    reply : Answer
    left : World
    served : Answers u r wish reply left
    known : reply ≢ unavailable
    good : Good left
    alike : Alike v' left
    same : equals r.code c ≡ true → reply ≡ a

  mate : (v u v' : World) (r : Request) (wish : Wish) (a : Answer) → Good v → Good u → Alike v u → Shut v
      → equals v.office c ≡ false → (equals r.code c || equals r.code v.office) ≡ true → Answers v r wish a v' → a ≢ unavailable
      → Mate v u v' r wish a
  mate v u v' r (Calls ask) a good_v good_u e shut other mine s known =
      let one = step_there u good_u r.code ask s.form in
      record {
        reply = answer (view u r.code) ask;
        left = one.0;
        served = one.1;
        known = told_else (view u r.code) ask;
        good = step_good u one.0 r.code ask (answer (view u r.code) ask) good_u one.1;
        alike = step_alike v u e shut other r.code mine ask a (answer (view u r.code) ask) v' one.0 s one.1;
        same = λ own. ap (λ k. answer (view u k) ask) (is_same r.code c own) ∙ sym (ap (λ x. answer x ask) (views_alike v u e shut other))
            ∙ ap (λ k. answer (view v k) ask) (sym (is_same r.code c own)) ∙ sym s.told;
      }
  mate v u v' r (NoCall refusal) a good_v good_u e shut other mine s known =
      record {
        reply = refusal;
        left = u;
        served = (refl, refl);
        known = λ failed. known (s.0 ∙ failed);
        good = good_u;
        alike = ap cleared s.1 ∙ e;
        same = λ own. sym s.0;
      }

  -- a whole run

  abbrev PurgesBy : World → List Request → List Answer → Sight → Type 0
  PurgesBy u kept replies last =
      (said : List Answer) × (later : List World) × Run u kept said later × AllAnswered said
      × (replies_to c kept said ≡ replies) × (view (end_of u later) c ≡ last)

  abbrev Purges : Key → World → World → List Request → List Answer → List World → Type 0
  Purges o v u asked told after = PurgesBy u (own_and_office c o asked) (replies_to c asked told) (view (end_of v after) c)

  -- the requests with this one, if it stays
  abbrev if_kept : Key → Request → List Request → Bool → List Request
  if_kept o r rs b = cond b (r ∷ own_and_office c o rs) (own_and_office c o rs)

  purges : (o : Key) (v u : World) (asked : List Request) (told : List Answer) (after : List World) → Good v → Good u
      → Alike v u → v.office ≡ o → equals o c ≡ false → Shut v → Run v asked told after → AllAnswered told
      → AllByRecursion Shut after → Purges o v u asked told after
  purges o v u [] [] [] good_v good_u e is other shut run all closed =
      ([], [], tt, tt, refl, sym (views_alike v u e shut (ap (λ k. equals k c) is ∙ other)))
  purges o v u (r ∷ rs) (a ∷ told) (v' ∷ after) good_v good_u e is other shut run all closed =
      by_test (λ u' good_u' e'. purges o v' u' rs told after good' good_u' e' is' other closed.0 run.1 all.1 closed.1)
      (equals r.code c || equals r.code o) refl
    where
      s : Answers v r r.wish a v'
      s = really v v' r a run.0 all.0

      good' : Good v'
      good' = served_good v v' r r.wish a good_v s

      is' : v'.office ≡ o
      is' = served_office v v' r r.wish a s ∙ is

      by_test : ((u' : World) → Good u' → Alike v' u' → Purges o v' u' rs told after) → (b : Bool)
          → (equals r.code c || equals r.code o) ≡ b
          → PurgesBy u (if_kept o r rs b) (replies_to c (r ∷ rs) (a ∷ told)) (view (end_of v' after) c)
      by_test again true mine =
          let m : Mate v u v' r r.wish a = mate v u v' r r.wish a good_v good_u e shut (ap (λ k. equals k c) is ∙ other)
          (ap (λ k. equals r.code c || equals r.code k) is ∙ mine) s all.0 in
          let rest : Purges o v' m.left rs told after = again m.left m.good m.alike in
          let replies : cond (equals r.code c) (m.reply ∷ replies_to c (own_and_office c o rs) rest.0)
          (replies_to c (own_and_office c o rs) rest.0) ≡ cond (equals r.code c) (a ∷ replies_to c rs told) (replies_to c rs told)
          = same_both (equals r.code c) m.reply a _ _ m.same rest.4 in
          (m.reply ∷ rest.0, m.left ∷ rest.1, (inl m.served, rest.2), (m.known, rest.3), replies, rest.5)
      by_test again false mine =
          let parts : (equals r.code c ≡ false) × (equals r.code o ≡ false) = or_parts (equals r.code c) (equals r.code o) mine in
          let unseen' : Alike v' v = served_unseen v v' r r.wish a good_v shut parts.0 (ap (equals r.code) is ∙ parts.1) s in
          let rest : Purges o v' u rs told after = again u good_u (unseen' ∙ e) in
          let replies : replies_to c (own_and_office c o rs) rest.0
          ≡ cond (equals r.code c) (a ∷ replies_to c rs told) (replies_to c rs told)
          = rest.4 ∙ ap (λ b. cond b (a ∷ replies_to c rs told) (replies_to c rs told)) (sym parts.0) in
          (rest.0, rest.1, rest.2, rest.3, replies, rest.5)
  purges o v u asked told after good_v good_u e is other shut run all closed = grind arith

pub others_purged : OthersPurged
others_purged c w asked told after good other shut run all closed =
    purges c w.office w w asked told after good good refl refl other shut run all closed
