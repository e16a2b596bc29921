-- What is shown of a result is shown in each world that comes after.
use Rattle.portal_rules.proofs.Base.{◌≡◌, suc, Bool, true, false, cond, List, [], ◌∷◌, Contains, refl, sym, ◌∙◌, ap}
use Rattle.portal_rules.proofs.Base.{subst, arith, map, filter, Option, Some, None, option_map, is_none, filter_map}
use Rattle.portal_rules.proofs.Base.{cons_option, AllByRecursion, Key, equals, is_before, put, put_all, World, first}
use Rattle.portal_rules.proofs.Base.{first_placed, first_published, is_at, is_choosing, is_published, is_second}
use Rattle.portal_rules.proofs.Base.{shown_placement, pairs_of, placed_at, projects_of, lecturer_key, project_key}
use Rattle.portal_rules.proofs.Base.{student_key, Phase, Setup, Choosing, Ranking, Published, Round, First, Second}
use Rattle.portal_rules.proofs.Base.{Person, ProjectRow, Nobody, Office, Lecturer, Student, Choices, To, Placements}
use Rattle.portal_rules.proofs.Base.{SecondRound, changed, ranked_before, placed_before, with_choice, with_ranking}
use Rattle.portal_rules.proofs.Base.{with_place, with_fill, new_lecturer, new_student, in_first, Caller, NoCaller}
use Rattle.portal_rules.proofs.Base.{OfficeCaller, LecturerCaller, StudentCaller, caller, sight_of, view, office_sees}
use Rattle.portal_rules.proofs.Base.{lecturer_sees, student_sees, persons, lecturer_with, student_with, AbstractCall}
use Rattle.portal_rules.proofs.Base.{Answer, Decision, decision, Good, StepLeaves, Step, Request, Run, All-contains}
use Rattle.portal_rules.proofs.Base.{All-from_recursion, Sight, IsShownAt, ShowsStill, All-contains_itself}
use Rattle.portal_rules.proofs.Base.{recursion_from_All}
use Rattle.portal_rules.specs.World as rows
use Rattle.portal_rules.proofs.Keys.{is_same, found_passes, found_all, all_unmap}
use Rattle.portal_rules.proofs.AllLaws.{all_map, all_weaker, all_both}
use Rattle.portal_rules.proofs.Acts.{choice_row}
use Rattle.portal_rules.proofs.InPlay.{fill_row, ranking_row}
use Rattle.portal_rules.proofs.Unseen.{choosing_open, lecturer_found, student_found, is_office, person_of}
use Rattle.portal_rules.proofs.Kept.{choice_first, place_row, place_first}
use Rattle.portal_rules.proofs.Opened.{opens_to}
use Rattle.portal_rules.proofs.Named.{office_named, lecturers_named, students_named}
use Rattle.portal_rules.proofs.Steps.{run_keeps, step_good}
use Rattle.portal_rules.proofs.Cases.{by_student, by_lecturer, by_office}

-- what is of a list, and of what is made of it

module _ {X : Type 0} where
  one_of : (P : X → Type 0) (xs : List X) (x : X) → AllByRecursion P xs → Contains xs x → P x
  one_of P xs x all there = All-contains P xs x (All-from_recursion P xs all) there

  later : (x : X) (xs : List X) (y : X) → Contains xs y → Contains (x ∷ xs) y
  later x xs y c = (suc c.0, (let low = c.1 in omega arith), c.2)

  here : (x : X) (xs : List X) → Contains (x ∷ xs) x
  here x xs = (0, omega arith, refl)

  contained : (xs : List X) → AllByRecursion (Contains xs) xs
  contained xs = recursion_from_All (Contains xs) xs (All-contains_itself xs)

  filtered : (p : X → Bool) (xs : List X) → AllByRecursion (λ x. p x ≡ true → Contains (filter p xs) x) xs
  filtered p [] = tt
  filtered p (x ∷ xs) =
      elim (p x) as (λ b. (b ≡ true → Contains (cond b (x ∷ filter p xs) (filter p xs)) x)
      × AllByRecursion (λ y. p y ≡ true → Contains (cond b (x ∷ filter p xs) (filter p xs)) y) xs) [
        | true ↦ (λ e. here x (filter p xs), all_weaker _ _ (λ y h e. later x (filter p xs) y (h e)) xs (filtered p xs))
        | false ↦ (λ e. cc, filtered p xs)
      ]

  all_filtered : (P : X → Type 0) (p : X → Bool) (xs : List X) → AllByRecursion (λ x. p x ≡ true → P x) xs
      → AllByRecursion P (filter p xs)
  all_filtered P p [] all = tt
  all_filtered P p (x ∷ xs) all = grind (arith, all.0, all_filtered P p xs all.1)

module _ {X Y : Type 0} (f : X → Y) where
  mapped : (xs : List X) (x : X) → Contains xs x → Contains (map f xs) (f x)
  mapped xs x there = one_of (λ y. Contains (map f xs) (f y)) xs x (all_unmap (Contains (map f xs)) f xs (contained (map f xs))) there

module _ {X Y : Type 0} (f : X → Option Y) where
  shown_of : (xs : List X) → AllByRecursion (λ x. (y : Y) → f x ≡ Some y → Contains (filter_map f xs) y) xs
  shown_of [] = tt
  shown_of (x ∷ xs) =
      elim (f x) as (λ o. ((y : Y) → o ≡ Some y → Contains (cons_option o (filter_map f xs)) y)
      × AllByRecursion (λ z. (y : Y) → f z ≡ Some y → Contains (cons_option o (filter_map f xs)) y) xs) [
        | None ↦ (λ y e. cc, shown_of xs)
        | Some a ↦ (
          λ y e. let same : a ≡ y = cc in
              subst (Contains (a ∷ filter_map f xs)) same (here a (filter_map f xs)),
          all_weaker _ _ (λ z h y e. later a (filter_map f xs) y (h y e)) xs (shown_of xs),
        )
      ]

  all_shown : (P : Y → Type 0) (xs : List X) → AllByRecursion (λ x. (y : Y) → f x ≡ Some y → P y) xs
      → AllByRecursion P (filter_map f xs)
  all_shown P [] all = tt
  all_shown P (x ∷ xs) all = grind (arith, all.0, all_shown P xs all.1)

-- a later world: each row is there, and each student shown a project is still shown the same one

abbrev Mate : {X : Type 0} → (X → X → Type 0) → List X → X → Type 0
Mate {X} R ys x = (y : X) × Contains ys y × R x y

abbrev SameLecturer : rows.Lecturer → rows.Lecturer → Type 0
SameLecturer l m = m.row ≡ l.row

abbrev KeepsPlace : Phase → Phase → rows.Student → rows.Student → Type 0
KeepsPlace before after s t = (t.row ≡ s.row) × ((p : Key) → shown_placement before s ≡ Some p → shown_placement after t ≡ Some p)

record Grows (w v : World) : Type 0 where
  office : v.office ≡ w.office
  lecturers : AllByRecursion (Mate SameLecturer v.lecturers) w.lecturers
  projects : AllByRecursion (Contains v.projects) w.projects
  students : AllByRecursion (Mate (KeepsPlace w.phase v.phase) v.students) w.students

module _ (w v : World) (g : Grows w v) (good : Good v) where
  -- a student who was shown at a project is so still
  at_project : (p : Key) → AllByRecursion (Contains (persons (placed_at v p))) (persons (placed_at w p))
  at_project p =
      all_map (Contains (persons (placed_at v p))) person_of (placed_at w p)
      (all_filtered (λ s. Contains (persons (placed_at v p)) (person_of s)) (λ s. is_at p (shown_placement w.phase s)) w.students
      (all_weaker _ _ (λ s mate h. each s mate.0 mate.1 mate.2 h) w.students g.students))
    where
      place : (s t : rows.Student) → KeepsPlace w.phase v.phase s t → (o : Option Key) → shown_placement w.phase s ≡ o
          → is_at p o ≡ true → is_at p (shown_placement v.phase t) ≡ true
      place s t k o e h = grind (arith, k.1)

      each : (s t : rows.Student) → Contains v.students t → KeepsPlace w.phase v.phase s t
          → is_at p (shown_placement w.phase s) ≡ true → Contains (persons (placed_at v p)) (person_of s)
      each s t there k h =
          subst (Contains (persons (placed_at v p))) (λ i. record { key = (k.0 i).key; name = (k.0 i).name })
          (mapped person_of (placed_at v p) t (one_of _ v.students t (filtered (λ s. is_at p (shown_placement v.phase s)) v.students) there
          (place s t k (shown_placement w.phase s) refl h)))

  at_projects : (l m : rows.Lecturer) → m.row ≡ l.row → (p : Key) (s : Person)
      → IsShownAt (lecturer_sees w l).placed p s → IsShownAt (lecturer_sees v m).placed p s
  at_projects l m same p s (there, entry, one) =
      one_of (λ (x : Key × List Person). (s : Person) → Contains x.1 s → IsShownAt (lecturer_sees v m).placed x.0 s)
      (lecturer_sees w l).placed (p, there)
      (all_map _ (λ (q : ProjectRow). (q.key, persons (placed_at w q.key))) (projects_of w l.row.key)
      (all_filtered _ (λ q. equals q.lecturer l.row.key) w.projects (all_weaker _ _ each w.projects g.projects)))
      entry s one
    where
      each : (q : ProjectRow) → Contains v.projects q → equals q.lecturer l.row.key ≡ true → (s : Person)
          → Contains (persons (placed_at w q.key)) s → IsShownAt (lecturer_sees v m).placed q.key s
      each q known own s one =
          let mine : Contains (projects_of v m.row.key) q =
          one_of _ v.projects q (filtered (λ q. equals q.lecturer m.row.key) v.projects) known
          (ap (λ r. equals q.lecturer r.key) same ∙ own) in (
            persons (placed_at v q.key),
            mapped (λ (q : ProjectRow). (q.key, persons (placed_at v q.key))) (projects_of v m.row.key) q mine,
            one_of _ (persons (placed_at w q.key)) s (at_project q.key) one,
          )

  pairs_stay : AllByRecursion (Contains (pairs_of v)) (pairs_of w)
  pairs_stay = all_shown _ (Contains (pairs_of v)) w.students (all_weaker _ _ (λ s mate. each s mate.0 mate.1 mate.2) w.students g.students)
    where
      each : (s t : rows.Student) → Contains v.students t → KeepsPlace w.phase v.phase s t → (y : Key × Key)
          → option_map (λ p. (s.row.key, p)) (shown_placement w.phase s) ≡ Some y → Contains (pairs_of v) y
      each s t there k y e =
          one_of _ v.students t (shown_of (λ t. option_map (λ p. (t.row.key, p)) (shown_placement v.phase t)) v.students) there y
          (at (shown_placement w.phase s) refl e)
        where
          at : (o : Option Key) → shown_placement w.phase s ≡ o → option_map (λ p. (s.row.key, p)) o ≡ Some y
              → option_map (λ p. (t.row.key, p)) (shown_placement v.phase t) ≡ Some y
          at o f h = grind (arith, k.1, k.0)

  still : (c : Key) (x : Caller) → caller w c ≡ x → ShowsStill (sight_of w x) (view v c)
  still c NoCaller e = tt
  still c OfficeCaller e =
      subst (ShowsStill (Office (office_sees w))) (sym (office_named v good.sound) ∙ ap (view v) (g.office ∙ is_office w c e))
      (λ x there. one_of _ (pairs_of w) x pairs_stay there)
  still c (LecturerCaller l) e =
      let found : lecturer_with w c ≡ Some l = lecturer_found w c l e in
      let mate : Mate SameLecturer v.lecturers l = found_all _ _ w.lecturers l g.lecturers found in
      let code : l.row.code ≡ c = is_same _ _ (found_passes _ w.lecturers l found) in
      subst (ShowsStill (Lecturer (lecturer_sees w l)))
      (sym (one_of _ v.lecturers mate.0 (lecturers_named v good.sound) mate.1) ∙ ap (view v) (ap (λ r. r.code) mate.2 ∙ code))
      (λ i. record { key = (mate.2 i).key; name = (mate.2 i).name }, at_projects l mate.0 mate.2)
  still c (StudentCaller s) e =
      let found : student_with w c ≡ Some s = student_found w c s e in
      let mate : Mate (KeepsPlace w.phase v.phase) v.students s = found_all _ _ w.students s g.students found in
      let code : s.row.code ≡ c = is_same _ _ (found_passes _ w.students s found) in
      subst (ShowsStill (Student (student_sees w s)))
      (sym (one_of _ v.students mate.0 (students_named v good.sound) mate.1) ∙ ap (view v) (ap (λ r. r.code) mate.2.0 ∙ code))
      (λ i. record { key = (mate.2.0 i).key; name = (mate.2.0 i).name }, mate.2.1)

-- rows that stay, that are changed, and beside which new ones are put

kept : {X : Type 0} (R : X → X → Type 0) → ((x : X) → R x x) → (xs : List X) → AllByRecursion (Mate R xs) xs
kept R same xs = all_weaker _ _ (λ x there. (x, there, same x)) xs (contained xs)

renewed : {X : Type 0} (R : X → X → Type 0) (f : X → X) → ((x : X) → R x (f x)) → (xs : List X)
    → AllByRecursion (Mate R (map f xs)) xs
renewed R f same xs = all_weaker _ _ (λ x there. (f x, mapped f xs x there, same x)) xs (contained xs)

module _ {X : Type 0} (key : X → Key) where
  beside : (x : X) (ys : List X) → AllByRecursion (Contains (put key x ys)) ys
  beside x [] = tt
  beside x (y ∷ ys) =
      elim (is_before (key x) (key y)) as (λ b. AllByRecursion (Contains (cond b (x ∷ y ∷ ys) (y ∷ put key x ys))) (y ∷ ys)) [
        | true ↦ all_weaker _ _ (later x (y ∷ ys)) (y ∷ ys) (contained (y ∷ ys))
        | false ↦ (here y (put key x ys), all_weaker _ _ (later y (put key x ys)) ys (beside x ys))
      ]

  all_beside : (xs ys : List X) → AllByRecursion (Contains (put_all key xs ys)) ys
  all_beside [] ys = contained ys
  all_beside (x ∷ xs) ys = all_weaker _ _ (λ y there. one_of _ (put key x ys) y (all_beside xs (put key x ys)) there) ys (beside x ys)

-- where nothing was published a student is shown the project of the earlier round, if any
lasts : (before after : Phase) → is_published before ≡ false → (s t : rows.Student)
    → t.earlier_placement ≡ s.earlier_placement → (p : Key) → shown_placement before s ≡ Some p
    → shown_placement after t ≡ Some p
lasts before after shut s t same p h = grind arith

-- each act leaves such a world

module _ (w : World) where
  whole : Grows w w
  whole = record {
    office = refl;
    lecturers = kept SameLecturer (λ l. refl) w.lecturers;
    projects = contained w.projects;
    students = kept _ (λ s. (refl, λ p e. e)) w.students;
  }

  other_students : (after : Phase) (ss : List rows.Student)
      → AllByRecursion (Mate (KeepsPlace w.phase after) ss) w.students
      → Grows w (record w { phase = after; students = ss })
  other_students after ss all = record { office = refl; lecturers = whole.lecturers; projects = whole.projects; students = all }

  other_lecturers : (ls : List rows.Lecturer) → AllByRecursion (Mate SameLecturer ls) w.lecturers
      → Grows w (record w { lecturers = ls })
  other_lecturers ls all = record { office = refl; lecturers = all; projects = whole.projects; students = whole.students }

  to_phase : (before after : Phase) → w.phase ≡ before → is_published before ≡ false → Grows w (changed w (To after))
  to_phase before after at shut = other_students after w.students
      (kept _ (λ s. (refl, lasts w.phase after (ap is_published at ∙ shut) s s refl)) w.students)

  in_either : (u : World) → Grows w u → (r : Round) → Grows w (in_first r u w)
  in_either u g First = g
  in_either u g Second = whole

  chosen : (k : Key) (list : List Key) → is_choosing w.phase ≡ true → Grows w (changed w (Choices k list))
  chosen k list now =
      other_students w.phase (map (with_choice k list) w.students)
      (renewed _ (with_choice k list)
      (λ s. (
        choice_row k list s,
        lasts w.phase w.phase (choosing_open w.phase now).1 s (with_choice k list s)
            (ap (λ x. x.placed) (choice_first k list s)),
      )) w.students)

  published : (pairs : List (Key × Key)) → w.phase ≡ Ranking → Grows w (changed w (Placements pairs))
  published pairs at =
      other_students Published (map (with_place pairs) w.students)
      (renewed _ (with_place pairs)
      (λ s. (
        place_row pairs s,
        lasts w.phase Published (ap is_published at) s (with_place pairs s)
            (ap (λ x. x.placed) (place_first pairs s)),
      )) w.students)

  -- the place of the first round is shown on in the second
  second : Good w → w.round ≡ First → w.phase ≡ Published → Grows w (changed w SecondRound)
  second good one out =
      subst (Grows w) (sym (opens_to w one out))
      (record {
        office = refl;
        lecturers = renewed SameLecturer ranked_before (λ l. refl) w.lecturers;
        projects = contained w.projects;
        students = all_weaker _ _ (λ s h. (placed_before s, mapped placed_before w.students s h.0, (refl, λ p e. shown s h.1.1 p e)))
            w.students
            (all_both _ _ w.students (contained w.students) (good.sound.no_earlier_lists (ap is_second one)));
      })
    where
      shown : (s : rows.Student) → s.earlier_placement ≡ None → (p : Key) → shown_placement w.phase s ≡ Some p
          → shown_placement Choosing (placed_before s) ≡ Some p
      shown s none p e =
          let at : s.placed ≡ Some p = sym (λ i. cond (is_none (none i)) (cond (is_published (out i)) s.placed None) (none i)) ∙ e in
          ap (λ o. cond (is_none o) None o) at

module _ (w v : World) (good : Good w) where
  becomes : (u : World) → Grows w u → v ≡ u → Grows w v
  becomes u g e = subst (Grows w) (sym e) g

  abbrev Leads : AbstractCall → Decision → Type 0
  Leads ask d = StepLeaves w d.act v → Grows w v

  grows : (x : Caller) (ask : AbstractCall) → StepLeaves w (decision (sight_of w x) ask).act v → Grows w v
  grows NoCaller ask = becomes w (whole w)
  grows (StudentCaller s) ask = by_student Leads (λ ask reply. becomes w (whole w)) (student_sees w s)
      (λ list now left none. becomes _ (chosen w s.row.key list now)) ask
  grows (LecturerCaller l) ask =
      by_lecturer Leads (λ ask reply. becomes w (whole w)) (lecturer_sees w l)
      (λ list now none. becomes _ (other_lecturers w _
      (renewed SameLecturer (with_ranking l.row.key list) (ranking_row l.row.key list) w.lecturers))) ask
  grows OfficeCaller ask =
      by_office Leads (λ ask reply. becomes w (whole w)) (office_sees w)
      (record {
        lecturers = λ rs new n now took. becomes _
            (in_either w _ (other_lecturers w _ (all_weaker _ _ (λ l there. (l, there, refl)) w.lecturers
            (all_beside lecturer_key (map new_lecturer new) w.lecturers))) w.round);
        projects = λ rs new n now took. becomes _
            (in_either w _ (record {
              office = refl;
              lecturers = (whole w).lecturers;
              projects = all_beside project_key new w.projects;
              students = (whole w).students;
            }) w.round);
        students = λ rs new n now took. becomes _
            (in_either w _ (other_students w w.phase _
            (all_weaker _ _ (λ s there. (s, there, (refl, λ p e. e))) w.students (all_beside student_key (map new_student new) w.students)))
            w.round);
        choosing = λ named at. becomes _ (to_phase w Setup Choosing at refl);
        ranking = λ named at. becomes _ (to_phase w Choosing Ranking at refl);
        published = λ named at none left. becomes _ (published w left.0 at) left.1;
        opened = λ one at. becomes _ (second w good one at);
        filled = λ now some. becomes _ (other_lecturers w _ (renewed SameLecturer (with_fill w) (fill_row w) w.lecturers));
        sheets = λ ask text sheet calm. becomes w (whole w);
      }) ask

pub step_still : (w v : World) (c code : Key) (ask : AbstractCall) (reply : Answer) → Good w → Step w code ask reply v
    → ShowsStill (view w c) (view v c)
step_still w v c code ask reply g s = still w v (grows w v g (caller w code) ask s.left) (step_good w v code ask reply g s) c
    (caller w c) refl

-- a run

still_then : (a b c : Sight) → ShowsStill a b → ShowsStill b c → ShowsStill a c
still_then Nobody b c h k = tt
still_then (Student v) b c h k = grind arith
still_then (Lecturer v) (Lecturer u) (Lecturer t) h k = (k.0 ∙ h.0, λ p s e. k.1 p s (h.1 p s e))
still_then (Office v) (Office u) (Office t) h k = λ x e. k x (h x e)
still_then a b c h k = grind arith

abbrev StillGood : World → Key → World → Type 0
StillGood w c v = Good v × ShowsStill (view w c) (view v c)

pub run_still : (c : Key) (w : World) (asked : List Request) (told : List Answer) (after : List World) → Good w
    → Run w asked told after → AllByRecursion (λ v. ShowsStill (view w c) (view v c)) after
run_still c w asked told after g run = all_weaker _ _ (λ v h. h.1) after
    (run_keeps (StillGood w c) step w asked told after (g, still w w (whole w) g c (caller w c) refl) run)
  where
    step : (u v : World) (code : Key) (ask : AbstractCall) (reply : Answer) → StillGood w c u → Step u code ask reply v
        → StillGood w c v
    step u v code ask reply (good, so_far) s =
        (step_good u v code ask reply good s, still_then (view w c) (view u c) (view v c) so_far (step_still u v c code ask reply good s))

-- the world in which the first round was published, and any of the second

pub first_still : (w : World) (c : Key) → Good w → ShowsStill (view (first w) c) (view w c)
first_still w c g =
    still (first w) w
    (record {
      office = refl;
      lecturers = all_map _ first_published w.lecturers (all_weaker _ _ (λ l there. (l, there, refl)) w.lecturers (contained w.lecturers));
      projects = contained w.projects;
      students = all_map _ first_placed w.students
          (all_weaker _ _ (λ s there. (s, there, (refl, λ p e. placed s p e))) w.students (contained w.students));
    })
    g c (caller (first w) c) refl
  where
    placed : (s : rows.Student) (p : Key) → s.earlier_placement ≡ Some p → shown_placement w.phase s ≡ Some p
    placed s p e = ap (λ o. cond (is_none o) (cond (is_published w.phase) s.placed None) o) e
