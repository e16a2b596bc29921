-- A change that is decided keeps the rows sound.
use Rattle.portal_rules.proofs.Base.{◌≡◌, [], ◌≤◌, Bool, true, false, cond, List, ◌∷◌, ◌++◌, length, refl, sym, ◌∙◌, ap}
use Rattle.portal_rules.proofs.Base.{subst, arith, map, filter, Some, None, IfSome, not, ◌||◌, ◌&&◌, is_none, unwrap_or}
use Rattle.portal_rules.proofs.Base.{list_any, AllByRecursion, length-map, IsBest, IsStable, number_in, Key, equals}
use Rattle.portal_rules.proofs.Base.{has, is_empty, Rise, AreDistinct, World, project_key, student_key, applicants_to}
use Rattle.portal_rules.proofs.Base.{projects_of, applicants_of, is_still_to_rank, is_setup, is_choosing, is_ranking}
use Rattle.portal_rules.proofs.Base.{is_published, is_from_ranking, is_second, is_left, in_play, first, first_placed}
use Rattle.portal_rules.proofs.Base.{first_published, Choices, Ranks, To, Placements, changed, with_choice}
use Rattle.portal_rules.proofs.Base.{with_ranking, with_place, placement_in, instance, instance_of, matching_of}
use Rattle.portal_rules.proofs.Base.{project_keys, student_keys, Phase, Listing, Person, ProjectRow, catalogue}
use Rattle.portal_rules.proofs.Base.{listings, office_sees, persons, choice_fault, ranking_fault, in_catalogue, Good}
use Rattle.portal_rules.proofs.Base.{IsRound, Sound, IsChoice, IsRanking, IsStudent, Published, if◌then◌else◌}
use Rattle.portal_rules.specs.World as rows
use Rattle.portal_rules.proofs.Keys.{is_same}
use Rattle.portal_rules.proofs.ListFaults.{chosen, ranked}
use Rattle.portal_rules.proofs.Reranked.{sound_kept}
use Rattle.portal_rules.proofs.Acts.{choice_row}
use Rattle.portal_rules.proofs.InPlay.{play_chosen, play_ranked, play_placed, ranking_row}
use Rattle.portal_rules.proofs.AllLaws.{kept_filtered, all_map, all_both, all_weaker, map_same, is_sym, any_map}
use Rattle.portal_rules.proofs.AllLaws.{any_shown, any_alike, any_or, any_nowhere, filtered_any, none_passes}

-- before the result is published nothing has to be stable
pub not_published : (w : World) → Sound w → is_published w.phase ≡ false
    → (is_second w.round ≡ true → IsRound (first w)) → Good w
not_published w g shut before = record { sound = g; stable = λ h. cc; before = before }

-- phases

-- to a phase after setup in which, as before, nothing is published
pub to_phase : (w : World) (phase : Phase) → Sound w → is_setup phase ≡ false → is_published phase ≡ false
    → is_published w.phase ≡ false → (is_from_ranking phase ≡ false → is_from_ranking w.phase ≡ false)
    → Sound (changed w (To phase))
to_phase w phase g begun shut before early =
    let no_choices_yet : is_setup phase ≡ true → AllByRecursion (λ (s : rows.Student). s.choice ≡ []) w.students = λ h. cc in
    let no_rankings_yet : is_from_ranking phase ≡ false
    → AllByRecursion (λ (l : rows.Lecturer). l.ranking ≡ None) w.lecturers = λ h. g.no_rankings_yet (early h) in
    let no_result_yet = g.no_result_yet before in
    let all_ranked : is_published phase ≡ true → AllByRecursion (λ l. is_still_to_rank w l ≡ false) w.lecturers = λ h. cc in
    assumption

-- the result

pub empty_map : {X Y : Type 0} (f : X → Y) (xs : List X) → is_empty (map f xs) ≡ is_empty xs
empty_map f xs = grind arith

-- a place changes neither the row nor the list, nor the earlier round
pub place_row : (pairs : List (Key × Key)) (s : rows.Student) → (with_place pairs s).row ≡ s.row
place_row pairs s = elim (is_left s) as (λ b. (cond b (record s { placed = placement_in pairs s.row.key }) s).row
    ≡ s.row) [ true ↦ refl | false ↦ refl ]

place_choice : (pairs : List (Key × Key)) (s : rows.Student) → (with_place pairs s).choice ≡ s.choice
place_choice pairs s = elim (is_left s) as
    (λ b. (cond b (record s { placed = placement_in pairs s.row.key }) s).choice ≡ s.choice) [ true ↦ refl | false ↦ refl ]

pub place_first : (pairs : List (Key × Key)) (s : rows.Student) → first_placed (with_place pairs s) ≡ first_placed s
place_first pairs s = elim (is_left s) as
    (λ b. first_placed (cond b (record s { placed = placement_in pairs s.row.key }) s) ≡ first_placed s) [ true ↦ refl | false ↦ refl ]

-- who is out of the round has no place of it
abbrev StaysOut : rows.Student → Type 0
StaysOut s = is_left s ≡ false → (s.choice ≡ []) × (s.placed ≡ None)

module _ (w : World) (pairs : List (Key × Key)) where
  applicants_placed : (l : Key)
      → map student_key (applicants_of (changed w (Placements pairs)) l) ≡ map student_key (applicants_of w l)
  applicants_placed l =
      kept_filtered student_key (with_place pairs) (λ s. list_any (λ p. has s.choice p.key) (projects_of w l))
      (λ s. ap (λ r. r.key) (place_row pairs s))
      (λ s. ap (λ c. list_any (λ p. has c p.key) (projects_of w l)) (place_choice pairs s)) w.students

  ranked_placed : (l : rows.Lecturer) → is_still_to_rank (changed w (Placements pairs)) l ≡ is_still_to_rank w l
  ranked_placed l =
      ap (λ b. not b && is_none l.ranking)
      (sym (empty_map student_key (applicants_of (changed w (Placements pairs)) l.row.key)) ∙ ap is_empty (applicants_placed l.row.key)
      ∙ empty_map student_key (applicants_of w l.row.key))

  keys_placed : student_keys (changed w (Placements pairs)) ≡ student_keys w
  keys_placed = map_same student_key (with_place pairs) (λ s. ap (λ r. r.key) (place_row pairs s)) w.students

  rows_placed : instance_of (changed w (Placements pairs)) ≡ instance_of w
  rows_placed = λ i. record (instance_of w) {
    student_keys = keys_placed i;
    choices = map_same (λ (s : rows.Student). map (number_in (project_keys w)) s.choice) (with_place pairs)
        (λ s. ap (map (number_in (project_keys w))) (place_choice pairs s)) w.students i;
    rankings = map (λ (l : rows.Lecturer). map (number_in (keys_placed i)) (unwrap_or l.ranking [])) w.lecturers;
  }

  pub first_kept : first (changed w (Placements pairs)) ≡ first w
  first_kept = λ i. record (first w) { students = map_same first_placed (with_place pairs) (place_first pairs) w.students i }

  pub placed_sound : Sound w → is_setup w.phase ≡ false → AllByRecursion (λ l. is_still_to_rank w l ≡ false) w.lecturers
      → Sound (changed w (Placements pairs))
  placed_sound g late ranked =
      let codes : map (λ (s : rows.Student). s.row.code) (map (with_place pairs) w.students)
      ≡ map (λ s. s.row.code) w.students = map_same _ (with_place pairs) (λ s. ap (λ r. r.code) (place_row pairs s)) w.students in
      let students_rise : Rise (student_keys (changed w (Placements pairs))) = subst Rise (sym keys_placed) g.students_rise in
      let student_forms = all_map (λ (s : rows.Student). IsStudent s.row) (with_place pairs) w.students
      (all_weaker _ _ (λ s h. subst IsStudent (sym (place_row pairs s)) h) w.students g.student_forms) in
      let few_students : length (map (with_place pairs) w.students) ≤ 2000 =
      omega (arith, g.few_students, length-map w.students (with_place pairs)) in
      let apart = subst (λ cs. AreDistinct (w.office ∷ map (λ (l : rows.Lecturer). l.row.code) w.lecturers ++ cs)) (sym codes) g.codes in
      let choices = subst (λ ks. AllByRecursion (λ (s : rows.Student). IsChoice ks s.choice) (map (with_place pairs) w.students))
      (λ i. map project_key (sym (play_placed w pairs) i).projects)
      (all_map (λ (s : rows.Student). IsChoice (project_keys (in_play w)) s.choice) (with_place pairs) w.students
      (all_weaker _ _ (λ s h. subst (IsChoice (project_keys (in_play w))) (sym (place_choice pairs s)) h) w.students g.choices)) in
      let no_choices_yet : is_setup Published ≡ true
      → AllByRecursion (λ (s : rows.Student). s.choice ≡ []) (map (with_place pairs) w.students) = λ h. cc in
      let no_rankings_yet : is_from_ranking Published ≡ false
      → AllByRecursion (λ (l : rows.Lecturer). l.ranking ≡ None) w.lecturers = λ h. cc in
      let rankings : AllByRecursion (λ (l : rows.Lecturer). IfSome l.ranking
      (IsRanking (map student_key (applicants_of (changed w (Placements pairs)) l.row.key)))) w.lecturers
      = all_weaker _ _ (λ l h. subst (λ ks. IfSome l.ranking (IsRanking ks)) (sym (applicants_placed l.row.key)) h) w.lecturers
      g.rankings in
      let no_result_yet : is_published Published ≡ false
      → AllByRecursion (λ (s : rows.Student). s.placed ≡ None) (map (with_place pairs) w.students) = λ h. cc in
      let all_ranked : AllByRecursion (λ l. is_still_to_rank (changed w (Placements pairs)) l ≡ false) w.lecturers =
      all_weaker _ _ (λ l e. ranked_placed l ∙ e) w.lecturers ranked in
      let no_earlier_lists : is_second w.round ≡ false
      → AllByRecursion (λ (s : rows.Student). (s.earlier_choice ≡ []) × (s.earlier_placement ≡ None))
      (map (with_place pairs) w.students)
      = λ h. all_map _ (with_place pairs) w.students
      (all_weaker _ _ (λ s e. (ap (λ x. x.choice) (place_first pairs s) ∙ e.0, ap (λ x. x.placed) (place_first pairs s) ∙ e.1))
      w.students (g.no_earlier_lists h)) in
      let only_left = all_map StaysOut (with_place pairs) w.students (all_weaker _ _ (λ s h. grind arith) w.students g.only_left) in
      assumption

-- the instance of the round is the same
pub instance_placed : (w : World) (pairs : List (Key × Key)) → instance (changed w (Placements pairs)) ≡ instance w
instance_placed w pairs = ap instance_of (play_placed w pairs) ∙ rows_placed (in_play w) pairs

pub to_published : (w : World) (pairs : List (Key × Key)) → Good w → is_setup w.phase ≡ false
    → AllByRecursion (λ l. is_still_to_rank w l ≡ false) w.lecturers
    → IsBest (instance w) (matching_of (changed w (Placements pairs))) → Good (changed w (Placements pairs))
to_published w pairs g late ranked best =
    record {
      sound = placed_sound w pairs g.sound late ranked;
      stable = λ h. subst (λ i. IsStable i (matching_of (changed w (Placements pairs)))) (sym (instance_placed w pairs)) best.stable;
      before = λ h. subst IsRound (sym (first_kept w pairs)) (g.before h);
    }

-- nobody is still to rank
pub all_ranked : (w : World) → is_from_ranking w.phase ≡ true → is_empty (office_sees w).still_to_rank ≡ true
    → AllByRecursion (λ l. is_still_to_rank w l ≡ false) w.lecturers
all_ranked w closed none =
    none_passes (λ (l : rows.Lecturer). l.row.key) (is_still_to_rank w) w.lecturers
    (subst (λ b. is_empty (cond b (map (λ (l : rows.Lecturer). l.row.key) (filter (is_still_to_rank w) w.lecturers)) []) ≡ true) closed
    none)

-- a student's list

-- the catalogue has the projects' keys
listed_is_there : (w : World) (k : Key) → in_catalogue (listings w.lecturers w.projects) k ≡ true
    → has (map project_key w.projects) k ≡ true
listed_is_there w k h = any_map (equals k) project_key w.projects
    ∙ any_shown (λ (l : Listing). equals l.key k) (λ p. equals k p.key) _ (λ p l e t. grind (arith, is_sym k p.key)) w.projects h

chosen_good : (w : World) (list : List Key) → choice_fault (catalogue w) list ≡ None
    → IsChoice (project_keys (in_play w)) list
chosen_good w list e =
    let (few, fit) = chosen (catalogue w) list e in
    record { few = few; known = all_weaker _ _ (λ k h. listed_is_there (in_play w) k h) list fit.only; once = fit.once }

-- what holds of a row holds after its list is replaced
choice_with : (P : List Key → Type 0) (k : Key) (list : List Key) → P list → (ss : List rows.Student)
    → AllByRecursion (λ s. P s.choice) ss → AllByRecursion (λ s. P s.choice) (map (with_choice k list) ss)
choice_with P k list new [] all = tt
choice_with P k list new (s ∷ ss) all = grind (arith, new, choice_with P k list new ss all.1)

pub none_ranked : (P : rows.Lecturer → List Key → Type 0) (ls : List rows.Lecturer)
    → AllByRecursion (λ l. l.ranking ≡ None) ls → AllByRecursion (λ l. IfSome l.ranking (P l)) ls
none_ranked P [] all = tt
none_ranked P (l ∷ ls) all = (rw all.0 tt, none_ranked P ls all.1)

pub choice_first : (k : Key) (list : List Key) (s : rows.Student) → first_placed (with_choice k list s) ≡ first_placed s
choice_first k list s = elim (equals s.row.key k) as
    (λ b. first_placed (cond b (record s { choice = list }) s) ≡ first_placed s) [ true ↦ refl | false ↦ refl ]

-- who makes a list has no project of the earlier round
pub choosing : (w : World) (k : Key) (list : List Key) → Sound w → is_choosing w.phase ≡ true
    → AllByRecursion (λ s. equals s.row.key k ≡ true → is_left s ≡ true) w.students
    → choice_fault (catalogue w) list ≡ None
    → Sound (changed w (Choices k list))
choosing w k list g e mine none =
    let keys : map student_key (map (with_choice k list) w.students)
    ≡ map student_key w.students = map_same student_key (with_choice k list) (λ s. ap (λ r. r.key) (choice_row k list s)) w.students in
    let codes : map (λ (s : rows.Student). s.row.code) (map (with_choice k list) w.students)
    ≡ map (λ s. s.row.code) w.students = map_same _ (with_choice k list) (λ s. ap (λ r. r.code) (choice_row k list s)) w.students in
    let shut : (is_setup w.phase ≡ false) × (is_from_ranking w.phase ≡ false) × (is_published w.phase ≡ false) = grind arith in
    let students_rise = subst Rise (sym keys) g.students_rise in
    let student_forms = all_map (λ (s : rows.Student). IsStudent s.row) (with_choice k list) w.students
    (all_weaker _ _ (λ s h. subst IsStudent (sym (choice_row k list s)) h) w.students g.student_forms) in
    let few_students : length (map (with_choice k list) w.students) ≤ 2000 =
    omega (arith, g.few_students, length-map w.students (with_choice k list)) in
    let apart = subst (λ cs. AreDistinct (w.office ∷ map (λ (l : rows.Lecturer). l.row.code) w.lecturers ++ cs)) (sym codes) g.codes in
    let choices = subst (λ ks. AllByRecursion (λ (s : rows.Student). IsChoice ks s.choice) (map (with_choice k list) w.students))
    (λ i. map project_key (sym (play_chosen w k list) i).projects)
    (choice_with (IsChoice (project_keys (in_play w))) k list (chosen_good w list none) w.students g.choices) in
    let no_choices_yet : is_setup w.phase ≡ true
    → AllByRecursion (λ (s : rows.Student). s.choice ≡ []) (map (with_choice k list) w.students) = λ h. cc in
    let rankings = none_ranked (λ l. IsRanking (map student_key (applicants_of (changed w (Choices k list)) l.row.key))) w.lecturers
    (g.no_rankings_yet shut.1) in
    let no_result_yet : is_published w.phase ≡ false
    → AllByRecursion (λ (s : rows.Student). s.placed ≡ None) (map (with_choice k list) w.students)
    = λ h. all_map _ (with_choice k list) w.students (all_weaker _ _ (λ s e. grind arith) w.students (g.no_result_yet h)) in
    let all_ranked : is_published w.phase ≡ true
    → AllByRecursion (λ l. is_still_to_rank (changed w (Choices k list)) l ≡ false) w.lecturers = λ h. cc in
    let no_earlier_lists : is_second w.round ≡ false
    → AllByRecursion (λ (s : rows.Student). (s.earlier_choice ≡ []) × (s.earlier_placement ≡ None))
    (map (with_choice k list) w.students)
    = λ h. all_map _ (with_choice k list) w.students
    (all_weaker _ _ (λ s e. (ap (λ x. x.choice) (choice_first k list s) ∙ e.0, ap (λ x. x.placed) (choice_first k list s) ∙ e.1))
    w.students (g.no_earlier_lists h)) in
    let only_left = all_map StaysOut (with_choice k list) w.students
    (all_weaker _ _ (λ s h. grind arith) w.students (all_both _ _ w.students mine g.only_left)) in
    assumption

-- a lecturer's ranking

any_and : {X : Type 0} (f : X → Bool) (b : Bool) (xs : List X) → list_any (λ x. f x && b) xs ≡ (list_any f xs && b)
any_and f b [] = refl
any_and f b (x ∷ xs) = grind (arith, any_and f b xs)

-- some student of some project's applicants, or of all projects' applicants together
exchanged : {X Y : Type 0} (t : X → Y → Bool) (q : Y → Bool) (xs : List X) (ys : List Y)
    → list_any (λ x. list_any (λ y. t x y && q y) ys) xs ≡ list_any (λ y. list_any (λ x. t x y) xs && q y) ys
exchanged t q xs [] = any_nowhere xs
exchanged t q xs (y ∷ ys) =
    any_or (λ x. t x y && q y) (λ x. list_any (λ z. t x z && q z) ys) xs
    ∙ λ i. any_and (λ x. t x y) (q y) xs i || exchanged t q xs ys i

pub union_any : (q : Key → Bool) (ps : List ProjectRow) (ss : List rows.Student)
    → list_any (λ p. list_any (λ x. q x.key) (persons (filter (λ s. has s.choice p.key) ss))) ps
    ≡ list_any q (map student_key (filter (λ s. list_any (λ p. has s.choice p.key) ps) ss))
union_any q ps ss =
    any_alike _ (λ p. list_any (λ s. has s.choice p.key && q (student_key s)) ss)
    (λ p. any_map (λ (x : Person). q x.key) _ (filter (λ s. has s.choice p.key) ss)
    ∙ filtered_any (λ s. q (student_key s)) (λ s. has s.choice p.key) ss) ps
    ∙ exchanged (λ p s. has s.choice p.key) (λ s. q (student_key s)) ps ss
    ∙ sym (filtered_any (λ s. q (student_key s)) (λ s. list_any (λ p. has s.choice p.key) ps) ss)
    ∙ sym (any_map q student_key (filter (λ s. list_any (λ p. has s.choice p.key) ps) ss))

none_lacks : (list ks : List Key) → list_any (λ k. not (has list k)) ks ≡ false
    → AllByRecursion (λ k. has list k ≡ true) ks
none_lacks list [] e = tt
none_lacks list (k ∷ ks) e = grind (arith, none_lacks list ks)

-- what the lecturer is shown while rankings are made
abbrev pub shown_sets : World → Key → Bool → List (Key × List Person)
shown_sets w l closed = map (λ p. (p.key, if closed then persons (applicants_to w p.key) else [])) (projects_of w l)

ranks_all : (w : World) (l : Key) (list : List Key) → ranking_fault (shown_sets w l true) list ≡ None
    → IsRanking (map student_key (applicants_of w l)) list
ranks_all w l list e =
    let (fit, all) = ranked (shown_sets w l true) list e in
    record {
      all = none_lacks list (map student_key (applicants_of w l))
          (sym (any_map (λ (p : Key × List Person). list_any (λ s. not (has list s.key)) p.1) _ (projects_of w l)
          ∙ union_any (λ k. not (has list k)) (projects_of w l) w.students) ∙ all);
      only = all_weaker _ _ (λ k h.
          any_alike (equals k) (λ s. equals s k) (λ s. is_sym k s) (map student_key (applicants_of w l))
          ∙ sym (any_map (λ (p : Key × List Person). list_any (λ s. equals s.key k) p.1) _ (projects_of w l)
          ∙ union_any (λ s. equals s k) (projects_of w l) w.students) ∙ h) list fit.only;
      once = fit.once;
    }

-- the new ranking stands at its lecturer, and each other one stays
ranking_with : (P : Key → List Key → Type 0) (k : Key) (list : List Key) → P k list → (ls : List rows.Lecturer)
    → AllByRecursion (λ l. IfSome l.ranking (P l.row.key)) ls
    → AllByRecursion (λ l. IfSome l.ranking (P l.row.key)) (map (with_ranking k list) ls)
ranking_with P k list new [] all = tt
ranking_with P k list new (l ∷ ls) all = grind (arith, new, is_same l.row.key k, ranking_with P k list new ls all.1)

pub ranking_first : (k : Key) (list : List Key) (l : rows.Lecturer)
    → first_published (with_ranking k list l) ≡ first_published l
ranking_first k list l = elim (equals l.row.key k) as
    (λ b. first_published (cond b (record l { ranking = Some list }) l) ≡ first_published l) [ true ↦ refl | false ↦ refl ]

pub ranking : (w : World) (k : Key) (list : List Key) → Sound w → is_ranking w.phase ≡ true
    → ranking_fault (shown_sets w k (is_from_ranking w.phase)) list ≡ None → Sound (changed w (Ranks k list))
ranking w k list g e none =
    sound_kept (with_ranking k list) (ranking_row k list) w (λ l. ap (λ x. x.ranking) (ranking_first k list l))
    (ap project_keys (play_ranked w k list)) g e
    (ranking_with (λ q. IsRanking (map student_key (applicants_of w q))) k list
    (ranks_all w k list (subst (λ b. ranking_fault (shown_sets w k b) list ≡ None) (closed w.phase e) none)) w.lecturers g.rankings)
  where
    closed : (phase : Phase) → is_ranking phase ≡ true → is_from_ranking phase ≡ true
    closed phase e = grind arith
