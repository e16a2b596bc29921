-- No group of students gains anything by other lists, nor does one student: of worlds.
use Rattle.portal_rules.proofs.Base.{◌≡◌, ℕ, zero, suc, ◌<◌, Bool, true, false, List, [], ◌∷◌, map, length, get_or}
use Rattle.portal_rules.proofs.Base.{refl, sym, ◌∙◌, ap, subst, arith, Option, Some, None, option_map, filter, find}
use Rattle.portal_rules.proofs.Base.{AllByRecursion, AllZip, get_or-map, length-map, get_or_default, project_of, IsOn}
use Rattle.portal_rules.proofs.Base.{number_in, number_is, Rise, Key, has, World}
use Rattle.portal_rules.proofs.Base.{project_key, student_key, is_left, is_second, is_published, students_in, in_play}
use Rattle.portal_rules.proofs.Base.{alone, alone_student, instance_of, places_of, project_keys, student_keys}
use Rattle.portal_rules.proofs.Base.{StudentSees, view, student_with, student_sees, Good, Sound}
use Rattle.portal_core.specs.Honest.{HasBest, ListAlike, DifferInLists, DifferInOneList, IsNoWorse, OneGainsNothing}
use Rattle.spa_honest.proofs.Gains.{no_group_gains as no_group_by_number}
use Rattle.spa_honest.specs.Honest as instances
use Rattle.portal_rules.specs.declared.view.View.TheVariants as sees
use Rattle.portal_rules.specs.World.{Student}
use Rattle.portal_rules.proofs.Keys.{is_same, is_own, found_passes, found_all, one_row}
use Rattle.portal_rules.proofs.AllLaws.{all_at, all_map, all_weaker, all_both, map_same}
use Rattle.portal_rules.proofs.Zips.{zip_by, zip_same}
use Rattle.portal_rules.proofs.Alone.{passes}
use Rattle.portal_rules.proofs.Named.{students_named}
use Rattle.portal_rules.proofs.Published.{number_back}
use Rattle.portal_rules.proofs.Capacities.{number_has}
use Rattle.portal_core.proofs.LeftOver.{is_none_of}
use Rattle.portal_core.proofs.HonestLists.{has_number, on_number, key_of, no_student, IsBestRound, IsStableRound}
use Rattle.portal_core.proofs.HonestLists.{best_alone, stable_alone, world_ranked, differ_by_number, differ_alone}
use Rattle.portal_core.proofs.HonestLists.{no_worse_by_number, shown, shown_student, find_left}
use Rattle.portal_rules.specs.declared.phase.Round.{Round}
use Rattle.portal_rules.specs.declared.phase.Round.TheVariants.{First, Second}
use Rattle.portal_rules.specs.declared.rows.StudentRow.{StudentRow}

-- what is kept of a list of keys stands on it and passes, and what does so is kept
pub kept_key : (f : Key → Bool) (ks : List Key) (k : Key) → has ks k ≡ true → f k ≡ true → has (filter f ks) k ≡ true
kept_key f [] k there meets = there
kept_key f (g ∷ gs) k there meets = grind (arith, is_same k g, kept_key f gs k)

pub was_key : (f : Key → Bool) (ks : List Key) (k : Key) → has (filter f ks) k ≡ true → (has ks k ≡ true) × (f k ≡ true)
was_key f [] k there = absurd (cc)
was_key f (g ∷ gs) k there = grind (arith, is_same k g, was_key f gs k)

-- who is of the group by key is so by number
pub of_group : (x : World) (group : List Key) → Rise (student_keys x) → (t : ℕ) → t < length x.students
    → has group (get_or (student_keys x) t []) ≡ true
    → IsOn (map (number_in (student_keys x)) (filter (has (student_keys x)) group)) t
of_group x group rise t t_in m =
    let keys : List Key = student_keys x in
    let ours : List Key = filter (has (student_keys x)) group in
    let k : Key = get_or keys t [] in
    let low : t < length keys = omega (arith, length-map x.students student_key) in
    let number : number_in keys k ≡ t = number_back keys t rise low in
    let k_low : number_in keys k < length keys = subst (λ n. n < length (student_keys x)) (sym number) low in
    subst (IsOn (map (number_in keys) ours)) number (on_number keys ours k k_low (kept_key (has keys) group k m (number_has keys k k_low)))

-- a student of a round, and the view that shows this student the place
abbrev pub IsShown : World → (Student → Option Key) → Student → Type 0
IsShown w place z = (a : StudentSees) × (view w z.row.code ≡ sees.Student a) × (a.me.key ≡ z.row.key) × (a.choices ≡ z.choice)
    × (a.result ≡ place z)

-- r is a round of w with its best result; t has the same students, whom v shows these places
module _ (w v r t : World) (best : IsBestRound r) (place : Student → Option Key)
    (same : map (λ (s : Student). s.row) t.students ≡ map (λ (s : Student). s.row) r.students) (projects : project_keys t ≡ project_keys r)
    (ones : AllByRecursion (IsShown w (λ s. s.placed)) r.students) (others : AllByRecursion (IsShown v place) t.students) where
  abbrev NoWorse : ℕ → Type 0
  NoWorse s = instances.IsNoWorse (instance_of r) s (project_of (places_of r) s)
      (project_of (map (λ (z : Student). option_map (number_in (project_keys t)) (place z)) t.students) s)

  -- a student with a key of the group gains nothing, if that is so by number
  pub of_key : (group : List Key) (k : Key) → has group k ≡ true
      → number_in (student_keys r) k < length (student_keys r) → NoWorse (number_in (student_keys r) k)
      → OneGainsNothing w v group
  of_key group k of_k k_low by_number =
      let s : ℕ = number_in (student_keys r) k in
      let s_in : s < length r.students = omega (arith, k_low, length-map r.students student_key) in
      let s_t : s < length t.students = omega (
        arith,
        s_in,
        ap length same,
        length-map r.students (λ (s : Student). s.row),
        length-map t.students (λ (s : Student). s.row),
      ) in
      let x : Student = get_or r.students s no_student in
      let z : Student = get_or t.students s no_student in
      let a = all_at (IsShown w (λ s. s.placed)) r.students s no_student ones s_in in
      let b = all_at (IsShown v place) t.students s no_student others s_t in
      let same_row : z.row ≡ x.row
      = sym (get_or-map (λ (s : Student). s.row) t.students s no_student no_student.row s_t)
      ∙ ap (λ rs. get_or rs (number_in (student_keys r) k) no_student.row) same
      ∙ get_or-map (λ (s : Student). s.row) r.students s no_student no_student.row s_in in
      let key : k ≡ a.0.me.key = sym (number_is (student_keys r) k k_low) ∙ get_or-map student_key r.students s no_student [] s_in
      ∙ sym a.2 in
      record {
        code = x.row.code;
        one = a.0;
        other = b.0;
        sees_one = a.1;
        sees_other = subst (λ (row : StudentRow). view v row.code ≡ sees.Student b.0) same_row b.1;
        of_group = subst (λ k. has group k ≡ true) key of_k;
        no_worse = subst (λ o. IsNoWorse a.0.choices o b.0.result) (sym a.4)
            (subst (λ list. IsNoWorse list x.placed b.0.result) (sym a.3)
            (λ p shows there. no_worse_by_number r s x best
            (record { in_range = s_in; is = get_or_default r.students s x no_student s_in }) p there
            (by_number (number_in (project_keys r) p)
            (get_or-map (λ (y : Student). option_map (number_in (project_keys t)) (place y)) t.students s no_student None s_t
            ∙ ap (option_map (number_in (project_keys t))) (sym b.4 ∙ shows) ∙ ap (λ keys. Some (number_in keys p)) projects))));
      }

  -- nor does one whose number is of the group
  pub of_number : (group : List Key) (s : ℕ)
      → IsOn (map (number_in (student_keys r)) (filter (has (student_keys r)) group)) s → NoWorse s
      → OneGainsNothing w v group
  of_number group s on no_worse =
      let k = key_of (student_keys r) (filter (has (student_keys r)) group) s on in
      let mine = was_key (has (student_keys r)) group k.0 k.1 in
      of_key group k.0 mine.0 (has_number (student_keys r) k.0 mine.1) (subst NoWorse (sym k.2) no_worse)

-- the students of a round, and what they are shown
pub all_shown : (w : World) → Good w → (place : Student → Option Key)
    → ((u : Student) → u.earlier_placement ≡ None → (student_sees w u).result ≡ place (alone_student u))
    → AllByRecursion (IsShown w place) (alone (in_play w)).students
all_shown w good place is = all_map (IsShown w place) alone_student (students_in w.round w.students) (by_round w.round refl)
  where
    by_round : (r : Round) → w.round ≡ r
        → AllByRecursion (λ u. IsShown w place (alone_student u)) (students_in r w.students)
    by_round First e = all_weaker _ _ (λ u h. (student_sees w u, h.0, refl, refl, is u h.1.1)) w.students
        (all_both _ _ w.students (students_named w good.sound) (good.sound.no_earlier_lists (ap is_second e)))
    by_round Second e = passes _ _ is_left (λ u h out. (student_sees w u, h, refl, refl, is u (is_none_of u.earlier_placement out)))
        w.students (students_named w good.sound)

-- who is shown nothing
nobody : {X : Type 0} (xs : List X) (s p : ℕ) → project_of (map (λ x. None) xs) s ≡ Some p → ⊥
nobody [] s p e = absurd (cc)
nobody (x ∷ xs) zero p e = absurd (cc)
nobody (x ∷ xs) (suc s) p e = nobody xs s p e

-- NO GROUP GAINS, if that is so by number once there is a result of v
module _ (w v : World) (one : HasBest w) (other : Good v)
    (same : map (λ (s : Student). s.row) (alone (in_play v)).students ≡ map (λ (s : Student). s.row) (alone (in_play w)).students)
    (projects : project_keys (alone (in_play v)) ≡ project_keys (alone (in_play w))) where
  ones : AllByRecursion (IsShown w (λ s. s.placed)) (alone (in_play w)).students
  ones = all_shown w one.good (λ s. s.placed) (λ u left. shown w u one.published left)

  others : is_published v.phase ≡ true → AllByRecursion (IsShown v (λ s. s.placed)) (alone (in_play v)).students
  others out = all_shown v other (λ s. s.placed) (λ u left. shown v u out left)

  -- a student who takes part
  pub gains_nothing : (group : List Key) (k : Key) → has group k ≡ true → has (student_keys (in_play w)) k ≡ true
      → ((s : ℕ) → (get_or (alone (in_play w)).students s no_student).row.key ≡ k → is_published v.phase ≡ true
      → instances.IsNoWorse (instance_of (alone (in_play w))) s (project_of (places_of (alone (in_play w))) s)
      (project_of (places_of (alone (in_play v))) s))
      → OneGainsNothing w v group
  gains_nothing group k of_k plays no_worse = by_phase (is_published v.phase) refl
    where
      low : number_in (student_keys (alone (in_play w))) k < length (student_keys (alone (in_play w)))
      low = has_number (student_keys (alone (in_play w))) k
          (subst (λ ks. has ks k ≡ true) (sym (map_same student_key alone_student (λ s. refl) (in_play w).students)) plays)

      at : (get_or (alone (in_play w)).students (number_in (student_keys (alone (in_play w))) k) no_student).row.key ≡ k
      at = sym (get_or-map student_key (alone (in_play w)).students (number_in (student_keys (alone (in_play w))) k) no_student []
          (omega (arith, low, length-map (alone (in_play w)).students student_key))) ∙ number_is (student_keys (alone (in_play w))) k low

      by_phase : (out : Bool) → is_published v.phase ≡ out → OneGainsNothing w v group
      by_phase true e =
          of_key w v (alone (in_play w)) (alone (in_play v)) (best_alone w one) (λ s. s.placed) same projects ones
          (others e) group k of_k low (no_worse (number_in (student_keys (alone (in_play w))) k) at e)
      by_phase false e =
          of_key w v (alone (in_play w)) (alone (in_play v)) (best_alone w one) (λ s. None) same projects ones
          (all_shown v other (λ s. None) (λ u left. rw (left, e) refl)) group k of_k low
          (λ p shows. absurd (nobody (alone (in_play v)).students (number_in (student_keys (alone (in_play w))) k) p shows))

pub no_group_gains : (w v : World) (group : List Key) (key : Key) → HasBest w → Good v
    → DifferInLists w v (λ k. has group k ≡ true) → has group key ≡ true → has (student_keys (in_play w)) key ≡ true
    → OneGainsNothing w v group
no_group_gains w v group key one other differ in_group plays = by_phase (is_published v.phase) refl
  where
    apart : DifferInLists (alone (in_play w)) (alone (in_play v)) (λ k. has group k ≡ true)
    apart = differ_alone w v (λ k. has group k ≡ true) differ

    same : map (λ (s : Student). s.row) (alone (in_play v)).students ≡ map (λ (s : Student). s.row) (alone (in_play w)).students
    same = zip_same (ListAlike (λ k. has group k ≡ true)) (λ (s : Student). s.row) (λ x y r. r.0) (alone (in_play w)).students
        (alone (in_play v)).students apart.students

    by_phase : (out : Bool) → is_published v.phase ≡ out → OneGainsNothing w v group
    by_phase false e = gains_nothing w v one other same (ap (map project_key) apart.projects) group key in_group plays
        (λ s at out. let wrong : true ≡ false = sym out ∙ e in cc)
    by_phase true e =
        let best : IsBestRound (alone (in_play w)) = best_alone w one in
        let rival : IsStableRound (alone (in_play v)) = stable_alone v other e in
        let keys : List Key = student_keys (alone (in_play w)) in
        let ours : List Key = filter (has (student_keys (alone (in_play w)))) group in
        let there : has keys key ≡ true = subst (λ ks. has ks key ≡ true)
        (sym (map_same student_key alone_student (λ s. refl) (in_play w).students)) plays in
        let some : number_in ours key < length ours =
        has_number ours key (kept_key (has (student_keys (alone (in_play w)))) group key in_group there) in
        let found =
        no_group_by_number (instance_of (alone (in_play w))) (instance_of (alone (in_play v))) (map (number_in keys) ours)
        (places_of (alone (in_play w))) (places_of (alone (in_play v)))
        (world_ranked (alone (in_play w)) best.sound best.one best.published)
        (world_ranked (alone (in_play v)) rival.sound rival.one rival.published)
        (omega (arith, some, length-map ours (number_in keys)))
        (differ_by_number (alone (in_play w)) (alone (in_play v)) rival.sound (λ k. has group k ≡ true)
        (IsOn (map (number_in keys) ours)) apart (of_group (alone (in_play w)) group best.sound.students_rise))
        best.best rival.stable in
        of_number w v (alone (in_play w)) (alone (in_play v)) best (λ s. s.placed) same (ap (map project_key) apart.projects)
        (ones w v one other same (ap (map project_key) apart.projects))
        (others w v one other same (ap (map project_key) apart.projects) e) group found.0 found.1 found.2

-- ONE STUDENT: the group of one

pub own_group : (k : Key) → has (k ∷ []) k ≡ true
own_group k = rw (is_own k) refl

pub differ_in_group : (w v : World) (key : Key) → DifferInOneList w v key
    → DifferInLists w v (λ k. has (key ∷ []) k ≡ true)
differ_in_group w v key differ = record {
  round = differ.round;
  lecturers = differ.lecturers;
  projects = differ.projects;
  students = zip_by (ListAlike (λ k. k ≡ key)) (AllZip (ListAlike (λ k. has (key ∷ []) k ≡ true))) tt
      (λ x y xs ys r z. ((r.0, λ other. r.1 (λ same. other (subst (λ k. has (key ∷ []) k ≡ true) (sym same) (own_group key))), r.2), z))
      w.students v.students differ.students;
}

-- whoever of the group of one gains nothing is the student of this code
pub one_gains_nothing : (w v : World) (code : Key) (a b : StudentSees) → Sound w → view w code ≡ sees.Student a
    → view v code ≡ sees.Student b → OneGainsNothing w v (a.me.key ∷ []) → IsNoWorse a.choices a.result b.result
one_gains_nothing w v code a b sound sees_a sees_b o =
    let x = shown_student w code a sees_a in
    let y = shown_student w o.code o.one o.sees_one in
    let key : o.one.me.key ≡ a.me.key = is_same o.one.me.key a.me.key (let e = o.of_group in grind arith) in
    let same : y.0 ≡ x.0 = one_row student_key _ _ w.students y.0 x.0 sound.students_rise y.1 x.1
    (ap (λ (z : StudentSees). z.me.key) y.2 ∙ key ∙ sym (ap (λ (z : StudentSees). z.me.key) x.2)) in
    let code_is : o.code ≡ code = sym (is_same _ _ (found_passes _ w.students y.0 y.1)) ∙ ap (λ (s : Student). s.row.code) same
    ∙ is_same _ _ (found_passes _ w.students x.0 x.1) in
    let one : o.one ≡ a = sym y.2 ∙ ap (student_sees w) same ∙ x.2 in
    let shows : sees.Student o.other ≡ sees.Student b = sym o.sees_other ∙ ap (view v) code_is ∙ sees_b in
    let other : o.other ≡ b = cc in
    subst (λ (z : StudentSees). IsNoWorse a.choices a.result z.result) other
    (subst (λ (z : StudentSees). IsNoWorse z.choices z.result o.other.result) one o.no_worse)

pub found_has : (q : Student → Bool) (ss : List Student) (x : Student) → find q ss ≡ Some x
    → has (map student_key ss) x.row.key ≡ true
found_has q [] x e = absurd (cc)
found_has q (s ∷ ss) x e = grind (arith, is_own x.row.key, found_has q ss x)

-- who does not take part in the round has no list
pub if_playing : (w : World) (code : Key) (a : StudentSees) → Sound w → view w code ≡ sees.Student a → (o : Option Key)
    → (has (student_keys (in_play w)) a.me.key ≡ true → IsNoWorse a.choices a.result o) → IsNoWorse a.choices a.result o
if_playing w code a sound sees_a o plays = by_place (is_left x.0) refl
  where
    x : (x : Student) × (student_with w code ≡ Some x) × (student_sees w x ≡ a)
    x = shown_student w code a sees_a

    by_round : (r : Round) → is_left x.0 ≡ true → has (map student_key (students_in r w.students)) x.0.row.key ≡ true
    by_round First left = found_has _ w.students x.0 x.1
    by_round Second left = found_has _ (students_in Second w.students) x.0 (find_left _ w.students x.0 x.1 left)

    by_place : (b : Bool) → is_left x.0 ≡ b → IsNoWorse a.choices a.result o
    by_place true left = plays (subst (λ (z : StudentSees). has (student_keys (in_play w)) z.me.key ≡ true) x.2 (by_round w.round left))
    by_place false out =
        let none = (found_all (λ (s : Student). is_left s ≡ false → (s.choice ≡ []) × (s.placed ≡ None)) _ w.students x.0 sound.only_left
        x.1 out).0 in
        subst (λ list. IsNoWorse list a.result o) (sym none ∙ ap (λ (z : StudentSees). z.choices) x.2) (λ q shows there. absurd (cc))

-- NO OTHER LIST GAINS
pub honest_is_best : (w v : World) (code : Key) (a b : StudentSees) → HasBest w → Good v → view w code ≡ sees.Student a
    → view v code ≡ sees.Student b → DifferInOneList w v a.me.key → IsNoWorse a.choices a.result b.result
honest_is_best w v code a b one other sees_a sees_b differ =
    if_playing w code a one.good.sound sees_a b.result
    (λ plays. one_gains_nothing w v code a b one.good.sound sees_a sees_b
    (no_group_gains w v (a.me.key ∷ []) a.me.key one other (differ_in_group w v a.me.key differ) (own_group a.me.key) plays))
