-- Why a student has not a project that the student would rather have, and that the second round has
-- none of these: of worlds.
use Rattle.portal_rules.proofs.Base.{◌≡◌, ◌⊎◌, inl, inr, ℕ, ◌<◌, true, List, [], map, length, get_or, refl, sym, ◌∙◌}
use Rattle.portal_rules.proofs.Base.{ap, subst, arith, Option, Some, None, option_map, unwrap_or, ◌&&◌, AllByRecursion}
use Rattle.portal_rules.proofs.Base.{list_any, get_or-map, length-map, IsOn, IsAcceptable, lecturer_of, place}
use Rattle.portal_rules.proofs.Base.{project_of, choices_of, ranking_of, number_in, Key, equals}
use Rattle.portal_rules.proofs.Base.{World, lecturer_key, project_key, student_key, is_at, is_published, instance_of}
use Rattle.portal_rules.proofs.Base.{places_of, lecturer_keys, project_keys, student_keys, Good, IsBefore, Improves}
use Rattle.portal_rules.proofs.Base.{Wants, IsWith, and_parts, Bool, false, IsStable, Sound, IsRound, instance, matching_of}
use Rattle.portal_rules.proofs.Base.{number_is, has, first, is_second, in_play, catalogue, in_catalogue}
use Rattle.spa_honest.proofs.Waits.{left_finds_none as none_by_number}
use Rattle.portal_rules.proofs.Opened.{the_second}
use Rattle.portal_core.proofs.HonestLists.{has_number}
use Rattle.portal_core.proofs.LeftOver.{plays_known, listed, stays_open}
use Rattle.spa_honest.proofs.Explained.{why_not as reason_by_number}
use Rattle.portal_core.specs.Honest.{IsTaken, IsBusy, Prefers, StandsBefore}
use Rattle.portal_rules.specs.World.{Lecturer, Student}
use Rattle.portal_rules.proofs.Keys.{is_same}
use Rattle.portal_rules.proofs.Published.{number_back}
use Rattle.portal_core.proofs.HonestLists.{no_student, no_project, no_lecturer, choices, known_key, lecturer_at, given}
use Rattle.portal_core.proofs.HonestLists.{place_number, on_number, number_on, world_ranked, IsStableRound}
use Rattle.portal_core.proofs.LeftOver.{any_place, all_from, few_at, few_with, placed_known, stable_rows}
use Rattle.portal_rules.specs.declared.phase.Round.TheVariants.{First, Second}
use Rattle.portal_rules.specs.declared.rows.ProjectRow.{ProjectRow}

at_is : (p : Key) (o : Option Key) → is_at p o ≡ true → o ≡ Some p
at_is p None e = absurd (cc)
at_is p (Some q) e = ap Some (is_same q p e)

module _ (v : World) (sound : Sound v) (one : v.round ≡ First) (published : is_published v.phase ≡ true)
    (settled : IsStable (instance v) (matching_of v)) where
  round : IsStableRound v
  round = record { sound = sound; one = one; published = published; stable = stable_rows v sound one published settled }

  student_number : (n : ℕ) → n < length v.students
      → number_in (student_keys v) (get_or v.students n no_student).row.key ≡ n
  student_number n n_in = ap (number_in (student_keys v)) (sym (get_or-map student_key v.students n no_student [] n_in))
      ∙ number_back (student_keys v) n sound.students_rise (omega (arith, n_in, length-map v.students student_key))

  project_number : (n : ℕ) → n < length v.projects → number_in (project_keys v) (get_or v.projects n no_project).key ≡ n
  project_number n n_in = ap (number_in (project_keys v)) (sym (get_or-map project_key v.projects n no_project [] n_in))
      ∙ number_back (project_keys v) n sound.projects_rise (omega (arith, n_in, length-map v.projects project_key))

  lecturer_number : (n : ℕ) → n < length v.lecturers
      → number_in (lecturer_keys v) (get_or v.lecturers n no_lecturer).row.key ≡ n
  lecturer_number n n_in = ap (number_in (lecturer_keys v)) (sym (get_or-map lecturer_key v.lecturers n no_lecturer [] n_in))
      ∙ number_back (lecturer_keys v) n sound.lecturers_rise (omega (arith, n_in, length-map v.lecturers lecturer_key))

  place_of : (n : ℕ) → n < length v.students
      → project_of (places_of v) n ≡ option_map (number_in (project_keys v)) (get_or v.students n no_student).placed
  place_of n n_in = given v sound one published n no_student n_in

  -- student s, and project k, which s prefers
  module _ (s k : ℕ) (s_in : s < length v.students) (k_in : k < length v.projects)
      (prefers : Prefers (get_or v.students s no_student) (get_or v.projects k no_project).key) where
    list_is : choices_of (instance_of v) s ≡ map (number_in (project_keys v)) (get_or v.students s no_student).choice
    list_is = choices v sound one published s no_student s_in

    key_low : number_in (project_keys v) (get_or v.projects k no_project).key < length (project_keys v)
    key_low = omega (arith, project_number k k_in, k_in, length-map v.projects project_key)

    on : IsAcceptable (instance_of v) s k
    on = subst (IsAcceptable (instance_of v) s) (project_number k k_in)
        (subst (λ list. IsOn list (number_in (project_keys v) (get_or v.projects k no_project).key)) (sym list_is)
        (on_number (project_keys v) (get_or v.students s no_student).choice (get_or v.projects k no_project).key key_low prefers.0))

    better : (o : Option Key) → (get_or v.students s no_student).placed ≡ o
        → Improves (instance_of v) s k (option_map (number_in (project_keys v)) o)
    better None e = tt
    better (Some q) e =
        let q_on : IsAcceptable (instance_of v) s (number_in (project_keys v) q) =
        round.stable.matching.acceptable s (number_in (project_keys v) q)
        (place_of s s_in ∙ ap (option_map (number_in (project_keys v))) e) in
        let q_low : number_in (project_keys v) q < length (project_keys v) =
        known_key v sound one published s (number_in (project_keys v) q) q_on in
        let at_k : place (map (number_in (project_keys v)) (get_or v.students s no_student).choice) k
        ≡ number_in (get_or v.students s no_student).choice (get_or v.projects k no_project).key
        = ap (place (map (number_in (project_keys v)) (get_or v.students s no_student).choice)) (sym (project_number k k_in))
        ∙ place_number (project_keys v) (get_or v.students s no_student).choice (get_or v.projects k no_project).key key_low in
        let at_q : place (map (number_in (project_keys v)) (get_or v.students s no_student).choice) (number_in (project_keys v) q)
        ≡ number_in (get_or v.students s no_student).choice q
        = place_number (project_keys v) (get_or v.students s no_student).choice q q_low in
        let less = prefers.1 q e in
        let listed : IsOn (map (number_in (project_keys v)) (get_or v.students s no_student).choice) (number_in (project_keys v) q) =
        subst (λ list. IsOn list (number_in (project_keys v) q)) list_is q_on in
        subst (λ list. IsBefore list k (number_in (project_keys v) q)) (sym list_is) (omega (arith, at_k, at_q, less), listed)

    pub wants : Wants (instance_of v) (places_of v) s k
    wants = (on, subst (Improves (instance_of v) s k) (sym (place_of s s_in)) (better (get_or v.students s no_student).placed refl))

  -- and its lecturer h
  module _ (s k h : ℕ) (s_in : s < length v.students) (k_in : k < length v.projects) (h_in : h < length v.lecturers)
      (of_l : (get_or v.lecturers h no_lecturer).row.key ≡ (get_or v.projects k no_project).lecturer)
      (prefers : Prefers (get_or v.students s no_student) (get_or v.projects k no_project).key) where
    lecturer_is : lecturer_of (instance_of v) k ≡ h
    lecturer_is = lecturer_at v sound one published k k_in ∙ ap (number_in (lecturer_keys v)) (sym of_l) ∙ lecturer_number h h_in

    -- from numbers to keys on the lecturer's ranking
    stands : (n : ℕ) → n < length v.students → IsBefore (ranking_of (instance_of v) (lecturer_of (instance_of v) k)) n s
        → StandsBefore (unwrap_or (get_or v.lecturers h no_lecturer).ranking []) (get_or v.students n no_student).row.key
        (get_or v.students s no_student).row.key
    stands n n_in before =
        let ranking : List Key = unwrap_or (get_or v.lecturers h no_lecturer).ranking [] in
        let list : ranking_of (instance_of v) (lecturer_of (instance_of v) k)
        ≡ map (number_in (student_keys v)) (unwrap_or (get_or v.lecturers h no_lecturer).ranking [])
        = ap (ranking_of (instance_of v)) lecturer_is
        ∙ get_or-map (λ (y : Lecturer). map (number_in (student_keys v)) (unwrap_or y.ranking [])) v.lecturers h no_lecturer [] h_in in
        let here : IsBefore (map (number_in (student_keys v)) (unwrap_or (get_or v.lecturers h no_lecturer).ranking [])) n s =
        subst (λ xs. IsBefore xs n s) list before in
        let low_n : number_in (student_keys v) (get_or v.students n no_student).row.key < length (student_keys v) =
        omega (arith, student_number n n_in, n_in, length-map v.students student_key) in
        let low_s : number_in (student_keys v) (get_or v.students s no_student).row.key < length (student_keys v) =
        omega (arith, student_number s s_in, s_in, length-map v.students student_key) in
        let at_n : place (map (number_in (student_keys v)) ranking) n ≡ number_in ranking (get_or v.students n no_student).row.key
        = ap (place (map (number_in (student_keys v)) ranking)) (sym (student_number n n_in))
        ∙ place_number (student_keys v) ranking (get_or v.students n no_student).row.key low_n in
        let at_s : place (map (number_in (student_keys v)) ranking) s ≡ number_in ranking (get_or v.students s no_student).row.key
        = ap (place (map (number_in (student_keys v)) ranking)) (sym (student_number s s_in))
        ∙ place_number (student_keys v) ranking (get_or v.students s no_student).row.key low_s in (
          number_on (student_keys v) ranking (get_or v.students s no_student).row.key low_s
              (subst (IsOn (map (number_in (student_keys v)) ranking)) (sym (student_number s s_in)) here.1),
          omega (arith, here.0, at_n, at_s),
        )

    -- who is at a project of the lecturer
    at_own : (n : ℕ) → n < length v.students
        → list_any (λ (p : ProjectRow). equals p.lecturer (get_or v.lecturers h no_lecturer).row.key
        && is_at p.key (get_or v.students n no_student).placed) v.projects ≡ true
        → IsWith (instance_of v) (places_of v) (lecturer_of (instance_of v) k) n
    at_own n n_in some =
        let at = any_place (λ (p : ProjectRow). equals p.lecturer (get_or v.lecturers h no_lecturer).row.key
        && is_at p.key (get_or v.students n no_student).placed) v.projects no_project some in
        let both = and_parts (equals (get_or v.projects at.0 no_project).lecturer (get_or v.lecturers h no_lecturer).row.key)
        (is_at (get_or v.projects at.0 no_project).key (get_or v.students n no_student).placed) at.2 in (
          at.0,
          place_of n n_in ∙ ap (option_map (number_in (project_keys v)))
              (at_is (get_or v.projects at.0 no_project).key (get_or v.students n no_student).placed both.1)
              ∙ ap Some (project_number at.0 at.1),
          lecturer_at v sound one published at.0 at.1
              ∙ ap (number_in (lecturer_keys v)) (is_same (get_or v.projects at.0 no_project).lecturer
              (get_or v.lecturers h no_lecturer).row.key both.0) ∙ lecturer_number h h_in ∙ sym lecturer_is,
        )

    reason : IsTaken v (get_or v.lecturers h no_lecturer) (get_or v.projects k no_project) (get_or v.students s no_student).row.key
        ⊎ IsBusy v (get_or v.lecturers h no_lecturer) (get_or v.students s no_student).row.key
    reason = elim (reason_by_number (instance_of v) (places_of v) s k (wants s k s_in k_in prefers)
        (world_ranked v sound one published) round.stable) [
          | inl taken ↦ inl (record {
            full = omega (
              arith,
              taken.full,
              few_at v sound one published (λ (x : Student). x.placed) v.students (placed_known v sound one published settled) k k_in,
              get_or-map (λ (p : ProjectRow). p.capacity) v.projects k no_project 0 k_in,
            );
            above = all_from _ v.students no_student
                (λ n n_in at. stands n n_in (taken.above n
                (place_of n n_in ∙ ap (option_map (number_in (project_keys v))) at ∙ ap Some (project_number k k_in))));
          })
          | inr busy ↦ inr (record {
            full = omega (
              arith,
              rw lecturer_is at busy.full,
              few_with v sound one published (λ (x : Student). x.placed) v.students (placed_known v sound one published settled) h h_in,
              get_or-map (λ (l : Lecturer). l.row.capacity) v.lecturers h no_lecturer 0 h_in,
            );
            above = all_from _ v.students no_student (λ n n_in some. stands n n_in (busy.above n (at_own n n_in some)));
          })
        ]

-- THERE IS A REASON
pub why_not : (w : World) → Good w → w.round ≡ First → is_published w.phase ≡ true
    → AllByRecursion (λ s. AllByRecursion (λ p. Prefers s p.key
    → AllByRecursion (λ l. l.row.key ≡ p.lecturer → IsTaken w l p s.row.key ⊎ IsBusy w l s.row.key) w.lecturers) w.projects) w.students
why_not w good one published =
    all_from _ w.students no_student (λ s s_in. all_from _ w.projects no_project
    (λ k k_in prefers. all_from _ w.lecturers no_lecturer
    (λ h h_in of_l. reason w good.sound one published (good.stable published) s k h s_in k_in h_in of_l prefers)))

-- AND THE SECOND ROUND HAS NONE OF THESE
pub left_finds_none : (w : World) → Good w → is_second w.round ≡ true
    → AllByRecursion (λ s. (p : Key) → Prefers s p → in_catalogue (catalogue w) p ≡ false) (first w).students
left_finds_none w good e = all_from _ (first w).students no_student
    (λ n n_in p prefers. by_test n n_in p prefers (in_catalogue (catalogue w) p) refl)
  where
    by_test : (n : ℕ) → n < length (first w).students → (p : Key) → Prefers (get_or (first w).students n no_student) p
        → (b : Bool) → in_catalogue (catalogue w) p ≡ b → b ≡ false
    by_test n n_in p prefers false there = refl
    by_test n n_in p prefers true there =
        let before : IsRound (first w) = good.before e in
        let two : w.round ≡ Second = the_second w.round e in
        let plays : has (project_keys (in_play w)) p ≡ true = listed w good.sound two before p there in
        let low : number_in (project_keys w) p < length (project_keys w) = has_number (project_keys w) p (plays_known w p two plays) in
        let k_in : number_in (project_keys w) p < length w.projects = omega (arith, low, length-map w.projects project_key) in
        let key : p ≡ (get_or w.projects (number_in (project_keys w) p) no_project).key
        = sym (number_is (project_keys w) p low) ∙ get_or-map project_key w.projects (number_in (project_keys w) p) no_project [] k_in in
        let settled : IsStable (instance (first w)) (matching_of (first w)) = before.stable refl in
        absurd (none_by_number (instance_of (first w)) (places_of (first w)) n (number_in (project_keys w) p)
        (stable_rows (first w) before.sound refl refl settled)
        (wants (first w) before.sound refl refl settled n (number_in (project_keys w) p) n_in k_in
        (subst (Prefers (get_or (first w).students n no_student)) key prefers)) (stays_open w good.sound two before p plays))
