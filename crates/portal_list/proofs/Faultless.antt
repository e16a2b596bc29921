-- The lines of a sound world in which nobody is still to rank have no fault.
use Rattle.portal_list.proofs.Base.{◌≡◌, inl, inr, ℕ, ◌<◌, ◌≤◌, Bool, true, false, List, [], ◌∷◌, map, length, get_or}
use Rattle.portal_list.proofs.Base.{Any, refl, sym, ◌∙◌, subst, arith, Option, Some, None, is_none, unwrap_or, IfSome}
use Rattle.portal_list.proofs.Base.{not, ◌&&◌, list_any, AllByRecursion, length-map, Any-from_list_any}
use Rattle.portal_list.proofs.Base.{list_any-from_Any, BadAt, Rows, HasNoneBefore, IsEarlierKey, IsKeyOf, Repeats}
use Rattle.portal_list.proofs.Base.{Memory, any_map, any_unmap, Key, equals, has, is_empty, Rise, World, Student}
use Rattle.portal_list.proofs.Base.{student_key, projects_of, applicants_of, is_still_to_rank, lecturer_keys}
use Rattle.portal_list.proofs.Base.{project_keys, First, Sound, IsChoice, IsRanking, IsLecturer, IsProject, IsStudent}
use Rattle.portal_list.proofs.Base.{ProjectRow, is_same, is_own, first_plays, entries_in, instance_lecturer}
use Rattle.portal_list.proofs.Base.{instance_project, instance_student, instance_rows, and_parts, and_from, is_key}
use Rattle.portal_list.proofs.Base.{IsRefusal, IsBadCapacity, NamesNone, FindsOne, IsApplicant, MissesOne, TooMany}
use Rattle.portal_list.proofs.Base.{BadKey, KeyTwice, BadCapacity, NoSuchLecturer, NoSuchProject, RepeatInList}
use Rattle.portal_list.proofs.Base.{ListTooLong, NotApplicant, ApplicantMissing}
use Rattle.spa_rows.specs.Limits.{longest_choice, most_places}
use Rattle.spa_rows.specs.declared.faults.InstanceFault.{InstanceFault}
use Rattle.portal_rules.proofs.AllLaws as laws
use Rattle.portal_list.proofs.Rising.{map_map}
use Rattle.portal_rules.proofs.Members.{there, has_it, has_all}
use Rattle.portal_list.proofs.Members.{key_there, repeats_not, earlier_not, none_of}

module _ (w : World) where
  abbrev rows : Rows
  rows = instance_rows (entries_in w)

  -- a student's list holds a project of the lecturer
  abbrev wants : Key → Student → Bool
  wants l s = list_any (λ p. has s.choice p.key) (projects_of w l)

  wants_finds : (l : Key) (s : Student) → wants l s ≡ true → FindsOne rows (instance_student s) l
  wants_finds l s h =
      let found = Any-from_list_any (λ p. equals p.lecturer l && has s.choice p.key) w.projects
      (sym (laws.filtered_any (λ p. has s.choice p.key) (λ p. equals p.lecturer l) w.projects) ∙ h) in
      let p : ProjectRow = found.1 in
      let parts : (equals p.lecturer l ≡ true)
      × (has s.choice p.key ≡ true) = and_parts (equals p.lecturer l) (has s.choice p.key) found.4 in
      let listed = there s.choice p.key parts.1 in (
        listed.0,
        listed.1,
        listed.2,
        listed.3,
        any_map (λ q. (q.key ≡ listed.1) × (q.lecturer ≡ l)) instance_project w.projects found.0 p found.2 (sym found.3)
            (sym listed.4, is_same p.lecturer l parts.0),
      )

  finds_wants : (l : Key) (s : Student) → FindsOne rows (instance_student s) l → wants l s ≡ true
  finds_wants l s (m, x, low, at, offered) =
      let found = any_unmap (λ q. (q.key ≡ x) × (q.lecturer ≡ l)) instance_project w.projects offered in
      let p : ProjectRow = found.1 in
      let listed : has s.choice p.key ≡ true = has_it s.choice p.key (m, x, low, at, sym found.4.0) in
      let own : equals p.lecturer l ≡ true = subst (λ y. equals y l ≡ true) (sym found.4.1) (is_own l) in
      laws.filtered_any (λ q. has s.choice q.key) (λ q. equals q.lecturer l) w.projects
      ∙ list_any-from_Any (λ q. equals q.lecturer l && has s.choice q.key) w.projects
      (found.0, p, found.2, found.3, and_from (equals p.lecturer l) (has s.choice p.key) own listed)

  abbrev applicant_keys : Key → List Key
  applicant_keys l = map student_key (applicants_of w l)

  among : (l k : Key) → has (applicant_keys l) k ≡ list_any (λ s. wants l s && equals k s.row.key) w.students
  among l k = laws.any_map (equals k) student_key (applicants_of w l) ∙ laws.filtered_any (λ s. equals k s.row.key) (wants l) w.students

  has_applicant : (l k : Key) → has (applicant_keys l) k ≡ true → IsApplicant rows l k
  has_applicant l k h =
      let found = Any-from_list_any (λ s. wants l s && equals k s.row.key) w.students (sym (among l k) ∙ h) in
      let parts : (wants l found.1 ≡ true) × (equals k found.1.row.key ≡ true) =
      and_parts (wants l found.1) (equals k found.1.row.key) found.4 in
      any_map (λ x. (x.key ≡ k) × FindsOne rows x l) instance_student w.students found.0 found.1 found.2 (sym found.3)
      (sym (is_same k found.1.row.key parts.1), wants_finds l found.1 parts.0)

  is_applicant : (l : Key) (j : ℕ) (s : Student) → j < length w.students → get_or w.students j s ≡ s
      → FindsOne rows (instance_student s) l → has (applicant_keys l) s.row.key ≡ true
  is_applicant l j s low at finds = among l s.row.key
      ∙ list_any-from_Any (λ t. wants l t && equals s.row.key t.row.key) w.students
      (j, s, low, at, and_from (wants l s) (equals s.row.key s.row.key) (finds_wants l s finds) (is_own s.row.key))

  abbrev Ranks : Key → Option (List Key) → Type 0
  Ranks l o = IfSome o (IsRanking (applicant_keys l))

  no_repeat : (l : Key) (o : Option (List Key)) → Ranks l o → Repeats (unwrap_or o []) → ⊥
  no_repeat l None ranks (j, text, low, at, any) = absurd (omega arith)
  no_repeat l (Some r) ranks repeats = repeats_not r ranks.once repeats

  no_other : (l : Key) (o : Option (List Key)) → Ranks l o → Any (λ text. IsApplicant rows l text → ⊥) (unwrap_or o [])
      → ⊥
  no_other l None ranks (j, text, low, at, no_one) = absurd (omega arith)
  no_other l (Some r) ranks (j, text, low, at, no_one) =
      no_one (has_applicant l text (subst (λ k. has (applicant_keys l) k ≡ true) at
      (laws.all_at (λ k. has (applicant_keys l) k ≡ true) r j text ranks.only low)))

  none_empty : {X : Type 0} (key : X → Key) (xs : List X) (k : Key) → (not (is_empty xs) && true) ≡ false
      → has (map key xs) k ≡ true → ⊥
  none_empty key [] k e h = cc
  none_empty key (x ∷ xs) k e h = cc

  by_ranking : (l k : Key) (o : Option (List Key)) → Ranks l o
      → (not (is_empty (applicants_of w l)) && is_none o) ≡ false → has (applicant_keys l) k ≡ true
      → (Any (λ text. text ≡ k) (unwrap_or o []) → ⊥) → ⊥
  by_ranking l k None ranks none is_one off = none_empty student_key (applicants_of w l) k none is_one
  by_ranking l k (Some r) ranks none is_one off = off (there r k (has_all (λ x. has r x ≡ true) (applicant_keys l) k ranks.all is_one))

  no_missing : (l : Key) (o : Option (List Key)) → Ranks l o → (not (is_empty (applicants_of w l)) && is_none o) ≡ false
      → Any (λ s. FindsOne rows s l × (Any (λ text. text ≡ s.key) (unwrap_or o []) → ⊥)) rows.students → ⊥
  no_missing l o ranks ranked missing =
      let found = any_unmap (λ s. FindsOne rows s l × (Any (λ text. text ≡ s.key) (unwrap_or o []) → ⊥)) instance_student w.students
      missing in
      by_ranking l found.1.row.key o ranks ranked (is_applicant l found.0 found.1 found.2 found.3 found.4.0) found.4.1

  no_bad_capacity : (n : ℕ) → 1 ≤ n → n ≤ most_places → IsBadCapacity n → ⊥
  no_bad_capacity n low high (inl h) = omega arith
  no_bad_capacity n low high (inr h) = omega arith

  module _ (sound : Sound w) (one : w.round ≡ First) (all_ranked : AllByRecursion (λ l. is_still_to_rank w l ≡ false) w.lecturers) where
    ranked : AllByRecursion (λ l. Ranks l.row.key l.ranking × (is_still_to_rank w l ≡ false)) w.lecturers
    ranked = laws.all_both (λ l. Ranks l.row.key l.ranking) (λ l. is_still_to_rank w l ≡ false) w.lecturers sound.rankings all_ranked

    choices : AllByRecursion (λ s. IsChoice (project_keys w) s.choice) w.students
    choices = subst (λ u. AllByRecursion (λ s. IsChoice (project_keys u) s.choice) w.students) (first_plays w one) sound.choices

    bad_key : (k : Key) → is_key k ≡ true → is_key k ≡ false → ⊥
    bad_key k h e = cc

    twice : {E L : Type 0} (f : E → L) (row : L → ℕ) (key : L → Key) (es : List E) → Rise (map (λ e. key (f e)) es)
        → (q : ℕ) → BadAt (map f es) row (λ j x. IsEarlierKey (map f es) key j (key x)) q → ⊥
    twice f row key es rise q (j, x, low, long, at, is_row, earlier) =
        earlier_not key (map f es) j x (subst Rise (sym (map_map key f es)) rise) low at earlier

    pub faultless : HasNoneBefore rows Memory
    faultless TooMany low q (z, inl h) = omega (arith, length-map w.lecturers instance_lecturer, sound.few_lecturers)
    faultless TooMany low q (z, inr (inl h)) = omega (arith, length-map w.projects instance_project, sound.few_projects)
    faultless TooMany low q (z, inr (inr h)) = omega (arith, length-map w.students instance_student, sound.few_students)
    faultless BadKey low q (inl bad) = none_of (λ l. IsLecturer l.row) instance_lecturer (λ x. x.row)
        (λ _ x. is_key x.key ≡ false) w.lecturers sound.lecturer_forms (λ j e l at form h. bad_key e.row.key form.key h) q bad
    faultless BadKey low q (inr (inl bad)) =
        none_of IsProject instance_project (λ x. x.row) (λ _ x. is_key x.key ≡ false) w.projects sound.project_forms
        (λ j e l at form h. bad_key e.key form.key h) q bad
    faultless BadKey low q (inr (inr bad)) =
        none_of (λ s. IsStudent s.row) instance_student (λ x. x.row) (λ _ x. is_key x.key ≡ false) w.students sound.student_forms
        (λ j e l at form h. bad_key e.row.key form.key h) q bad
    faultless KeyTwice low q (inl bad) = twice instance_lecturer (λ x. x.row) (λ x. x.key) w.lecturers sound.lecturers_rise q bad
    faultless KeyTwice low q (inr (inl bad)) = twice instance_project (λ x. x.row) (λ x. x.key) w.projects sound.projects_rise q bad
    faultless KeyTwice low q (inr (inr bad)) = twice instance_student (λ x. x.row) (λ x. x.key) w.students sound.students_rise q bad
    faultless BadCapacity low q (inl bad) = none_of (λ l. IsLecturer l.row) instance_lecturer (λ x. x.row)
        (λ _ x. IsBadCapacity x.capacity) w.lecturers sound.lecturer_forms
        (λ j e l at form h. no_bad_capacity e.row.capacity form.low form.high h) q bad
    faultless BadCapacity low q (inr bad) = none_of IsProject instance_project (λ x. x.row)
        (λ _ x. IsBadCapacity x.capacity) w.projects sound.project_forms
        (λ j e l at form h. no_bad_capacity e.capacity form.low form.high h) q bad
    faultless NoSuchLecturer low q bad = none_of (λ p. has (lecturer_keys w) p.lecturer ≡ true) instance_project (λ x. x.row)
        (λ _ x. IsKeyOf rows.lecturers (λ y. y.key) x.lecturer → ⊥) w.projects sound.lecturers_known
        (λ j e l at known h. h (key_there instance_lecturer (λ y. y.key) w.lecturers e.lecturer known)) q bad
    faultless NoSuchProject low q bad = none_of (λ s. IsChoice (project_keys w) s.choice) instance_student (λ x. x.row)
        (λ _ x. NamesNone rows.projects (λ y. y.key) x.list) w.students choices (λ j e l at choice (m, text, less, is_text, no_one).
        no_one (key_there instance_project (λ y. y.key) w.projects text
        (subst (λ k. has (project_keys w) k ≡ true) is_text
        (laws.all_at (λ k. has (project_keys w) k ≡ true) e.choice m text choice.known less)))) q bad
    faultless RepeatInList low q (inl bad) =
        none_of (λ l. Ranks l.row.key l.ranking × (is_still_to_rank w l ≡ false)) instance_lecturer (λ x. x.row)
        (λ _ x. Repeats x.list) w.lecturers ranked (λ j e l at is_ranked h. no_repeat e.row.key e.ranking is_ranked.0 h) q bad
    faultless RepeatInList low q (inr bad) =
        none_of (λ s. IsChoice (project_keys w) s.choice) instance_student (λ x. x.row) (λ _ x. Repeats x.list) w.students choices
        (λ j e l at choice h. repeats_not e.choice choice.once h) q bad
    faultless ListTooLong low q bad = none_of (λ s. IsChoice (project_keys w) s.choice) instance_student (λ x. x.row)
        (λ _ x. longest_choice < length x.list) w.students choices
        (λ j e l at choice h. let few : length e.choice ≤ longest_choice = choice.few in omega arith) q bad
    faultless NotApplicant low q bad = none_of (λ l. Ranks l.row.key l.ranking × (is_still_to_rank w l ≡ false)) instance_lecturer
        (λ x. x.row) (λ _ x. Any (λ text. IsApplicant rows x.key text → ⊥) x.list) w.lecturers ranked
        (λ j e l at is_ranked h. no_other e.row.key e.ranking is_ranked.0 h) q bad
    faultless ApplicantMissing low q bad = none_of (λ l. Ranks l.row.key l.ranking × (is_still_to_rank w l ≡ false)) instance_lecturer
        (λ x. x.row) (λ _ x. MissesOne rows x) w.lecturers ranked
        (λ j e l at is_ranked h. no_missing e.row.key e.ranking is_ranked.0 is_ranked.1 h) q bad
    faultless Memory low q bad = bad

-- what is refused of rows without a fault is memory
pub only_memory : (rows : Rows) (fault : InstanceFault) (r : ℕ) → HasNoneBefore rows Memory → (fault ≡ Memory → ⊥)
    → IsRefusal rows fault r → ⊥
only_memory rows Memory r none other first = other refl
only_memory rows fault r none other first = none fault (omega arith) r first.here
