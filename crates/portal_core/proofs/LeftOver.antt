-- What has room after the first round.
use Rattle.portal_rules.proofs.Base.{◌≡◌, ℕ, ◌-◌, ◌<◌, ◌≤◌, Bool, true, false, List, [], map, length, get_or, refl, sym}
use Rattle.portal_rules.proofs.Base.{◌∙◌, ap, subst, arith, Option, Some, None, option_map, is_none, nat_lt, count_by}
use Rattle.portal_rules.proofs.Base.{◌&&◌, AllByRecursion, list_any, eqb-true, nat_tests, get_or-map, length-map}
use Rattle.portal_rules.proofs.Base.{list_any_at, IsStable, is_project, is_lecturer, at_project}
use Rattle.portal_rules.proofs.Base.{at_lecturer, lecturer_of, number_in, number_is, count_by-map, Key}
use Rattle.portal_rules.proofs.Base.{equals, has, World, lecturer_key, project_key, is_at, is_published}
use Rattle.portal_rules.proofs.Base.{given_to, given_with, lowered_lecturer, lowered_project, lecturers_left}
use Rattle.portal_rules.proofs.Base.{in_play, first, first_placed, first_published}
use Rattle.portal_rules.proofs.Base.{instance, instance_of, matching_of, places_of, lecturer_keys, project_keys}
use Rattle.portal_rules.proofs.Base.{in_catalogue, catalogue, IsRound, Sound, placed_to, placed_with}
use Rattle.portal_rules.proofs.Base.{count_at, count_with, ne_eqb, capacity_of, limit_of, All-from_get_or}
use Rattle.portal_rules.proofs.Base.{Any-from_list_any, and_from, and_parts, filter, get_or_default, recursion_from_All}
use Rattle.spa_honest.specs.Honest.{HasRoom}
use Rattle.portal_rules.specs.World.{Lecturer, Student}
use Rattle.portal_rules.proofs.Keys.{is_same, is_own}
use Rattle.portal_rules.proofs.AllLaws.{all_weaker, any_map, any_alike, filtered_any, is_sym}
use Rattle.portal_rules.proofs.Published.{number_back}
use Rattle.portal_rules.proofs.Capacities.{count_mono, count_none, known_in, first_plays, second_plays}
use Rattle.portal_rules.proofs.InRound.{catalogue_whole}
use Rattle.portal_core.proofs.HonestLists.{no_project, no_lecturer, lecturer_at}
use Rattle.portal_core.proofs.HonestLists.{lecturer_known}
use Rattle.portal_rules.specs.declared.phase.Round.TheVariants.{First, Second}
use Rattle.portal_rules.specs.declared.rows.Listing.{Listing}
use Rattle.portal_rules.specs.declared.rows.ProjectRow.{ProjectRow}

-- lists and tests

-- where a test holds of some element, it holds at a place
pub any_place : {X : Type 0} (q : X → Bool) (xs : List X) (d : X) → list_any q xs ≡ true
    → (k : ℕ) × (k < length xs) × (q (get_or xs k d) ≡ true)
any_place q xs d h =
    let at = Any-from_list_any q xs h in
    (at.0, at.2, ap q (get_or_default xs at.0 d at.1 at.2 ∙ at.3) ∙ at.4)

-- what holds at each place holds of each
pub all_from : {X : Type 0} (P : X → Type 0) (xs : List X) (d : X) → ((k : ℕ) → k < length xs → P (get_or xs k d))
    → AllByRecursion P xs
all_from P xs d each = recursion_from_All P xs (All-from_get_or P xs d each)

pub is_none_of : {X : Type 0} (o : Option X) → is_none o ≡ true → o ≡ None
is_none_of o h = grind arith

-- one published round, by its rows
module _ (v : World) (sound : Sound v) (one : v.round ≡ First) (published : is_published v.phase ≡ true) where
  -- the project of a number that a student has is the one of this key
  at_key : (k : ℕ) → k < length v.projects → (q : Key) → number_in (project_keys v) q < length (project_keys v)
      → number_in (project_keys v) q ≡ k → q ≡ (get_or v.projects k no_project).key
  at_key k h q low same = sym (number_is (project_keys v) q low) ∙ ap (λ n. get_or (project_keys v) n []) same
      ∙ get_or-map project_key v.projects k no_project [] h

  -- students at known projects, by number and by key
  module _ (place : Student → Option Key) (ss : List Student)
      (known : AllByRecursion (λ s. (q : Key) → place s ≡ Some q → number_in (project_keys v) q < length (project_keys v)) ss) where
    pub few_at : (k : ℕ) → k < length v.projects
        → at_project (map (λ s. option_map (number_in (project_keys v)) (place s)) ss) k ≤ count_at place ss
        (get_or v.projects k no_project).key
    few_at k h =
        let counted : at_project (map (λ s. option_map (number_in (project_keys v)) (place s)) ss) k
        ≡ count_by (λ s. is_project k (option_map (number_in (project_keys v)) (place s))) ss
        = count_by-map (is_project k) (λ (s : Student). option_map (number_in (project_keys v)) (place s)) ss in
        let fewer : count_by (λ s. is_project k (option_map (number_in (project_keys v)) (place s))) ss ≤ count_by
        (λ (s : Student). is_at (get_or v.projects k no_project).key (place s)) ss
        = count_mono _ _ ss (all_weaker _ _ (λ s low. here (place s) low) ss known) in
        omega (arith, counted, fewer)
      where
        here : (o : Option Key) → ((q : Key) → o ≡ Some q → number_in (project_keys v) q < length (project_keys v))
            → is_project k (option_map (number_in (project_keys v)) o) ≡ true
            → is_at (get_or v.projects k no_project).key o ≡ true
        here None low e = absurd (cc)
        here (Some q) low e = subst (λ x. equals q x ≡ true) (at_key k h q (low q refl) (eqb-true (number_in (project_keys v) q) k e))
            (is_own q)

    pub few_with : (h : ℕ) → h < length v.lecturers
        → at_lecturer (instance_of v) (map (λ s. option_map (number_in (project_keys v)) (place s)) ss) h ≤ count_with place v.projects ss
        (get_or v.lecturers h no_lecturer).row.key
    few_with h h_in =
        let counted : at_lecturer (instance_of v) (map (λ s. option_map (number_in (project_keys v)) (place s)) ss) h
        ≡ count_by (λ s. is_lecturer (instance_of v) h (option_map (number_in (project_keys v)) (place s))) ss
        = count_by-map (is_lecturer (instance_of v) h) (λ (s : Student). option_map (number_in (project_keys v)) (place s)) ss in
        let fewer : count_by (λ s. is_lecturer (instance_of v) h (option_map (number_in (project_keys v)) (place s))) ss ≤ count_with place
        v.projects ss (get_or v.lecturers h no_lecturer).row.key
        = count_mono _ _ ss (all_weaker _ _ (λ s low. here (place s) low) ss known) in
        omega (arith, counted, fewer)
      where
        here : (o : Option Key) → ((q : Key) → o ≡ Some q → number_in (project_keys v) q < length (project_keys v))
            → is_lecturer (instance_of v) h (option_map (number_in (project_keys v)) o) ≡ true
            → list_any (λ (p : ProjectRow). equals p.lecturer (get_or v.lecturers h no_lecturer).row.key && is_at p.key o) v.projects ≡ true
        here None low e = absurd (cc)
        here (Some q) low e =
            let k : ℕ = number_in (project_keys v) q in
            let k_low : number_in (project_keys v) q < length (project_keys v) = low q refl in
            let k_in : number_in (project_keys v) q < length v.projects = omega (arith, k_low, length-map v.projects project_key) in
            let row : ProjectRow = get_or v.projects (number_in (project_keys v) q) no_project in
            let l_is : number_in (lecturer_keys v) (get_or v.projects (number_in (project_keys v) q) no_project).lecturer ≡ h
            = sym (lecturer_at v sound one published (number_in (project_keys v) q) k_in)
            ∙ eqb-true (lecturer_of (instance_of v) (number_in (project_keys v) q)) h e in
            let of_l : (get_or v.projects (number_in (project_keys v) q) no_project).lecturer ≡ (get_or v.lecturers h no_lecturer).row.key
            = sym (number_is (lecturer_keys v) (get_or v.projects (number_in (project_keys v) q) no_project).lecturer
            (lecturer_known v sound one published (number_in (project_keys v) q) k_in))
            ∙ ap (λ n. get_or (lecturer_keys v) n []) l_is ∙ get_or-map lecturer_key v.lecturers h no_lecturer [] h_in in
            let q_is : q ≡ (get_or v.projects (number_in (project_keys v) q) no_project).key =
            at_key (number_in (project_keys v) q) k_in q k_low refl in
            list_any_at (λ (p : ProjectRow). equals p.lecturer (get_or v.lecturers h no_lecturer).row.key && equals q p.key) v.projects
            (number_in (project_keys v) q) no_project k_in
            (and_from _ _
            (subst (λ x. equals (get_or v.projects (number_in (project_keys v) q) no_project).lecturer x ≡ true) of_l
            (is_own (get_or v.projects (number_in (project_keys v) q) no_project).lecturer))
            (subst (λ x. equals q x ≡ true) q_is (is_own q)))

    -- and nobody past the rolls
    pub none_at : (k : ℕ) → length v.projects ≤ k
        → at_project (map (λ s. option_map (number_in (project_keys v)) (place s)) ss) k ≡ 0
    none_at k past = count_by-map (is_project k) (λ (s : Student). option_map (number_in (project_keys v)) (place s)) ss
        ∙ count_none _ ss (all_weaker _ _ (λ s low. off (place s) low) ss known)
      where
        off : (o : Option Key) → ((q : Key) → o ≡ Some q → number_in (project_keys v) q < length (project_keys v))
            → is_project k (option_map (number_in (project_keys v)) o) ≡ false
        off None low = refl
        off (Some q) low = let k_low = low q refl in
            ne_eqb (number_in (project_keys v) q) k (λ same. omega (arith, k_low, past, length-map v.projects project_key))

    pub none_with : (h : ℕ) → length v.lecturers ≤ h
        → at_lecturer (instance_of v) (map (λ s. option_map (number_in (project_keys v)) (place s)) ss) h ≡ 0
    none_with h past = count_by-map (is_lecturer (instance_of v) h) (λ (s : Student). option_map (number_in (project_keys v)) (place s)) ss
        ∙ count_none _ ss (all_weaker _ _ (λ s low. off (place s) low) ss known)
      where
        off : (o : Option Key) → ((q : Key) → o ≡ Some q → number_in (project_keys v) q < length (project_keys v))
            → is_lecturer (instance_of v) h (option_map (number_in (project_keys v)) o) ≡ false
        off None low = refl
        off (Some q) low =
            let k_low = low q refl in
            let k_in : number_in (project_keys v) q < length v.projects = omega (arith, k_low, length-map v.projects project_key) in
            let l_is = lecturer_at v sound one published (number_in (project_keys v) q) k_in in
            let l_low = lecturer_known v sound one published (number_in (project_keys v) q) k_in in
            ne_eqb (lecturer_of (instance_of v) (number_in (project_keys v) q)) h
            (λ same. omega (arith, l_is, l_low, past, length-map v.lecturers lecturer_key))

-- and its result
module _ (v : World) (sound : Sound v) (one : v.round ≡ First) (published : is_published v.phase ≡ true)
    (stable : IsStable (instance v) (matching_of v)) where
  pub stable_rows : IsStable (instance_of v) (places_of v)
  stable_rows = subst (λ u. IsStable (instance_of u) (places_of u)) (first_plays v one) stable

  pub placed_known : AllByRecursion (λ (s : Student). (q : Key) → s.placed ≡ Some q
      → number_in (project_keys v) q < length (project_keys v)) v.students
  placed_known = subst (λ u. AllByRecursion
      (λ (s : Student). (q : Key) → s.placed ≡ Some q → number_in (project_keys u) q < length (project_keys u)) u.students)
      (first_plays v one) (known_in v sound stable.matching)

  -- a row with room, whose lecturer has room, has it by number
  has_room : (k h : ℕ) → k < length v.projects → h < length v.lecturers
      → (get_or v.projects k no_project).lecturer ≡ (get_or v.lecturers h no_lecturer).row.key
      → placed_to v.students (get_or v.projects k no_project).key < (get_or v.projects k no_project).capacity
      → placed_with v.projects v.students (get_or v.lecturers h no_lecturer).row.key < (get_or v.lecturers h no_lecturer).row.capacity
      → HasRoom (instance_of v) (places_of v) k
  has_room k h k_in h_in of_l room room_l =
      let h_low : h < length (lecturer_keys v) = omega (arith, length-map v.lecturers lecturer_key) in
      let l_is : lecturer_of (instance_of v) k ≡ h
      = lecturer_at v sound one published k k_in
      ∙ ap (number_in (lecturer_keys v)) (of_l ∙ sym (get_or-map lecturer_key v.lecturers h no_lecturer [] h_in))
      ∙ number_back (lecturer_keys v) h sound.lecturers_rise h_low in
      let cap : capacity_of (instance_of v) k ≡ (get_or v.projects k no_project).capacity =
      get_or-map (λ (p : ProjectRow). p.capacity) v.projects k no_project 0 k_in in
      let top : limit_of (instance_of v) h ≡ (get_or v.lecturers h no_lecturer).row.capacity =
      get_or-map (λ (l : Lecturer). l.row.capacity) v.lecturers h no_lecturer 0 h_in in (
        omega (arith, few_at v sound one published (λ s. s.placed) v.students placed_known k k_in, room, cap),
        rw l_is (omega (arith, few_with v sound one published (λ s. s.placed) v.students placed_known h h_in, room_l, top)),
      )

-- a second-round project and its lecturer, by places on the rolls: the first round left both room
record HasRows (w : World) (p : Key) : Type 0 where
  pub project : ℕ
  pub lecturer : ℕ
  pub project_in : project < length w.projects
  pub lecturer_in : lecturer < length w.lecturers
  pub key : p ≡ (get_or w.projects project no_project).key
  pub own : (get_or w.projects project no_project).lecturer ≡ (get_or w.lecturers lecturer no_lecturer).row.key
  pub room : given_to w.students (get_or w.projects project no_project).key < (get_or w.projects project no_project).capacity
  pub lecturer_room : given_with w.projects w.students
      (get_or w.lecturers lecturer no_lecturer).row.key < (get_or w.lecturers lecturer no_lecturer).row.capacity

abbrev is_open : World → ProjectRow → Bool
is_open w x = nat_lt 0 x.capacity && has (map lecturer_key (lecturers_left w.lecturers w.projects w.students)) x.lecturer

-- a row that is changed and passes a test, by its key
kept_row : {X : Type 0} (key : X → Key) (f : X → X) (t : X → Bool) (xs : List X) (d : X) (k : Key)
    → has (map key (filter t (map f xs))) k ≡ true
    → (n : ℕ) × (n < length xs) × (t (f (get_or xs n d)) ≡ true) × (k ≡ key (f (get_or xs n d)))
kept_row key f t xs d k there =
    let at = any_place (λ x. t (f x) && equals k (key (f x))) xs d
    (sym (any_map (λ x. t x && equals k (key x)) f xs) ∙ sym (filtered_any (λ x. equals k (key x)) t (map f xs))
    ∙ sym (any_map (equals k) key (filter t (map f xs))) ∙ there) in
    let both = and_parts (t (f (get_or xs at.0 d))) (equals k (key (f (get_or xs at.0 d)))) at.2 in
    (at.0, at.1, both.0, is_same k (key (f (get_or xs at.0 d))) both.1)

has_rows : (w : World) (p : Key) → w.round ≡ Second → has (project_keys (in_play w)) p ≡ true → HasRows w p
has_rows w p two there =
    let at = kept_row project_key (lowered_project w.students) (is_open w) w.projects no_project p
    (subst (λ u. has (project_keys u) p ≡ true) (second_plays w two) there) in
    let row : ProjectRow = get_or w.projects at.0 no_project in
    let rooms = and_parts (nat_lt 0 (row.capacity - given_to w.students row.key))
    (has (map lecturer_key (lecturers_left w.lecturers w.projects w.students)) row.lecturer) at.2 in
    let by = kept_row lecturer_key (lowered_lecturer w.projects w.students)
    (λ (l : Lecturer). nat_lt 0 l.row.capacity) w.lecturers no_lecturer row.lecturer rooms.1 in
    let owner : Lecturer = get_or w.lecturers by.0 no_lecturer in
    record {
      project = at.0;
      lecturer = by.0;
      project_in = at.1;
      lecturer_in = by.1;
      key = at.3;
      own = by.3;
      room = below row.capacity (given_to w.students row.key) rooms.0;
      lecturer_room = below owner.row.capacity (given_with w.projects w.students owner.row.key) by.2;
    }
  where
    below : (c n : ℕ) → nat_lt 0 (c - n) ≡ true → n < c
    below c n h = let some : 0 < c - n = grind (arith, nat_tests) in omega arith

-- what takes part is on the roll
pub plays_known : (w : World) (p : Key) → w.round ≡ Second → has (project_keys (in_play w)) p ≡ true
    → has (project_keys w) p ≡ true
plays_known w p two there =
    let r : HasRows w p = has_rows w p two there in
    let low = r.project_in in
    list_any_at (equals p) (project_keys w) r.project [] (omega (arith, low, length-map w.projects project_key))
    (subst (λ x. equals p x ≡ true) (r.key ∙ sym (get_or-map project_key w.projects r.project no_project [] r.project_in)) (is_own p))

-- what takes part in the second round has room after the first
module _ (w : World) (sound : Sound w) (two : w.round ≡ Second) (before : IsRound (first w)) where
  room_by_rows : (p : Key) → HasRows w p
      → HasRoom (instance_of (first w)) (places_of (first w)) (number_in (project_keys w) p)
  room_by_rows p r =
      let row : get_or (first w).lecturers r.lecturer no_lecturer
      ≡ first_published (get_or w.lecturers r.lecturer no_lecturer) =
      get_or-map first_published w.lecturers r.lecturer no_lecturer no_lecturer r.lecturer_in in
      let low : r.project < length (project_keys w) = let h = r.project_in in omega (arith, h, length-map w.projects project_key) in
      let number : number_in (project_keys w) p ≡ r.project
      = ap (number_in (project_keys w)) (r.key ∙ sym (get_or-map project_key w.projects r.project no_project [] r.project_in))
      ∙ number_back (project_keys w) r.project sound.projects_rise low in
      let given_p : placed_to (first w).students (get_or w.projects r.project no_project).key
      ≡ given_to w.students (get_or w.projects r.project no_project).key
      = count_by-map (λ (s : Student). is_at (get_or w.projects r.project no_project).key s.placed) first_placed w.students in
      let given_l : placed_with w.projects (first w).students (get_or w.lecturers r.lecturer no_lecturer).row.key
      ≡ given_with w.projects w.students (get_or w.lecturers r.lecturer no_lecturer).row.key
      = count_by-map (λ (s : Student). list_any
      (λ (x : ProjectRow). equals x.lecturer (get_or w.lecturers r.lecturer no_lecturer).row.key && is_at x.key s.placed) w.projects)
      first_placed w.students in
      subst (HasRoom (instance_of (first w)) (places_of (first w))) (sym number)
      (has_room (first w) before.sound refl refl (before.stable refl) r.project r.lecturer r.project_in
      (let h = r.lecturer_in in omega (arith, h, length-map w.lecturers first_published))
      (r.own ∙ ap (λ (l : Lecturer). l.row.key) (sym row))
      (subst (λ n. n < (get_or w.projects r.project no_project).capacity) (sym given_p) r.room)
      (subst (λ (l : Lecturer). placed_with w.projects (first w).students l.row.key < l.row.capacity) (sym row)
      (subst (λ n. n < (get_or w.lecturers r.lecturer no_lecturer).row.capacity) (sym given_l) r.lecturer_room)))

  pub stays_open : (p : Key) → has (project_keys (in_play w)) p ≡ true
      → HasRoom (instance_of (first w)) (places_of (first w)) (number_in (project_keys w) p)
  stays_open p there = room_by_rows p (has_rows w p two there)

  -- what is in the catalogue takes part
  pub listed : (p : Key) → in_catalogue (catalogue w) p ≡ true → has (project_keys (in_play w)) p ≡ true
  listed p there =
      subst (λ ks. has ks p ≡ true) (catalogue_whole w sound)
      (any_map (equals p) (λ (l : Listing). l.key) (catalogue w)
      ∙ any_alike (λ (l : Listing). equals p l.key) (λ (l : Listing). equals l.key p) (λ l. is_sym p l.key) (catalogue w) ∙ there)
