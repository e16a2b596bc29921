-- What the absence of faults says of lines.
use Rattle.spa_model.proofs.Base.{◌≡◌, inl, inr, ℕ, ◌<◌, ◌≤◌, true, false, List, length, get_or, map, take, All, Any}
use Rattle.spa_model.proofs.Base.{Ordering, Less, Equal, Greater, refl, sym, ◌∙◌, ap, arith, nat_cmp, is_lt, slice_cmp}
use Rattle.spa_model.proofs.Base.{nat_list_cmp_total, cases_lt, get_or_default, get_or-take, length-take, length-map}
use Rattle.spa_model.proofs.Base.{Text, Rows, BadAt, HasNoneBefore, IsKeyOf, AreKeysOf, Repeats, TooMany, BadKey}
use Rattle.spa_model.proofs.Base.{KeyTwice, BadCapacity, NoSuchLecturer, RepeatInList, ListTooLong, NotApplicant}
use Rattle.spa_model.proofs.Base.{at_place, map_at, TextsRise, keys_of_students, keys_of_projects, keys_of_lecturers}
use Rattle.spa_model.proofs.Base.{IsSortedByKey, most_lecturers, most_projects, most_students, longest_choice, most_places}
use Rattle.spa_model.proofs.Base.{ranks_by, sorted_far, true_from_ne_false, is_key, IsBadCapacity}
use Rattle.std.proofs.lemmas.Map.Lookups.{exact_bytes}
use Rattle.spa_rows.specs.declared.faults.InstanceFault.TheVariants.{NoSuchProject}
use Rattle.spa_model.proofs.Keys.{known, all_known}

-- lines that are not bad
none_bad : {X : Type 0} (lines : List X) (row : X → ℕ) (Bad : ℕ → X → Type 0) → ((r : ℕ) → BadAt lines row Bad r → ⊥)
    → (k : ℕ) (d : X) → k < length lines → Bad k (get_or lines k d) → ⊥
none_bad lines row Bad none k d h bad = none (row (get_or lines k d))
    (k, get_or lines k d, h, h, get_or_default lines k (get_or lines k d) d h, refl, bad)

-- sorted lines whose keys differ have keys that rise
rise_from_sorted : {X : Type 0} (key : X → Text) (lines : List X) → IsSortedByKey key (slice_cmp nat_cmp) lines
    → ((k : ℕ) (d : X) → k < length lines → Any (λ y. key y ≡ key (get_or lines k d)) (take k lines) → ⊥)
    → TextsRise (map key lines)
rise_from_sorted {X} key lines sorted apart i j d less h =
    let low : j < length lines = omega (arith, length-map lines key) in
    let x = at_place lines i (omega arith) in
    let y = at_place lines j low in
    let is_y : get_or (map key lines) j d ≡ key y.0 = map_at key lines j y.0 d low y.1 in
    let far : is_lt (slice_cmp nat_cmp (key (get_or lines j y.0)) (key (get_or lines i y.0)))
    ≡ false = sorted_far (λ a b. is_lt (slice_cmp nat_cmp (key a) (key b))) (ranks_by nat_list_cmp_total key) lines sorted i j y.0
    (omega arith) low in
    let back : is_lt (slice_cmp nat_cmp (key y.0) (key x.0))
    ≡ false = rw (y.1, get_or_default lines i y.0 x.0 (omega arith) ∙ x.1) at far in
    let differ : key x.0 ≡ key y.0 → ⊥ = λ same. apart j y.0 low
    (i, x.0, omega (arith, length-take j lines), get_or-take j lines i x.0 less ∙ x.1, same ∙ ap key (sym y.1)) in
    rw ((map_at key lines i x.0 d (omega arith) x.1), is_y)
    (by_order (key x.0) (key y.0) (slice_cmp nat_cmp (key x.0) (key y.0)) refl back differ)
  where
    by_order : (a b : Text) (o : Ordering) → slice_cmp nat_cmp a b ≡ o → is_lt (slice_cmp nat_cmp b a) ≡ false
        → (a ≡ b → ⊥) → slice_cmp nat_cmp a b ≡ Less
    by_order a b Less e back differ = e
    by_order a b Equal e back differ = absurd (differ (exact_bytes a b e))
    by_order a b Greater e back differ =
        let turned : slice_cmp nat_cmp b a ≡ Less = rw (nat_list_cmp_total.antisymm b a, e) refl in
        cc

in_range : (n : ℕ) → (IsBadCapacity n → ⊥) → (1 ≤ n) × (n ≤ most_places)
in_range n h = (
  elim (cases_lt n 1) [ inl less ↦ absurd (h (inl less)) | inr not ↦ not ],
  elim (cases_lt most_places n) [ inl less ↦ absurd (h (inr less)) | inr not ↦ not ],
)

pub record AreGood (rows : Rows) : Type 0 where
  pub rise_students : TextsRise (keys_of_students rows.students)
  pub rise_projects : TextsRise (keys_of_projects rows.projects)
  pub rise_lecturers : TextsRise (keys_of_lecturers rows.lecturers)
  pub form_students : All (λ x. is_key x.key ≡ true) rows.students
  pub form_projects : All (λ x. is_key x.key ≡ true) rows.projects
  pub form_lecturers : All (λ x. is_key x.key ≡ true) rows.lecturers
  pub known_projects : All (λ x. AreKeysOf rows.projects (λ y. y.key) x.list) rows.students
  pub known_lecturers : All (λ x. IsKeyOf rows.lecturers (λ y. y.key) x.lecturer) rows.projects
  pub apart_students : All (λ x. Repeats x.list → ⊥) rows.students
  pub apart_lecturers : All (λ x. Repeats x.list → ⊥) rows.lecturers
  pub short : All (λ x. length x.list ≤ longest_choice) rows.students
  pub capacities : All (λ x. (1 ≤ x.capacity) × (x.capacity ≤ most_places)) rows.projects
  pub limits : All (λ x. (1 ≤ x.capacity) × (x.capacity ≤ most_places)) rows.lecturers
  pub few_students : length rows.students ≤ most_students
  pub few_projects : length rows.projects ≤ most_projects
  pub few_lecturers : length rows.lecturers ≤ most_lecturers

pub are_good : (rows : Rows) → IsSortedByKey (λ x. x.key) (slice_cmp nat_cmp) rows.lecturers
    → IsSortedByKey (λ x. x.key) (slice_cmp nat_cmp) rows.projects
    → IsSortedByKey (λ x. x.key) (slice_cmp nat_cmp) rows.students → HasNoneBefore rows NotApplicant → AreGood rows
are_good rows lecturers projects students none = record {
  rise_students = rise_from_sorted (λ x. x.key) rows.students students
      (none_bad rows.students (λ x. x.row) _ (λ r bad. none KeyTwice (omega arith) r (inr (inr bad))));
  rise_projects = rise_from_sorted (λ x. x.key) rows.projects projects
      (none_bad rows.projects (λ x. x.row) _ (λ r bad. none KeyTwice (omega arith) r (inr (inl bad))));
  rise_lecturers = rise_from_sorted (λ x. x.key) rows.lecturers lecturers
      (none_bad rows.lecturers (λ x. x.row) _ (λ r bad. none KeyTwice (omega arith) r (inl bad)));
  form_students = λ k d h. true_from_ne_false _
      (none_bad rows.students (λ x. x.row) _ (λ r bad. none BadKey (omega arith) r (inr (inr bad))) k d h);
  form_projects = λ k d h. true_from_ne_false _
      (none_bad rows.projects (λ x. x.row) _ (λ r bad. none BadKey (omega arith) r (inr (inl bad))) k d h);
  form_lecturers = λ k d h. true_from_ne_false _
      (none_bad rows.lecturers (λ x. x.row) _ (λ r bad. none BadKey (omega arith) r (inl bad)) k d h);
  known_projects = λ k d h. all_known (λ y. y.key) rows.projects _
      (none_bad rows.students (λ x. x.row) _ (none NoSuchProject (omega arith)) k d h);
  known_lecturers = λ k d h. known (λ y. y.key) rows.lecturers _
      (none_bad rows.projects (λ x. x.row) _ (none NoSuchLecturer (omega arith)) k d h);
  apart_students = none_bad rows.students (λ x. x.row) _ (λ r bad. none RepeatInList (omega arith) r (inr bad));
  apart_lecturers = none_bad rows.lecturers (λ x. x.row) _ (λ r bad. none RepeatInList (omega arith) r (inl bad));
  short = λ k d h. elim (cases_lt longest_choice (length (get_or rows.students k d).list)) [
    | inl more ↦ absurd
        (none_bad rows.students (λ x. x.row) _ (none ListTooLong (omega arith)) k d h more)
    | inr few ↦ few
  ];
  capacities = λ k d h. in_range _ (none_bad rows.projects (λ x. x.row) _ (λ r bad. none BadCapacity (omega arith) r (inr bad)) k d h);
  limits = λ k d h. in_range _ (none_bad rows.lecturers (λ x. x.row) _ (λ r bad. none BadCapacity (omega arith) r (inl bad)) k d h);
  few_students = elim (cases_lt most_students (length rows.students)) [
    | inl more ↦ absurd
        (none TooMany (omega arith) 0 (refl, inr (inr more)))
    | inr few ↦ few
  ];
  few_projects = elim (cases_lt most_projects (length rows.projects)) [
    | inl more ↦ absurd
        (none TooMany (omega arith) 0 (refl, inr (inl more)))
    | inr few ↦ few
  ];
  few_lecturers = elim (cases_lt most_lecturers (length rows.lecturers)) [
    | inl more ↦ absurd
        (none TooMany (omega arith) 0 (refl, inl more))
    | inr few ↦ few
  ];
}
