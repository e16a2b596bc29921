-- Of rows without a fault one instance alone is made.
use Rattle.spa_model.proofs.Base.{◌≡◌, ◌≢◌, inl, inr, ℕ, zero, suc, ◌<◌, ◌≤◌, Bool, true, false, List, [], ◌∷◌, map}
use Rattle.spa_model.proofs.Base.{length, get_or, All, Contains, refl, sym, subst, ◌∙◌, ap, arith, bytes_eq, cases_lt}
use Rattle.spa_model.proofs.Base.{ext_get_or, get_or_default, get_or_past, get_or-take, length-map, length-take}
use Rattle.spa_model.proofs.Base.{IsDistinct-from_AllPairs, bytes_eq-Decides, Text, Rows, HasNoneBefore, KeyTwice}
use Rattle.spa_model.proofs.Base.{Memory, at_place, map_at, Spa, TextsRise, IsLawful, IsOn, place, choices_of}
use Rattle.spa_model.proofs.Base.{lecturer_of}
use Rattle.spa_model.proofs.Base.{capacity_of, limit_of, HasKey, keys_at, StandsFor, StandsStudent, StandsProject}
use Rattle.spa_model.proofs.Base.{StandsLecturer, number_in, rules, ◌+◌, Less, Equal, Greater, nat_cmp, slice_cmp}
use Rattle.spa_model.proofs.Base.{nat_list_cmp_total, tied_itself, ◌||◌, AllByRecursion, nat_list_eq_equiv}
use Rattle.spa_model.proofs.Base.{is_member-Decides, length-le_from_is_member, IsEarlierKey, ranking_of, ◌-◌}
use Rattle.std.specs.Prelude.{AllPairs}
use Rattle.std.specs.List.{IsDistinct}
use Rattle.std.specs.Set.{is_member}
use Rattle.std.proofs.lemmas.Map.Keys.{IsDistinct-cons}
use Rattle.spa_rows.specs.Lines.{LecturerWithList, ProjectWithLecturer, StudentWithList}
use Rattle.spa_model.proofs.Keys.{one_number}
use Rattle.spa_model.proofs.Numbers.{number_is, number_known}
use Rattle.spa_model.proofs.Places.{place-get_or-le}

-- When two lists of keys that rise are one.
never_both : (a b : Text) → slice_cmp nat_cmp a b ≡ Less → slice_cmp nat_cmp b a ≡ Less → ⊥
never_both a b h g = let turned : slice_cmp nat_cmp b a ≡ Greater = rw (nat_list_cmp_total.antisymm b a, h) refl in cc

pub never_itself : (a : Text) → slice_cmp nat_cmp a a ≡ Less → ⊥
never_itself a h = let tied : slice_cmp nat_cmp a a ≡ Equal = tied_itself nat_list_cmp_total a in cc

-- two lists that rise, as long as each other, where each of ys stands in xs
module _ (xs ys : List Text) (up : TextsRise xs) (rise : TextsRise ys) (long : length xs ≡ length ys)
    (there : (k : ℕ) → k < length ys → (m : ℕ) × (m < length xs) × (get_or xs m [] ≡ get_or ys k [])) where
  strict : (k l : ℕ) (h : k < length ys) (g : l < length ys) → k < l → (there k h).0 < (there l g).0
  strict k l h g low = elim (cases_lt (there k h).0 (there l g).0) [
    | inl before ↦ before
    | inr not ↦
        let m = there k h in
        let n = there l g in
        let below : slice_cmp nat_cmp (get_or ys k []) (get_or ys l []) ≡ Less = rise k l [] low g in
        grind (arith, never_both, never_itself)
  ]

  not_before : (k : ℕ) (h : k < length ys) → k ≤ (there k h).0
  not_before zero h = omega arith
  not_before (suc k) h =
      let g : k < length ys = omega arith in
      let before : k ≤ (there k g).0 = not_before k g in
      omega (arith, strict k (suc k) g h (omega arith))

  not_after : (d k : ℕ) (h : k < length ys) → k + d + 1 ≡ length ys → (there k h).0 + d + 1 ≤ length xs
  not_after zero k h e = let in_range : (there k h).0 < length xs = (there k h).1 in omega arith
  not_after (suc d) k h e =
      let g : k + 1 < length ys = omega arith in
      let step : (there k h).0 < (there (k + 1) g).0 = strict k (k + 1) h g (omega arith) in
      omega (arith, not_after d (k + 1) g (omega arith))

  own_place : (k : ℕ) (h : k < length ys) → (there k h).0 ≡ k
  own_place k h =
      let low : k ≤ (there k h).0 = not_before k h in
      omega (arith, not_after (length ys - (k + 1)) k h (omega arith))

  pub same_keys : xs ≡ ys
  same_keys = ext_get_or [] xs ys long (λ k h.
      let g : k < length ys = omega arith in
      sym (ap (λ i. get_or xs i []) (own_place k g)) ∙ (there k g).2)

-- ---- keys and numbers

own_key : (keys : List Text) (n : ℕ) → n < length keys → Contains keys (get_or keys n [])
own_key keys n h = (n, h, get_or_default keys n (get_or keys n []) [] h)

-- a key's number is its place
pub own_number : (keys : List Text) (n : ℕ) → TextsRise keys → n < length keys → number_in keys (get_or keys n []) ≡ n
own_number keys n rise h =
    let text : Text = get_or keys n [] in
    let low : number_in keys text < length keys = number_known keys text (own_key keys n h) in
    one_number keys (number_in keys text) n text rise (low, number_is keys text low) (h, refl)

pub numbers_back : (keys : List Text) (list : List ℕ) → TextsRise keys → All (λ n. n < length keys) list
    → map (number_in keys) (keys_at keys list) ≡ list
numbers_back keys [] rise all = refl
numbers_back keys (n ∷ ns) rise all =
    let here : number_in keys (get_or keys n []) ≡ n = own_number keys n rise (all zero n (omega arith)) in
    cc (numbers_back keys ns rise (λ k d h. all (suc k) d (omega arith)))

-- two lists of numbers that have the same keys are one
numbers_one : (keys others : List Text) (ns ms : List ℕ) → keys ≡ others → TextsRise keys
    → All (λ n. n < length keys) ns
    → All (λ n. n < length others) ms → keys_at keys ns ≡ keys_at others ms → ns ≡ ms
numbers_one keys others ns ms same rise low below e =
    let low_too : All (λ n. n < length keys) ms = subst (λ (ks : List Text). All (λ n. n < length ks) ms) (sym same) below in
    sym (numbers_back keys ns rise low) ∙ ap (map (number_in keys)) (e ∙ ap (λ ks. keys_at ks ms) (sym same))
    ∙ numbers_back keys ms rise low_too

-- what is known of those on a list is known at each place
pub all_on : (P : ℕ → Type 0) (list : List ℕ) → ((n : ℕ) → IsOn list n → P n) → All P list
all_on P list known k d h = let low : place list (get_or list k d) ≤ k = place-get_or-le list k d h in known (get_or list k d) (omega arith)

known_key : (keys : List Text) (n : ℕ) (text : Text) → HasKey keys n text → Contains keys text
known_key keys n text h = (n, h.0, get_or_default keys n text [] h.0 ∙ h.1)

none_equal : (text : Text) (ks : List Text) → is_member bytes_eq ks text ≡ false
    → AllByRecursion (λ y. bytes_eq text y ≡ false) ks
none_equal text [] h = tt
none_equal text (k ∷ ks) h = at (bytes_eq text k) refl h (none_equal text ks)
  where
    at : (b : Bool) → bytes_eq text k ≡ b → (b || is_member bytes_eq ks text) ≡ false
        → (is_member bytes_eq ks text ≡ false → AllByRecursion (λ y. bytes_eq text y ≡ false) ks)
        → AllByRecursion (λ y. bytes_eq text y ≡ false) (k ∷ ks)
    at true e h rest = cc
    at false e h rest = (e, rest h)

-- ---- as many keys as lines, whose keys differ and stand among them: then each key is a line's

module _ {X : Type 0} (key : X → Text) (lines : List X) (keys : List Text) (long : length keys ≡ length lines)
    (apart : (j : ℕ) (x : X) → j < length lines → get_or lines j x ≡ x → IsEarlierKey lines key j (key x) → ⊥)
    (there : (j : ℕ) (x : X) → j < length lines → get_or lines j x ≡ x → Contains keys (key x)) where
  differ : AllPairs (λ a b. a ≢ b) (map key lines)
  differ i j d less low same =
      let j_low : j < length lines = omega (arith, length-map lines key) in
      let i_low : i < length lines = omega arith in
      let x = at_place lines j j_low in
      let y = at_place lines i i_low in
      let equal : key y.0 ≡ key x.0 = sym (map_at key lines i y.0 d i_low y.1) ∙ same ∙ map_at key lines j x.0 d j_low x.1 in
      apart j x.0 j_low x.1 (i, y.0, omega (arith, length-take j lines), get_or-take j lines i y.0 less ∙ y.1, equal)

  line_at : (text : Text) → Contains (map key lines) text
      → (j : ℕ) × (x : X) × (j < length lines) × (get_or lines j x ≡ x) × (key x ≡ text)
  line_at text c =
      let low : c.0 < length lines = omega (arith, length-map lines key, c.1) in
      let x = at_place lines c.0 low in
      (c.0, x.0, low, x.1, sym (map_at key lines c.0 x.0 text low x.1) ∙ c.2)

  among : (text : Text) → is_member bytes_eq (map key lines) text ≡ true → is_member bytes_eq keys text ≡ true
  among text h =
      let x = line_at text ((is_member-Decides bytes_eq-Decides (map key lines) text).0 h) in
      (is_member-Decides bytes_eq-Decides keys text).1 (subst (Contains keys) x.4 (there x.0 x.1 x.2 x.3))

  pub line_of : (text : Text) → Contains keys text
      → (j : ℕ) × (x : X) × (j < length lines) × (get_or lines j x ≡ x) × (key x ≡ text)
  line_of text c = line_at text (at (is_member bytes_eq (map key lines) text) refl)
    where
      also : (b : Bool) (q : Text) → bytes_eq q text ≡ b → (b || is_member bytes_eq (map key lines) q) ≡ true
          → is_member bytes_eq keys q ≡ true
      also true q e h = (is_member-Decides bytes_eq-Decides keys q).1 (subst (Contains keys) (sym ((bytes_eq-Decides q text).0 e)) c)
      also false q e h = among q h

      at : (b : Bool) → is_member bytes_eq (map key lines) text ≡ b → Contains (map key lines) text
      at true e = (is_member-Decides bytes_eq-Decides (map key lines) text).0 e
      at false e =
          let once : IsDistinct bytes_eq (text ∷ map key lines) =
          IsDistinct-cons bytes_eq text (map key lines) (none_equal text (map key lines) e)
          (IsDistinct-from_AllPairs bytes_eq-Decides (map key lines) differ) in
          let more : length (text ∷ map key lines) ≤ length keys =
          length-le_from_is_member nat_list_eq_equiv (text ∷ map key lines) keys once (λ q h. also (bytes_eq q text) q refl h) in
          absurd (omega (arith, length-map lines key))

-- keys that rise, and hold each key of others that rise, as many as they are, are these
pub keys_one : (ks ls : List Text) → TextsRise ks → TextsRise ls → length ks ≡ length ls
    → ((text : Text) → Contains ls text → Contains ks text) → ks ≡ ls
keys_one ks ls up rise long into = same_keys ks ls up rise long (λ k h.
    let c : Contains ks (get_or ls k []) = into (get_or ls k []) (own_key ls k h) in
    (c.0, c.1, get_or_default ks c.0 [] (get_or ls k []) c.1 ∙ c.2))

-- ---- the lines of an instance

module _ (rows : Rows) (i : Spa) (lawful : IsLawful i) (for : StandsFor rows i) where
  -- what holds of each line holds of the line at a place
  here : {X : Type 0} (P : X → Type 0) (lines : List X) → All P lines → (k : ℕ) (x : X) → k < length lines
      → get_or lines k x ≡ x → P x
  here P lines all k x low at = rw at at (all k x low)

  pub student_there : (k : ℕ) (x : StudentWithList) → k < length rows.students → get_or rows.students k x ≡ x
      → Contains i.student_keys x.key
  student_there k x low at = let s = here (StandsStudent i) rows.students for.students k x low at in known_key i.student_keys s.0 x.key s.1

  pub project_there : (k : ℕ) (x : ProjectWithLecturer) → k < length rows.projects → get_or rows.projects k x ≡ x
      → Contains i.project_keys x.key
  project_there k x low at = let s = here (StandsProject i) rows.projects for.projects k x low at in known_key i.project_keys s.0 x.key s.1

  pub lecturer_there : (k : ℕ) (x : LecturerWithList) → k < length rows.lecturers → get_or rows.lecturers k x ≡ x
      → Contains i.lecturer_keys x.key
  lecturer_there k x low at = let s = here (StandsLecturer i) rows.lecturers for.lecturers k x low at in
      known_key i.lecturer_keys s.0 x.key s.1

  -- what a line says, at the number of its key
  pub student_says : (k : ℕ) (x : StudentWithList) (n : ℕ) → k < length rows.students → get_or rows.students k x ≡ x
      → HasKey i.student_keys n x.key → keys_at i.project_keys (choices_of i n) ≡ x.list
  student_says k x n low at own = search (rules, here (StandsStudent i) rows.students for.students, one_number)

  pub project_says : (k : ℕ) (x : ProjectWithLecturer) (n : ℕ) → k < length rows.projects → get_or rows.projects k x ≡ x
      → HasKey i.project_keys n x.key
      → (capacity_of i n ≡ x.capacity) × (get_or i.lecturer_keys (lecturer_of i n) [] ≡ x.lecturer)
  project_says k x n low at own = search (rules, here (StandsProject i) rows.projects for.projects, one_number)

  pub lecturer_says : (k : ℕ) (x : LecturerWithList) (n : ℕ) → k < length rows.lecturers → get_or rows.lecturers k x ≡ x
      → HasKey i.lecturer_keys n x.key
      → (limit_of i n ≡ x.capacity) × (keys_at i.student_keys (ranking_of i n) ≡ x.list)
  lecturer_says k x n low at own = search (rules, here (StandsLecturer i) rows.lecturers for.lecturers, one_number)

-- ---- what numbers are on the lists of a lawful instance

module _ (i : Spa) (lawful : IsLawful i) where
  pub choices_below : (s : ℕ) → All (λ p. p < length i.project_keys) (choices_of i s)
  choices_below s = all_on (λ p. p < length i.project_keys) (choices_of i s)
      (λ p on. omega (arith, lawful.known s p on, lawful.project_key_rows))

  has_list : (s p : ℕ) → IsOn (choices_of i s) p → s < length i.choices
  has_list s p on = search (rules, get_or_past)

  pub ranking_below : (l : ℕ) → All (λ s. s < length i.student_keys) (ranking_of i l)
  ranking_below l = all_on (λ s. s < length i.student_keys) (ranking_of i l) (λ s on.
      let applied = lawful.applicants l s on in
      omega (arith, has_list s applied.0 applied.1, lawful.student_rows))

-- ---- two instances of the same rows

module _ (rows : Rows) (none : HasNoneBefore rows Memory) (i j : Spa) (li : IsLawful i) (fi : StandsFor rows i) (lj : IsLawful j)
    (fj : StandsFor rows j) where
  students_apart : (k : ℕ) (x : StudentWithList) → k < length rows.students → get_or rows.students k x ≡ x
      → IsEarlierKey rows.students (λ y. y.key) k x.key → ⊥
  students_apart k x low at early = none KeyTwice (omega arith) x.row (inr (inr (k, x, low, low, at, refl, early)))

  projects_apart : (k : ℕ) (x : ProjectWithLecturer) → k < length rows.projects → get_or rows.projects k x ≡ x
      → IsEarlierKey rows.projects (λ y. y.key) k x.key → ⊥
  projects_apart k x low at early = none KeyTwice (omega arith) x.row (inr (inl (k, x, low, low, at, refl, early)))

  lecturers_apart : (k : ℕ) (x : LecturerWithList) → k < length rows.lecturers → get_or rows.lecturers k x ≡ x
      → IsEarlierKey rows.lecturers (λ y. y.key) k x.key → ⊥
  lecturers_apart k x low at early = none KeyTwice (omega arith) x.row (inl (k, x, low, low, at, refl, early))

  same_students : i.student_keys ≡ j.student_keys
  same_students = keys_one i.student_keys j.student_keys li.student_keys_rise lj.student_keys_rise (fi.student_count ∙ sym fj.student_count)
      (λ text c.
      let x = line_of (λ y. y.key) rows.students j.student_keys fj.student_count students_apart (student_there rows j lj fj) text c in
      subst (Contains i.student_keys) x.4 (student_there rows i li fi x.0 x.1 x.2 x.3))

  same_projects : i.project_keys ≡ j.project_keys
  same_projects = keys_one i.project_keys j.project_keys li.project_keys_rise lj.project_keys_rise (fi.project_count ∙ sym fj.project_count)
      (λ text c.
      let x = line_of (λ y. y.key) rows.projects j.project_keys fj.project_count projects_apart (project_there rows j lj fj) text c in
      subst (Contains i.project_keys) x.4 (project_there rows i li fi x.0 x.1 x.2 x.3))

  same_lecturers : i.lecturer_keys ≡ j.lecturer_keys
  same_lecturers = keys_one i.lecturer_keys j.lecturer_keys li.lecturer_keys_rise lj.lecturer_keys_rise
      (fi.lecturer_count ∙ sym fj.lecturer_count) (λ text c.
      let x = line_of (λ y. y.key) rows.lecturers j.lecturer_keys fj.lecturer_count lecturers_apart (lecturer_there rows j lj fj) text c in
      subst (Contains i.lecturer_keys) x.4 (lecturer_there rows i li fi x.0 x.1 x.2 x.3))

  -- a number's key, in both
  both : (keys others : List Text) (n : ℕ) (text : Text) → keys ≡ others → n < length keys → text ≡ get_or keys n []
      → HasKey keys n text × HasKey others n text
  both keys others n text same low e = ((low, sym e), (rw same at low, rw same at (sym e)))

  same_choices : i.choices ≡ j.choices
  same_choices = ext_get_or [] i.choices j.choices (sym li.student_rows ∙ ap length same_students ∙ lj.student_rows) (λ s h.
      let low : s < length i.student_keys = omega (arith, li.student_rows) in
      let x = line_of (λ y. y.key) rows.students i.student_keys fi.student_count students_apart (student_there rows i li fi)
      (get_or i.student_keys s []) (own_key i.student_keys s low) in
      let own = both i.student_keys j.student_keys s x.1.key same_students low x.4 in
      numbers_one i.project_keys j.project_keys (choices_of i s) (choices_of j s) same_projects li.project_keys_rise (choices_below i li s)
      (choices_below j lj s)
      (student_says rows i li fi x.0 x.1 s x.2 x.3 own.0 ∙ sym (student_says rows j lj fj x.0 x.1 s x.2 x.3 own.1)))

  project_at : (p : ℕ) → p < length i.lecturers
      → (capacity_of i p ≡ capacity_of j p) × (get_or i.lecturer_keys (lecturer_of i p) [] ≡ get_or j.lecturer_keys (lecturer_of j p) [])
  project_at p h =
      let low : p < length i.project_keys = omega (arith, li.project_key_rows) in
      let x = line_of (λ y. y.key) rows.projects i.project_keys fi.project_count projects_apart (project_there rows i li fi)
      (get_or i.project_keys p []) (own_key i.project_keys p low) in
      let own = both i.project_keys j.project_keys p x.1.key same_projects low x.4 in
      let mine = project_says rows i li fi x.0 x.1 p x.2 x.3 own.0 in
      let others = project_says rows j lj fj x.0 x.1 p x.2 x.3 own.1 in
      (mine.0 ∙ sym others.0, mine.1 ∙ sym others.1)

  as_many_projects : length i.lecturers ≡ length j.lecturers
  as_many_projects = sym li.project_key_rows ∙ ap length same_projects ∙ lj.project_key_rows

  same_offers : i.lecturers ≡ j.lecturers
  same_offers = ext_get_or 0 i.lecturers j.lecturers as_many_projects (λ p h.
      let mine : lecturer_of i p < length i.lecturer_keys = omega (arith, li.offered p h, li.lecturer_key_rows) in
      let others : lecturer_of j p < length j.lecturer_keys =
      omega (arith, lj.offered p (rw as_many_projects at h), lj.lecturer_key_rows) in
      let same : get_or j.lecturer_keys (lecturer_of i p) []
      ≡ get_or j.lecturer_keys (lecturer_of j p) [] = ap (λ ks. get_or ks (lecturer_of i p) []) (sym same_lecturers)
      ∙ (project_at p h).1 in
      one_number j.lecturer_keys (lecturer_of i p) (lecturer_of j p) (get_or j.lecturer_keys (lecturer_of j p) []) lj.lecturer_keys_rise
      (rw same_lecturers at mine, same) (others, refl))

  same_capacities : i.capacities ≡ j.capacities
  same_capacities = ext_get_or 0 i.capacities j.capacities (li.project_rows ∙ as_many_projects ∙ sym lj.project_rows)
      (λ p h. (project_at p (omega (arith, li.project_rows))).0)

  lecturer_at : (l : ℕ) → l < length i.rankings → (limit_of i l ≡ limit_of j l) × (ranking_of i l ≡ ranking_of j l)
  lecturer_at l h =
      let low : l < length i.lecturer_keys = omega (arith, li.lecturer_key_rows) in
      let x = line_of (λ y. y.key) rows.lecturers i.lecturer_keys fi.lecturer_count lecturers_apart (lecturer_there rows i li fi)
      (get_or i.lecturer_keys l []) (own_key i.lecturer_keys l low) in
      let own = both i.lecturer_keys j.lecturer_keys l x.1.key same_lecturers low x.4 in
      let mine = lecturer_says rows i li fi x.0 x.1 l x.2 x.3 own.0 in
      let others = lecturer_says rows j lj fj x.0 x.1 l x.2 x.3 own.1 in (
        mine.0 ∙ sym others.0,
        numbers_one i.student_keys j.student_keys (ranking_of i l) (ranking_of j l) same_students li.student_keys_rise
            (ranking_below i li l) (ranking_below j lj l) (mine.1 ∙ sym others.1),
      )

  as_many_lecturers : length i.rankings ≡ length j.rankings
  as_many_lecturers = sym li.lecturer_key_rows ∙ ap length same_lecturers ∙ lj.lecturer_key_rows

  same_rankings : i.rankings ≡ j.rankings
  same_rankings = ext_get_or [] i.rankings j.rankings as_many_lecturers (λ l h. (lecturer_at l h).1)

  same_limits : i.limits ≡ j.limits
  same_limits = ext_get_or 0 i.limits j.limits (li.lecturer_rows ∙ as_many_lecturers ∙ sym lj.lecturer_rows)
      (λ l h. (lecturer_at l (omega (arith, li.lecturer_rows))).0)

  pub instance_is_one : i ≡ j
  instance_is_one = search (
    rules,
    same_students,
    same_choices,
    same_projects,
    same_offers,
    same_capacities,
    same_lecturers,
    same_rankings,
    same_limits,
  )
