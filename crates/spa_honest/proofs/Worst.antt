-- Each stable matching gives a lecturer at least as many of the first k as the students' best does.
use Rattle.spa_honest.proofs.Base.{◌≡◌, inl, inr, ℕ, suc, ◌+◌, ◌<◌, ◌≤◌, Bool, true, false, List, [], ◌∷◌, length}
use Rattle.spa_honest.proofs.Base.{get_or, set, map, take, Option, Some, None, refl, sym, ◌∙◌, ap, subst, arith, count_by}
use Rattle.spa_honest.proofs.Base.{cases_lt, cases_eq, get_or-map, get_or-set_other, get_or-set_same, get_or_past}
use Rattle.spa_honest.proofs.Base.{get_or-take, length-map, length-set, length-take, one_if, count_by-cons}
use Rattle.spa_honest.proofs.Base.{count_by-set, count_by-map, Spa, is_project, is_lecturer, at_lecturer}
use Rattle.spa_honest.proofs.Base.{place, project_of, lecturer_of, ranking_of, IsOn, IsAsGood, IsBefore, IsDistinct}
use Rattle.spa_honest.proofs.Base.{IsLawful, IsStable, IsBest, Wants, first_with, IsAsGoodFor, student_in_range, ranked_of}
use Rattle.spa_honest.proofs.Base.{place-get_or-le, project_from_test, eqb-true, IsWith}
use Rattle.std.proofs.lemmas.List.{set_past}
use Rattle.spa_model.proofs.Counts.{one_le, count_by-none}
use Rattle.spa_honest.proofs.Base.{eqb, false_from_ne_true, ne_eqb}
use Rattle.spa_honest.proofs.Cuts.{on_take, take_distinct}
use Rattle.spa_honest.proofs.Assigned.{more_at, one_there, wants_best}
use Rattle.spa_honest.proofs.Explained.{why_not}

-- ---- counts over all students, and over those on a list

-- what counts is counted without x too, unless x has it
module _ (f : Option ℕ → Bool) (off : f None ≡ false) where
  -- x is taken out
  counted_out : (m : List (Option ℕ)) (x : ℕ)
      → count_by f m ≡ one_if (f (project_of m x)) + count_by f (set m x None)
  counted_out m x = elim (cases_lt x (length m)) [
    | inl low ↦ omega (arith, count_by-set f m x None low, ap one_if off)
    | inr past ↦ let none : project_of m x ≡ None = get_or_past m x None past in
        omega (arith, ap (λ o. one_if (f o)) none, ap one_if off, ap (count_by f) (set_past m x None past))
  ]

  others_there : (m : List (Option ℕ)) (x t : ℕ) → f (project_of (set m x None) t) ≡ true
      → (t ≡ x → ⊥) × (f (project_of m t) ≡ true)
  others_there m x t on = elim (cases_eq t x) [
    | inl same ↦ absurd (none (get_or (set m x None) t None) (gone t same) on)
    | inr other ↦ (other, sym (ap f (get_or-set_other m x t None None other)) ∙ on)
  ]
    where
      gone : (t : ℕ) → t ≡ x → project_of (set m x None) t ≡ None
      gone t same = elim (cases_lt x (length m)) [
        | inl low ↦ rw same (get_or-set_same m x None None low)
        | inr past ↦ get_or_past (set m x None) t None (omega (arith, past, same, length-set {A = Option ℕ} m x None))
      ]

      none : (o : Option ℕ) → o ≡ None → f o ≡ true → ⊥
      none o e on = let wrong : true ≡ false = sym on ∙ ap f e ∙ off in cc

  -- who counts by g counts by h
  mapped_less : (g h : ℕ → Option ℕ) (xs : List ℕ)
      → ((j : ℕ) → j < length xs → f (g (get_or xs j 0)) ≡ true → f (h (get_or xs j 0)) ≡ true)
      → count_by f (map g xs) ≤ count_by f (map h xs)
  mapped_less g h [] each = omega arith
  mapped_less g h (x ∷ xs) each =
      omega (
        arith,
        count_by-cons f (g x) (map g xs),
        count_by-cons f (h x) (map h xs),
        one_le (f (g x)) (f (h x)) (each 0 (omega arith)),
        mapped_less g h xs (λ j low. each (suc j) (omega arith)),
      )

  -- a list without repeats counts nobody twice
  pub few_of : (xs : List ℕ) (m : List (Option ℕ)) → IsDistinct xs → count_by f (map (project_of m) xs) ≤ count_by f m
  few_of [] m apart = omega arith
  few_of (x ∷ xs) m apart =
      let out : List (Option ℕ) = set m x None in
      omega (
        arith,
        count_by-cons f (project_of m x) (map (project_of m) xs),
        counted_out m x,
        mapped_less (project_of m) (project_of out) xs
            (λ j low on. ap f (get_or-set_other m x (get_or xs j 0) None None
            (λ same. apart 0 (suc j) 0 (omega arith) (omega (arith, low)) (sym same))) ∙ on),
        few_of xs out (λ a b d less low. apart (suc a) (suc b) d (omega (arith, less)) (omega (arith, low))),
      )

  -- a list of all who count counts all
  pub all_of : (xs : List ℕ) (m : List (Option ℕ)) → ((t : ℕ) → f (project_of m t) ≡ true → IsOn xs t)
      → count_by f m ≤ count_by f (map (project_of m) xs)
  all_of [] m there =
      omega (arith, count_by-none f m (λ t. false_from_ne_true (f (project_of m t)) (λ on. omega (arith, there t on))))
  all_of (x ∷ xs) m there =
      let out : List (Option ℕ) = set m x None in
      omega (
        arith,
        count_by-cons f (project_of m x) (map (project_of m) xs),
        counted_out m x,
        mapped_less (project_of out) (project_of m) xs (λ j low on. (others_there m x (get_or xs j 0) on).1),
        all_of xs out (λ t on. let here = others_there m x t on in later t here.0 (there t here.1)),
      )
    where
      later : (t : ℕ) → (t ≡ x → ⊥) → IsOn (x ∷ xs) t → IsOn xs t
      later t other on = let off : eqb x t ≡ false = ne_eqb x t (λ e. other (sym e)) in omega (arith, rw off at on)

-- ---- NO FEWER OF THE FIRST k

module _ (i : Spa) (lawful : IsLawful i) (m n : List (Option ℕ)) (best : IsBest i m) (stable : IsStable i n) (l k : ℕ) where
  abbrev firsts : List ℕ
  firsts = take k (ranking_of i l)

  -- their projects in m, and in n
  abbrev theirs : List (Option ℕ) → List (Option ℕ)
  theirs x = map (project_of x) firsts

  -- who stands before one of the first is one of them
  before_first : (j t : ℕ) → j < length firsts → IsBefore (ranking_of i l) t (get_or firsts j 0) → IsOn firsts t
  before_first j t low before =
      let short : j < k = omega (arith, low, length-take k (ranking_of i l)) in
      let long : j < length (ranking_of i l) = omega (arith, low, length-take k (ranking_of i l)) in
      let at : place (ranking_of i l) (get_or firsts j 0) ≤ j =
      rw (get_or-take k (ranking_of i l) j 0 short) (place-get_or-le (ranking_of i l) j 0 long) in
      on_take k (ranking_of i l) t (omega (arith, before.0, at)) (omega (arith, before))

  known : (x : List (Option ℕ)) → IsStable i x → (j q : ℕ) → project_of (theirs x) j ≡ Some q → q < length i.lecturers
  known x sound j q e =
      let low : j < length firsts = omega (arith, student_in_range i (theirs x) j q e, length-map {B = Option ℕ} firsts (project_of x)) in
      lawful.known (get_or firsts j 0) q (sound.matching.acceptable (get_or firsts j 0) q
      (sym (get_or-map (project_of x) firsts j 0 None low) ∙ e))

  few : (f : Option ℕ → Bool) → f None ≡ false → count_by f (theirs m) ≤ count_by f m
  few f off = few_of f off firsts m (take_distinct k (ranking_of i l) (lawful.distinct l))

  not_fewer : at_lecturer i (theirs n) l < at_lecturer i (theirs m) l → ⊥
  not_fewer fewer =
      let at = more_at i l (theirs m) (theirs n) (known m best.stable) (known n stable) fewer in
      let u : ℕ = at.0 in
      let one = one_there i (theirs m) (theirs n) u (length-map firsts (project_of m) ∙ sym (length-map firsts (project_of n))) at.2 in
      let low : one.0 < length firsts = omega (
        arith,
        student_in_range i (theirs m) one.0 u one.1,
        length-map {B = Option ℕ} firsts (project_of m),
      ) in
      let s : ℕ = get_or firsts one.0 0 in
      let has : project_of m s ≡ Some u = sym (get_or-map (project_of m) firsts one.0 0 None low) ∙ one.1 in
      let wants : Wants i n s u = wants_best i n s u (best.stable.matching.acceptable s u has)
      (λ e. one.2 (get_or-map (project_of n) firsts one.0 0 None low ∙ e)) (project_of n s) refl
      (subst (λ o. IsAsGood i s o (project_of n s)) has (best.best n stable s)) in
      elim (why_not i n s u wants (ranked_of i lawful) stable) [
        | inl taken ↦ omega (
          arith,
          at.2,
          taken.full,
          all_of (is_project u) refl firsts n (λ t on. before_first one.0 t low
              (rw at.1 at (taken.above t (project_from_test u (project_of n t) on)))),
          few (is_project u) refl,
          best.stable.matching.projects u,
        )
        | inr busy ↦ omega (
          arith,
          fewer,
          rw at.1 at busy.full,
          all_of (is_lecturer i l) refl firsts n (λ t on. before_first one.0 t low
              (rw at.1 at (busy.above t (is_with t u at.1 (project_of n t) refl on)))),
          few (is_lecturer i l) refl,
          best.stable.matching.lecturers l,
        )
      ]
    where
      is_with : (t u : ℕ) → lecturer_of i u ≡ l → (o : Option ℕ) → project_of n t ≡ o → is_lecturer i l o ≡ true
          → IsWith i n (lecturer_of i u) t
      is_with t u own None e on = absurd (cc)
      is_with t u own (Some q) e on = (q, e, eqb-true (lecturer_of i q) l on ∙ sym own)

  no_fewer : first_with i m l k ≤ first_with i n l k
  no_fewer = elim (cases_lt (at_lecturer i (theirs n) l) (at_lecturer i (theirs m) l)) [
    | inl fewer ↦ absurd (not_fewer fewer)
    | inr most ↦ omega (
      arith,
      most,
      count_by-map (is_lecturer i l) (project_of m) firsts,
      count_by-map (is_lecturer i l) (project_of n) firsts,
    )
  ]

pub lecturers_worst : (i : Spa) (m n : List (Option ℕ)) (l : ℕ) → IsLawful i → IsBest i m → IsStable i n
    → IsAsGoodFor i l n m
lecturers_worst i m n l lawful best stable k = no_fewer i lawful m n best stable l k
