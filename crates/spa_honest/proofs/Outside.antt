-- If the students of r like a matching x better than what they can have, somebody else blocks x,
-- also where the capacities that x keeps are lower, if lecturers lose no less than their projects.
-- The matching y turns all of r away from their places in x, one has none, and others do no worse.
use Rattle.spa_honest.proofs.Base.{count_by-lt, replicate, ◌⊎◌, cases_Bool, false_from_ne_true, sum_below-lt, share}
use Rattle.spa_honest.proofs.Base.{at_lecturer-sum, places_among, places_with, ◌≡◌, inl, inr, ℕ, ◌+◌, ◌-◌, eqb, eq-eqb}
use Rattle.spa_honest.proofs.Base.{get_or, sum_below-zero, with_room, ◌<◌, ◌≤◌, Bool, true, false, List, length, Option}
use Rattle.spa_honest.proofs.Base.{Some, None, refl, sym, ◌∙◌, ap, subst, arith, count_by, cases_lt, Letter, A, B, C}
use Rattle.spa_honest.proofs.Base.{Spa, is_lecturer, at_project, at_lecturer, project_of, lecturer_of, ranking_of}
use Rattle.spa_honest.proofs.Base.{capacity_of, limit_of, IsOn, IsMatching, IsAsGood, Wants, Blocks, sum_below}
use Rattle.spa_honest.proofs.Base.{IsRanked, rank_of, IsSpent, student_in_range, rules, zero, suc, cond, [], ◌∷◌}
use Rattle.spa_honest.proofs.Base.{one_if, count_by-cons, is_project}
use Rattle.std.proofs.lemmas.List.{length-replicate}
use Rattle.spa_student.proofs.Start.{none_there}
use Rattle.spa_honest.proofs.Added.{joined, joined_length, joined_at}
use Rattle.spa_honest.proofs.Assigned.{has_one, all_lecturers, greater_term, more_at, more_over, one_there, wants_best}

-- A matching with the projects of some students alone.

-- the students of r keep their projects
abbrev pub only : (ℕ → Bool) → List (Option ℕ) → List (Option ℕ)
only r m = joined r m (replicate (length m) None)

-- all but those of r
abbrev pub others : (ℕ → Bool) → ℕ → Bool
others r s = cond (r s) false true

pub only_length : (r : ℕ → Bool) (m : List (Option ℕ)) → length (only r m) ≡ length m
only_length r m = joined_length r m (replicate (length m) None) (sym (length-replicate (length m) None)) ∙ length-replicate (length m) None

only_at : (r : ℕ → Bool) (m : List (Option ℕ)) (s : ℕ) → project_of (only r m) s ≡ cond (r s) (project_of m s) None
only_at r m s = joined_at r m (replicate (length m) None) s (sym (length-replicate (length m) None))
    ∙ ap (cond (r s) (project_of m s)) (none_there (length m) s)

-- who keeps a project is of r and has it
pub only_has : (r : ℕ → Bool) (m : List (Option ℕ)) (s q : ℕ) → project_of (only r m) s ≡ Some q
    → (r s ≡ true) × (project_of m s ≡ Some q)
only_has r m s q e = elim (cases_Bool (r s)) [
  | inl is ↦ (is, rw is at (rw only_at at e))
  | inr is ↦ absurd (let wrong : ◌≡◌ {A = Option ℕ} None (Some q) = rw is at (rw only_at at e) in cc)
]

pub only_keeps : (r : ℕ → Bool) (m : List (Option ℕ)) (s : ℕ) → r s ≡ true → project_of (only r m) s ≡ project_of m s
only_keeps r m s is = rw only_at (rw is refl)

-- who is of the others is not of r
pub others_not : (r : ℕ → Bool) (s : ℕ) → others r s ≡ true → r s ≡ false
others_not r s is = false_from_ne_true (r s) (λ e. let wrong : false ≡ true = rw e at is in cc)

-- a count over all is that over those of r and that over the others
pub both_counted : (f : Option ℕ → Bool) → f None ≡ false → (r : ℕ → Bool) (m : List (Option ℕ))
    → count_by f m ≡ count_by f (only r m) + count_by f (only (others r) m)
both_counted f off r [] = refl
both_counted f off r (o ∷ m) =
    omega (
      arith,
      count_by-cons f o m,
      count_by-cons f (cond (r 0) o None) (only (λ s. r (suc s)) m),
      count_by-cons f (cond (others r 0) o None) (only (λ s. others r (suc s)) m),
      one (r 0),
      both_counted f off (λ s. r (suc s)) m,
    )
  where
    one : (b : Bool) → one_if (f o) ≡ one_if (f (cond b o None)) + one_if (f (cond (cond b false true) o None))
    one true = omega (arith, ap one_if off)
    one false = omega (arith, ap one_if off)

-- the places of a lecturer's projects, as a sum, and that nobody has more students than places
abbrev pub place_share : Spa → ℕ → ℕ → ℕ
place_share i l p = cond (eqb (lecturer_of i p) l) (capacity_of i p) 0

pub places_sum : (i : Spa) (l n : ℕ) → places_among i l n ≡ sum_below (place_share i l) n
places_sum i l zero = refl
places_sum i l (suc n) = omega (arith, places_sum i l n)

pub share_most : (i : Spa) (m : List (Option ℕ)) → ((q : ℕ) → at_project m q ≤ capacity_of i q) → (l p : ℕ)
    → share i m l p ≤ place_share i l p
share_most i m fits l p = elim (cases_Bool (eqb (lecturer_of i p) l)) [ inl own ↦ rw own (fits p) | inr other ↦ rw other (omega arith) ]

-- what y is to x
pub record TurnsAway (i : Spa) (r : ℕ → Bool) (x y : List (Option ℕ)) : Type 0 where
  pub there : IsMatching i x
  pub here : IsMatching i y
  pub away : (s : ℕ) → r s ≡ true → (p : ℕ) × (project_of x s ≡ Some p) × IsSpent i y s p
  pub no_worse : (t : ℕ) → r t ≡ false → IsAsGood i t (project_of y t) (project_of x t)
  pub last : (s : ℕ) × (r s ≡ true) × (project_of y s ≡ None)

-- what a project of the lecturer has more than these capacities
abbrev pub growth : Spa → List ℕ → ℕ → ℕ → ℕ
growth i cs l p = cond (eqb (lecturer_of i p) l) (capacity_of i p - get_or cs p 0) 0

-- no capacity is below these, and each lecturer has more by at least as many as the own projects,
-- or as many as all their places
pub record Grown (i : Spa) (cs ls : List ℕ) : Type 0 where
  pub capacities : (p : ℕ) → get_or cs p 0 ≤ capacity_of i p
  pub limits : (l : ℕ)
      → (get_or ls l 0 + sum_below (growth i cs l) (length i.lecturers) ≤ limit_of i l) ⊎ (places_with i l ≤ limit_of i l)

pub not_grown : (i : Spa) → Grown i i.capacities i.limits
not_grown i = record {
  capacities = λ p. omega arith;
  limits = λ l. inl (omega (
    arith,
    sum_below-zero (growth i i.capacities l) (length i.lecturers)
        (λ p _. none l p (eqb (lecturer_of i p) l)),
  ));
} where
  none : (l p : ℕ) (b : Bool) → cond b (capacity_of i p - capacity_of i p) 0 ≡ 0
  none l p true = omega arith
  none l p false = refl

module _ (i : Spa) (law : IsRanked i) (cs ls : List ℕ) (grown : Grown i cs ls) (r : ℕ → Bool) (x y : List (Option ℕ))
    (turns : TurnsAway i r x y) (fits : IsMatching (with_room i cs ls) x)
    (unblocked : (t u : ℕ) (k : Letter) → r t ≡ false → Blocks (with_room i cs ls) x t u k → ⊥) where
  same : length x ≡ length y
  same = turns.there.students ∙ sym turns.here.students

  spent : (s p : ℕ) → r s ≡ true → project_of x s ≡ Some p → IsSpent i y s p
  spent s p of e = search rules

  -- t, outside r, has u in y, not in x; u's lecturer has s in x, after t; a full u has one after t
  blocks : (t u : ℕ) → r t ≡ false → project_of y t ≡ Some u → (project_of x t ≡ Some u → ⊥)
      → (s q : ℕ) → project_of x s ≡ Some q → lecturer_of i q ≡ lecturer_of i u
      → rank_of i (lecturer_of i u) t < rank_of i (lecturer_of i u) s
      → (at_project x u ≡ get_or cs u 0 → (z : ℕ) × (project_of x z ≡ Some u)
      × (rank_of i (lecturer_of i u) t < rank_of i (lecturer_of i u) z)) → ⊥
  blocks t u out at not_there s q has own less at_full =
      let wants : Wants i x t u = wants_best i x t u (turns.here.acceptable t u at) not_there (project_of x t) refl
      (subst (λ o. IsAsGood i t o (project_of x t)) at (turns.no_worse t out)) in
      let on : IsOn (ranking_of i (lecturer_of i u)) s = rw own at (law.ranked s q (turns.there.acceptable s q has)) in
      elim (cases_lt (at_project x u) (get_or cs u 0)) [
        | inl room ↦ elim (cases_lt (at_lecturer i x (lecturer_of i u)) (get_or ls (lecturer_of i u) 0)) [
          | inl room_l ↦ unblocked t u A out (wants, room, room_l)
          | inr full_l ↦ unblocked t u B out (
            wants,
            room,
            omega (arith, full_l, fits.lecturers (lecturer_of i u)),
            inr (s, (q, has, own), (less, on)),
          )
        ]
        | inr full ↦
            let level : at_project x u ≡ get_or cs u 0 = omega (arith, full, fits.projects u) in
            let z = at_full level in
            unblocked t u C out (wants, level, (z.0, z.1, (z.2, law.ranked z.0 u (turns.there.acceptable z.0 u z.1))))
      ]

  -- where those of r have fewer in y at p, some other who has p in y has another in x
  instead : (p : ℕ) → at_project (only (others r) x) p < at_project (only (others r) y) p
      → (t : ℕ) × (r t ≡ false) × (project_of y t ≡ Some p) × (project_of x t ≡ Some p → ⊥)
  instead p more =
      let one = one_there i (only (others r) y) (only (others r) x) p
      (only_length (others r) y ∙ sym same ∙ sym (only_length (others r) x)) more in
      let at = only_has (others r) y one.0 p one.1 in
      (one.0, others_not r one.0 at.0, at.1, λ e. one.2 (only_keeps (others r) x one.0 at.0 ∙ e))

  split : (m : List (Option ℕ)) (p : ℕ) → at_project m p ≡ at_project (only r m) p + at_project (only (others r) m) p
  split m p = both_counted (is_project p) refl r m

  split_l : (m : List (Option ℕ)) (l : ℕ)
      → at_lecturer i m l ≡ at_lecturer i (only r m) l + at_lecturer i (only (others r) m) l
  split_l m l = both_counted (is_lecturer i l) refl r m

  known_x : (f : ℕ → Bool) (s q : ℕ) → project_of (only f x) s ≡ Some q → q < length i.lecturers
  known_x f s q e = law.known s q (turns.there.acceptable s q (only_has f x s q e).1)

  known_y : (f : ℕ → Bool) (s q : ℕ) → project_of (only f y) s ≡ Some q → q < length i.lecturers
  known_y f s q e = law.known s q (turns.here.acceptable s q (only_has f y s q e).1)

  -- a lecturer who has fewer of r in y
  fewer_with : (l : ℕ) × (at_lecturer i (only r y) l < at_lecturer i (only r x) l)
  fewer_with =
      let count : ℕ = length i.rankings in
      let all_x : count_by has_one (only r x) ≡ sum_below (at_lecturer i (only r x)) count =
      all_lecturers i count (only r x) (λ s q e. law.offered q (known_x r s q e)) in
      let all_y : count_by has_one (only r y) ≡ sum_below (at_lecturer i (only r y)) count =
      all_lecturers i count (only r y) (λ s q e. law.offered q (known_y r s q e)) in
      let s : ℕ = turns.last.0 in
      let of : r s ≡ true = turns.last.1 in
      let why = turns.away s of in
      let has : project_of (only r x) s ≡ Some why.0 = only_keeps r x s of ∙ why.1 in
      let none : project_of (only r y) s ≡ None = only_keeps r y s of ∙ turns.last.2 in
      let less : count_by has_one (only r y) + 1 ≤ count_by has_one (only r x) =
      count_by-lt has_one (only r y) (only r x) s (only_length r y ∙ sym same ∙ sym (only_length r x))
      (λ z on. kept z (project_of (only r y) z) refl on) (student_in_range i (only r x) s why.0 has) (ap has_one none)
      (ap has_one has) in
      let term = greater_term (at_lecturer i (only r x)) (at_lecturer i (only r y)) count (omega (arith, all_x, all_y, less)) in
      (term.0, term.2)
    where
      kept : (z : ℕ) (o : Option ℕ) → project_of (only r y) z ≡ o → has_one o ≡ true
          → has_one (project_of (only r x) z) ≡ true
      kept z None e on = absurd (cc)
      kept z (Some q) e on =
          let of : r z ≡ true = (only_has r y z q e).0 in
          ap has_one (only_keeps r x z of ∙ (turns.away z of).1)

  -- a full lecturer with no fewer places than all own projects has each of them full
  all_full : (l p : ℕ) → lecturer_of i p ≡ l → p < length i.lecturers → at_lecturer i y l ≡ limit_of i l
      → places_with i l ≤ limit_of i l → at_project y p ≡ capacity_of i p
  all_full l p own low full enough = elim (cases_lt (at_project y p) (capacity_of i p)) [
    | inr least ↦ omega (arith, least, turns.here.projects p)
    | inl room ↦
        let one : share i y l p + 1 ≤ place_share i l p = rw (eq-eqb (lecturer_of i p) l own) (omega arith) in
        let less = sum_below-lt (share i y l) (place_share i l) (length i.lecturers) p (share_most i y turns.here.projects l) low one in
        absurd (omega (
          arith,
          less,
          full,
          enough,
          places_sum i l (length i.lecturers),
          at_lecturer-sum i l (length i.lecturers) y (λ s q e. law.known s q (turns.here.acceptable s q e)),
        ))
  ]

  -- where p is full in y with students who stand before s, who has p in x
  full_there : (s p : ℕ) → project_of x s ≡ Some p → at_project (only r y) p < at_project (only r x) p
      → at_project y p ≡ capacity_of i p
      → ((t : ℕ) → project_of y t ≡ Some p → rank_of i (lecturer_of i p) t < rank_of i (lecturer_of i p) s) → ⊥
  full_there s p has fewer full before =
      let t = instead p (omega (arith, fewer, split x p, split y p, full, fits.projects p, grown.capacities p)) in
      blocks t.0 p t.1 t.2 t.3 s p has refl (before t.0 t.2) (λ _. (s, has, before t.0 t.2))

  -- SOMEBODY ELSE BLOCKS
  pub outside : ⊥
  outside =
      let few = fewer_with in
      let l : ℕ = few.0 in
      let at = more_at i l (only r x) (only r y) (known_x r) (known_y r) few.1 in
      let p : ℕ = at.0 in
      let one = one_there i (only r x) (only r y) p (only_length r x ∙ same ∙ sym (only_length r y)) at.2 in
      let s : ℕ = one.0 in
      let mine = only_has r x s p one.1 in
      elim (spent s p mine.0 mine.1) [
        | inr project ↦ full_there s p mine.1 at.2 project.full project.before
        | inl lecturer ↦
            let full_y : at_lecturer i y l ≡ limit_of i l = rw at.1 at lecturer.full in
            elim (grown.limits l) [
              | inr enough ↦ full_there s p mine.1 at.2 (all_full l p at.1 (known_x r s p one.1) full_y enough)
                  (λ t has. lecturer.before t p has refl)
              | inl more ↦
                  let u = more_over i l (only (others r) y) (only (others r) x) (growth i cs l) (known_y (others r)) (known_x (others r))
                  (omega (arith, few.1, split_l x l, split_l y l, full_y, fits.lecturers l, more)) in
                  let same_l : lecturer_of i p ≡ lecturer_of i u.0 = at.1 ∙ sym u.1 in
                  let t = instead u.0 (omega (arith, u.2)) in
                  let less : rank_of i (lecturer_of i u.0) t.0 < rank_of i (lecturer_of i u.0) s =
                  rw same_l at (lecturer.before t.0 u.0 t.2 (sym same_l)) in
                  blocks t.0 u.0 t.1 t.2 t.3 s p mine.1 same_l less
                  (λ full. at_full u.0 (rw (eq-eqb (lecturer_of i u.0) l u.1) at u.2) t.0 t.2 full)
            ]
      ]
    where
      at_full : (u : ℕ)
          → at_project (only (others r) x) u + (capacity_of i u - get_or cs u 0) < at_project (only (others r) y) u
          → (t : ℕ) → project_of y t ≡ Some u → at_project x u ≡ get_or cs u 0
          → (z : ℕ) × (project_of x z ≡ Some u) × (rank_of i (lecturer_of i u) t < rank_of i (lecturer_of i u) z)
      at_full u more t has full =
          let one = one_there i (only r x) (only r y) u (only_length r x ∙ same ∙ sym (only_length r y))
          (omega (arith, more, split x u, split y u, full, turns.here.projects u)) in
          let mine = only_has r x one.0 u one.1 in (
            one.0,
            mine.1,
            elim (spent one.0 u mine.0 mine.1) [
              | inl lecturer ↦ lecturer.before t u has refl
              | inr project ↦ project.before t
                  has
            ],
          )
