-- What steps keep of the provisional matching and the deleted pairs, and what follows at the end.
use Rattle.spa_student.proofs.Base.{◌≡◌, ◌≢◌, ◌⊎◌, inl, inr, ℕ, ◌+◌, ◌<◌, ◌≤◌, eqb, List, length, refl, sym, ◌∙◌, ap}
use Rattle.spa_student.proofs.Base.{arith, set, Option, Some, None, length-set, get_or-set_same, get_or-set_other}
use Rattle.spa_student.proofs.Base.{get_or_past, cases_lt, cases_eq, Spa, place, is_project, is_lecturer, at_project}
use Rattle.spa_student.proofs.Base.{at_lecturer, project_of, choices_of, lecturer_of, ranking_of, capacity_of, limit_of}
use Rattle.spa_student.proofs.Base.{IsBefore, IsAcceptable, IsLawful, IsBest, rank_of, LecturerSpent, ProjectSpent}
use Rattle.spa_student.proofs.Base.{IsProvisional, place-injective, one_if, count_by-set, rules, true, eqb-true, eq-eqb}
use Rattle.spa_student.proofs.Base.{ne_eqb}
use Rattle.spa_student.proofs.Base.{cases_Bool, cases_order, IsOn, Improves, Wants, Blocks, IsStable, IsAsGood}
use Rattle.spa_student.proofs.Base.{IsRanked, IsSpent, off_project, count_by-le, count_by-lt, sum_below, sum_below-lt}
use Rattle.spa_student.proofs.Base.{share, at_lecturer-sum}
use Rattle.spa_model.proofs.OneOnly.{blocks_wants}
use Rattle.spa_model.specs.declared.Letter.{Letter}
use Rattle.spa_model.specs.declared.Letter.TheVariants.{A, B, C}

-- a lawful instance is ranked
pub ranked_of : (i : Spa) → IsLawful i → IsRanked i
ranked_of i lawful = record {
  known = lawful.known;
  offered = lawful.offered;
  ranked = lawful.ranked;
  choices_distinct = lawful.choices_distinct;
}

-- a student with a project is a student
pub student_in_range : (i : Spa) (m : List (Option ℕ)) (s q : ℕ) → project_of m s ≡ Some q → s < length m
student_in_range i m s q e = search (rules, get_or_past)

-- the counts at a student's project
pub is_project-at : (p : ℕ) (o : Option ℕ) → o ≡ Some p → is_project p o ≡ true
is_project-at p o e = ap (is_project p) e ∙ eq-eqb p p refl

pub project_from_test : (p : ℕ) (o : Option ℕ) → is_project p o ≡ true → o ≡ Some p
project_from_test p None e = absurd (cc)
project_from_test p (Some q) e = ap Some (eqb-true q p e)

-- a pair that would block, once its project has room or has a student who stands after s
pub blocked : (i : Spa) (n : List (Option ℕ)) (stable : IsStable i n) (t p s u : ℕ) → project_of n t ≡ Some p
    → lecturer_of i u ≡ lecturer_of i p → IsBefore (ranking_of i (lecturer_of i u)) s t
    → Wants i n s u → (u ≡ p) ⊎ (at_project n u < capacity_of i u) → ⊥
blocked i n stable t p s u at same before wants room =
    let l : ℕ = lecturer_of i u in
    elim (cases_lt (at_project n u) (capacity_of i u)) [
      | inl under ↦ elim (cases_lt (at_lecturer i n l) (limit_of i l)) [
        | inl under_l ↦ stable.unblocked s u A (wants, under, under_l)
        | inr full_l ↦ stable.unblocked s u B (wants, under, omega arith, inr (t, (p, at, sym same), before))
      ]
      | inr full ↦ elim room [
        | inl here ↦ stable.unblocked s u C (wants, omega arith, (t, at ∙ ap Some (sym here), before))
        | inr under ↦ absurd (omega arith)
      ]
    ]

-- s has u in m, ranked before t, and has u in each stable n with t at p, if u is p or has room in n
kept : (i : Spa) (m n : List (Option ℕ)) (Deleted : ℕ → ℕ → Type 0) → IsProvisional i m Deleted
    → (stable : IsStable i n)
    → IsRanked i → (t p s u : ℕ) → project_of n t ≡ Some p → project_of m s ≡ Some u
    → lecturer_of i u ≡ lecturer_of i p → rank_of i (lecturer_of i u) s < rank_of i (lecturer_of i u) t
    → (u ≡ p) ⊎ (at_project n u < capacity_of i u)
    → (o : Option ℕ) → project_of n s ≡ o → o ≡ Some u
kept i m n Deleted holds stable lawful t p s u at has same less room None e = search (rules, blocked)
kept i m n Deleted holds stable lawful t p s u at has same less room (Some v) e =
    let on_list : IsOn (ranking_of i (lecturer_of i u)) t = rw same (lawful.ranked t p (stable.matching.acceptable t p at)) in
    let u_on : IsAcceptable i s u = holds.matching.acceptable s u has in
    let v_on : IsAcceptable i s v = stable.matching.acceptable s v e in
    elim (cases_order (place (choices_of i s) v) (place (choices_of i s) u)) [
      | inl level ↦ ap Some (place-injective (choices_of i s) v u v_on level)
      | inr apart ↦ elim apart [
        | inl better ↦ absurd (holds.hopeless s v (holds.first s v u has (better, u_on)) n stable e)
        | inr worse ↦ absurd (blocked i n stable t p s u at same (less, on_list) (u_on, rw e (worse, v_on)) room)
      ]
    ]

-- where n has at u each student whom m has there, m has no more
pub no_more : (m n : List (Option ℕ)) (u : ℕ) → length m ≡ length n
    → ((s : ℕ) → project_of m s ≡ Some u → project_of n s ≡ Some u) → at_project m u ≤ at_project n u
no_more m n u same keeps = count_by-le (is_project u) m n same
    (λ s h. is_project-at u (project_of n s) (keeps s (project_from_test u (project_of m s) h)))

-- and fewer, where n has one more there
fewer : (m n : List (Option ℕ)) (u t : ℕ) → length m ≡ length n
    → ((s : ℕ) → project_of m s ≡ Some u → project_of n s ≡ Some u) → t < length n → project_of n t ≡ Some u
    → (project_of m t ≡ Some u → ⊥) → at_project m u + 1 ≤ at_project n u
fewer m n u t same keeps t_in at not_at =
    count_by-lt (is_project u) m n t same (λ s h. is_project-at u (project_of n s) (keeps s (project_from_test u (project_of m s) h))) t_in
    (off_project u (project_of m t) not_at) (is_project-at u (project_of n t) at)

-- a pair that may be deleted is in no stable matching
pub spent_is_hopeless : (i : Spa) (m n : List (Option ℕ)) (Deleted : ℕ → ℕ → Type 0) → IsProvisional i m Deleted
    → IsRanked i
    → (t p : ℕ) → IsSpent i m t p → IsStable i n → project_of n t ≡ Some p → ⊥
spent_is_hopeless i m n Deleted holds lawful t p (inr project) stable at =
    let keeps : (s : ℕ) → project_of m s ≡ Some p → project_of n s ≡ Some p =
    λ s has. kept i m n Deleted holds stable lawful t p s p at has refl (project.before s has) (inl refl) (project_of n s) refl in
    let less : at_project m p + 1 ≤ at_project n p =
    fewer m n p t (holds.matching.students ∙ sym stable.matching.students) keeps (student_in_range i n t p at) at
    (λ has. absurd (omega (arith, project.before t has))) in
    omega (arith, less, project.full, stable.matching.projects p)
spent_is_hopeless i m n Deleted holds lawful t p (inl lecturer) stable at =
    let count : ℕ = length i.lecturers in
    let l : ℕ = lecturer_of i p in
    let same : length m ≡ length n = holds.matching.students ∙ sym stable.matching.students in
    let sum_m : at_lecturer i m l ≡ sum_below (share i m l) count =
    at_lecturer-sum i l count m (λ s q e. lawful.known s q (holds.matching.acceptable s q e)) in
    let sum_n : at_lecturer i n l ≡ sum_below (share i n l) count =
    at_lecturer-sum i l count n (λ s q e. lawful.known s q (stable.matching.acceptable s q e)) in
    let keeps : (u : ℕ) → lecturer_of i u ≡ l → (u ≡ p) ⊎ (at_project n u < capacity_of i u) → (s : ℕ) → project_of m s ≡ Some u
    → project_of n s ≡ Some u =
    λ u of_l room s has. kept i m n Deleted holds stable lawful t p s u at has of_l (rw of_l (lecturer.before s u has of_l)) room
    (project_of n s) refl in
    let each : (u : ℕ) → lecturer_of i u ≡ l → at_project m u ≤ at_project n u =
    λ u of_l. elim (cases_lt (at_project n u) (capacity_of i u)) [
      | inl room ↦ no_more m n u same (keeps u of_l (inr room))
      | inr full ↦ let fits : at_project m u ≤ capacity_of i u = holds.matching.projects u in omega arith
    ] in
    let here : at_project m p + 1 ≤ at_project n p =
    fewer m n p t same (keeps p refl (inl refl)) (student_in_range i n t p at) at
    (λ has. absurd (omega (arith, lecturer.before t p has refl))) in
    let less : sum_below (share i m l) count + 1 ≤ sum_below (share i n l) count =
    sum_below-lt (share i m l) (share i n l) count p
    (λ u. elim (cases_Bool (eqb (lecturer_of i u) l)) [
      | inl own ↦ rw own (each u (eqb-true _ _ own))
      | inr other ↦ rw other
          (omega arith)
    ])
    (lawful.known t p (stable.matching.acceptable t p at)) (rw (eq-eqb l l refl) here) in
    omega (arith, sum_m, sum_n, less, lecturer.full, stable.matching.lecturers l)

-- DELETE: pairs that may be deleted are deleted
pub delete_holds : (i : Spa) (m : List (Option ℕ)) (Deleted More : ℕ → ℕ → Type 0) → IsRanked i
    → IsProvisional i m Deleted
    → ((s p : ℕ) → Deleted s p → More s p) → ((s p : ℕ) → More s p → Deleted s p ⊎ IsSpent i m s p) → IsProvisional i m More
delete_holds i m Deleted More lawful holds keeps new = record {
  matching = holds.matching;
  first = λ s p q has better. keeps s p (holds.first s p q has better);
  spent = λ t p gone. elim (new t p gone) [ inl old ↦ holds.spent t p old | inr now ↦ now ];
  hopeless = λ t p gone n stable at. elim (new t p gone) [
    | inl old ↦ holds.hopeless t p old n stable at
    | inr now ↦ spent_is_hopeless i m n
        Deleted holds lawful t p now stable at
  ];
}

-- a pair that may be deleted does not block
pub spent_unblocked : (i : Spa) (m : List (Option ℕ)) (s p : ℕ) → IsSpent i m s p → (x : Letter) → Blocks i m s p x → ⊥
spent_unblocked i m s p (inl lecturer) A b = omega (arith, lecturer.full, b.2)
spent_unblocked i m s p (inl lecturer) B b = elim b.3 [
  | inl own ↦ omega (arith, lecturer.before s own.0 own.1 own.2)
  | inr worse ↦ omega (arith, lecturer.before worse.0 worse.1.0 worse.1.1 worse.1.2, worse.2.0)
]
spent_unblocked i m s p (inl lecturer) C b = omega (arith, lecturer.before b.2.0 p b.2.1 refl, b.2.2.0)
spent_unblocked i m s p (inr project) A b = omega (arith, project.full, b.1)
spent_unblocked i m s p (inr project) B b = omega (arith, project.full, b.1)
spent_unblocked i m s p (inr project) C b = omega (arith, project.before b.2.0 b.2.1, b.2.2.0)

-- at the end: each free student has no pair left
pub stable_at_end : (i : Spa) (m : List (Option ℕ)) (Deleted : ℕ → ℕ → Type 0) → IsProvisional i m Deleted
    → ((s p : ℕ) → project_of m s ≡ None → IsAcceptable i s p → Deleted s p) → IsStable i m
stable_at_end i m Deleted holds free = record {
  matching = holds.matching;
  unblocked = λ s p x b. spent_unblocked i m s p (why s p (blocks_wants i m s p x b)) x b;
} where
  gone : (s p : ℕ) (o : Option ℕ) → project_of m s ≡ o → IsAcceptable i s p → Improves i s p o → Deleted s p
  gone s p None e on better = free s p e on
  gone s p (Some q) e on better = holds.first s p q e better

  why : (s p : ℕ) → Wants i m s p → IsSpent i m s p
  why s p wants = holds.spent s p (gone s p (project_of m s) refl wants.0 wants.1)

-- a student who, when free, has no pair left has no worse than in any stable matching
pub as_good_as_stable : (i : Spa) (m : List (Option ℕ)) (Deleted : ℕ → ℕ → Type 0) → IsProvisional i m Deleted
    → (n : List (Option ℕ)) → IsStable i n → (s : ℕ)
    → ((p : ℕ) → project_of m s ≡ None → IsAcceptable i s p → Deleted s p)
    → IsAsGood i s (project_of m s) (project_of n s)
as_good_as_stable i m Deleted holds n stable s free = each (project_of m s) (project_of n s) refl refl
  where
    each : (mine other : Option ℕ) → project_of m s ≡ mine → project_of n s ≡ other → IsAsGood i s mine other
    each mine None e f = tt
    each None (Some q) e f = holds.hopeless s q (free q e (stable.matching.acceptable s q f)) n stable f
    each (Some p) (Some q) e f =
        elim (cases_order (place (choices_of i s) p) (place (choices_of i s) q)) [
          | inl level ↦ inl (place-injective (choices_of i s) p q (holds.matching.acceptable s p e) level)
          | inr apart ↦ elim apart [
            | inl better ↦ inr (better, stable.matching.acceptable s q f)
            | inr worse ↦ absurd (holds.hopeless s q (holds.first s q p e (worse, holds.matching.acceptable s p e)) n stable f)
          ]
        ]

-- at the end: each student has the best of all stable matchings
pub best_at_end : (i : Spa) (m : List (Option ℕ)) (Deleted : ℕ → ℕ → Type 0) → IsProvisional i m Deleted
    → ((s p : ℕ) → project_of m s ≡ None → IsAcceptable i s p → Deleted s p) → IsBest i m
best_at_end i m Deleted holds free = search (rules, stable_at_end, as_good_as_stable)

-- what the students have after s is put at p, in a matching in which s was free
module _ (i : Spa) (m : List (Option ℕ)) (s p : ℕ) (in_range : s < length m) (free : project_of m s ≡ None) where
  pub put_same : project_of (set m s (Some p)) s ≡ Some p
  put_same = get_or-set_same m s (Some p) None in_range

  pub put_cases : (x q : ℕ) → project_of (set m s (Some p)) x ≡ Some q → ((x ≡ s) × (q ≡ p)) ⊎ (project_of m x ≡ Some q)
  put_cases x q e = search (rules, put_same, get_or-set_other)

  pub put_at_project : (q : ℕ) → at_project (set m s (Some p)) q ≡ at_project m q + one_if (eqb p q)
  put_at_project q = omega (arith, count_by-set (is_project q) m s (Some p) in_range, ap (λ o. one_if (is_project q o)) free)

  pub put_at_lecturer : (l : ℕ)
      → at_lecturer i (set m s (Some p)) l ≡ at_lecturer i m l + one_if (eqb (lecturer_of i p) l)
  put_at_lecturer l = omega (arith, count_by-set (is_lecturer i l) m s (Some p) in_range, ap (λ o. one_if (is_lecturer i l o)) free)

pub one_here : (p : ℕ) → one_if (eqb p p) ≡ 1
one_here p = ap one_if (eq-eqb p p refl)

pub none_there : (p q : ℕ) → (p ≡ q → ⊥) → one_if (eqb p q) ≡ 0
none_there p q other = ap one_if (ne_eqb p q other)

-- one more at p, which has room
pub one_more : (before after limit : ℕ → ℕ) (p : ℕ) → ((q : ℕ) → after q ≤ before q + one_if (eqb p q))
    → before p < limit p → ((q : ℕ) → before q ≤ limit q) → (q : ℕ) → after q ≤ limit q
one_more before after limit p more room fits q = elim (cases_eq p q) [
  | inl same ↦ rw (sym same) (omega (arith, more p, one_here p, room))
  | inr other ↦ omega (arith, more q, none_there p q other, fits q)
]

-- another student, who is on the list and not after w, stands before w
stands_before : (xs : List ℕ) (x w : ℕ) → IsOn xs x → x ≢ w → place xs x ≤ place xs w → place xs x < place xs w
stands_before xs x w on other le = elim (cases_eq (place xs x) (place xs w)) [
  | inl level ↦ absurd
      (other (place-injective xs x w on level))
  | inr apart ↦ omega arith
]

-- a free student s is put at p, the first project that is left
module _ (i : Spa) (m : List (Option ℕ)) (Deleted : ℕ → ℕ → Type 0) (holds : IsProvisional i m Deleted) (s p : ℕ) (in_range : s < length m)
    (free : project_of m s ≡ None) (on : IsAcceptable i s p) (first : (q : ℕ) → IsBefore (choices_of i s) q p → Deleted s q) where
  pub put_on : (x q : ℕ) → project_of (set m s (Some p)) x ≡ Some q → IsAcceptable i x q
  put_on x q e = elim (put_cases i m s p in_range free x q e) [
    | inl new ↦ rw
        (new.0, new.1) on
    | inr old ↦ holds.matching.acceptable x q old
  ]

  put_first : (x better q : ℕ) → project_of (set m s (Some p)) x ≡ Some q → IsBefore (choices_of i x) better q
      → Deleted x better
  put_first x better q e h = elim (put_cases i m s p in_range free x q e) [
    | inl new ↦ rw new.0
        (first better (rw (new.0, new.1) at h))
    | inr old ↦ holds.first x better q old h
  ]

  -- PLACE: the project and its lecturer have room
  pub place_holds : at_project m p < capacity_of i p → at_lecturer i m (lecturer_of i p) < limit_of i (lecturer_of i p)
      → IsProvisional i (set m s (Some p)) Deleted
  place_holds room room_l = record {
    matching = record {
      students = length-set m s (Some p) ∙ holds.matching.students;
      acceptable = put_on;
      projects = one_more (at_project m) (at_project (set m s (Some p))) (capacity_of i) p
          (λ q. omega (arith, put_at_project i m s p in_range free q)) room holds.matching.projects;
      lecturers = one_more (at_lecturer i m) (at_lecturer i (set m s (Some p))) (limit_of i) (lecturer_of i p)
          (λ l. omega (arith, put_at_lecturer i m s p in_range free l)) room_l holds.matching.lecturers;
    };
    first = put_first;
    spent = λ t u gone. elim (holds.spent t u gone) [
      | inl lecturer ↦ elim (cases_eq (lecturer_of i p) (lecturer_of i u)) [
        | inl same ↦ absurd (omega (arith, lecturer.full, rw same at room_l))
        | inr other ↦ inl (record {
          full = omega (
            arith,
            put_at_lecturer i m s p in_range free (lecturer_of i u),
            none_there (lecturer_of i p) (lecturer_of i u) other,
            lecturer.full,
          );
          before = λ x q e own. elim (put_cases i m s p in_range free x q e) [
            | inl new ↦ absurd
                (other (rw new.1 at own))
            | inr old ↦ lecturer.before x q old own
          ];
        })
      ]
      | inr project ↦ elim (cases_eq p u) [
        | inl same ↦ absurd (omega (arith, project.full, rw same at room))
        | inr other ↦ inr (record {
          full = omega (arith, put_at_project i m s p in_range free u, none_there p u other, project.full);
          before = λ x e. elim (put_cases i m s p in_range free x u e) [
            | inl new ↦ absurd
                (other (sym new.1))
            | inr old ↦ project.before x old
          ];
        })
      ]
    ];
    hopeless = holds.hopeless;
  }

  -- then w, who has u of the same lecturer by then, is let go
  module _ (w u : ℕ) (has : project_of (set m s (Some p)) w ≡ Some u) (own : lecturer_of i u ≡ lecturer_of i p) where
    w_in_range : w < length (set m s (Some p))
    w_in_range = student_in_range i (set m s (Some p)) w u has

    cases : (x q : ℕ) → project_of (set (set m s (Some p)) w None) x ≡ Some q
        → (x ≢ w) × (project_of (set m s (Some p)) x ≡ Some q) × (((x ≡ s) × (q ≡ p)) ⊎ (project_of m x ≡ Some q))
    cases x q e = search (rules, get_or-set_same, w_in_range, get_or-set_other, put_cases)

    -- who is let go was there before, or is s
    was : (w ≢ s) → project_of m w ≡ Some u
    was other = rw (get_or-set_other m s w (Some p) None other) at has

    count : (q : ℕ)
        → at_project (set (set m s (Some p)) w None) q + one_if (eqb u q) ≡ at_project m q + one_if (eqb p q)
    count q = omega (
      arith,
      count_by-set (is_project q) (set m s (Some p)) w None w_in_range,
      ap (λ o. one_if (is_project q o)) has,
      put_at_project i m s p in_range free q,
    )

    count_l : (l : ℕ) → at_lecturer i (set (set m s (Some p)) w None) l ≡ at_lecturer i m l
    count_l l =
        omega (
          arith,
          count_by-set (is_lecturer i l) (set m s (Some p)) w None w_in_range,
          ap (λ o. one_if (is_lecturer i l o)) has,
          put_at_lecturer i m s p in_range free l,
          ap (λ k. one_if (eqb k l)) own,
        )

    let_go : ((q : ℕ) → at_project (set (set m s (Some p)) w None) q ≤ capacity_of i q)
        → ((t v : ℕ) → Deleted t v → IsSpent i (set (set m s (Some p)) w None) t v)
        → IsProvisional i (set (set m s (Some p)) w None) Deleted
    let_go fits spent = record {
      matching = record {
        students = length-set (set m s (Some p)) w None ∙ length-set m s (Some p) ∙ holds.matching.students;
        acceptable = λ x q e. put_on x q (cases x q e).1;
        projects = fits;
        lecturers = λ l. omega (arith, count_l l, holds.matching.lecturers l);
      };
      first = λ x better q e. put_first x better q (cases x q e).1;
      spent = spent;
      hopeless = holds.hopeless;
    }

    -- a lecturer who was spent is spent still
    still_spent : rank_of i (lecturer_of i p) s ≤ rank_of i (lecturer_of i p) w → (v t : ℕ)
        → LecturerSpent i m (lecturer_of i v) t → LecturerSpent i (set (set m s (Some p)) w None) (lecturer_of i v) t
    still_spent no_lower v t lecturer = record {
      full = omega (arith, count_l (lecturer_of i v), lecturer.full);
      before = λ x q e there. let c = cases x q e in elim c.2 [
        | inl new ↦
            let here : lecturer_of i p ≡ lecturer_of i v = rw new.1 at there in
            rw new.0 (omega (arith, lecturer.before w u (was (λ same. c.0 (new.0 ∙ sym same))) (own ∙ here), rw here at no_lower))
        | inr old ↦ lecturer.before x q old there
      ];
    }

  -- SWAP AT A PROJECT: it was full; its worst goes, whose pair may be deleted
  pub swap_at_project_holds : IsRanked i → (w : ℕ) → at_project m p ≡ capacity_of i p
      → project_of (set m s (Some p)) w ≡ Some p
      → ((x : ℕ) → project_of (set m s (Some p)) x ≡ Some p → rank_of i (lecturer_of i p) x ≤ rank_of i (lecturer_of i p) w)
      → IsProvisional i (set (set m s (Some p)) w None) Deleted × ProjectSpent i (set (set m s (Some p)) w None) p w
  swap_at_project_holds lawful w full has worst = (
    let_go w p has refl (λ q. omega (arith, count w p has refl q, holds.matching.projects q)) (λ t u gone. elim (holds.spent t u gone) [
      | inl lecturer ↦ inl (still_spent w p has refl s_worst u t lecturer)
      | inr project ↦ inr (record {
        full = omega (arith, count w p has refl u, project.full);
        before = λ x e. let c = cases w p has refl x u e in elim c.2 [
          | inl new ↦ rw new.0 (omega (
            arith,
            project.before w (was w p has refl (λ same. c.0 (new.0 ∙ sym same)) ∙ ap Some (sym new.1)),
            rw (sym new.1) at s_worst,
          ))
          | inr old ↦ project.before x old
        ];
      })
    ]),
    record {
      full = omega (arith, count w p has refl p, full);
      before = λ x e. let c = cases w p has refl x p e in
          stands_before (ranking_of i (lecturer_of i p)) x w (lawful.ranked x p (put_on x p c.1)) c.0 (worst x c.1);
    },
  ) where
    s_worst : rank_of i (lecturer_of i p) s ≤ rank_of i (lecturer_of i p) w
    s_worst = worst s (put_same i m s p in_range free)

  -- SWAP AT A LECTURER: the project has room, its lecturer was full; the lecturer's worst is let go
  pub swap_at_lecturer_holds : IsRanked i → (w u : ℕ) → at_project m p < capacity_of i p
      → at_lecturer i m (lecturer_of i p) ≡ limit_of i (lecturer_of i p)
      → project_of (set m s (Some p)) w ≡ Some u → lecturer_of i u ≡ lecturer_of i p
      → ((x q : ℕ) → project_of (set m s (Some p)) x ≡ Some q → lecturer_of i q ≡ lecturer_of i p
      → rank_of i (lecturer_of i p) x ≤ rank_of i (lecturer_of i p) w)
      → IsProvisional i (set (set m s (Some p)) w None) Deleted × LecturerSpent i (set (set m s (Some p)) w None) (lecturer_of i u) w
  swap_at_lecturer_holds lawful w u room full has own worst = (
    let_go w u has own
        (one_more (at_project m) (at_project (set (set m s (Some p)) w None)) (capacity_of i) p
        (λ q. omega (arith, count w u has own q)) room holds.matching.projects)
        (λ t v gone. elim (holds.spent t v gone) [
          | inl lecturer ↦ inl (still_spent w u has own (worst s p s_has refl) v t lecturer)
          | inr project ↦ elim (cases_eq p v) [
            | inl same ↦ absurd (omega (arith, project.full, rw same at room))
            | inr other ↦ elim (cases_eq u v) [
              | inl left ↦
                  let w_had : project_of m w ≡ Some v = was w u has own
                  (λ e. let now : Some p ≡ Some u = sym s_has ∙ (rw e at has) in other (let same : p ≡ u = cc in same ∙ left))
                  ∙ ap Some left in
                  let of_v : lecturer_of i v ≡ lecturer_of i p = ap (lecturer_of i) (sym left) ∙ own in
                  inl (record {
                    full = omega (arith, count_l w u has own (lecturer_of i v), rw (sym of_v) at full);
                    before = λ x q e there. search (rules, cases);
                  })
              | inr apart ↦ inr (record {
                full = omega (arith, count w u has own v, none_there p v other, none_there u v apart, project.full);
                before = λ x e. elim ((cases w u has own x v e).2) [
                  | inl new ↦ absurd
                      (other (sym new.1))
                  | inr old ↦ project.before x old
                ];
              })
            ]
          ]
        ]),
    record {
      full = omega (arith, count_l w u has own (lecturer_of i u), rw (sym own) at full);
      before = λ x q e there.
          let c = cases w u has own x q e in
          let mine : lecturer_of i q ≡ lecturer_of i p = there ∙ own in
          rw own (stands_before (ranking_of i (lecturer_of i p)) x w (rw mine at (lawful.ranked x q (put_on x q c.1))) c.0
          (worst x q c.1 mine));
    },
  ) where
    s_has : project_of (set m s (Some p)) s ≡ Some p
    s_has = put_same i m s p in_range free
