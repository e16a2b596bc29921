-- A ranked instance has a best matching: students propose in order; pairs before a cursor are gone.
use Rattle.spa_honest.proofs.Base.{◌≡◌, ◌≢◌, ◌⊎◌, inl, inr, ℕ, zero, suc, ◌+◌, ◌<◌, ◌≤◌, cond, eqb, List, length}
use Rattle.spa_honest.proofs.Base.{get_or, set, replicate, Option, Some, None, refl, sym, ◌∙◌, ap, subst, arith}
use Rattle.spa_honest.proofs.Base.{get_or-set_same, get_or-set_other, eq-eqb, ne_eqb, cases_lt, cases_eq, Spa, place}
use Rattle.spa_honest.proofs.Base.{at_project, at_lecturer, project_of, choices_of, lecturer_of, capacity_of, limit_of}
use Rattle.spa_honest.proofs.Base.{IsBefore, IsAcceptable, IsBest, place-injective, sum_below, sum_below-lt, IsRanked}
use Rattle.spa_honest.proofs.Base.{rank_of, IsSpent, IsProvisional, student_in_range, put_same, put_cases, put_on}
use Rattle.spa_honest.proofs.Base.{place_holds, get_or_past, []}
use Rattle.spa_honest.proofs.Base.{delete_holds, best_at_end, nobody_matches, acceptable_in_range, rules, ◌-◌, IsWith}
use Rattle.spa_honest.proofs.Base.{place-get_or, swap_at_project_holds, swap_at_lecturer_holds}
use Rattle.spa_student.proofs.Start.{none_there}

-- of the numbers below n with a property, one of the greatest rank; or there is none
pub greatest : (P : ℕ → Type 0) → ((x : ℕ) → P x ⊎ (P x → ⊥)) → (rank : ℕ → ℕ) (n : ℕ)
    → ((w : ℕ) × (w < n) × P w × ((x : ℕ) → x < n → P x → rank x ≤ rank w)) ⊎ ((x : ℕ) → x < n → P x → ⊥)
greatest P test rank zero = inr (λ x h p. omega arith)
greatest P test rank (suc n) = elim (test n) [
  | inr misses ↦ elim (greatest P test rank n) [
    | inr none ↦ inr (λ x h p. elim (cases_eq x n) [ inl same ↦ misses (subst P same p) | inr other ↦ none x (omega arith) p ])
    | inl one ↦ inl (
      one.0,
      omega (arith, one.1),
      one.2,
      λ x h p. elim (cases_eq x n) [ inl same ↦ absurd (misses (subst P same p)) | inr other ↦ one.3 x (omega arith) p ],
    )
  ]
  | inl meets ↦ elim (greatest P test rank n) [
    | inr none ↦ inl (
      n,
      omega arith,
      meets,
      λ x h p. elim (cases_eq x n) [ inl same ↦ rw same (omega arith) | inr other ↦ absurd (none x (omega arith) p) ],
    )
    | inl one ↦ elim (cases_lt (rank one.0) (rank n)) [
      | inl less ↦ inl (
        n,
        omega arith,
        meets,
        λ x h p. elim (cases_eq x n) [ inl same ↦ rw same (omega arith) | inr other ↦ omega (arith, one.3 x (omega arith) p) ],
      )
      | inr more ↦ inl (
        one.0,
        omega (arith, one.1),
        one.2,
        λ x h p. elim (cases_eq x n) [ inl same ↦ rw same (omega arith) | inr other ↦ one.3 x (omega arith) p ],
      )
    ]
  ]
]

-- one of the greatest rank, where there is one
the_greatest : (P : ℕ → Type 0) → ((x : ℕ) → P x ⊎ (P x → ⊥)) → (rank : ℕ → ℕ) (n s : ℕ) → s < n → P s
    → (w : ℕ) × (w < n) × P w × ((x : ℕ) → x < n → P x → rank x ≤ rank w)
the_greatest P test rank n s low p = elim (greatest P test rank n) [ inl one ↦ one | inr none ↦ absurd (none s low p) ]

-- whether a student has nothing, has p, or has a project of l
pub has_none : (o : Option ℕ) → (o ≡ None) ⊎ (o ≡ None → ⊥)
has_none None = inl refl
has_none (Some q) = inr (λ e. absurd (cc))

pub has_project : (p : ℕ) (o : Option ℕ) → (o ≡ Some p) ⊎ (o ≡ Some p → ⊥)
has_project p None = inr (λ e. absurd (cc))
has_project p (Some q) = elim (cases_eq q p) [ inl same ↦ inl (ap Some same) | inr other ↦ inr (λ e. other (cc)) ]

pub has_lecturer : (i : Spa) (l : ℕ) (o : Option ℕ)
    → ((q : ℕ) × (o ≡ Some q) × (lecturer_of i q ≡ l)) ⊎ ((q : ℕ) × (o ≡ Some q) × (lecturer_of i q ≡ l) → ⊥)
has_lecturer i l None = inr (λ e. let none = e.1 in absurd (cc))
has_lecturer i l (Some q) = elim (cases_eq (lecturer_of i q) l) [
  | inl same ↦ inl (q, refl, same)
  | inr other ↦ inr (λ e. let here = e.1 in other (let is : q ≡ e.0 = cc in ap (lecturer_of i) is ∙ e.2))
]

-- a cursor moves on
abbrev moved : (ℕ → ℕ) → ℕ → ℕ → ℕ
moved c w x = cond (eqb x w) (suc (c x)) (c x)

moved_same : (c : ℕ → ℕ) (w : ℕ) → moved c w w ≡ suc (c w)
moved_same c w = rw (eq-eqb w w refl)

moved_other : (c : ℕ → ℕ) (w x : ℕ) → x ≢ w → moved c w x ≡ c x
moved_other c w x other = rw (ne_eqb x w other)

moved_more : (c : ℕ → ℕ) (w x : ℕ) → c x ≤ moved c w x
moved_more c w x = elim (cases_eq x w) [
  | inl same ↦ rw same (omega (arith, moved_same c w))
  | inr other ↦ omega
      (arith, moved_other c w x other)
]

-- the pairs before the cursors
abbrev pub Passed : Spa → (ℕ → ℕ) → ℕ → ℕ → Type 0
Passed i c s p = IsAcceptable i s p × (place (choices_of i s) p < c s)

-- what holds before and after each turn
pub record UnderWay (i : Spa) (m : List (Option ℕ)) (c : ℕ → ℕ) : Type 0 where
  pub holds : IsProvisional i m (Passed i c)
  pub at_cursor : (s p : ℕ) → project_of m s ≡ Some p → place (choices_of i s) p ≡ c s

-- 1 for a free student
abbrev pub free_one : Option ℕ → ℕ
free_one None = 1
free_one (Some q) = 0

-- the turns that a student may have still
abbrev pub turns : Spa → List (Option ℕ) → (ℕ → ℕ) → ℕ → ℕ
turns i m c s = (length (choices_of i s) - c s) + free_one (project_of m s)

-- a free student whose cursor is on the list
pub record IsNext (i : Spa) (m : List (Option ℕ)) (c : ℕ → ℕ) (s : ℕ) : Type 0 where
  pub in_range : s < length m
  pub free : project_of m s ≡ None
  pub left : c s < length (choices_of i s)

-- after a turn of s: no cursor goes back, it moves only if its student is let go, others stay free
pub record Turned (i : Spa) (m : List (Option ℕ)) (c : ℕ → ℕ) (s : ℕ) : Type 0 where
  pub after : List (Option ℕ)
  pub cursors : ℕ → ℕ
  pub state : UnderWay i after cursors
  pub onward : (x : ℕ) → c x ≤ cursors x
  pub moves : (x : ℕ) → (cursors x ≡ c x) ⊎ (project_of after x ≡ None)
  pub still : (x : ℕ) → x ≢ s → project_of m x ≡ None → project_of after x ≡ None
  pub fewer : sum_below (turns i after cursors) (length i.choices) + 1 ≤ sum_below (turns i m c) (length i.choices)

-- A TURN of a free student s, whose next entry is p
module _ (i : Spa) (law : IsRanked i) (m : List (Option ℕ)) (c : ℕ → ℕ) (state : UnderWay i m c) (s p : ℕ) (next : IsNext i m c s)
    (on : IsAcceptable i s p) (here : place (choices_of i s) p ≡ c s) where
  first : (q : ℕ) → IsBefore (choices_of i s) q p → Passed i c s q
  first q before = (omega (arith, before.0, before.1), omega (arith, before.0))

  put_cursor : (x q : ℕ) → project_of (set m s (Some p)) x ≡ Some q → place (choices_of i x) q ≡ c x
  put_cursor x q e = elim (put_cases i m s p next.in_range next.free x q e) [
    | inl new ↦ rw
        (new.0, new.1) here
    | inr old ↦ state.at_cursor x q old
  ]

  -- s is put
  put_turns : (k : ℕ) → turns i (set m s (Some p)) c k ≤ turns i m c k
  put_turns k = search (rules, put_same, get_or-set_other)

  put_less : turns i (set m s (Some p)) c s + 1 ≤ turns i m c s
  put_less = rw (put_same i m s p next.in_range next.free, next.free) (omega arith)

  -- w, who has u by then, is let go
  module _ (w u : ℕ) (has : project_of (set m s (Some p)) w ≡ Some u) where
    w_cursor : place (choices_of i w) u ≡ c w
    w_cursor = put_cursor w u has

    w_on : IsAcceptable i w u
    w_on = put_on i m (Passed i c) state.holds s p next.in_range next.free on first w u has

    w_free : project_of (set (set m s (Some p)) w None) w ≡ None
    w_free = get_or-set_same (set m s (Some p)) w None None (student_in_range i (set m s (Some p)) w u has)

    gone_other : (k : ℕ) → k ≢ w → project_of (set (set m s (Some p)) w None) k ≡ project_of (set m s (Some p)) k
    gone_other k other = get_or-set_other (set m s (Some p)) w k None None other

    let_go : IsProvisional i (set (set m s (Some p)) w None) (Passed i c)
        → IsSpent i (set (set m s (Some p)) w None) w u
        → UnderWay i (set (set m s (Some p)) w None) (moved c w)
    let_go holds spent = record {
      holds = delete_holds i (set (set m s (Some p)) w None) (Passed i c) (Passed i (moved c w)) law holds
          (λ x q old. (old.0, omega (arith, old.1, moved_more c w x))) new;
      at_cursor = λ x q e. elim (cases_eq x w) [
        | inl same ↦ absurd (let none : project_of (set (set m s (Some p)) w None) x ≡ None = rw same w_free in cc)
        | inr other ↦ put_cursor x q (sym (gone_other x other) ∙ e) ∙ sym (moved_other c w x other)
      ];
    } where
      new : (x q : ℕ) → Passed i (moved c w) x q → Passed i c x q ⊎ IsSpent i (set (set m s (Some p)) w None) x q
      new x q passed = grind (arith, moved_other, moved_same, place-injective, w_on, w_cursor)

    go_turns : (k : ℕ) → turns i (set (set m s (Some p)) w None) (moved c w) k ≤ turns i m c k
    go_turns k = search (rules, moved_same, w_free, get_or-set_other, w_cursor, w_on, gone_other, moved_other, put_turns, state)

    go_less : turns i (set (set m s (Some p)) w None) (moved c w) s + 1 ≤ turns i m c s
    go_less = search (rules, w_free, moved_same, gone_other, moved_other, put_less, state)

    goes : IsProvisional i (set (set m s (Some p)) w None) (Passed i c) → IsSpent i (set (set m s (Some p)) w None) w u
        → Turned i m c s
    goes holds spent = record {
      after = set (set m s (Some p)) w None;
      cursors = moved c w;
      state = let_go holds spent;
      onward = moved_more c w;
      moves = λ x. elim (cases_eq x w) [ inl same ↦ inr (rw same w_free) | inr other ↦ inl (moved_other c w x other) ];
      still = λ x other free. elim (cases_eq x w) [
        | inl same ↦ rw same w_free
        | inr apart ↦ gone_other x apart
            ∙ get_or-set_other m s x (Some p) None other ∙ free
      ];
      fewer = sum_below-lt (turns i (set (set m s (Some p)) w None) (moved c w)) (turns i m c) (length i.choices) s go_turns
          (acceptable_in_range i s p on) go_less;
    }

  in_range : (x q : ℕ) → project_of (set m s (Some p)) x ≡ Some q → x < length i.choices
  in_range x q e = acceptable_in_range i x q (put_on i m (Passed i c) state.holds s p next.in_range next.free on first x q e)

  s_has : project_of (set m s (Some p)) s ≡ Some p
  s_has = put_same i m s p next.in_range next.free

  turn : Turned i m c s
  turn =
      let l : ℕ = lecturer_of i p in
      let n : ℕ = length i.choices in
      let s_in : s < n = acceptable_in_range i s p on in
      elim (cases_lt (at_project m p) (capacity_of i p)) [
        | inl room ↦ elim (cases_lt (at_lecturer i m l) (limit_of i l)) [
          | inl room_l ↦ record {
            after = set m s (Some p);
            cursors = c;
            state = record {
              holds = place_holds i m (Passed i c) state.holds s p next.in_range next.free on first room room_l;
              at_cursor = put_cursor;
            };
            onward = λ x. omega arith;
            moves = λ x. inl refl;
            still = λ x other free. get_or-set_other m s x (Some p) None other ∙ free;
            fewer = sum_below-lt (turns i (set m s (Some p)) c) (turns i m c) n s put_turns s_in put_less;
          }
          | inr full_l ↦
              let worst = the_greatest (IsWith i (set m s (Some p)) l) (λ x. has_lecturer i l (project_of (set m s (Some p)) x))
              (rank_of i l) n s s_in (p, s_has, refl) in
              let full : at_lecturer i m l ≡ limit_of i l = omega (arith, full_l, state.holds.matching.lecturers l) in
              let done = swap_at_lecturer_holds i m (Passed i c) state.holds s p next.in_range next.free on first law worst.0 worst.2.0 room
              full worst.2.1 worst.2.2 (λ x q e own. worst.3 x (in_range x q e) (q, e, own)) in
              goes worst.0 worst.2.0 worst.2.1 done.0 (inl done.1)
        ]
        | inr past ↦
            let worst = the_greatest (λ x. project_of (set m s (Some p)) x ≡ Some p) (λ x. has_project p (project_of (set m s (Some p)) x))
            (rank_of i l) n s s_in s_has in
            let full : at_project m p ≡ capacity_of i p = omega (arith, past, state.holds.matching.projects p) in
            let done = swap_at_project_holds i m (Passed i c) state.holds s p next.in_range next.free on first law worst.0 full worst.2
            (λ x e. worst.3 x (in_range x p e) e) in
            goes worst.0 p worst.2 done.0 (inr done.1)
      ]

-- a turn of s, who is free and has some of the list left
pub turn_of : (i : Spa) → IsRanked i → (m : List (Option ℕ)) (c : ℕ → ℕ) → UnderWay i m c → (s : ℕ)
    → s < length i.choices → project_of m s ≡ None → c s < length (choices_of i s) → Turned i m c s
turn_of i law m c state s in_range free left =
    let p : ℕ = get_or (choices_of i s) (c s) 0 in
    let here : place (choices_of i s) p ≡ c s = place-get_or (choices_of i s) (c s) 0 (law.choices_distinct s) left in
    turn i law m c state s p (record { in_range = omega (arith, in_range, state.holds.matching.students); free = free; left = left })
    (omega (arith, left)) here

-- a place on each list, or its end, at which its student stops
abbrev pub AreStops : Spa → (ℕ → ℕ) → Type 0
AreStops i stop = (s : ℕ) → stop s ≤ length (choices_of i s)

-- a free student who has not come to the stop
abbrev pub HasTurn : List (Option ℕ) → (ℕ → ℕ) → (ℕ → ℕ) → ℕ → Type 0
HasTurn m c stop s = (project_of m s ≡ None) × (c s < stop s)

-- who has a list is a student
lister_in_range : (i : Spa) (s : ℕ) → 0 < length (choices_of i s) → s < length i.choices
lister_in_range i s some = elim (cases_lt s (length i.choices)) [
  | inl low ↦ low
  | inr past ↦ let none : choices_of i s ≡ [] = get_or_past i.choices s [] past in absurd (omega (arith, rw none at some))
]

-- a student who has a turn, or all who are free have come to their stops
pub next_or_done : (i : Spa) (m : List (Option ℕ)) (c stop : ℕ → ℕ) → AreStops i stop
    → ((s : ℕ) × (s < length i.choices) × HasTurn m c stop s) ⊎ ((x : ℕ) → project_of m x ≡ None → stop x ≤ c x)
next_or_done i m c stop stops =
    elim (greatest (HasTurn m c stop) test (λ x. 0) (length i.choices)) [
      | inl next ↦ inl (next.0, next.1, next.2)
      | inr none ↦ inr (λ x free. elim (cases_lt (c x) (stop x)) [
        | inr come ↦ come
        | inl left ↦ absurd
            (none x (lister_in_range i x (omega (arith, left, stops x))) (free, left))
      ])
    ]
  where
    test : (x : ℕ) → HasTurn m c stop x ⊎ (HasTurn m c stop x → ⊥)
    test x = elim (has_none (project_of m x)) [
      | inr busy ↦ inr (λ h. busy h.0)
      | inl free ↦ elim (cases_lt (c x) (stop x)) [ inl left ↦ inl (free, left) | inr come ↦ inr (λ h. omega (arith, h.1)) ]
    ]

-- ALL GO ON until each has a project before the stop, or has come to it
pub record Rested (i : Spa) (stop c : ℕ → ℕ) : Type 0 where
  pub after : List (Option ℕ)
  pub cursors : ℕ → ℕ
  pub state : UnderWay i after cursors
  pub onward : (x : ℕ) → c x ≤ cursors x
  pub within : (x q : ℕ) → project_of after x ≡ Some q → cursors x < stop x
  pub done : (x : ℕ) → project_of after x ≡ None → stop x ≤ cursors x

-- a turn takes nobody who has a project to the stop
still_within : (i : Spa) (m : List (Option ℕ)) (c stop : ℕ → ℕ) (s : ℕ) (one : Turned i m c s) → c s < stop s
    → ((x q : ℕ) → project_of m x ≡ Some q → c x < stop x) → (x q : ℕ) → project_of one.after x ≡ Some q
    → one.cursors x < stop x
still_within i m c stop s one left within x q e = elim (one.moves x) [
  | inr free ↦ absurd (let wrong : ◌≡◌ {A = Option ℕ} None (Some q) = sym free ∙ e in cc)
  | inl same ↦ rw same (by_own (project_of m x) refl)
]
  where
    by_own : (o : Option ℕ) → project_of m x ≡ o → c x < stop x
    by_own (Some p) had = within x p had
    by_own None free = elim (cases_eq x s) [ inl here ↦ rw here left | inr other ↦ absurd (let none = one.still x other free in cc) ]

pub rest : (i : Spa) → IsRanked i → (stop : ℕ → ℕ) → AreStops i stop → (fuel : ℕ) (m : List (Option ℕ)) (c : ℕ → ℕ)
    → UnderWay i m c → ((x q : ℕ) → project_of m x ≡ Some q → c x < stop x)
    → sum_below (turns i m c) (length i.choices) < fuel → Rested i stop c
rest i law stop stops zero m c state within enough = absurd (omega arith)
rest i law stop stops (suc fuel) m c state within enough = elim (next_or_done i m c stop stops) [
  | inl next ↦
      let one : Turned i m c next.0 = turn_of i law m c state next.0 next.1 next.2.0 (omega (arith, next.2.1, stops next.0)) in
      let all = rest i law stop stops fuel one.after one.cursors one.state (still_within i m c stop next.0 one next.2.1 within)
      (omega (arith, one.fewer)) in
      record {
        after = all.after;
        cursors = all.cursors;
        state = all.state;
        onward = λ x. omega (arith, one.onward x, all.onward x);
        within = all.within;
        done = all.done;
      }
  | inr done ↦ record { after = m; cursors = c; state = state; onward = λ x. omega arith; within = within; done = done }
]

-- where nobody has a project and no cursor has moved
pub start : (i : Spa) → UnderWay i (replicate (length i.choices) None) (λ s. 0)
start i = record {
  holds = record {
    matching = nobody_matches i;
    first = λ s p q e before. absurd (free s q e);
    spent = λ t p gone. absurd (omega (arith, gone.1));
    hopeless = λ t p gone. absurd (omega (arith, gone.1));
  };
  at_cursor = λ s p e. absurd (free s p e);
} where
  free : (s p : ℕ) → project_of (replicate (length i.choices) None) s ≡ Some p → ⊥
  free s p e = let none = none_there (length i.choices) s in cc

pub from_start : (i : Spa) → IsRanked i → (stop : ℕ → ℕ) → AreStops i stop → Rested i stop (λ s. 0)
from_start i law stop stops = rest i law stop stops
    (suc (sum_below (turns i (replicate (length i.choices) None) (λ s. 0)) (length i.choices))) (replicate (length i.choices) None) (λ s. 0)
    (start i) (λ x q e. absurd (let none = none_there (length i.choices) x in cc)) (omega arith)

-- EACH RANKED INSTANCE HAS A BEST MATCHING
pub best_of : (i : Spa) → IsRanked i → (m : List (Option ℕ)) × IsBest i m
best_of i law =
    let all = from_start i law (λ s. length (choices_of i s)) (λ s. omega arith) in
    (all.after, best_at_end i all.after (Passed i all.cursors) all.state.holds (λ s p free on. (on, omega (arith, on, all.done s free))))
