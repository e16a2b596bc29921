-- The steps over cursors and cuts.
use Rattle.spa_student.proofs.Base.{◌≡◌, ◌≢◌, ◌⊎◌, inl, inr, ℕ, suc, ◌+◌, ◌-◌, ◌<◌, ◌≤◌, eqb, List, [], length, get_or}
use Rattle.spa_student.proofs.Base.{set, replicate, sum, Option, Some, None, refl, sym, ◌∙◌, ap, subst, arith}
use Rattle.spa_student.proofs.Base.{length-set, get_or-set_same, get_or-set_other, get_or_past, get_or-replicate}
use Rattle.spa_student.proofs.Base.{length-replicate, cases_lt, cases_eq, Spa, place, is_project, is_lecturer}
use Rattle.spa_student.proofs.Base.{at_project, at_lecturer, project_of, choices_of, lecturer_of, ranking_of}
use Rattle.spa_student.proofs.Base.{capacity_of, limit_of, IsBefore, IsAcceptable, IsMatching, IsWith, IsLawful}
use Rattle.spa_student.proofs.Base.{IsDistinct, IsBest, place-injective, one_if, count_by-set, Progress, rank_of}
use Rattle.spa_student.proofs.Base.{LecturerSpent, ProjectSpent, IsProvisional, IsPastCut, IsUnderWay, Puts}
use Rattle.spa_student.proofs.Base.{IsPlacedOrExhausted}
use Rattle.spa_student.proofs.Base.{IsWorstWith, rules, ◌∷◌, Vec, Global, sum_by-set, sum_by-cons, get_or-place}
use Rattle.spa_student.proofs.Base.{place-get_or, place-get_or-le, IsCut, IsUncut, AreCounts, AreMarks, IsNextEntry}
use Rattle.spa_student.proofs.Base.{KeepsCuts, Leaves, IsWorstAt, IsSpent}
use Rattle.std.specs.List.{sum_by}
use Rattle.spa_student.proofs.Machine.{ranked_of, student_in_range, delete_holds, place_holds, swap_at_project_holds}
use Rattle.spa_student.proofs.Machine.{swap_at_lecturer_holds, best_at_end, put_cases, put_at_project, put_at_lecturer}
use Rattle.spa_student.proofs.Machine.{one_here, none_there}
use Rattle.spa_student.proofs.Start.{nobody_matches, none_counted, none_there as none_there_yet}

-- who finds a project acceptable is a student
pub acceptable_in_range : (i : Spa) (s p : ℕ) → IsAcceptable i s p → s < length i.choices
acceptable_in_range i s p on = search (rules, get_or_past)

-- what stands on a student's list is acceptable
pub entry_acceptable : (i : Spa) (s k : ℕ) → k < length (choices_of i s)
    → IsAcceptable i s (get_or (choices_of i s) k 0)
entry_acceptable i s k h = omega (arith, place-get_or-le (choices_of i s) k 0 h)

-- who stands on a ranking is a student
pub ranked_in_range : (i : Spa) → IsLawful i → (l k : ℕ) → k < length (ranking_of i l)
    → get_or (ranking_of i l) k 0 < length i.choices
ranked_in_range i lawful l k h =
    let why = lawful.applicants l (get_or (ranking_of i l) k 0) (omega (arith, place-get_or-le (ranking_of i l) k 0 h)) in
    acceptable_in_range i (get_or (ranking_of i l) k 0) why.0 why.1

-- who is not cut at the own project stands before the cuts
pub rank_at_below : (i : Spa) (q : Progress) → IsUncut i q → (w p : ℕ) → project_of q.projects.items w ≡ Some p
    → rank_of i (lecturer_of i p) w < get_or q.project_cuts.items p 0
rank_at_below i q uncut w p e = elim (cases_lt (rank_of i (lecturer_of i p) w)
    (get_or q.project_cuts.items p 0)) [ inl h ↦ h | inr h ↦ absurd (uncut w p e (inl h)) ]

pub rank_with_below : (i : Spa) (q : Progress) → IsUncut i q → (w l : ℕ) → IsWith i q.projects.items l w
    → rank_of i l w < get_or q.lecturer_cuts.items l 0
rank_with_below i q uncut w l with_l = elim
    (cases_lt (rank_of i l w) (get_or q.lecturer_cuts.items l 0)) [
      | inl h ↦ h
      | inr h ↦ absurd
          (uncut w with_l.0 with_l.1 (inr (rw with_l.2 h)))
    ]

-- those on a list who have P, each before the cut
module _ (list : List ℕ) (cut : ℕ) (P : ℕ → Type 0) (on : (x : ℕ) → P x → place list x < length list)
    (before : (x : ℕ) → P x → place list x < cut) where
  -- where nobody later before the cut has it, the student found is the last
  last_found : IsDistinct list → (k : ℕ) → k < length list → ((j : ℕ) → k < j → j < cut → P (get_or list j 0) → ⊥)
      → (x : ℕ) → P x → place list x ≤ place list (get_or list k 0)
  last_found apart k h later x has = elim (cases_lt k (place list x)) [
    | inl after ↦ absurd (later (place list x) after (before x has) (rw (get_or-place list x 0 (on x has)) has))
    | inr not ↦ omega (arith, place-get_or list k 0 apart h)
  ]

  -- somebody is found
  some_found : (s : ℕ) → P s → ((j : ℕ) → j < cut → P (get_or list j 0) → ⊥) → ⊥
  some_found s has none = none (place list s) (before s has) (rw (get_or-place list s 0 (on s has)) has)

module _ (i : Spa) (lawful : IsLawful i) (q : Progress) (marks : AreMarks i q) (uncut : IsUncut i q) where
  at_on : (p x : ℕ) → project_of q.projects.items x ≡ Some p
      → place (ranking_of i (lecturer_of i p)) x < length (ranking_of i (lecturer_of i p))
  at_on p x e = lawful.ranked x p (marks.assigned.acceptable x p e)

  with_on : (l x : ℕ) → IsWith i q.projects.items l x → place (ranking_of i l) x < length (ranking_of i l)
  with_on l x with_l = rw with_l.2 at (at_on with_l.0 x with_l.1)

  pub found_worst_at : (p k : ℕ) → k < length (ranking_of i (lecturer_of i p))
      → project_of q.projects.items (get_or (ranking_of i (lecturer_of i p)) k 0) ≡ Some p
      → ((j : ℕ) → k < j → j < get_or q.project_cuts.items p 0
      → project_of q.projects.items (get_or (ranking_of i (lecturer_of i p)) j 0) ≡ Some p → ⊥)
      → IsWorstAt i q.projects.items p (get_or (ranking_of i (lecturer_of i p)) k 0)
  found_worst_at p k h at later = record {
    at = at;
    worst = last_found (ranking_of i (lecturer_of i p)) (get_or q.project_cuts.items p 0) (λ x. project_of q.projects.items x ≡ Some p)
        (at_on p) (λ x. rank_at_below i q uncut x p) (lawful.distinct (lecturer_of i p)) k h later;
  }

  pub found_worst_with : (l k : ℕ) → k < length (ranking_of i l)
      → IsWith i q.projects.items l (get_or (ranking_of i l) k 0)
      → ((j : ℕ) → k < j → j < get_or q.lecturer_cuts.items l 0 → IsWith i q.projects.items l (get_or (ranking_of i l) j 0) → ⊥)
      → IsWorstWith i q.projects.items l (get_or (ranking_of i l) k 0)
  found_worst_with l k h at later = record {
    with_l = at;
    worst = λ x u e own. last_found (ranking_of i l) (get_or q.lecturer_cuts.items l 0) (IsWith i q.projects.items l) (with_on l)
        (λ y. rank_with_below i q uncut y l) (lawful.distinct l) k h later x (u, e, own);
  }

  pub found_at : (p s : ℕ) → project_of q.projects.items s ≡ Some p
      → ((j : ℕ) → j < get_or q.project_cuts.items p 0 → project_of q.projects.items (get_or (ranking_of i (lecturer_of i p)) j 0) ≡ Some p
      → ⊥) → ⊥
  found_at p = some_found (ranking_of i (lecturer_of i p)) (get_or q.project_cuts.items p 0) (λ x. project_of q.projects.items x ≡ Some p)
      (at_on p) (λ x. rank_at_below i q uncut x p)

  pub found_with : (l s : ℕ) → IsWith i q.projects.items l s
      → ((j : ℕ) → j < get_or q.lecturer_cuts.items l 0 → IsWith i q.projects.items l (get_or (ranking_of i l) j 0) → ⊥)
      → ⊥
  found_with l = some_found (ranking_of i l) (get_or q.lecturer_cuts.items l 0) (IsWith i q.projects.items l) (with_on l)
      (λ x. rank_with_below i q uncut x l)

-- the cuts that stay cut the same
pub same_cut : (i : Spa) (q after : Progress) → KeepsCuts q after → (s p : ℕ) → IsPastCut i q s p
    → IsPastCut i after s p
same_cut i q after cuts s p past = rw (cuts.project_cuts, cuts.lecturer_cuts) past

was_cut : (i : Spa) (q after : Progress) → KeepsCuts q after → (s p : ℕ) → IsPastCut i after s p → IsPastCut i q s p
was_cut i q after cuts s p past = rw (cuts.project_cuts, cuts.lecturer_cuts) at past

-- nobody is cut at the own project
held_uncut : (i : Spa) (m : List (Option ℕ)) (q : Progress) → IsProvisional i m (IsCut i q) → (s p : ℕ)
    → project_of m s ≡ Some p → IsPastCut i q s p → ⊥
held_uncut i m q holds s p e past = search rules

-- the rank of who was found
pub rank_found : (i : Spa) → IsLawful i → (l k : ℕ) → k < length (ranking_of i l)
    → rank_of i l (get_or (ranking_of i l) k 0) ≡ k
rank_found i lawful l k h = place-get_or (ranking_of i l) k 0 (lawful.distinct l) h

-- A STUDENT IS PUT
module _ (i : Spa) (q after : Progress) (marks : AreMarks i q) (s p : ℕ) (next : IsNextEntry i q s p) (puts : Puts s p q after)
    (cuts : KeepsCuts q after) where
  pub next_in_range : s < length q.projects.items
  next_in_range = omega (arith, acceptable_in_range i s p next.acceptable, marks.assigned.students)

  after_cases : (x u : ℕ) → project_of after.projects.items x ≡ Some u
      → ((x ≡ s) × (u ≡ p)) ⊎ (project_of q.projects.items x ≡ Some u)
  after_cases x u e = put_cases i q.projects.items s p next_in_range next.free x u (rw puts.projects at e)

  pub placed_uncut : IsProvisional i q.projects.items (IsCut i q) → IsUncut i after
  placed_uncut holds x u e past = search (rules, after_cases, was_cut, held_uncut)

-- A STUDENT who has a project
module _ (i : Spa) (q : Progress) (marks : AreMarks i q) (w u : ℕ) (has : project_of q.projects.items w ≡ Some u) where
  pub leaver_in_range : w < length q.projects.items
  leaver_in_range = student_in_range i q.projects.items w u has

  pub leaver_cursor : w < length q.cursors.items
  leaver_cursor = omega (arith, leaver_in_range, marks.assigned.students, marks.cursor_rows)

  pub leaver_has_entry : get_or q.cursors.items w 0 < length (choices_of i w)
  leaver_has_entry = omega (arith, marks.at_cursor w u has, marks.assigned.acceptable w u has)

  one_less : (v : ℕ) → at_project (set q.projects.items w None) v + one_if (eqb u v) ≡ at_project q.projects.items v
  one_less v = omega (arith, count_by-set (is_project v) q.projects.items w None leaver_in_range, ap (λ o. one_if (is_project v o)) has)

  one_less_with : (l : ℕ)
      → at_lecturer i (set q.projects.items w None) l + one_if (eqb (lecturer_of i u) l) ≡ at_lecturer i q.projects.items l
  one_less_with l = omega (
    arith,
    count_by-set (is_lecturer i l) q.projects.items w None leaver_in_range,
    ap (λ o. one_if (is_lecturer i l o)) has,
  )

  pub some_at : 1 ≤ at_project q.projects.items u
  some_at = omega (arith, one_less u, one_here u)

  pub some_with : 1 ≤ at_lecturer i q.projects.items (lecturer_of i u)
  some_with = omega (arith, one_less_with (lecturer_of i u), one_here (lecturer_of i u))

-- counts with one less at u
counted_less : (counts : List ℕ) (u : ℕ) (before after : ℕ → ℕ) → u < length counts
    → ((v : ℕ) → get_or counts v 0 ≡ before v) → ((v : ℕ) → after v + one_if (eqb u v) ≡ before v) → (v : ℕ)
    → get_or (set counts u (get_or counts u 0 - 1)) v 0 ≡ after v
counted_less counts u before after low same less v = elim (cases_eq u v) [
  | inl here ↦ rw (sym here) (omega (arith, get_or-set_same counts u (get_or counts u 0 - 1) 0 low, same u, less u, one_here u))
  | inr other ↦ omega (
    arith,
    get_or-set_other counts u v (get_or counts u 0 - 1) 0 (λ e. other (sym e)),
    same v,
    less v,
    none_there u v other,
  )
]

-- A STUDENT LEAVES
module _ (i : Spa) (q after : Progress) (marks : AreMarks i q) (w u : ℕ) (has : project_of q.projects.items w ≡ Some u)
    (leaves : Leaves w q after) where
  stays : (x v : ℕ) → project_of after.projects.items x ≡ Some v → (x ≢ w) × (project_of q.projects.items x ≡ Some v)
  stays x v e = search (rules, get_or-set_same, leaver_in_range, get_or-set_other)

  moved_one : (x : ℕ)
      → (x ≡ w) × (get_or after.cursors.items x 0 ≡ get_or q.cursors.items w 0 + 1) ⊎ (x ≢ w)
      × (get_or after.cursors.items x 0 ≡ get_or q.cursors.items x 0)
  moved_one x = search (rules, get_or-set_same, leaver_cursor, get_or-set_other)

  pub left_marks : KeepsCuts q after → IsPastCut i q w u → AreMarks i after
  left_marks cuts past = record {
    lawful = marks.lawful;
    assigned = record {
      students = ap length leaves.projects ∙ length-set q.projects.items w None ∙ marks.assigned.students;
      acceptable = λ x v e. marks.assigned.acceptable x v (stays x v e).1;
    };
    cursor_rows = ap length leaves.cursors ∙ length-set q.cursors.items w (get_or q.cursors.items w 0 + 1) ∙ marks.cursor_rows;
    project_rows = ap length cuts.project_cuts ∙ marks.project_rows;
    lecturer_rows = ap length cuts.lecturer_cuts ∙ marks.lecturer_rows;
    cursors = λ x. elim (moved_one x) [
      | inl here ↦ rw (here.1, here.0)
          (omega (arith, leaver_has_entry i q marks w u has))
      | inr there ↦ omega (arith, there.1, marks.cursors x)
    ];
    project_cuts = λ v. rw cuts.project_cuts (marks.project_cuts v);
    lecturer_cuts = λ l. rw cuts.lecturer_cuts (marks.lecturer_cuts l);
    passed = λ x v h. same_cut i q after cuts x v (elim (moved_one x) [
      | inl here ↦ rw here.0 (at_w v (rw (here.1, here.0) at h))
      | inr there ↦ marks.passed x v (omega (arith, there.1))
    ]);
    at_cursor = λ x v e. let old = stays x v e in
        elim (moved_one x) [ inl here ↦ absurd (old.0 here.0) | inr there ↦ marks.at_cursor x v old.1 ∙ sym there.1 ];
  } where
    at_w : (v : ℕ) → place (choices_of i w) v < get_or q.cursors.items w 0 + 1 → IsPastCut i q w v
    at_w v h = grind (arith, place-injective)

  pub left_counts : AreCounts i q → u < length i.lecturers → lecturer_of i u < length i.rankings
      → after.project_counts.items ≡ set q.project_counts.items u (get_or q.project_counts.items u 0 - 1)
      → after.lecturer_counts.items ≡ set q.lecturer_counts.items (lecturer_of i u) (get_or q.lecturer_counts.items (lecturer_of i u) 0 - 1)
      → AreCounts i after
  left_counts counts u_in l_in less less_l = record {
    project_rows = ap length less ∙ length-set q.project_counts.items u (get_or q.project_counts.items u 0 - 1) ∙ counts.project_rows;
    lecturer_rows = ap length less_l ∙ length-set q.lecturer_counts.items (lecturer_of i u)
        (get_or q.lecturer_counts.items (lecturer_of i u) 0 - 1) ∙ counts.lecturer_rows;
    at_projects = λ v. rw (less, leaves.projects)
        (counted_less q.project_counts.items u (at_project q.projects.items) (at_project (set q.projects.items w None))
        (omega (arith, counts.project_rows)) counts.at_projects (one_less i q marks w u has) v);
    at_lecturers = λ l. rw (less_l, leaves.projects)
        (counted_less q.lecturer_counts.items (lecturer_of i u) (at_lecturer i q.projects.items)
        (at_lecturer i (set q.projects.items w None)) (omega (arith, counts.lecturer_rows)) counts.at_lecturers
        (one_less_with i q marks w u has) l);
  }

-- A CUT FALLS
falls : (xs : List ℕ) (p r : ℕ) → p < length xs → r ≤ get_or xs p 0 → (u : ℕ) → get_or (set xs p r) u 0 ≤ get_or xs u 0
falls xs p r h le u = search (rules, get_or-set_same, get_or-set_other)

module _ (i : Spa) (q after : Progress) (p r : ℕ) (p_in : p < length q.project_cuts.items) (less : r ≤ get_or q.project_cuts.items p 0)
    (now : after.project_cuts.items ≡ set q.project_cuts.items p r) (same : after.lecturer_cuts.items ≡ q.lecturer_cuts.items) where
  pub project_cut_more : (x u : ℕ) → IsPastCut i q x u → IsPastCut i after x u
  project_cut_more x u (inl past) = inl (rw now (omega (arith, falls q.project_cuts.items p r p_in less u)))
  project_cut_more x u (inr past) = inr (rw same past)

  pub project_cut_new : (x u : ℕ) → IsPastCut i after x u
      → IsPastCut i q x u ⊎ ((u ≡ p) × (r ≤ rank_of i (lecturer_of i p) x))
  project_cut_new x u (inr past) = inl (inr (rw same at past))
  project_cut_new x u (inl past) = search (rules, get_or-set_same, get_or-set_other)

module _ (i : Spa) (q after : Progress) (l r : ℕ) (l_in : l < length q.lecturer_cuts.items) (less : r ≤ get_or q.lecturer_cuts.items l 0)
    (now : after.lecturer_cuts.items ≡ set q.lecturer_cuts.items l r) (same : after.project_cuts.items ≡ q.project_cuts.items) where
  pub lecturer_cut_more : (x u : ℕ) → IsPastCut i q x u → IsPastCut i after x u
  lecturer_cut_more x u (inl past) = inl (rw same past)
  lecturer_cut_more x u (inr past) = inr (rw now (omega (arith, falls q.lecturer_cuts.items l r l_in less (lecturer_of i u))))

  pub lecturer_cut_new : (x u : ℕ) → IsPastCut i after x u
      → IsPastCut i q x u ⊎ ((lecturer_of i u ≡ l) × (r ≤ rank_of i l x))
  lecturer_cut_new x u (inl past) = inl (inl (rw same at past))
  lecturer_cut_new x u (inr past) = search (rules, get_or-set_same, get_or-set_other)

pub fallen_project_marks : (i : Spa) (q : Progress) → AreMarks i q → (p r : ℕ) (v : Vec ℕ Global)
    → p < length q.project_cuts.items → r ≤ get_or q.project_cuts.items p 0 → v.items ≡ set q.project_cuts.items p r
    → AreMarks i (record q { project_cuts = v })
fallen_project_marks i q marks p r v p_in less now = search (rules, length-set, falls, project_cut_more)

pub fallen_lecturer_marks : (i : Spa) (q : Progress) → AreMarks i q → (l r : ℕ) (v : Vec ℕ Global)
    → l < length q.lecturer_cuts.items → r ≤ get_or q.lecturer_cuts.items l 0 → v.items ≡ set q.lecturer_cuts.items l r
    → AreMarks i (record q { lecturer_cuts = v })
fallen_lecturer_marks i q marks l r v l_in less now = search (rules, length-set, falls, lecturer_cut_more)

-- who stands no better than a student whose pair may be deleted may have it deleted too
spent_below_project : (i : Spa) (m : List (Option ℕ)) (p w t : ℕ) → ProjectSpent i m p w
    → rank_of i (lecturer_of i p) w ≤ rank_of i (lecturer_of i p) t → ProjectSpent i m p t
spent_below_project i m p w t spent le = record { full = spent.full; before = λ x e. omega (arith, spent.before x e) }

spent_below_lecturer : (i : Spa) (m : List (Option ℕ)) (l w t : ℕ) → LecturerSpent i m l w
    → rank_of i l w ≤ rank_of i l t → LecturerSpent i m l t
spent_below_lecturer i m l w t spent le = record { full = spent.full; before = λ x q e own. omega (arith, spent.before x q e own) }

-- where the cuts are the same, the same pairs are deleted
held_on : (i : Spa) (m : List (Option ℕ)) (q after : Progress) → KeepsCuts q after → IsProvisional i m (IsCut i q)
    → IsProvisional i m (IsCut i after)
held_on i m q after cuts holds = search (rules, same_cut, was_cut)

-- the entries before the next one are deleted
earlier_cut : (i : Spa) (q : Progress) → AreMarks i q → (s p : ℕ) → IsNextEntry i q s p → (u : ℕ)
    → IsBefore (choices_of i s) u p → IsCut i q s u
earlier_cut i q marks s p next u before = (omega (arith, before.0, before.1), marks.passed s u (omega (arith, before.0, next.at_cursor)))

-- A TURN: s was put at p
module _ (i : Spa) (lawful : IsLawful i) (q placed : Progress) (state : IsUnderWay i q) (s p : ℕ) (next : IsNextEntry i q s p)
    (puts : Puts s p q placed) (cuts : KeepsCuts q placed) (counts : AreCounts i placed) where
  in_range : s < length q.projects.items
  in_range = next_in_range i q placed state.marks s p next puts cuts

  now_at : get_or placed.project_counts.items p 0 ≡ at_project q.projects.items p + 1
  now_at = omega (arith, rw puts.projects at (counts.at_projects p), put_at_project i q.projects.items s p in_range next.free p, one_here p)

  now_with : get_or placed.lecturer_counts.items (lecturer_of i p) 0 ≡ at_lecturer i q.projects.items (lecturer_of i p) + 1
  now_with = omega (
    arith,
    rw puts.projects at (counts.at_lecturers (lecturer_of i p)),
    put_at_lecturer i q.projects.items s p in_range next.free (lecturer_of i p),
    one_here (lecturer_of i p),
  )

  -- nobody was let go
  pub placed_state : AreMarks i placed → get_or placed.project_counts.items p 0 ≤ capacity_of i p
      → get_or placed.lecturer_counts.items (lecturer_of i p) 0 ≤ limit_of i (lecturer_of i p) → IsUnderWay i placed
  placed_state marks room room_l = record {
    marks = marks;
    counts = counts;
    holds = subst (λ m. IsProvisional i m (IsCut i placed)) (sym puts.projects) (held_on i (set q.projects.items s (Some p)) q placed cuts
        (place_holds i q.projects.items (IsCut i q) state.holds s p in_range next.free next.acceptable
        (earlier_cut i q state.marks s p next) (omega (arith, now_at)) (omega (arith, now_with))));
  }

  -- a student was let go, and a cut fell to where the student stands
  gone_state : (w : ℕ) (after : Progress) → Leaves w placed after → AreMarks i after → AreCounts i after
      → IsProvisional i (set (set q.projects.items s (Some p)) w None) (IsCut i q)
      → ((x u : ℕ) → IsPastCut i placed x u → IsPastCut i after x u)
      → ((x u : ℕ) → IsPastCut i after x u → IsPastCut i placed x u ⊎ IsSpent i (set (set q.projects.items s (Some p)) w None) x u)
      → IsUnderWay i after
  gone_state w after leaves marks after_counts held more new = record {
    marks = marks;
    counts = after_counts;
    holds = subst (λ m. IsProvisional i m (IsCut i after)) (sym (leaves.projects ∙ ap (λ k. set k w None) puts.projects))
        (delete_holds i (set (set q.projects.items s (Some p)) w None) (IsCut i q) (IsCut i after) (ranked_of i lawful) held
        (λ x u gone. (gone.0, more x u (same_cut i q placed cuts x u gone.1)))
        (λ x u gone. elim (new x u gone.1) [ inl old ↦ inl (gone.0, was_cut i q placed cuts x u old) | inr now ↦ inr now ]));
  }

  -- the worst student at the project was let go
  pub project_state : (w : ℕ) (after : Progress) → capacity_of i p < get_or placed.project_counts.items p 0
      → IsWorstAt i placed.projects.items p w → Leaves w placed after
      → after.project_cuts.items ≡ set placed.project_cuts.items p (rank_of i (lecturer_of i p) w)
      → after.lecturer_cuts.items ≡ placed.lecturer_cuts.items → AreMarks i after → AreCounts i after → IsUnderWay i after
  project_state w after over worst leaves cut same marks after_counts =
      let worst_now : IsWorstAt i (set q.projects.items s (Some p)) p w = rw puts.projects at worst in
      let done = swap_at_project_holds i q.projects.items (IsCut i q) state.holds s p in_range next.free next.acceptable
      (earlier_cut i q state.marks s p next) (ranked_of i lawful) w
      (omega (arith, now_at, state.holds.matching.projects p)) worst_now.at worst_now.worst in
      gone_state w after leaves marks after_counts done.0
      (project_cut_more i placed after p (rank_of i (lecturer_of i p) w) p_in less cut same)
      (λ x u past. elim (project_cut_new i placed after p
      (rank_of i (lecturer_of i p) w) p_in less cut same x u past) [
        | inl old ↦ inl old
        | inr new ↦ inr
            (inr (rw new.0 (spent_below_project i (set (set q.projects.items s (Some p)) w None) p w x done.1 new.1)))
      ])
    where
      p_in : p < length placed.project_cuts.items
      p_in = omega (arith, lawful.known s p next.acceptable, ap length cuts.project_cuts, state.marks.project_rows)

      less : rank_of i (lecturer_of i p) w ≤ get_or placed.project_cuts.items p 0
      less = omega (arith, rank_at_below i placed (placed_uncut i q placed state.marks s p next puts cuts state.holds) w p worst.at)

  -- the lecturer's worst student was let go
  pub lecturer_state : (w : ℕ) (after : Progress) → get_or placed.project_counts.items p 0 ≤ capacity_of i p
      → limit_of i (lecturer_of i p) < get_or placed.lecturer_counts.items (lecturer_of i p) 0
      → IsWorstWith i placed.projects.items (lecturer_of i p) w → Leaves w placed after
      → after.project_cuts.items ≡ placed.project_cuts.items
      → after.lecturer_cuts.items ≡ set placed.lecturer_cuts.items (lecturer_of i p) (rank_of i (lecturer_of i p) w) → AreMarks i after
      → AreCounts i after → IsUnderWay i after
  lecturer_state w after room over worst leaves same cut marks after_counts =
      let worst_now : IsWorstWith i (set q.projects.items s (Some p)) (lecturer_of i p) w = rw puts.projects at worst in
      let done = swap_at_lecturer_holds i q.projects.items (IsCut i q) state.holds s p in_range next.free next.acceptable
      (earlier_cut i q state.marks s p next) (ranked_of i lawful) w worst_now.with_l.0 (omega (arith, now_at))
      (omega (arith, now_with, state.holds.matching.lecturers (lecturer_of i p))) worst_now.with_l.1 worst_now.with_l.2
      worst_now.worst in
      let spent : LecturerSpent i (set (set q.projects.items s (Some p)) w None) (lecturer_of i p) w = rw worst_now.with_l.2 at done.1 in
      gone_state w after leaves marks after_counts done.0
      (lecturer_cut_more i placed after (lecturer_of i p) (rank_of i (lecturer_of i p) w) l_in less cut same)
      (λ x u past. elim (lecturer_cut_new i placed after (lecturer_of i p)
      (rank_of i (lecturer_of i p) w) l_in less cut same x u past) [
        | inl old ↦ inl old
        | inr new ↦ inr
            (inl (rw new.0 (spent_below_lecturer i (set (set q.projects.items s (Some p)) w None) (lecturer_of i p) w x spent new.1)))
      ])
    where
      l_in : lecturer_of i p < length placed.lecturer_cuts.items
      l_in = omega (arith, lawful.offered p (lawful.known s p next.acceptable), ap length cuts.lecturer_cuts, state.marks.lecturer_rows)

      less : rank_of i (lecturer_of i p) w ≤ get_or placed.lecturer_cuts.items (lecturer_of i p) 0
      less = omega (
        arith,
        rank_with_below i placed (placed_uncut i q placed state.marks s p next puts cuts state.holds) w
            (lecturer_of i p) worst.with_l,
      )

-- THE CURSOR MOVES over entries that are cut
module _ (i : Spa) (q : Progress) (state : IsUnderWay i q) (s k : ℕ) (in_range : s < length i.choices)
    (free : project_of q.projects.items s ≡ None) (from : get_or q.cursors.items s 0 ≤ k) (to : k ≤ length (choices_of i s))
    (cut : (j : ℕ) → get_or q.cursors.items s 0 ≤ j → j < k → IsPastCut i q s (get_or (choices_of i s) j 0)) where
  -- each entry before the new place is cut
  pub passed_cut : (u : ℕ) → place (choices_of i s) u < k → IsPastCut i q s u
  passed_cut u h = elim (cases_lt (place (choices_of i s) u) (get_or q.cursors.items s 0)) [
    | inl before ↦ state.marks.passed s u before
    | inr after ↦ subst (IsPastCut i q s) (get_or-place (choices_of i s) u 0 (omega arith)) (cut (place (choices_of i s) u) after h)
  ]

  mover_in : s < length q.cursors.items
  mover_in = omega (arith, state.marks.cursor_rows)

  cursor_now : (x : ℕ)
      → (x ≡ s) × (get_or (set q.cursors.items s k) x 0 ≡ k) ⊎ (x ≢ s) × (get_or (set q.cursors.items s k) x 0 ≡ get_or q.cursors.items x 0)
  cursor_now x = search (rules, get_or-set_same, mover_in, get_or-set_other)

  pub moved_state : (v : Vec ℕ Global) → v.items ≡ set q.cursors.items s k → IsUnderWay i (record q { cursors = v })
  moved_state v now = search (rules, length-set, cursor_now, passed_cut)

  pub moved_next : (v : Vec ℕ Global) → v.items ≡ set q.cursors.items s k → k < length (choices_of i s)
      → (IsPastCut i q s (get_or (choices_of i s) k 0) → ⊥)
      → IsNextEntry i (record q { cursors = v }) s (get_or (choices_of i s) k 0)
  moved_next v now within uncut = search (rules, entry_acceptable, get_or-set_same, mover_in, passed_cut, place-get_or-le)

-- THE END: every student is settled
pub best_when_settled : (i : Spa) (q : Progress) → IsUnderWay i q
    → ((s : ℕ) → s < length i.choices → IsPlacedOrExhausted i q s)
    → IsBest i q.projects.items
best_when_settled i q state settled = best_at_end i q.projects.items (IsCut i q) state.holds
    (λ s p free on. (on, state.marks.passed s p (omega (arith, settled s (acceptable_in_range i s p on) free))))

-- the sum of the cursors is bounded
sum_within : (xs : List ℕ) (rows : List (List ℕ)) → length xs ≡ length rows
    → ((k : ℕ) → get_or xs k 0 ≤ length (get_or rows k [])) → sum_by (λ x. x) xs ≤ sum_by length rows
sum_within [] [] e h = omega arith
sum_within [] (r ∷ rows) e h = omega arith
sum_within (x ∷ xs) [] e h = absurd (omega arith)
sum_within (x ∷ xs) (r ∷ rows) e h = omega
    (arith, sum_by-cons (λ y. y) x xs, sum_by-cons length r rows, h 0, sum_within xs rows (omega arith) (λ k. h (suc k)))

pub cursors_within : (i : Spa) (q : Progress) → AreMarks i q → sum q.cursors.items ≤ sum_by length i.choices
cursors_within i q marks = sum_within q.cursors.items i.choices marks.cursor_rows marks.cursors

pub sum_moved : (xs : List ℕ) (s k w : ℕ) → s < length xs → get_or xs s 0 ≤ k → w < length xs
    → sum xs < sum (set (set xs s k) w (get_or (set xs s k) w 0 + 1))
sum_moved xs s k w s_in from w_in = omega (
  arith,
  sum_by-set (λ x. x) xs s k 0 s_in,
  sum_by-set (λ x. x) (set xs s k) w (get_or (set xs s k) w 0 + 1) 0 (omega (arith, length-set xs s k)),
)

-- THE START
abbrev pub zeros : ℕ → List ℕ
zeros n = replicate n 0

zero_there : (n p : ℕ) → get_or (zeros n) p 0 ≡ 0
zero_there n p = search (rules, get_or-replicate, get_or_past, length-replicate)

pub state_at_first : (i : Spa) → IsLawful i → (q : Progress) → q.projects.items ≡ replicate (length i.choices) None
    → q.cursors.items ≡ zeros (length i.choices)
    → q.project_counts.items ≡ zeros (length i.lecturers) → q.lecturer_counts.items ≡ zeros (length i.rankings)
    → length q.project_cuts.items ≡ length i.lecturers
    → ((p : ℕ) → p < length i.lecturers → get_or q.project_cuts.items p 0 ≡ length (ranking_of i (lecturer_of i p)))
    → length q.lecturer_cuts.items ≡ length i.rankings
    → ((l : ℕ) → l < length i.rankings → get_or q.lecturer_cuts.items l 0 ≡ length (ranking_of i l)) → IsUnderWay i q
state_at_first i lawful q nobody start no_counts no_counts_l rows cuts rows_l cuts_l = record {
  marks = record {
    lawful = lawful;
    assigned = record { students = ap length nobody ∙ matching.students; acceptable = λ s p e. absurd (free s p e) };
    cursor_rows = ap length start ∙ length-replicate (length i.choices) 0;
    project_rows = rows;
    lecturer_rows = rows_l;
    cursors = λ s. rw (start, zero_there (length i.choices) s) (omega arith);
    project_cuts = λ p. elim (cases_lt p (length i.lecturers)) [
      | inl h ↦ omega (arith, cuts p h)
      | inr h ↦ omega
          (arith, get_or_past q.project_cuts.items p 0 (omega arith))
    ];
    lecturer_cuts = λ l. elim (cases_lt l (length i.rankings)) [
      | inl h ↦ omega (arith, cuts_l l h)
      | inr h ↦ omega
          (arith, get_or_past q.lecturer_cuts.items l 0 (omega arith))
    ];
    passed = λ s p h. let none : place (choices_of i s) p < 0 = rw (start, zero_there (length i.choices) s) at h in absurd (omega arith);
    at_cursor = λ s p e. absurd (free s p e);
  };
  counts = record {
    project_rows = ap length no_counts ∙ length-replicate (length i.lecturers) 0;
    lecturer_rows = ap length no_counts_l ∙ length-replicate (length i.rankings) 0;
    at_projects = λ p. rw (no_counts, nobody, zero_there (length i.lecturers) p)
        (sym (none_counted (is_project p) (length i.choices) refl));
    at_lecturers = λ l. rw (no_counts_l, nobody, zero_there (length i.rankings) l)
        (sym (none_counted (is_lecturer i l) (length i.choices) refl));
  };
  holds = record {
    matching = rw nobody matching;
    first = λ s p u e h. absurd (free s u e);
    spent = λ t p gone. absurd (uncut t p gone);
    hopeless = λ t p gone n stable e. uncut t p gone;
  };
} where
  matching : IsMatching i (replicate (length i.choices) None)
  matching = nobody_matches i

  free : (s p : ℕ) → project_of q.projects.items s ≡ Some p → ⊥
  free s p e = let none = none_there_yet (length i.choices) s in
      let now : project_of (replicate (length i.choices) None) s ≡ Some p = rw nobody at e in cc

  uncut : (t p : ℕ) → IsCut i q t p → ⊥
  uncut t p (on, past) = search rules
