-- Groups of students, one student after the other.
use Rattle.spa_check.proofs.Base.{◌≡◌, ◌↔◌, ◌⊎◌, inl, inr, ℕ, ◌+◌, ◌<◌, false, List, length, take, get_or, Option, Some}
use Rattle.spa_check.proofs.Base.{None, refl, sym, ◌∙◌, ap, arith, cases_lt, Spa, IsWith, IsBefore, SomeWorseWith}
use Rattle.spa_check.proofs.Base.{place, ranking_of, lecturer_of, project_of, at_lecturer, Group, IsGroup, rules, max}
use Rattle.spa_check.proofs.Base.{set, cases_eq, eq-eqb, ne_eqb, length-set, get_or-set_same, get_or-set_other, IsOn}
use Rattle.spa_check.proofs.Base.{IsLawful, IsMatching, is_project, is_lecturer, at_project}
use Rattle.std.proofs.lemmas.List.Sums.{count_by_more_yes, count_by_more_no}
use Rattle.std.proofs.lemmas.Option.{same_Some}
use Rattle.spa_model.proofs.Counts.{off_project}

-- the same students
pub group_same : (list : List ℕ) (IsIn IsNow : ℕ → Type 0) (n k : ℕ) (g : Group) → ((t : ℕ) → IsIn t → IsNow t)
    → ((t : ℕ) → IsNow t → IsIn t) → k ≡ n → IsGroup list IsIn n g → IsGroup list IsNow k g
group_same list IsIn IsNow n k g to from same group = search rules

-- one more
pub group_joined : (list : List ℕ) (IsIn IsNow : ℕ → Type 0) (n k s depth : ℕ) (g h : Group)
    → ((t : ℕ) → IsIn t → IsNow t) → ((t : ℕ) → IsNow t → IsIn t ⊎ (t ≡ s)) → IsNow s → k ≡ n + 1
    → depth ≡ place list s + 1 → h.count ≡ g.count + 1 → h.depth ≡ max g.depth depth
    → IsGroup list IsIn n g → IsGroup list IsNow k h
group_joined list IsIn IsNow n k s depth g h to from new more deep count_is depth_is group = record {
  count = omega (arith, group.count);
  none_deeper = λ t there. grind arith;
  reached = λ _. elim (cases_lt g.depth depth) [
    | inl below ↦ (s, new, omega arith)
    | inr above ↦ let last = group.reached (omega arith) in (last.0, to last.0 last.1, omega (arith, last.2))
  ];
}

-- some member stands after s, where the group reaches further down
pub worse_from_depth : (list : List ℕ) (IsIn : ℕ → Type 0) (n s depth : ℕ) (g : Group) → IsGroup list IsIn n g
    → ((t : ℕ) → IsIn t → IsOn list t) → depth ≡ place list s + 1 → depth < g.depth
    → (t : ℕ) × IsIn t × IsBefore list s t
worse_from_depth list IsIn n s depth g group listed is deeper = search rules

pub depth_from_worse : (list : List ℕ) (IsIn : ℕ → Type 0) (n s depth t : ℕ) (g : Group) → IsGroup list IsIn n g
    → depth ≡ place list s + 1 → IsIn t → IsBefore list s t → depth < g.depth
depth_from_worse list IsIn n s depth t g group is there before = omega (arith, group.none_deeper t there, before.0)

-- who is with a lecturer stands on the lecturer's list
pub listed_with : (i : Spa) (m : List (Option ℕ)) (l : ℕ) → IsLawful i → IsMatching i m → (t : ℕ) → IsWith i m l t
    → IsOn (ranking_of i l) t
listed_with i m l lawful fits t (q, e, same) = rw same at (lawful.ranked t q (fits.acceptable t q e))

-- some student with l stands after s, by depth
pub worse_with : (i : Spa) (m : List (Option ℕ)) (l s depth : ℕ) (g : Group) → IsLawful i → IsMatching i m
    → IsGroup (ranking_of i l) (IsWith i m l) (at_lecturer i m l) g → depth ≡ place (ranking_of i l) s + 1
    → (depth < g.depth) ↔ SomeWorseWith i m l s
worse_with i m l s depth g lawful fits group is = search (rules, worse_from_depth, listed_with, depth_from_worse)

-- the groups of the first n students, each on its own list
pub record AreGroupsBefore (lists : ℕ → List ℕ) (IsIn : ℕ → ℕ → Type 0) (count : ℕ → ℕ → ℕ) (rows n : ℕ)
    (groups : List Group) : Type 0 where
  pub size : length groups ≡ rows
  pub each : (p : ℕ) (d : Group) → p < length groups
      → IsGroup (lists p) (λ t. (t < n) × IsIn p t) (count p n) (get_or groups p d)

module _ (lists : ℕ → List ℕ) (IsIn : ℕ → ℕ → Type 0) (count : ℕ → ℕ → ℕ) (rows n : ℕ) (groups : List Group)
    (so_far : AreGroupsBefore lists IsIn count rows n groups) where
  -- a group that the student n is not in
  still : (p : ℕ) (d : Group) → (IsIn p n → ⊥) × (count p (n + 1) ≡ count p n) → p < length groups
      → IsGroup (lists p) (λ t. (t < n + 1) × IsIn p t) (count p (n + 1)) (get_or groups p d)
  still p d off k =
      group_same (lists p) (λ t. (t < n) × IsIn p t) (λ t. (t < n + 1) × IsIn p t) (count p n) (count p (n + 1)) (get_or groups p d)
      (λ t there. (omega (arith, there.0), there.1))
      (λ t there. elim (cases_lt t n) [
        | inl before ↦ (before, there.1)
        | inr past ↦ let here : t ≡ n = omega (arith, there.0) in
            absurd (off.0 (rw here at there.1))
      ]) off.1 (so_far.each p d k)

  groups_skip : ((p : ℕ) → (IsIn p n → ⊥) × (count p (n + 1) ≡ count p n))
      → AreGroupsBefore lists IsIn count rows (n + 1) groups
  groups_skip off = record { size = so_far.size; each = λ p d. still p d (off p) }

  groups_more : (p depth : ℕ) (old new : Group) → IsIn p n → count p (n + 1) ≡ count p n + 1
      → ((q : ℕ) → (q ≡ p → ⊥) → (IsIn q n → ⊥) × (count q (n + 1) ≡ count q n)) → p < length groups
      → old ≡ get_or groups p old → depth ≡ place (lists p) n + 1 → new.count ≡ old.count + 1
      → new.depth ≡ max old.depth depth
      → AreGroupsBefore lists IsIn count rows (n + 1) (set groups p new)
  groups_more p depth old new at more others in_range read deep count_is depth_is = record {
    size = length-set groups p new ∙ so_far.size;
    each = λ q d k. elim (cases_eq q p) [
      | inl same ↦
          let mine : get_or (set groups p new) q d ≡ new = ap (λ r. get_or (set groups p new) r d) same
          ∙ get_or-set_same groups p new d in_range in
          rw (mine, same) (group_joined (lists p) (λ t. (t < n) × IsIn p t) (λ t. (t < n + 1) × IsIn p t) (count p n)
          (count p (n + 1)) n depth old new (λ t there. (omega (arith, there.0), there.1))
          (λ t there. elim (cases_lt t n) [ inl before ↦ inl (before, there.1) | inr past ↦ inr (omega (arith, there.0)) ])
          (omega arith, at) more deep count_is depth_is
          (let group = so_far.each p old in_range in rw (sym read) at group))
      | inr other ↦ rw (get_or-set_other groups p q new d other) (still q d (others q other) (omega (arith, length-set groups p new)))
    ];
  }

abbrev pub AreProjectGroupsBefore : Spa → List (Option ℕ) → ℕ → List Group → Type 0
AreProjectGroupsBefore i m = AreGroupsBefore (λ p. ranking_of i (lecturer_of i p)) (λ p t. project_of m t ≡ Some p)
    (λ p k. at_project (take k m) p) (length i.lecturers)

abbrev pub AreLecturerGroupsBefore : Spa → List (Option ℕ) → ℕ → List Group → Type 0
AreLecturerGroupsBefore i m = AreGroupsBefore (ranking_of i) (IsWith i m) (λ l k. at_lecturer i (take k m) l) (length i.rankings)

module _ (i : Spa) (m : List (Option ℕ)) where
  -- the student n is not at q, or not with l
  not_at : (n q : ℕ) → n < length m → (project_of m n ≡ Some q → ⊥)
      → (project_of m n ≡ Some q → ⊥) × (at_project (take (n + 1) m) q ≡ at_project (take n m) q)
  not_at n q h off = (off, count_by_more_no (is_project q) m n None h (off_project q (get_or m n None) off))

  off_lecturer : (l : ℕ) (o : Option ℕ) → ((q : ℕ) → o ≡ Some q → lecturer_of i q ≡ l → ⊥) → is_lecturer i l o ≡ false
  off_lecturer l None off = refl
  off_lecturer l (Some q) off = ne_eqb (lecturer_of i q) l (off q refl)

  not_with : (n l : ℕ) → n < length m → (IsWith i m l n → ⊥)
      → (IsWith i m l n → ⊥) × (at_lecturer i (take (n + 1) m) l ≡ at_lecturer i (take n m) l)
  not_with n l h off = (off, count_by_more_no (is_lecturer i l) m n None h (off_lecturer l (get_or m n None) (λ q e f. off (q, e, f))))

  pub project_groups_skip : (n : ℕ) (groups : List Group) → n < length m → project_of m n ≡ None
      → AreProjectGroupsBefore i m n groups → AreProjectGroupsBefore i m (n + 1) groups
  project_groups_skip n groups h free so_far =
      groups_skip (λ p. ranking_of i (lecturer_of i p)) (λ p t. project_of m t ≡ Some p) (λ p k. at_project (take k m) p)
      (length i.lecturers) n groups so_far (λ p. not_at n p h (λ e. absurd (cc)))

  pub lecturer_groups_skip : (n : ℕ) (groups : List Group) → n < length m → project_of m n ≡ None
      → AreLecturerGroupsBefore i m n groups → AreLecturerGroupsBefore i m (n + 1) groups
  lecturer_groups_skip n groups h free so_far =
      groups_skip (ranking_of i) (IsWith i m) (λ l k. at_lecturer i (take k m) l) (length i.rankings) n groups so_far
      (λ l. not_with n l h (λ (q, e, _). absurd (cc)))

  pub project_groups_more : (n p depth : ℕ) (groups : List Group) (old new : Group) → n < length m
      → project_of m n ≡ Some p → p < length groups → old ≡ get_or groups p old
      → depth ≡ place (ranking_of i (lecturer_of i p)) n + 1 → new.count ≡ old.count + 1
      → new.depth ≡ max old.depth depth
      → AreProjectGroupsBefore i m n groups → AreProjectGroupsBefore i m (n + 1) (set groups p new)
  project_groups_more n p depth groups old new h at in_range read deep count_is depth_is so_far =
      groups_more (λ p. ranking_of i (lecturer_of i p)) (λ p t. project_of m t ≡ Some p) (λ p k. at_project (take k m) p)
      (length i.lecturers) n groups so_far p depth old new at
      (count_by_more_yes (is_project p) m n None h (ap (is_project p) at ∙ eq-eqb p p refl))
      (λ q other. not_at n q h (λ e. other (same_Some _ _ (sym e ∙ at)))) in_range read deep count_is depth_is

  pub lecturer_groups_more : (n p l depth : ℕ) (groups : List Group) (old new : Group) → n < length m
      → project_of m n ≡ Some p → l ≡ lecturer_of i p → l < length groups → old ≡ get_or groups l old
      → depth ≡ place (ranking_of i l) n + 1 → new.count ≡ old.count + 1 → new.depth ≡ max old.depth depth
      → AreLecturerGroupsBefore i m n groups → AreLecturerGroupsBefore i m (n + 1) (set groups l new)
  lecturer_groups_more n p l depth groups old new h at is in_range read deep count_is depth_is so_far =
      groups_more (ranking_of i) (IsWith i m) (λ l k. at_lecturer i (take k m) l) (length i.rankings) n groups so_far l depth old new
      (p, at, sym is) (count_by_more_yes (is_lecturer i l) m n None h (ap (is_lecturer i l) at ∙ eq-eqb (lecturer_of i p) l (sym is)))
      (λ q other. not_with n q h (λ (r, e, f). other (sym f ∙ ap (lecturer_of i) (same_Some _ _ (sym e ∙ at)) ∙ sym is))) in_range read deep
      count_is depth_is
