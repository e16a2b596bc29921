-- What stays where one or two tables have changed.
use Rattle.portal_store.proofs.Base.{◌≡◌, ◌≢◌, inl, inr, ℕ, Bool, true, false, not, ◌||◌, cond, eqb, if◌then◌else◌}
use Rattle.portal_store.proofs.Base.{List, [], ◌∷◌, slice_index_or, refl, sym, ap, subst, ◌∙◌, AllByRecursion, list_all}
use Rattle.portal_store.proofs.Base.{list_any, column, Database, IsDatabase, number_in, with_tree, Round, First, Second}
use Rattle.portal_store.proofs.Base.{all_weaker, HasFirstSchema, IsCurrentSchema, RowNumbersDiffer, row_key, Keeps}
use Rattle.portal_store.proofs.Base.{HasOffice, tree_of, of_key, IsWhole, portal_tree, lecturer_tree, student_tree}
use Rattle.portal_store.proofs.Base.{second_tree, first_trees, own_trees, version, others_are, parts_of, all_two}
use Rattle.portal_store.proofs.Base.{choice_table, ranking_table, is_ranked, phase_numbered, world_in, AllNumbersDiffer}
use Rattle.portal_store.proofs.Base.{IsUnopened, IsConsistentIn, Whole, eqb-false, eqb_tells, second_trees, IsOpened}
use Rattle.sqlite_trees.specs.Tree.{Trees}

-- numbers of rows differ, where they do in the one table that has changed
pub apart_among : (trees : List ℕ) (tree : ℕ) (old new : Trees) → AllByRecursion (λ t. t ≢ tree → new t ≡ old t) trees
    → RowNumbersDiffer (new tree) → AllNumbersDiffer trees old → AllNumbersDiffer trees new
apart_among trees tree old new keeps apart was =
    all_two (λ t. t ≢ tree → new t ≡ old t) (λ t. RowNumbersDiffer (old t)) (λ t. RowNumbersDiffer (new t))
    (λ t same a. elim (eqb_tells t tree) [
      | inl met ↦ subst (λ x. RowNumbersDiffer (new x)) (sym met.1) apart
      | inr missed ↦ subst RowNumbersDiffer (sym (same missed.1)) a
    ]) trees keeps was

pub apart_kept : (tree : ℕ) (old new : Database) → Keeps tree old new → RowNumbersDiffer (new.trees tree)
    → AllNumbersDiffer own_trees old.trees → AllNumbersDiffer own_trees new.trees
apart_kept tree old new = apart_among own_trees tree old.trees new.trees

-- what is so of each of the trees is so of one of them
one_of : (P : ℕ → Type 0) (trees : List ℕ) → AllByRecursion P trees → (t : ℕ) → list_any (λ x. eqb x t) trees ≡ true
    → P t
one_of P [] all t h = absurd (cc)
one_of P (x ∷ trees) all t h = elim (eqb_tells x t) [
  | inl met ↦ subst P met.1 all.0
  | inr missed ↦ one_of P trees all.1 t (ap (λ b. b || list_any (λ y. eqb y t) trees) (sym missed.0) ∙ h)
]

-- a table that is another than the one that has changed
pub kept_at : (tree : ℕ) (old new : Database) → Keeps tree old new → (t : ℕ) → list_any (λ x. eqb x t) own_trees ≡ true
    → eqb t tree ≡ false → new.trees t ≡ old.trees t
kept_at tree old new keeps t there other =
    one_of (λ x. x ≢ tree → new.trees x ≡ old.trees x) own_trees keeps t there (eqb-false t tree other)

-- Tables are compared by some trees alone: what reads no others reads the same, by computation.

abbrev among : List ℕ → Trees → Trees
among trees db t = if list_any (λ x. eqb x t) trees then db t else []

same_among : (trees : List ℕ) (old new : Trees) → AllByRecursion (λ t. new t ≡ old t) trees
    → among trees new ≡ among trees old
same_among trees old new same = λ i t. go t (list_any (λ x. eqb x t) trees) (one_of (λ x. new x ≡ old x) trees same t) i
  where
    go : (t : ℕ) (b : Bool) → (b ≡ true → new t ≡ old t) → (if b then new t else []) ≡ (if b then old t else [])
    go t true h = h refl
    go t false h = refl

-- the old tables but for this one, which is the new; and but for two, of which one changed first
abbrev pub but_one : ℕ → Database → Database → Trees
but_one tree old new = with_tree old.trees tree (new.trees tree)

abbrev pub but_two : ℕ → ℕ → Database → Database → Database → Trees
but_two s t old mid new = with_tree (but_one s old mid) t (new.trees t)

pub one_among : (trees : List ℕ) (tree : ℕ) (old new : Trees) → AllByRecursion (λ t. t ≢ tree → new t ≡ old t) trees
    → AllByRecursion (λ t. new t ≡ with_tree old tree (new tree) t) trees
one_among trees tree old new keeps =
    all_weaker (λ t. t ≢ tree → new t ≡ old t) (λ t. new t ≡ with_tree old tree (new tree) t) (λ t same. elim (eqb_tells t tree) [
      | inl met ↦ ap new met.1 ∙ sym (ap (λ b. cond b (new tree) (old t)) met.0)
      | inr missed ↦ same missed.1 ∙ sym (ap (λ b. cond b (new tree) (old t)) missed.0)
    ]) trees keeps

pub one_changed : (tree : ℕ) (old new : Database) → Keeps tree old new
    → AllByRecursion (λ t. new.trees t ≡ but_one tree old new t) own_trees
one_changed tree old new = one_among own_trees tree old.trees new.trees

pub two_changed : (s t : ℕ) (old mid new : Database) → Keeps s old mid → Keeps t mid new
    → AllByRecursion (λ x. new.trees x ≡ but_two s t old mid new x) own_trees
two_changed s t old mid new first next =
    all_two (λ x. mid.trees x ≡ but_one s old mid x) (λ x. new.trees x ≡ but_one t mid new x) (λ x. new.trees x ≡ but_two s t old mid new x)
    (λ x p q. q ∙ ap (λ rows. cond (eqb x t) (new.trees t) rows) p) own_trees
    (one_changed s old mid first) (one_changed t mid new next)

-- the world of tables that are the same

first_of : (old new : Trees) → AllByRecursion (λ t. new t ≡ old t) own_trees
    → AllByRecursion (λ t. new t ≡ old t) first_trees
first_of old new same = (parts_of (λ t. new t ≡ old t) first_trees second_trees same).0

pub world_first : (old new : Trees) → AllByRecursion (λ t. new t ≡ old t) first_trees
    → world_in First new ≡ world_in First old
unfolding world_in
world_first old new same = ap (world_in First) (same_among first_trees old new same)

pub world_same : (round : Round) (old new : Trees) → AllByRecursion (λ t. new t ≡ old t) own_trees
    → world_in round new ≡ world_in round old
unfolding world_in
world_same First old new same = world_first old new (first_of old new same)
world_same Second old new same = ap (world_in Second) (same_among own_trees old new same)

pub world_after : (round : Round) (tree : ℕ) (old new : Database) → Keeps tree old new
    → world_in round new.trees ≡ world_in round (but_one tree old new)
world_after round tree old new keeps = world_same round (but_one tree old new) new.trees (one_changed tree old new keeps)

-- their lists

abbrev Lists : Round → Trees → Type 0
Lists round db =
    AllByRecursion (λ r. IsWhole (of_key (row_key r) (db (tree_of (choice_table round))))) (db student_tree)
    × AllByRecursion (λ r. IsWhole (of_key (row_key r) (db (tree_of (ranking_table round))))) (db lecturer_tree)
    × AllByRecursion (λ r. is_ranked round db r ≡ false → of_key (row_key r) (db (tree_of (ranking_table round))) ≡ []) (db lecturer_tree)

whole_of : (round : Round) (db : Trees) → Lists round db → Whole round db
whole_of round db lists = record { choices = lists.0; rankings = lists.1; ranked = lists.2 }

pub whole_first : (old new : Trees) → AllByRecursion (λ t. new t ≡ old t) first_trees → Whole First old
    → Whole First new
whole_first old new same was = whole_of First new
    (subst (Lists First) (sym (same_among first_trees old new same)) (was.choices, was.rankings, was.ranked))

pub whole_same : (round : Round) (old new : Trees) → AllByRecursion (λ t. new t ≡ old t) own_trees → Whole round old
    → Whole round new
whole_same First old new same was = whole_first old new (first_of old new same) was
whole_same Second old new same was = whole_of Second new
    (subst (Lists Second) (sym (same_among own_trees old new same)) (was.choices, was.rankings, was.ranked))

-- In the first round

-- the second round's tables, where the one that has changed is of the first
abbrev pub IsOfFirst : ℕ → Type 0
IsOfFirst tree = list_all (λ t. not (eqb t tree)) second_trees ≡ true

pub second_kept : (tree : ℕ) (old new : Database) → IsOfFirst tree → Keeps tree old new → IsUnopened old.trees
    → IsUnopened new.trees
second_kept tree old new of_first keeps was =
    let same : AllByRecursion (λ t. new.trees t ≡ old.trees t) second_trees =
    others_are (λ t. new.trees t ≡ old.trees t) tree second_trees of_first
    (parts_of (λ t. t ≢ tree → new.trees t ≡ old.trees t) first_trees second_trees keeps).1 in
    record {
      is = same.0 ∙ was.is;
      says = (same.1.0 ∙ was.says.0, (same.1.1.0 ∙ was.says.1.0, (same.1.1.1.0 ∙ was.says.1.1.0, (same.1.1.1.1.0 ∙ was.says.1.1.1.0, tt))));
    }

-- what the store keeps, where one table of the first round has changed
pub holds_after : (tree : ℕ) (old new : Database) → IsOfFirst tree → IsConsistentIn First old → Keeps tree old new
    → new.schema ≡ old.schema → IsDatabase new → RowNumbersDiffer (new.trees tree)
    → HasOffice version (but_one tree old new portal_tree) → Whole First (but_one tree old new) → IsConsistentIn First new
holds_after tree old new of_first was keeps schema sound apart office whole =
    let same = one_changed tree old new keeps in
    record {
      current = subst IsCurrentSchema (sym schema) was.current;
      own = subst HasFirstSchema (sym schema) was.own;
      sound = sound;
      apart = apart_kept tree old new keeps apart was.apart;
      office = subst (HasOffice version) (sym same.0) office;
      second = second_kept tree old new of_first keeps was.second;
      whole = whole_same First (but_one tree old new) new.trees same whole;
    }

-- In the second round

abbrev pub IsOfSecond : ℕ → Type 0
IsOfSecond tree = list_all (λ t. not (eqb t tree)) first_trees ≡ true

abbrev pub KeepsFirst : Database → Database → Type 0
KeepsFirst old new = AllByRecursion (λ t. new.trees t ≡ old.trees t) first_trees

-- the first round's tables are as they were, where the one that has changed is of the second
pub first_kept : (tree : ℕ) (old new : Database) → IsOfSecond tree → Keeps tree old new → KeepsFirst old new
first_kept tree old new of_second keeps =
    others_are (λ t. new.trees t ≡ old.trees t) tree first_trees of_second
    (parts_of (λ t. t ≢ tree → new.trees t ≡ old.trees t) first_trees second_trees keeps).0

pub first_then : (a b c : Database) → KeepsFirst a b → KeepsFirst b c → KeepsFirst a c
first_then a b c p q = all_two (λ t. b.trees t ≡ a.trees t) (λ t. c.trees t ≡ b.trees t) (λ t. c.trees t ≡ a.trees t)
    (λ t x y. y ∙ x) first_trees p q

-- the first round is published still
pub opened_kept : (old new : Trees) → new portal_tree ≡ old portal_tree → new second_tree ≡ old second_tree
    → IsOpened old → IsOpened new
opened_kept old new portal second was = record {
  phase = was.phase;
  is = second ∙ was.is;
  opened = was.opened;
  first = ap (λ rows. phase_numbered (number_in (column (slice_index_or rows 0 []) 3))) portal ∙ was.first;
}

-- what the store keeps, where the first round's tables are as they were
pub holds_second : (old new : Database) → IsConsistentIn Second old → KeepsFirst old new → new.schema ≡ old.schema
    → IsDatabase new → AllNumbersDiffer own_trees new.trees → IsOpened new.trees → Whole Second new.trees
    → IsConsistentIn Second new
holds_second old new was same schema sound apart opened whole = record {
  current = subst IsCurrentSchema (sym schema) was.current;
  own = subst HasFirstSchema (sym schema) was.own;
  sound = sound;
  apart = apart;
  office = subst (HasOffice version) (sym same.0) was.office;
  second = opened;
  whole = (whole_first old.trees new.trees same was.whole.0, whole);
}

-- where one table of the second round has changed
pub holds_there : (tree : ℕ) (old new : Database) → IsOfSecond tree → IsConsistentIn Second old → Keeps tree old new
    → new.schema ≡ old.schema → IsDatabase new → RowNumbersDiffer (new.trees tree)
    → IsOpened (but_one tree old new) → Whole Second (but_one tree old new) → IsConsistentIn Second new
holds_there tree old new of_second was keeps schema sound apart opened whole =
    let same = one_changed tree old new keeps in
    holds_second old new was (first_kept tree old new of_second keeps) schema sound (apart_kept tree old new keeps apart was.apart)
    (opened_kept (but_one tree old new) new.trees same.0 same.1.1.1.1.1.1.0 opened)
    (whole_same Second (but_one tree old new) new.trees same whole)
