-- The tables as made, with the rows of the office and of no second round, and the six's upgrade.
use Rattle.portal_tables.proofs.Base.{◌≡◌, ◌≢◌, ◌∷◌, ℕ, pos, true, not, eqb, List, [], Result, Ok, refl, sym, ap, subst}
use Rattle.portal_tables.proofs.Base.{◌∙◌, AllByRecursion, list_all, Database, Ghosts, state, Error, Transaction}
use Rattle.portal_tables.proofs.Base.{portal_tree, lecturer_tree, project_tree, student_tree, choice_tree, ranking_tree}
use Rattle.portal_tables.proofs.Base.{second_tree, later_trees}
use Rattle.portal_tables.proofs.Base.{first_trees, second_trees, own_trees, version, first_version, IsCurrentSchema}
use Rattle.portal_tables.proofs.Base.{RowNumbersDiffer, with_rows, Adds, IsOfVersion, portal_cells, portal_row}
use Rattle.portal_tables.proofs.Base.{second_cells, second_row, second_texts, Makes, MakesEach, Creates, IsFresh, Upgrades, Made}
use Rattle.portal_tables.proofs.Base.{GoesOn, Does, all_weaker, all-append}
use Rattle.portal_tables.proofs.Keeping.{apart_one, apart_none, others_are}
use Rattle.portal_tables.proofs.Making.{second_made, second_current, parts_of}
use Rattle.portal_tables.proofs.Owned.{own_made}
use Rattle.portal_tables.proofs.Runs.{does_three}
use Rattle.portal_tables.proofs.Sorted.{all_two}

-- the five behind `portal`
abbrev middle : List ℕ
middle = lecturer_tree ∷ project_tree ∷ student_tree ∷ choice_tree ∷ ranking_tree ∷ []

module _ {S A : Type 0} (g : Ghosts S) (r : Result A Error) (a b c d : Transaction S) where
  abbrev now : Transaction S → Database
  now tx = (state g tx.conn.now).now

  -- all are made, and the two rows come
  pub fresh_made : (office : List ℕ) → Does g (GoesOn Makes) (Ok (tt {0})) a b
      → Does g (Made (Adds portal_tree (portal_cells (pos version) (pos 0) office ∷ []))) (Ok (tt {0})) b c
      → Does g (Made (Adds second_tree (second_cells (pos 0) ∷ []))) r c d → Does g (GoesOn (Creates office)) r a d
  fresh_made office p q s = does_three g _ _ _ (Creates office) _ _ r a b c d p q s (λ make add say has.
      let there = make has in
      let none : AllByRecursion (λ t. (now b).trees t ≡ []) own_trees = there.empty in
      let put = add (own_made (now b).schema there.schema_is) in
      let says = say (own_made (now c).schema (put.schema_is ∙ there.schema_is)) in
      let filled : AllByRecursion (λ t. t ≢ portal_tree → (now c).trees t ≡ []) own_trees =
      all_two (λ t. t ≢ portal_tree → (now c).trees t ≡ (now b).trees t) (λ t. (now b).trees t ≡ [])
      (λ t. t ≢ portal_tree → (now c).trees t ≡ []) (λ t same none other. same other ∙ none) own_trees put.others none in
      record {
        schema_is = says.schema_is ∙ put.schema_is ∙ there.schema_is;
        row = says.others.0 (λ e. absurd (cc)) ∙ put.rows
            ∙ ap (λ rows. with_rows rows (portal_cells (pos version) (pos 0) office ∷ [])) none.0;
        second = says.rows ∙ ap (λ rows. with_rows rows (second_cells (pos 0) ∷ []))
            (put.others.1.1.1.1.1.1.0 (λ e. absurd (cc)) ∙ none.1.1.1.1.1.1.0);
        others = all_two (λ t. t ≢ second_tree → (now d).trees t ≡ (now c).trees t) (λ t. t ≢ portal_tree → (now c).trees t ≡ [])
            (λ t. t ≢ portal_tree → t ≢ second_tree → (now d).trees t ≡ [])
            (λ t same none other apart. same apart ∙ none other) own_trees says.others filled;
        sound = says.sound (λ _. put.sound (λ _. there.sound (λ none. absurd (cc))));
      })

  -- beside the six the five are made, the row of `second` comes and the version is set
  pub upgraded : Does g (GoesOn (MakesEach second_texts)) (Ok (tt {0})) a b
      → Does g (Made (Adds second_tree (second_cells (pos 0) ∷ []))) (Ok (tt {0})) b c
      → Does g (Made (IsOfVersion version)) r c d
      → Does g (GoesOn Upgrades) r a d
  upgraded p q s = does_three g _ _ _ Upgrades _ _ r a b c d p q s (λ make say set own phase office row.
      let has = second_made (now a) (now b) make own in
      let current : IsCurrentSchema (now b).schema = subst IsCurrentSchema (sym has.schema_is) (second_current (now a).schema own) in
      let says = say current in
      let there : IsCurrentSchema (now c).schema = subst IsCurrentSchema (sym says.schema_is) current in
      let done = set there (pos first_version) phase office (says.others.0 (λ e. absurd (cc)) ∙ has.same.0 ∙ row) in
      let said = parts_of (λ t. t ≢ second_tree → (now c).trees t ≡ (now b).trees t) first_trees second_trees says.others in
      let told = parts_of (λ t. t ≢ portal_tree → (now d).trees t ≡ (now c).trees t) first_trees second_trees done.others in
      let joined : (x y z : Database) (trees : List ℕ) → AllByRecursion (λ t. z.trees t ≡ y.trees t) trees
      → AllByRecursion (λ t. y.trees t ≡ x.trees t) trees → AllByRecursion (λ t. z.trees t ≡ x.trees t) trees =
      λ x y z. all_two (λ t. z.trees t ≡ y.trees t) (λ t. y.trees t ≡ x.trees t) (λ t. z.trees t ≡ x.trees t) (λ t e f. e ∙ f) in
      record {
        current = subst IsCurrentSchema (sym done.schema_is) there;
        portal = done.rows;
        others = all_two (λ t. t ≢ portal_tree → (now d).trees t ≡ (now c).trees t) (λ t. (now c).trees t ≡ (now a).trees t)
            (λ t. t ≢ portal_tree → (now d).trees t ≡ (now a).trees t) (λ t e f other. e other ∙ f) first_trees told.0
            (joined (now a) (now b) (now c) first_trees
            (others_are (λ t. (now c).trees t ≡ (now b).trees t) second_tree first_trees refl said.0) has.same);
        second = told.1.0 (λ e. absurd (cc)) ∙ says.rows ∙ ap (λ rows. with_rows rows (second_cells (pos 0) ∷ [])) has.empty.0;
        empty = all_two (λ t. (now d).trees t ≡ (now b).trees t) (λ t. (now b).trees t ≡ []) (λ t. (now d).trees t ≡ [])
            (λ t e f. e ∙ f) later_trees
            (joined (now b) (now c) (now d) later_trees
            (others_are (λ t. (now d).trees t ≡ (now c).trees t) portal_tree later_trees refl told.1.1)
            (others_are (λ t. (now c).trees t ≡ (now b).trees t) second_tree later_trees refl said.1.1)) has.empty.1;
        sound = done.sound;
      })

-- there each row has a number of its own
pub fresh_apart : (office : List ℕ) (db : Database) → IsFresh office db
    → AllByRecursion (λ t. RowNumbersDiffer (db.trees t)) own_trees
fresh_apart office db f =
    let parts = parts_of (λ t. t ≢ portal_tree → t ≢ second_tree → db.trees t ≡ []) middle second_trees f.others.1 in
    let none : (trees : List ℕ) → AllByRecursion (λ t. db.trees t ≡ []) trees
    → AllByRecursion (λ t. RowNumbersDiffer (db.trees t)) trees =
    all_weaker (λ t. db.trees t ≡ []) (λ t. RowNumbersDiffer (db.trees t)) (λ t. apart_none (db.trees t)) in
    let those : (trees : List ℕ) → list_all (λ t. not (eqb t portal_tree)) trees ≡ true
    → list_all (λ t. not (eqb t second_tree)) trees ≡ true
    → AllByRecursion (λ t. t ≢ portal_tree → t ≢ second_tree → db.trees t ≡ []) trees
    → AllByRecursion (λ t. RowNumbersDiffer (db.trees t)) trees =
    λ trees p s all. none trees (others_are (λ t. db.trees t ≡ []) second_tree trees s
    (others_are (λ t. t ≢ second_tree → db.trees t ≡ []) portal_tree trees p all)) in (
      apart_one (db.trees portal_tree) (portal_row (pos version) (pos 0) office) (pos 1) refl f.row,
      all-append (λ t. RowNumbersDiffer (db.trees t)) middle second_trees (those middle refl refl parts.0)
          (apart_one (db.trees second_tree) (second_row (pos 0)) (pos 1) refl f.second, those later_trees refl refl parts.1.1),
    )
