-- Refutes tables that are made or upgraded with a row forgotten, a version left or a list lost, and a
-- commit that is answered too early.
use Rattle.std.proofs.Common.{◌≡◌, ◌≢◌, ℕ, List, [], ◌∷◌, length, refl, sym, ap, ◌∙◌, arith, true, false}
use Rattle.std.specs.List.{AllByRecursion}
use Rattle.std.specs.Prelude.{codes, pos, if◌then◌else◌, ◌==◌}
use Rattle.sqlite.specs.Effect.{Database, IsDatabase}
use Rattle.sqlite.specs.State.{State}
use Rattle.sqlite.specs.Tree.{Trees}
use Rattle.sqlite.specs.Order.{Row, column}
use Rattle.sqlite.specs.declared.types.Value.TheVariants.{Int}
use Rattle.sqlite_trees.specs.Objects.{number_in}
use Rattle.portal_rules.specs.Words.{Key}
use Rattle.portal_tables.specs.Making.{Creates, IsFresh, Upgraded}
use Rattle.portal_tables.specs.Rows.{portal_row, second_row}
use Rattle.portal_tables.specs.Steps.{Commits, LeavesOnly, Stays}
use Rattle.portal_tables.specs.Tables.{no_schema, own_trees, portal_schema, portal_tree, second_tree}

abbrev pub office : Key
office = codes "office-code-0"

-- the rows of these three tables, and none of any other
abbrev pub tables : List Row → List Row → List Row → Trees
tables portal second choice t =
    if t == 0 then portal else (if t == 15 then second else (if t == 9 then choice else []))

-- the rows that a new portal has
abbrev pub fresh : Trees
fresh = tables (portal_row (pos 2) (pos 0) office ∷ []) (second_row (pos 0) ∷ []) []

abbrev pub nothing : Trees
nothing t = []

-- how many rows the table of the office has
abbrev pub offices : Trees → ℕ
offices db = length (db 0)

-- ---- a portal that is made

pub portal_without_a_row_is_not_fresh : (db : Database) → db.trees ≡ nothing → IsFresh office db → ⊥
portal_without_a_row_is_not_fresh db is made = omega (arith, ap offices is, ap (λ (rows : List Row). length rows) made.row)

pub portal_with_another_row_of_the_office_is_not_fresh : (db : Database)
    → db.trees
    ≡ tables (portal_row (pos 2) (pos 0) office ∷ portal_row (pos 2) (pos 0) office ∷ []) (second_row (pos 0) ∷ []) []
    → IsFresh office db → ⊥
portal_with_another_row_of_the_office_is_not_fresh db is made = omega (arith, ap offices is, ap (λ (rows : List Row). length rows) made.row)

pub portal_in_ranking_is_not_fresh : (db : Database)
    → db.trees ≡ tables (portal_row (pos 2) (pos 2) office ∷ []) (second_row (pos 0) ∷ []) [] → IsFresh office db → ⊥
portal_in_ranking_is_not_fresh db is made = omega (arith, ap phase (sym (ap (λ (t : Trees). t 0) is) ∙ made.row))
  where
    phase : List Row → ℕ
    phase [] = 0
    phase (r ∷ rows) = number_in (column r 3)

pub row_of_the_second_round_forgotten_is_not_fresh : (db : Database)
    → db.trees ≡ tables (portal_row (pos 2) (pos 0) office ∷ []) [] [] → IsFresh office db → ⊥
row_of_the_second_round_forgotten_is_not_fresh db is made =
    omega (arith, ap (λ (t : Trees). length (t 15)) is, ap (λ (rows : List Row). length rows) made.second)

pub fresh_rows_are_fresh : (db : Database) → db.schema ≡ portal_schema → db.trees ≡ fresh → IsDatabase db
    → IsFresh office db
fresh_rows_are_fresh db schema is sound = record {
  schema_is = schema;
  row = ap (λ (t : Trees). t 0) is;
  second = ap (λ (t : Trees). t 15) is;
  others = others;
  sound = sound;
} where
  none : (t : ℕ) → db.trees t ≡ fresh t
  none t = ap (λ (trees : Trees). trees t) is

  others : AllByRecursion (λ t. t ≢ portal_tree → t ≢ second_tree → db.trees t ≡ []) own_trees
  others = (
    (λ a b. absurd (a refl)),
    (
      (λ a b. none 1),
      (
        (λ a b. none 4),
        (
          (λ a b. none 6),
          (
            (λ a b. none 9),
            (
              (λ a b. none 12),
              (
                (λ a b. absurd (b refl)),
                ((λ a b. none 16), ((λ a b. none 19), ((λ a b. none 21), ((λ a b. none 24), tt)))),
              ),
            ),
          ),
        ),
      ),
    ),
  )

-- ---- version 1 that is upgraded, in published, with a row of a list

abbrev choice_rows : List Row
choice_rows = (Int (pos 1) ∷ []) ∷ []

abbrev first : Trees
first = tables (portal_row (pos 1) (pos 3) office ∷ []) [] choice_rows

-- the version in the first row of `portal`
abbrev pub version_in : List Row → ℕ
version_in [] = 0
version_in (r ∷ rows) = number_in (column r 2)

pub version_that_is_left_is_not_upgraded : (old new : Database) → new.trees ≡ first → Upgraded (pos 3) office old new
    → ⊥
version_that_is_left_is_not_upgraded old new is made = omega (arith, ap version_in (sym (ap (λ (t : Trees). t 0) is) ∙ made.portal))

pub row_of_the_second_round_forgotten_is_not_upgraded : (old new : Database)
    → new.trees ≡ tables (portal_row (pos 2) (pos 3) office ∷ []) [] choice_rows → Upgraded (pos 3) office old new → ⊥
row_of_the_second_round_forgotten_is_not_upgraded old new is made =
    omega (arith, ap (λ (t : Trees). length (t 15)) is, ap (λ (rows : List Row). length rows) made.second)

pub list_that_is_lost_is_not_upgraded : (old new : Database) → old.trees ≡ first
    → new.trees ≡ tables (portal_row (pos 2) (pos 3) office ∷ []) (second_row (pos 0) ∷ []) []
    → Upgraded (pos 3) office old new → ⊥
list_that_is_lost_is_not_upgraded old new was is made =
    omega (
      arith,
      ap (λ (t : Trees). length (t 9)) was,
      ap (λ (t : Trees). length (t 9)) is,
      ap (λ (rows : List Row). length rows) (made.others.1.1.1.1.0 (λ e. absurd (omega (arith, e)))),
    )

-- ---- a commit

pub answer_before_the_commit_does_not_commit : (Change : Database → Database → Type 0) (old new : State)
    → new.committed.trees ≡ nothing → new.now.trees ≡ fresh → Commits Change old new → ⊥
answer_before_the_commit_does_not_commit Change old new was is commits =
    omega (arith, ap offices was, ap offices is, ap (λ (db : Database). offices db.trees) commits.settled)

pub change_that_is_left_out_is_not_committed : (old new : State) → old.now.schema ≡ no_schema
    → new.now.trees ≡ nothing
    → Commits (Creates office) old new → ⊥
change_that_is_left_out_is_not_committed old new schema is commits = portal_without_a_row_is_not_fresh new.now is (commits.changed schema)

pub commit_that_shuts_the_connection_is_refuted : (Change : Database → Database → Type 0) (old new : State)
    → new.is_open ≡ false
    → Commits Change old new → ⊥
commit_that_shuts_the_connection_is_refuted Change old new shut commits = let clash : false ≡ true = sym shut ∙ commits.is_open in cc

pub old_tables_after_a_crash_are_not_all_that_is_left : (s : State) → s.may_leave nothing → s.now.trees ≡ fresh
    → LeavesOnly s → ⊥
old_tables_after_a_crash_are_not_all_that_is_left s may is only = omega (arith, ap offices is, ap offices (only nothing may))

pub tables_that_are_made_do_not_stay : (old new : State) → old.now.trees ≡ nothing → new.now.trees ≡ fresh
    → Stays old new → ⊥
tables_that_are_made_do_not_stay old new was is stays =
    omega (arith, ap offices was, ap offices is, ap (λ (db : Database). offices db.trees) stays.1)
