-- What is read of the tables.
use Rattle.std.specs.Prelude.{◌≡◌, ℕ, List, [], None}
use Rattle.std.specs.List.{AllByRecursion}
use Rattle.sqlite.specs.Tree.{Trees}
use Rattle.portal_rules.specs.declared.phase.Phase.{Phase}
use Rattle.portal_rules.specs.Words.{Key}
use Rattle.portal_rules.specs.World.{Student, World}
use Rattle.portal_list.specs.Rows.{RowsOfWorld, world_rows}
use Rattle.portal_views.specs.inner.Contents.{AllRows}
use Rattle.portal_tables.specs.Tables.{portal_tree, version}
use Rattle.portal_store.specs.World.{world_in}
use Rattle.portal_tables.specs.Rows.{HasOffice}
use Rattle.portal_rules.specs.declared.phase.Round.{Round}
use Rattle.portal_rules.specs.declared.phase.Round.TheVariants.{Second}
use Rattle.portal_store.specs.Kept.{AreWhole}

-- these are the rows of the world that tables of this version and round stand for
pub record Loads (of : ℕ) (round : Round) (db : Trees) (rows : RowsOfWorld) : Type 0 where
  pub office : HasOffice of (db portal_tree)
  pub whole : AreWhole round db
  pub rows_are : rows ≡ world_rows (world_in round db)

abbrev pub LoadsIn : Round → Trees → RowsOfWorld → Type 0
LoadsIn = Loads version

-- the rows of a round's tables, with its phase, the code of the office, and the rows of what was before
abbrev pub rows_with_earlier : Round → Phase → Key → AllRows → List (Key × List Key) → List (Key × List Key)
    → List (Key × Key)
    → RowsOfWorld
rows_with_earlier round phase code rows choices rankings pairs =
    record {
      round = round;
      phase = phase;
      office = code;
      lecturers = rows.lecturers;
      projects = rows.projects;
      students = rows.students;
      choices = rows.choices;
      rankings = rows.rankings;
      pairs = rows.pairs;
      earlier_choices = choices;
      earlier_rankings = rankings;
      earlier_pairs = pairs;
    }

-- the rows of a second round after the first: its own, and what was of the first is the earlier
abbrev pub after_first : RowsOfWorld → Phase → AllRows → RowsOfWorld
after_first first phase rows = rows_with_earlier Second phase first.office rows first.choices first.rankings first.pairs

-- nothing is kept of a round before
abbrev pub HasNothingBefore : World → Type 0
HasNothingBefore w = AllByRecursion (λ (s : Student). (s.earlier_choice ≡ []) × (s.earlier_placement ≡ None)) w.students
