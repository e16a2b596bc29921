-- The rankings that a fill makes.
use Rattle.std.specs.Prelude.{if◌then◌else◌, List, Option, Some, None, is_none}
use Rattle.portal_rules.specs.declared.rows.ProjectRow.{ProjectRow}
use Rattle.portal_rules.specs.Words.{Key, is_empty}
use Rattle.portal_rules.specs.World.{Lecturer, Student}
use Rattle.portal_list.specs.inner.Parts.{applicant_keys}

-- the applicants by key, where there is one
abbrev pub unless_empty : List Key → Option (List Key)
unless_empty keys = if is_empty keys then None else Some keys

-- what a lecturer gets: a ranking where there is an applicant, and no ranking
abbrev pub missing : List ProjectRow → List Student → Lecturer → Option (List Key)
missing projects students l =
    if is_none l.ranking then unless_empty (applicant_keys projects students l.row.key) else None

abbrev pub with_missing : Lecturer → Option (List Key) → Lecturer
with_missing l None = l
with_missing l (Some list) = record l { ranking = Some list }

-- the lecturer after a fill
abbrev pub filled : List ProjectRow → List Student → Lecturer → Lecturer
filled projects students l = with_missing l (missing projects students l)
