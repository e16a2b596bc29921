-- How the first bytes of a file, and of the log beside it, tell a database from other files.
use Rattle.std.specs.Prelude.{◌≡◌, ◌≤◌, ◌⊎◌, ◌∷◌, ◌++◌, ℕ, List, [], codes, length, take, drop, Option, Some, None}

-- the sixteen bytes with which an SQLite database begins
abbrev pub BeginsDatabase : List ℕ → Type 0
BeginsDatabase front = take 16 front ≡ codes "SQLite format 3" ++ 0 ∷ []

-- a log's header is there, of 32 bytes; bytes 12 to 15, its count of checkpoints, are the greatest
-- that there can be
abbrev pub IsBegunLog : Option (List ℕ) → Type 0
IsBegunLog None = ⊥
IsBegunLog (Some log) = (32 ≤ length log) × (take 4 (drop 12 log) ≡ 255 ∷ 255 ∷ 255 ∷ 255 ∷ [])

-- the file is empty, or no more than begun, as its log tells
abbrev pub IsOnlyBegun : List ℕ → Option (List ℕ) → Type 0
IsOnlyBegun front log = (BeginsDatabase front → ⊥) × ((front ≡ []) ⊎ IsBegunLog log)
