-- What serving one stream does, and serving a series of connections in turn.
use Rattle.std.specs.Prelude.{ℕ, ◌≡◌, ◌≤◌, if◌then◌else◌, List, [], ◌∷◌, ◌++◌, length, map, Option, Some, IfSome, Result}
use Rattle.std.specs.Io.KnownBytes.{Consumes}
use Rattle.portal_rules.specs.Keeping.{KeeperState}
use Rattle.portal_desk.specs.declared.served.Served.{Served}
use Rattle.portal_desk.specs.declared.served.ServeFault.{ServeFault}
use Rattle.portal_desk.specs.Kept.{DeskState}
use Rattle.portal_desk.specs.Session.{ServesOne}
use Rattle.portal_serve.specs.declared.server.Outcome.{Outcome}
use Rattle.portal_serve.specs.Hall.{is_own_fault}

-- a reader whose bytes are known has lost at most n of them
abbrev pub Drops : ℕ → Option (List ℕ) → Option (List ℕ) → Type 0
Drops n old new = (dropped : List ℕ) × Consumes old new dropped × (length dropped ≤ n)

-- the most bytes that are dropped at the end of a connection
abbrev pub dropped_limit : ℕ
dropped_limit = 1064960

-- none are after a fault of the connection or of memory
abbrev pub dropped_after : Result Served ServeFault → ℕ
dropped_after r = if is_own_fault r then 0 else dropped_limit

-- what serving a stream on a desk does, with this result: `source` and `left` are what the reader
-- has to give before and after it, `before` and `after` what the writer holds, where that is known
pub record ServesStream {K : Type 0} (state : K → KeeperState) (r : Result Served ServeFault) (old new : DeskState K)
    (source left before after : Option (List ℕ)) : Type 0 where
  -- what the reader has to give after the last request
  pub unread : Option (List ℕ)
  -- the desk serves the stream, and nothing else is written
  pub serves : ServesOne state r old new source unread before after
  -- then some bytes are dropped
  pub drops : Drops (dropped_after r) unread left

-- a connection: what its reader has to give before and after it is served, what its writer holds
-- before and after, where that is known, and its outcome
pub record Connection : Type 0 where
  pub source : Option (List ℕ)
  pub left : Option (List ℕ)
  pub before : Option (List ℕ)
  pub after : Option (List ℕ)
  pub outcome : Outcome

-- what is known of a series of connections: those so far, and what the readers of those to come
-- have to give
pub record Series : Type 0 where
  pub served : List Connection
  pub waiting : List (Option (List ℕ))

-- if the series is known, these connections are the next ones, in order
abbrev pub Passes : Option Series → Option Series → List Connection → Type 0
Passes old new more = IfSome old (λ series. (rest : List (Option (List ℕ)))
    × (series.waiting ≡ map (λ connection. connection.source) more ++ rest)
    × (new ≡ Some (record { served = series.served ++ more; waiting = rest })))

-- each connection is served on the desk that the one before left
abbrev pub ServesAll : {K : Type 0} → (K → KeeperState) → DeskState K → List Connection → DeskState K → Type 0
ServesAll state old [] new = new ≡ old
ServesAll state old (c ∷ cs) new =
    (next : DeskState _) × ServesStream state c.outcome.ended old next c.source c.left c.before c.after
    × (c.outcome.failed ≡ next.failed) × ServesAll state next cs new

-- the next connections of a series were served in turn on a desk, and had these outcomes
pub record ServesInTurn {K : Type 0} (state : K → KeeperState) (old new : DeskState K) (before after : Option Series)
    (outcomes : List Outcome) : Type 0 where
  pub connections : List Connection
  pub passes : Passes before after connections
  pub serves : ServesAll state old connections new
  pub told : map (λ connection. connection.outcome) connections ≡ outcomes
