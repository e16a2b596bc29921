-- Streams that are served to their ends.
use Rattle.std.specs.Prelude.{◌≡◌, ℕ, List, [], ◌∷◌, Some}
use Rattle.portal_rules.specs.Keeping.{KeeperState}
use Rattle.portal_wire.specs.Conversation.{Last}
use Rattle.portal_desk.specs.Session.{Ended, Session, Visit}
use Rattle.portal_desk.specs.Headline.{AreServedOn, left_by, visits_of}

-- the visits serve these streams to their ends, and write these texts
abbrev pub ServeWhole : List Visit → List (List ℕ) → List (List ℕ) → Type 0
ServeWhole [] [] [] = Unit {0}
ServeWhole (v ∷ vs) (x ∷ xs) (t ∷ ts) =
    (end : Last) × (v.stream ≡ Some (record { bytes = x; written = t; finish = Ended end })) × ServeWhole vs xs ts
ServeWhole _ _ _ = ⊥

-- from `old` to `new`, keepers serve the streams in turn and write these texts
abbrev pub ServesEach : {K : Type 0} → (K → KeeperState) → K → K → List (List ℕ) → List (List ℕ) → Type 0
ServesEach state old new streams texts =
    (sessions : List (Session _)) × AreServedOn state old sessions × (left_by old sessions ≡ new)
    × ServeWhole (visits_of sessions) streams texts
