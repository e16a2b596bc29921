-- The promise for streams that are served from a world.
use Rattle.std.specs.Prelude.{ℕ, List}
use Rattle.std.specs.List.{AllByRecursion}
use Rattle.portal_rules.specs.World.{World}
use Rattle.portal_desk.specs.Session.{Visit, Tells}
use Rattle.portal_desk.specs.Headline.{HasPromise, exchanges_of}
use Rattle.portal_desk.specs.Served.{ServeWhole}

-- visits serve these streams to their ends, and write these texts, which tell their requests; and
-- these have the main promise
abbrev pub KeepsPromise : World → List (List ℕ) → List (List ℕ) → Type 0
KeepsPromise w streams texts =
    (visits : List Visit) × ServeWhole visits streams texts × AllByRecursion Tells visits
    × (worlds : List World) × HasPromise w (exchanges_of visits) worlds
