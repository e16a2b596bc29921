-- More examples: the department of the first one, with other lists, rankings and limits.
use Rattle.std.specs.Prelude.{ℕ, List, [], ◌∷◌}
use Rattle.spa_model.specs.Spa.{Spa}
use Rattle.spa_honest.specs.examples.Example.{ann, ben, cem, bells, kites, tides, example}

-- the lists of Ann, Ben and Cem, the rankings of Lee and Moe, and how many students these take
abbrev pub varied : List (List ℕ) → List (List ℕ) → List ℕ → Spa
varied lists rankings limits = record (example []) { choices = lists; rankings = rankings; limits = limits }

abbrev pub lee : ℕ
lee = 0

-- two stable matchings: each lecturer takes one, and ranks first who lists the own projects last
abbrev pub two_ways : Spa
two_ways = varied
    ((kites ∷ bells ∷ []) ∷ (bells ∷ tides ∷ []) ∷ [] ∷ [])
    ((ben ∷ ann ∷ []) ∷ (ann ∷ ben ∷ []) ∷ [])
    (1 ∷ 1 ∷ [])

-- Ann and Ben like to swap, and Cem, whom Lee ranks above Ben, waits for Tides
abbrev pub swap : Spa
swap = varied
    ((bells ∷ tides ∷ []) ∷ (tides ∷ bells ∷ []) ∷ (tides ∷ []) ∷ [])
    ((ann ∷ cem ∷ ben ∷ []) ∷ (ben ∷ ann ∷ []) ∷ [])
    (2 ∷ 1 ∷ [])

-- Ann with one list or another, and Lee with one ranking or another
abbrev pub ranked : List ℕ → List ℕ → Spa
ranked list_of_ann of_lee = varied
    (list_of_ann ∷ (tides ∷ []) ∷ (kites ∷ bells ∷ []) ∷ [])
    (of_lee ∷ (cem ∷ []) ∷ [])
    (2 ∷ 1 ∷ [])

abbrev pub popular_first : List ℕ
popular_first = tides ∷ kites ∷ []

abbrev pub popular_alone : List ℕ
popular_alone = tides ∷ []

-- as Lee judges, and with Ben before Ann
abbrev pub judged : List ℕ
judged = ann ∷ ben ∷ cem ∷ []

abbrev pub ben_first : List ℕ
ben_first = ben ∷ ann ∷ cem ∷ []
