-- An example: Ann with one list or another, and Ben and Cem; Lee offers Kites and Tides, and Moe
-- offers Bells.
use Rattle.std.specs.Prelude.{ℕ, List, [], ◌∷◌, codes}
use Rattle.spa_model.specs.Spa.{Spa}

abbrev pub ann : ℕ
ann = 0

abbrev pub ben : ℕ
ben = 1

abbrev pub cem : ℕ
cem = 2

abbrev pub bells : ℕ
bells = 0

abbrev pub kites : ℕ
kites = 1

abbrev pub tides : ℕ
tides = 2

-- each project has one place; Lee has two places and ranks Ben, Ann, Cem; Moe has one and ranks
-- Ann, Cem
abbrev pub example : List ℕ → Spa
example list_of_ann =
    record {
      student_keys = codes "ann" ∷ codes "ben" ∷ codes "cem" ∷ [];
      choices = list_of_ann ∷ (tides ∷ []) ∷ (kites ∷ bells ∷ []) ∷ [];
      project_keys = codes "bells" ∷ codes "kites" ∷ codes "tides" ∷ [];
      lecturers = 1 ∷ 0 ∷ 0 ∷ [];
      capacities = 1 ∷ 1 ∷ 1 ∷ [];
      lecturer_keys = codes "lee" ∷ codes "moe" ∷ [];
      rankings = (ben ∷ ann ∷ cem ∷ []) ∷ (ann ∷ cem ∷ []) ∷ [];
      limits = 2 ∷ 1 ∷ [];
    }

-- what Ann likes: Tides before Kites before Bells
abbrev pub honest_list : List ℕ
honest_list = tides ∷ kites ∷ bells ∷ []

-- what seems safe, first
abbrev pub safe_list : List ℕ
safe_list = bells ∷ tides ∷ kites ∷ []

-- the popular one left out
abbrev pub short_list : List ℕ
short_list = kites ∷ bells ∷ []
