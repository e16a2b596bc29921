-- An example: Ann hands in the honest list, or asks for the popular project alone and waits; Dan
-- asks for it too.
use Rattle.std.specs.Prelude.{ℕ, List, [], ◌∷◌, codes}
use Rattle.spa_model.specs.Spa.{Spa}
use Rattle.spa_honest.specs.examples.Example.{ann, ben, cem, bells, kites, tides, honest_list}

abbrev pub dan : ℕ
dan = 3

-- each project has one place; Lee has two places and ranks Ben, Ann, Cem, Dan; Moe has one and
-- ranks those who ask for Bells
abbrev pub department : List ℕ → List ℕ → Spa
department list_of_ann moe =
    record {
      student_keys = codes "ann" ∷ codes "ben" ∷ codes "cem" ∷ codes "dan" ∷ [];
      choices = list_of_ann ∷ (tides ∷ []) ∷ (kites ∷ bells ∷ []) ∷ (tides ∷ []) ∷ [];
      project_keys = codes "bells" ∷ codes "kites" ∷ codes "tides" ∷ [];
      lecturers = 1 ∷ 0 ∷ 0 ∷ [];
      capacities = 1 ∷ 1 ∷ 1 ∷ [];
      lecturer_keys = codes "lee" ∷ codes "moe" ∷ [];
      rankings = (ben ∷ ann ∷ cem ∷ dan ∷ []) ∷ moe ∷ [];
      limits = 2 ∷ 1 ∷ [];
    }

-- with the honest list Ann asks for Bells too
abbrev pub at_once : Spa
at_once = department honest_list (ann ∷ cem ∷ [])

-- with Tides alone she does not
abbrev pub waiting : Spa
waiting = department (tides ∷ []) (cem ∷ [])

-- with Kites alone she does not either
abbrev pub second_alone : Spa
second_alone = department (kites ∷ []) (cem ∷ [])
