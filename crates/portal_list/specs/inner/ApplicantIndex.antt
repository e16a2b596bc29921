-- Which students want a project, by their places in the roll.
use Rattle.std.specs.Prelude.{◌≡◌, ℕ, zero, suc, ◌==◌, Bool, false, List, [], ◌∷◌, Vec, Option, Some, None}
use Rattle.std.specs.Borrow.{Bor}
use Rattle.std.specs.Global.{Global}
use Rattle.std.specs.List.{list_any}
use Rattle.std.specs.HashMap as map
use Rattle.std.specs.HashMap.{HashMap}
use Rattle.spa_rows.specs.inner.Index.{text_eq}
use Rattle.portal_rules.specs.Words.{Key, has}
use Rattle.portal_rules.specs.World.{Student}

-- there is an element at the place, and it passes
abbrev pub passes_at : {X : Type 0} → (X → Bool) → List X → ℕ → Bool
passes_at p [] place = false
passes_at p (x ∷ xs) zero = p x
passes_at p (x ∷ xs) (suc place) = passes_at p xs place

-- the place is one of these
abbrev pub is_among : List ℕ → ℕ → Bool
is_among places place = list_any (λ n. n == place) places

abbrev pub is_noted_in : Option (Vec ℕ Global) → ℕ → Bool
is_noted_in None place = false
is_noted_in (Some places) place = is_among places.items place

-- the table has the place at the project
abbrev pub is_noted : {S : Type 0} → HashMap (Bor Key) (Vec ℕ Global) S → Bor Key → ℕ → Bool
is_noted table project place = is_noted_in (map.get text_eq table project) place

-- the table has at each project just the places of the students whose list holds it
abbrev pub IsApplicantIndex : {S : Type 0} → List Student → HashMap (Bor Key) (Vec ℕ Global) S → Type 0
IsApplicantIndex students table =
    (project : Bor Key) (place : ℕ)
    → is_noted table project place ≡ passes_at (λ s. has s.choice project.now) students place
