-- The pairs of a matching, one student after the other.
use Rattle.portal_desk.proofs.Base.{◌≡◌, ℕ, ◌+◌, ◌<◌, List, [], ◌∷◌, ◌++◌, length, get_or, drop, Option, Some, None}
use Rattle.portal_desk.proofs.Base.{refl, sym, ◌∙◌, ap, add-one, append_assoc, Key, pairs_by, drop-cons}

module _ (keys projects : List Key) (places : List (Option ℕ)) where
  abbrev rest : ℕ → List (Key × Key)
  rest s = pairs_by (drop s keys) projects (drop s places)

  here : (s : ℕ) → s < length keys → s < length places
      → rest s ≡ pairs_by (get_or keys s [] ∷ drop (s + 1) keys) projects (get_or places s None ∷ drop (s + 1) places)
  here s low below = rw (add-one s, drop-cons keys s [] low, drop-cons places s None below) refl

  pub one_more : (s p : ℕ) (front total : List (Key × Key)) → s < length keys → s < length places
      → Some p ≡ get_or places s None
      → front ++ rest s ≡ total → (front ++ (get_or keys s [], get_or projects p []) ∷ []) ++ rest (s + 1) ≡ total
  one_more s p front total low below at so_far =
      append_assoc front ((get_or keys s [], get_or projects p []) ∷ []) (rest (s + 1))
      ∙ ap (λ (ps : List (Key × Key)). front ++ ps) (sym (here s low below ∙ rw (← at) refl))
      ∙ so_far

  pub none_more : (s : ℕ) (front total : List (Key × Key)) → s < length keys → s < length places
      → None ≡ get_or places s None → front ++ rest s ≡ total → front ++ rest (s + 1) ≡ total
  none_more s front total low below at so_far = ap (λ (ps : List (Key × Key)). front ++ ps) (sym (here s low below ∙ rw (← at) refl))
      ∙ so_far
