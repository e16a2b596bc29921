use Rattle.spa_rows.proofs.Base.{◌≡◌, ℕ, ◌<◌, map, get_or, Text, IsEarlierKey}
use Rattle.spa_rows.proofs.Seen.{IsInTree}
use Rattle.spa_rows.proofs.least.repeats.Given as goal

-- the texts so far are in the set, and none of them repeats
abbrev pub invariant-loop-text : goal.invariant-loop-text
invariant-loop-text l = record {
  seen : IsInTree (map (λ text. text.items) l.list) (λ text. text) l.seen l.text-index;
  distinct : (j : ℕ) (text : Text) → j < l.text-index → get_or (map (λ text. text.items) l.list) j text ≡ text
      → IsEarlierKey (map (λ text. text.items) l.list) (λ text. text) j text → ⊥;
}
