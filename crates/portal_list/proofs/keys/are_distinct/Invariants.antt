use Rattle.portal_list.proofs.Base.{◌≡◌, ℕ, ◌<◌, get_or, Bor, Text, IsEarlierKey, IsInTree}
use Rattle.portal_list.proofs.keys.are_distinct.Given as goal

-- the texts so far are in the set, and none of them repeats
abbrev pub invariant-loop-text : goal.invariant-loop-text
invariant-loop-text l = record {
  seen : IsInTree l.texts (λ text. text.now) l.seen l.text-index;
  distinct : (j : ℕ) (text : Bor Text) → j < l.text-index → get_or l.texts j text ≡ text
      → IsEarlierKey l.texts (λ t. t.now) j text.now → ⊥;
}
