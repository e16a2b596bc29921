-- The list of blocking pairs, pair by pair.
use Rattle.spa_check.proofs.Base.{◌≡◌, ℕ, ◌+◌, ◌<◌, ◌≤◌, ◌⊎◌, inl, inr, List, [], ◌∷◌, Option, Some, None, refl, arith}
use Rattle.spa_check.proofs.Base.{false, cases_lt, Letter, Spa, Blocks, Wants, AreBlocksBefore, ◌++◌, MatchOption}
use Rattle.spa_check.proofs.Base.{is_some, All-push, All-weaker, Contains-append_left, Contains-push, IsEarlier}
use Rattle.spa_check.proofs.Base.{IsPassed}
use Rattle.std.proofs.lemmas.List.Quantifiers.{all_pairs_push}
use Rattle.spa_model.proofs.OneOnly.{one_letter, blocks_wants}
use Rattle.spa_check.specs.declared.blocking.Block.{Block}

further : (s n p t q : ℕ) → n ≤ p → IsPassed s n t q → IsPassed s p t q
further s n p t q h (inl k) = inl k
further s n p t q h (inr k) = inr (k.0, omega (arith, k.1))

last_or_before : (s p t q : ℕ) → IsPassed s (p + 1) t q → IsPassed s p t q ⊎ ((t ≡ s) × (q ≡ p))
last_or_before s p t q (inl h) = inl (inl h)
last_or_before s p t q (inr h) = elim (cases_lt q p) [ inl k ↦ inl (inr (h.0, k)) | inr k ↦ inr (h.0, omega arith) ]

-- nothing from n to p is wanted
pub blocks_jump : (i : Spa) (m : List (Option ℕ)) (blocks : List Block) (s n p : ℕ) → n ≤ p
    → ((q : ℕ) → Wants i m s q → (q < n) ⊎ (p ≤ q)) → AreBlocksBefore i m s n blocks → AreBlocksBefore i m s p blocks
blocks_jump i m blocks s n p h apart listed = record {
  sound = listed.sound;
  complete = λ t q x before b. listed.complete t q x (below t q x before b) b;
  sorted = listed.sorted;
  passed = All-weaker (λ b. IsPassed s n b.student b.project) (λ b. IsPassed s p b.student b.project)
      (λ b. further s n p b.student b.project h) blocks listed.passed;
} where
  below : (t q : ℕ) (x : Letter) → IsPassed s p t q → Blocks i m t q x → IsPassed s n t q
  below t q x (inl k) b = inl k
  below t q x (inr k) b = elim (apart q (rw k.0 at (blocks_wants i m t q x b))) [
    | inl less ↦ inr (k.0, less)
    | inr past ↦ absurd
        (omega (arith, k.1))
  ]

-- the pair at p does not block
pub blocks_skip : (i : Spa) (m : List (Option ℕ)) (blocks : List Block) (s p : ℕ)
    → ((x : Letter) → Blocks i m s p x → ⊥) → AreBlocksBefore i m s p blocks → AreBlocksBefore i m s (p + 1) blocks
blocks_skip i m blocks s p none listed = record {
  sound = listed.sound;
  complete = λ t q x before b. elim (last_or_before s p t q before) [
    | inl h ↦ listed.complete t q x h b
    | inr h ↦ absurd
        (none x (rw (h.0, h.1) at b))
  ];
  sorted = listed.sorted;
  passed = All-weaker (λ b. IsPassed s p b.student b.project) (λ b. IsPassed s (p + 1) b.student b.project)
      (λ b. further s p (p + 1) b.student b.project (omega arith)) blocks listed.passed;
}

-- it blocks, and is listed
pub blocks_push : (i : Spa) (m : List (Option ℕ)) (blocks : List Block) (s p : ℕ) (x : Letter) → Blocks i m s p x
    → AreBlocksBefore i m s p blocks
    → AreBlocksBefore i m s (p + 1) (blocks ++ record { student = s; project = p; letter = x } ∷ [])
blocks_push i m blocks s p x block listed =
    let new : Block = record { student = s; project = p; letter = x } in
    record {
      sound = All-push (λ b. Blocks i m b.student b.project b.letter) blocks new listed.sound block;
      complete = λ t q y before b. elim (last_or_before s p t q before) [
        | inl h ↦ Contains-append_left blocks (new ∷ []) (record { student = t; project = q; letter = y }) (listed.complete t q y h b)
        | inr h ↦
            let same : y ≡ x = one_letter i m s p y x (rw (h.0, h.1) at b) block in
            rw (h.0, h.1, same) (Contains-push blocks new)
      ];
      sorted = all_pairs_push IsEarlier blocks new listed.sorted (λ k d h. listed.passed k d h);
      passed = All-push (λ b. IsPassed s (p + 1) b.student b.project) blocks new
          (All-weaker (λ b. IsPassed s p b.student b.project) (λ b. IsPassed s (p + 1) b.student b.project)
          (λ b. further s p (p + 1) b.student b.project (omega arith)) blocks listed.passed)
          (inr (refl, omega arith));
    }

-- the student is done
pub blocks_row : (i : Spa) (m : List (Option ℕ)) (blocks : List Block) (s n : ℕ) → ((q : ℕ) → Wants i m s q → q < n)
    → AreBlocksBefore i m s n blocks → AreBlocksBefore i m (s + 1) 0 blocks
blocks_row i m blocks s n below listed = record {
  sound = listed.sound;
  complete = λ t q x before b. listed.complete t q x (row t q x before b) b;
  sorted = listed.sorted;
  passed = All-weaker (λ b. IsPassed s n b.student b.project) (λ b. IsPassed (s + 1) 0 b.student b.project)
      (λ b h. elim h [ inl k ↦ inl (omega arith) | inr k ↦ inl (omega arith) ]) blocks listed.passed;
} where
  row : (t q : ℕ) (x : Letter) → IsPassed (s + 1) 0 t q → Blocks i m t q x → IsPassed s n t q
  row t q x (inl h) b = elim (cases_lt t s) [
    | inl k ↦ inl k
    | inr k ↦ let same : t ≡ s = omega arith in
        inr (same, below q (rw same at (blocks_wants i m t q x b)))
  ]
  row t q x (inr h) b = absurd (omega arith)

-- no case, by what a search for one answers
pub none_blocks : (i : Spa) (m : List (Option ℕ)) (s p : ℕ) (o : Option Letter)
    → MatchOption o ((x : Letter) → Blocks i m s p x → ⊥) (λ x. Blocks i m s p x) → is_some o ≡ false → (x : Letter)
    → Blocks i m s p x → ⊥
none_blocks i m s p (Some y) found e x b = absurd (cc)
none_blocks i m s p None none e x b = none x b
