-- A set that holds the texts of the first lines of a list.
use Rattle.spa_rows.proofs.Base.{◌≡◌, ◌⊎◌, inl, inr, ℕ, zero, suc, ◌+◌, ◌<◌, Bool, true, false, cond, IsTrue, ◌↔◌, List}
use Rattle.spa_rows.proofs.Base.{[], ◌∷◌, length, take, get_or, Bor, refl, sym, ◌∙◌, ap, arith, not, Any, nat_cmp}
use Rattle.spa_rows.proofs.Base.{slice_cmp, false≢true, nat_list_cmp_total, Text, IsEarlierKey, rules, ◌++◌, Ordering}
use Rattle.spa_rows.proofs.Base.{BTreeSet, is_eq, take_more, get_or_append_left, length-append, tied_itself}
use Rattle.std.specs.BTreeSet as tree
use Rattle.std.specs.Cmp.{Equal-is}
use Rattle.std.proofs.Math.Bool.{not-not}
use Rattle.std.proofs.lemmas.List.Quantifiers.{Any-push}
use Rattle.std.proofs.lemmas.Map.Lookups.{exact_bytes}

-- the order of slices
abbrev pub text_cmp : Bor Text → Bor Text → Ordering
text_cmp x y = slice_cmp nat_cmp x.now y.now

any_push : {X : Type 0} → (P : X → Type 0) (xs : List X) (y : X) → Any P (xs ++ y ∷ []) → Any P xs ⊎ P y
any_push P [] y (zero, z, h, at, p) = inr (rw at p)
any_push P [] y (suc k, z, h, at, p) = absurd (omega (arith, h))
any_push P (x ∷ xs) y (zero, z, h, at, p) = inl (zero, z, omega arith, at, p)
any_push P (x ∷ xs) y (suc k, z, h, at, p) = elim (any_push P xs y (k, z, omega (arith, h), at, p)) [
  | inl (j, w, g, is, q) ↦ inl (suc j, w, omega (arith, g), is, q)
  | inr here ↦ inr here
]

any_left : {X : Type 0} → (P : X → Type 0) (xs ys : List X) → Any P xs → Any P (xs ++ ys)
any_left P xs ys (k, z, h, at, p) = (k, z, omega (arith, h, length-append xs ys), get_or_append_left xs ys z k h ∙ at, p)

-- a tree takes two texts for one where they are the same
same_text : (p q : Bor Text) → (is_eq (text_cmp p q) ≡ true) ↔ (p.now ≡ q.now)
same_text p q = (λ same. exact_bytes _ _ ((Equal-is _).0 same), λ one. rw one (ap is_eq (tied_itself nat_list_cmp_total q.now)))

module _ {X : Type 0} (xs : List X) (key : X → Text) where
  pub more : (n : ℕ) (x : X) (text : Text) → n < length xs → get_or xs n x ≡ x
      → IsEarlierKey xs key (n + 1) text ↔ (IsEarlierKey xs key n text ⊎ (key x ≡ text))
  more n x text h e =
      let grown : take (n + 1) xs ≡ take n xs ++ x ∷ [] = take_more xs n x h ∙ ap (λ y. take n xs ++ y ∷ []) e in
      rw grown (
        λ any. any_push (λ y. key y ≡ text) (take n xs) x any,
        λ either. elim either [
          | inl before ↦ any_left (λ y. key y ≡ text) (take n xs) (x ∷ []) before
          | inr here ↦ Any-push
              (λ y. key y ≡ text) (take n xs) x here
        ],
      )

  -- a tree has the texts of the first n
  pub record IsInTree (set : BTreeSet (Bor Text)) (n : ℕ) : Type 0 where
    pub has : (q : Bor Text) → IsTrue (tree.contains text_cmp set q) ↔ IsEarlierKey xs key n q.now

  -- the text of the next one was put in
  pub tree_more : (s t : BTreeSet (Bor Text)) (k : Bor Text) (n : ℕ) (x : X) → tree.Updates text_cmp s t k true
      → k.now ≡ key x → n < length xs → get_or xs n x ≡ x → IsInTree s n → IsInTree t (n + 1)
  tree_more s t k n x updates is h e seen = record { has = λ q. step q (is_eq (text_cmp k q)) refl (updates.0 q) }
    where
      step : (q : Bor Text) (b : Bool) → is_eq (text_cmp k q) ≡ b
          → tree.contains text_cmp t q ≡ cond b true (tree.contains text_cmp s q)
          → IsTrue (tree.contains text_cmp t q) ↔ IsEarlierKey xs key (n + 1) q.now
      step q true one now = (λ _. (more n x q.now h e).1 (inr (sym is ∙ (same_text k q).0 one)), λ _. now)
      step q false other now = (
        λ had. (more n x q.now h e).1 (inl ((seen.has q).0 (sym now ∙ had))),
        λ earlier. elim ((more n x q.now h e).0 earlier) [
          | inl before ↦ now ∙ (seen.has q).1 before
          | inr here ↦ absurd (false≢true (sym other ∙ (same_text k q).1 (is ∙ here)))
        ],
      )

  -- what was there before is no new one
  pub tree_before : (s : BTreeSet (Bor Text)) (k : Bor Text) (added : Bool) (n : ℕ) (x : X)
      → added ≡ not (tree.contains text_cmp s k) → k.now ≡ key x → IsInTree s n
      → (IsTrue (not added) ↔ IsEarlierKey xs key n (key x))
  tree_before s k added n x was is seen = search (rules, not-not)
