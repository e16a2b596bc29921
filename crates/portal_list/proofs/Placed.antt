-- Places given to rows one by one.
use Rattle.portal_list.proofs.Base.{◌≡◌, ℕ, suc, zero, ◌+◌, ◌<◌, List, [], ◌∷◌, ◌++◌, length, get_or, take, drop, refl}
use Rattle.portal_list.proofs.Base.{sym, ◌∙◌, ap, arith, map, add-one, slice_set, drop-set-lt, map_over_more}
use Rattle.std.proofs.Math.Seq.{drop-cons}

-- the first of what is left, and the rest
next_place : {X : Type 0} (ps : List X) (i : ℕ) (p : X) (rest : List X) (d : X) → drop i ps ≡ p ∷ rest
    → (get_or ps i d ≡ p) × (drop (suc i) ps ≡ rest)
next_place [] zero p rest d e = cc
next_place [] (suc i) p rest d e = cc
next_place (q ∷ ps) zero p rest d e = (cc, cc)
next_place (q ∷ ps) (suc i) p rest d e = next_place ps i p rest d e

-- the row that is read is not written yet
row_read : {X : Type 0} (f : X → X) (xs : List X) (i : ℕ) (x : X) → i < length xs
    → get_or (map f (take i xs) ++ drop i xs) i x ≡ get_or xs i x
row_read f [] i x low = absurd (omega arith)
row_read f (y ∷ xs) zero x low = refl
row_read f (y ∷ xs) (suc i) x low = row_read f xs i x (omega arith)

-- one more row is given its place, which is taken from the places that are left
module _ {X Y : Type 0} (g : X → Y) (put : X → Y → X) where
  abbrev given : X → X
  given x = put x (g x)

  pub one_placed : (xs now : List X) (ps : List Y) (i : ℕ) (x e : X) (p q : Y) → i < length xs
      → now ≡ map given (take i xs) ++ drop i xs → drop i ps ≡ map g (drop i xs)
      → x ≡ get_or now i x → p ≡ get_or ps i p → e ≡ put x p
      → (slice_set now i e ≡ map given (take (i + 1) xs) ++ drop (i + 1) xs) × (drop (i + 1) (slice_set ps i q) ≡ map g (drop (i + 1) xs))
  one_placed xs now ps i x e p q low rows places is_x is_p is_e =
      let both = next_place ps i (g (get_or xs i x)) (map g (drop (suc i) xs)) p (places ∙ ap (map g) (drop-cons xs i x low)) in
      let same : x ≡ get_or xs i x = is_x ∙ (ap (λ (ys : List X). get_or ys i x) rows ∙ row_read given xs i x low) in (
        ap (slice_set now i) (is_e ∙ ap (put x) (is_p ∙ both.0 ∙ ap g (sym same))) ∙ map_over_more given xs now i x low rows is_x,
        drop-set-lt (i + 1) ps i q (omega arith) ∙ rw (add-one i) both.1,
      )
