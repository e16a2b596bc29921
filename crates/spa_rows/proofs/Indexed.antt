-- An index of the first lines of a list.
use Rattle.spa_rows.proofs.Base.{◌≡◌, inl, inr, ℕ, ◌+◌, ◌<◌, Bool, true, false, cond, IsTrue, ◌↔◌, List, length, get_or}
use Rattle.spa_rows.proofs.Base.{refl, Bor, Option, Some, None, sym, ◌∙◌, ap, subst, arith, Any, false≢true}
use Rattle.spa_rows.proofs.Base.{get_or_default, bytes_eq-Decides, Text, IsKeyOf, IsIndexOf, text_eq, is_some, IfSome}
use Rattle.spa_rows.proofs.Base.{IfNone, HasPlace}
use Rattle.std.specs.HashMap as hash
use Rattle.std.specs.HashMap.{HashMap}
use Rattle.std.proofs.Math.Seq.{take-length}
use Rattle.spa_rows.proofs.Lists.{at_place}
use Rattle.spa_rows.proofs.Seen.{more}

module _ {X : Type 0} (xs : List X) (key : X → Text) where
  others : (n : ℕ) (x : X) (text : Text) (o : Option ℕ) → n < length xs → get_or xs n x ≡ x → (key x ≡ text → ⊥)
      → HasPlace xs key n text o → HasPlace xs key (n + 1) text o
  others n x text None h e other none = λ earlier. elim
      ((more xs key n x text h e).0 earlier) [ inl before ↦ none before | inr here ↦ other here ]
  others n x text (Some k) h e other placed = (omega (arith, placed.0), placed.1)

  -- a place that was found
  pub place_found : (text : Text) (o : Option ℕ) → HasPlace xs key (length xs) text o
      → IfSome o (λ k. (k < length xs) × ((d : X) → key (get_or xs k d) ≡ text))
  place_found text None none = tt
  place_found text (Some k) placed = placed

  -- no place, and so no such key
  pub place_none : (text : Text) (o : Option ℕ) → HasPlace xs key (length xs) text o
      → IfNone o (IsKeyOf xs key text → ⊥)
  place_none text None none = λ known. none (subst (λ ys. Any (λ y. key y ≡ text) ys) (sym (take-length xs)) known)
  place_none text (Some k) placed = tt

  -- a key is known where its place is found
  pub known_found : (text : Text) (o : Option ℕ)
      → IfSome o (λ k. (k < length xs) × ((d : X) → key (get_or xs k d) ≡ text)) → IfNone o (IsKeyOf xs key text → ⊥)
      → IsTrue (is_some o) ↔ IsKeyOf xs key text
  known_found text None found none = (λ e. absurd (false≢true e), λ known. absurd (none known))
  known_found text (Some k) found none = (
    λ _. let row = at_place xs k found.0 in
        (k, row.0, found.0, row.1, ap key (sym row.1) ∙ found.1 row.0),
    λ _. refl,
  )

module _ {X S : Type 0} (xs : List X) (key : X → Text) where
  step : (s t : HashMap (Bor Text) ℕ S) (k q : Bor Text) (n : ℕ) (x : X) (b : Bool) → text_eq k q ≡ b
      → hash.get text_eq t q ≡ cond b (Some n) (hash.get text_eq s q) → k.now ≡ key x → n < length xs
      → get_or xs n x ≡ x
      → HasPlace xs key n q.now (hash.get text_eq s q) → HasPlace xs key (n + 1) q.now (hash.get text_eq t q)
  step s t k q n x true same now is h e was =
      subst (HasPlace xs key (n + 1) q.now) (sym now)
      (omega arith, λ d. ap key (get_or_default xs n d x h ∙ e) ∙ sym is ∙ (bytes_eq-Decides k.now q.now).0 same)
  step s t k q n x false other now is h e was =
      subst (HasPlace xs key (n + 1) q.now) (sym now)
      (others xs key n x q.now (hash.get text_eq s q) h e
      (λ here. absurd (false≢true (sym other ∙ (bytes_eq-Decides k.now q.now).1 (is ∙ here)))) was)

  -- the key of the next line was put in
  pub index_more : (s t : HashMap (Bor Text) ℕ S) (k : Bor Text) (n : ℕ) (x : X) → hash.Updates text_eq s t k (Some n)
      → k.now ≡ key x → n < length xs → get_or xs n x ≡ x → IsIndexOf xs key n s → IsIndexOf xs key (n + 1) t
  index_more s t k n x updates is h e was = λ q. step s t k q n x (text_eq k q) refl (updates.0 q) is h e (was q)
