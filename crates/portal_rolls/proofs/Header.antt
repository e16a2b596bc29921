-- A record beside the names of the columns, and the test that all fields are text.
use Rattle.std.proofs.Math.Bool.{and-false}
use Rattle.std.proofs.Math.Seq.{drop-cons}
use Rattle.std.proofs.lemmas.List.{drop-map}
use Rattle.portal_rolls.proofs.Base.{length-map, sym, Bor, ◌≡◌, ◌+◌, ◌<◌, ◌≤◌, ℕ, zero, suc, true, false, not, ◌&&◌}
use Rattle.portal_rolls.proofs.Base.{List, [], ◌∷◌, length, map, drop, get_or, Some, refl, ap, add-one, arith, drop_all}
use Rattle.portal_rolls.proofs.Base.{list_all, is_utf8, field_at, Record, same_record, bytes_eq}

-- another count of fields
pub other_count : (a b : Record) → (length a ≡ length b → ⊥) → false ≡ same_record a b
other_count [] [] h = absurd (h refl)
other_count [] (y ∷ b) h = refl
other_count (x ∷ a) [] h = refl
other_count (x ∷ a) (y ∷ b) h = rw (← other_count a b (λ e. h (ap suc e))) (sym (and-false (bytes_eq x y)))

-- the field at a place stands before those after it
splits : (r : Record) (i : ℕ) (x : List ℕ) → Some x ≡ field_at r i → drop i r ≡ x ∷ drop (suc i) r
unfolding field_at
splits [] i x e = absurd (cc e)
splits (y ∷ r) zero x e = cc e
splits (y ∷ r) (suc i) x e = splits r i x e

split : (r : Record) (i : ℕ) (x : List ℕ) → Some x ≡ field_at r i → drop i r ≡ x ∷ drop (i + 1) r
split r i x e = rw (add-one i) (splits r i x e)

-- a field that is no text ends the test, and one that is text goes on with the rest

pub ends_text : (r : Record) (i : ℕ) (x : List ℕ) → Some x ≡ field_at r i → false ≡ is_utf8 x
    → list_all is_utf8 (drop i r) ≡ list_all is_utf8 r → false ≡ list_all is_utf8 r
ends_text r i x at isnt so_far = rw (split r i x at, ← isnt) at so_far

pub one_text : (r : Record) (i : ℕ) (x : List ℕ) → Some x ≡ field_at r i → true ≡ is_utf8 x
    → list_all is_utf8 (drop i r) ≡ list_all is_utf8 r
    → list_all is_utf8 (drop (i + 1) r) ≡ list_all is_utf8 r
one_text r i x at is so_far = rw (split r i x at, ← is) at so_far

-- the names of columns as the code has them

abbrev pub texts : List (Bor (List ℕ)) → Record
texts ns = map (λ n. n.now) ns

name_split : (ns : List (Bor (List ℕ))) (i : ℕ) (d : Bor (List ℕ)) → i < length ns
    → drop i (texts ns) ≡ (get_or ns i d).now ∷ drop (i + 1) (texts ns)
name_split ns i d lt = rw (add-one i, drop-map (λ n. n.now) i ns, drop-map (λ n. n.now) (suc i) ns, drop-cons ns i d lt) refl

module _ (ns : List (Bor (List ℕ))) (r : Record) (i : ℕ) (d : Bor (List ℕ)) (x n : List ℕ) (lt : i < length ns) (at : Some x ≡ field_at r i)
    (is : n ≡ (get_or ns i d).now) where
  here : same_record (drop i (texts ns)) (drop i r) ≡ same_record (texts ns) r
      → (bytes_eq n x && same_record (drop (i + 1) (texts ns)) (drop (i + 1) r)) ≡ same_record (texts ns) r
  here so_far = rw (split r i x at, name_split ns i d lt, ← is) at so_far

  pub name_differs : true ≡ not (bytes_eq n x) → same_record (drop i (texts ns)) (drop i r) ≡ same_record (texts ns) r
      → false ≡ same_record (texts ns) r
  name_differs isnt so_far = grind (arith, here so_far)

  pub name_same : false ≡ not (bytes_eq n x) → same_record (drop i (texts ns)) (drop i r) ≡ same_record (texts ns) r
      → same_record (drop (i + 1) (texts ns)) (drop (i + 1) r) ≡ same_record (texts ns) r
  name_same same so_far = grind (arith, here so_far)

pub all_names : (ns : List (Bor (List ℕ))) (r : Record) (i : ℕ) → length ns ≤ i → length r ≡ length ns
    → same_record (drop i (texts ns)) (drop i r) ≡ same_record (texts ns) r
    → true ≡ same_record (texts ns) r
all_names ns r i le same so_far = rw (drop_all i (texts ns) (rw (length-map ns (λ n. n.now)) le), drop_all i r (rw same le)) at so_far
