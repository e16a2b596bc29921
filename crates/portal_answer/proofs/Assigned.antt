-- The lines of the students, one after the other.
use Rattle.portal_answer.proofs.Base.{◌≡◌, ◌+◌, ◌<◌, ◌++◌, ℕ, List, [], length, take, get_or, Option, Some, None}
use Rattle.portal_answer.proofs.Base.{is_some, is_none, inl, inr, ◌∷◌, ◌∙◌, refl, arith, flat_map, zip, count_by, Spa}
use Rattle.portal_answer.proofs.Base.{Text, assign_line, take_more, append-nil, take_all}
use mir.Val.{bool_byte}
use Rattle.std.proofs.lemmas.Bool.{cases_Bool}
use Rattle.std.proofs.lemmas.List.Sums.{count_by_more_yes, count_by_more_no}
use Rattle.std.proofs.lemmas.Grind.{flat_map-append}
use Rattle.spa_model.proofs.Counts.{count_by-cons}
use Rattle.std.proofs.lemmas.Slice.Zip.{get_or-zip, length-zip}

abbrev pub line : Spa → Text × Option ℕ → Text
line i e = assign_line i e.0 e.1

-- one line more
pub line_more : (i : Spa) (m : List (Option ℕ)) (s : ℕ) (text : Text) (o : Option ℕ) → s < length i.student_keys
    → s < length m → o ≡ get_or m s None
    → text ≡ flat_map (λ e. assign_line i e.0 e.1) (take s (zip i.student_keys m))
    → text ++ assign_line i (get_or i.student_keys s []) o ≡ flat_map (λ e. assign_line i e.0 e.1) (take (s + 1) (zip i.student_keys m))
line_more i m s text o h k e so_far =
    let here : Text × Option ℕ = ([], None) in
    let more = take_more (zip i.student_keys m) s here (omega (arith, length-zip i.student_keys m)) in
    let at = get_or-zip i.student_keys m s here h k in
    rw (more, at, flat_map-append (λ (e : Text × Option ℕ). assign_line i e.0 e.1), so_far, e, append-nil) refl

-- the count after one student more
pub one_more : (m : List (Option ℕ)) (s : ℕ) → s < length m
    → count_by is_some (take (s + 1) m) ≡ count_by is_some (take s m) + bool_byte (is_some (get_or m s None))
one_more m s h = elim (cases_Bool (is_some (get_or m s None))) [
  | inl placed ↦ rw placed (count_by_more_yes is_some m s None h placed)
  | inr free ↦ rw free (count_by_more_no is_some m s None h free ∙ omega arith)
]

-- who has no project is not counted
pub counts : (m : List (Option ℕ)) → count_by is_some m + count_by is_none m ≡ length m
counts [] = refl
counts (None ∷ m) = omega (arith, counts m, count_by-cons is_some None m, count_by-cons is_none None m)
counts (Some p ∷ m) = omega (arith, counts m, count_by-cons is_some (Some p) m, count_by-cons is_none (Some p) m)

-- all lines, and the line of the counts
pub whole : (keys : List Text) (m : List (Option ℕ)) (n : ℕ) → n ≡ length m → length keys ≡ length m
    → (take n (zip keys m) ≡ zip keys m) × (take n m ≡ m)
whole keys m n e same = (take_all n (zip keys m) (omega (arith, length-zip keys m)), take_all n m (omega arith))
