use Rattle.portal_list.proofs.Base.{◌≡◌, ◌<◌, ℕ, false, length, get_or, take, ◌||◌, is_among}
use Rattle.portal_list.proofs.applicant_index.mark.Given as goal

abbrev pub invariant-loop-place : goal.invariant-loop-place
invariant-loop-place l = record {
  len : length l.marks ≡ length l.initial.marks;
  marks : (i : ℕ) → i < length l.initial.marks
      → get_or l.marks i false ≡ (get_or l.initial.marks i false || is_among (take l.place-index l.places) i);
}
