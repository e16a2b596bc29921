use Rattle.portal_list.proofs.Base.{◌≡◌, ◌<◌, ℕ, false, length, get_or, take, map, list_any, has, passes_at}
use Rattle.portal_list.proofs.applicant_index.ApplicantIndex.marks.Given as goal

abbrev pub invariant-loop-project : goal.invariant-loop-project
invariant-loop-project l = record {
  len : length l.marks.items ≡ length l.self;
  marks : (i : ℕ) → i < length l.self
      → get_or l.marks.items i false ≡ passes_at
      (λ s. list_any (λ p. has s.choice p) (map (λ k. k.now) (take l.project-index l.projects))) l.self i;
}
