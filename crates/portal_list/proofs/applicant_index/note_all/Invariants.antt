use Rattle.portal_list.proofs.Base.{◌≡◌, ℕ, take, Bor, ◌==◌, ◌||◌, ◌&&◌, Key, has, is_noted}
use Rattle.portal_list.proofs.applicant_index.note_all.Given as goal

abbrev pub invariant-loop-project : goal.invariant-loop-project
invariant-loop-project l = (q : Bor Key) (i : ℕ)
    → is_noted l.places q i ≡ (is_noted l.initial.places q i || (has (take l.project-index l.choice) q.now && (l.place == i)))
