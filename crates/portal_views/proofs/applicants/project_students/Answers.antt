use Rattle.portal_views.proofs.Base.{◌∙◌, ◌++◌, ◌∷◌, ◌≡◌, ApplicantLine, List, Person, [], ap, applicants_of_projects}
use Rattle.portal_views.proofs.Base.{lines_shown, map, map-append, next_item, placed_at_shown, placed_of_projects}
use Rattle.portal_views.proofs.Base.{reads_handed, reads_more, reads_short, reads_then, state, sym, take, ◌+◌}
use Rattle.portal_views.proofs.applicants.project_students.Goals as goal

pub returns-in_err-lines : goal.returns-in_err-lines
returns-in_err-lines g c =
    reads_handed c.from_residual.ensures.1 (reads_then c.loop-project.invariant c.in_err-lines.ensures) (λ own tables told. told.1)

pub returns-in_err-placed : goal.returns-in_err-placed
returns-in_err-placed g c =
    reads_handed c.from_residual-in_err-placed.ensures.1
    (reads_then c.loop-project.invariant (reads_then c.in_ok-lines.ensures c.in_err-placed.ensures)) (λ own tables told. told.1.1)

pub loop-project-preserved : goal.loop-project-preserved
loop-project-preserved g c =
    let db = (state g.S.Store c.args.conn.now).now.trees in
    let round = c.args.round in
    let phase = c.args.phase in
    let keys = c.args.projects.now in
    let at = c.loop-project.project-index in
    let key = c.project-item.result in
    let next : take (at + 1) keys ≡ take at keys ++ key ∷ [] = next_item keys at key c.project-item.is c.loop-project-test.true in
    let persons : List ApplicantLine → List Person = map (λ (l : ApplicantLine). l.person) in
    reads_more tt (reads_then c.loop-project.invariant (reads_then c.in_ok-lines.ensures c.in_ok-placed.ensures))
    (λ own tables told. record {
      applicants =
          c.in_ok-add.ensures.applicants ∙ (λ i. told.0.applicants i
          ++ (key, persons ((c.deref-in-loop-project.ensures.value ∙ told.1.0) i)) ∷ [])
          ∙ sym (ap (applicants_of_projects round db phase) next
          ∙ map-append (λ k. (k, persons (lines_shown round db phase k))) (take at keys) (key ∷ []));
      placed =
          c.in_ok-add.ensures.placed
          ∙ (λ i. told.0.placed i ++ (key, (told.1.1 ∙ ap (placed_at_shown round db phase key) (c.deref.ensures.value ∙ told.1.0)) i) ∷ [])
          ∙ sym (ap (placed_of_projects round db phase) next
          ∙ map-append (λ k. (k, placed_at_shown round db phase k (lines_shown round db phase k))) (take at keys) (key ∷ []));
    })

pub returns-in_err-add : goal.returns-in_err-add
returns-in_err-add g c =
    reads_short c.from_residual-in_err-add.ensures.1
    (reads_then c.loop-project.invariant (reads_then c.in_ok-lines.ensures c.in_ok-placed.ensures))
    (λ own tables told damaged. absurd (cc))
