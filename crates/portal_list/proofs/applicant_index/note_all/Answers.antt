use Rattle.portal_list.proofs.Base.{sym, ◌==◌, is_noted}
use Rattle.portal_list.proofs.Noted.{noted_more}
use Rattle.portal_list.proofs.applicant_index.note_all.Goals as goal

pub loop-project-preserved : goal.loop-project-preserved
loop-project-preserved c = λ q i.
    noted_more q.now c.project-item.result c.args.choice.now c.loop-project.project-index (c.args.place == i)
    (is_noted c.args.places.now q i) _ _ (c.loop-project.invariant q i) (c.in_ok-note.ensures q i) c.loop-project-test.true
    (sym c.project-item.is)
