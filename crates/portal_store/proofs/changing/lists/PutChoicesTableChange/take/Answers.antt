use Rattle.portal_store.proofs.Base.{does_more}
use Rattle.portal_store.proofs.ChoiceTurns.{choice_made}
use Rattle.portal_store.proofs.changing.lists.PutChoicesTableChange.take.Goals as goal

pub returns : goal.returns
returns g c = does_more g.S.Store _ _ _ _ _ c.put_list.ensures
    (choice_made c.args.self.round c.args.self.student.now c.args.self.projects.now _ _)
