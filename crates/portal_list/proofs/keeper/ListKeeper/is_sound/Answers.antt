use Rattle.portal_list.proofs.Base.{◌↔◌, IfOk, IfOk-weaker, IsTrue, subst, World, ListsOf, rules}
use Rattle.portal_list.proofs.Rising.{map_map}
use Rattle.portal_list.proofs.Parted.{lists_of, sound_of}
use Rattle.portal_list.proofs.keeper.ListKeeper.is_sound.Goals as goal

pub lists_fit-requires-clause-students : goal.lists_fit-requires-clause-students
lists_fit-requires-clause-students c = search (rules, map_map)

pub returns : goal.returns
returns c =
    let told = subst (λ (v : World). IfOk c.lists_fit.result (λ yes. IsTrue yes ↔ ListsOf v)) c.self.view_is c.lists_fit.ensures in
    IfOk-weaker c.lists_fit.result _ _ (λ yes same.
    (λ e. sound_of c.args.self.now c.requires (same.0 e), λ sound. same.1 (lists_of c.args.self.now sound))) told
