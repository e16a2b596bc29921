use Rattle.portal_list.proofs.Base.{◌≡◌, IfOk-weaker, Sound, RollsOf, is_second, rules, subst, sym, true}
use Rattle.portal_list.proofs.Parted.{rolls_first}
use Rattle.portal_list.proofs.keeper.ListKeeper.has_sound_first.Goals as goal

pub is_sound-requires : goal.is_sound-requires
is_sound-requires c = subst RollsOf (sym c.in_ok-first-in-Second.ensures) (rolls_first c.args.self.now c.requires)

pub returns-in_ok-first-in-Second : goal.returns-in_ok-first-in-Second
returns-in_ok-first-in-Second c =
    let second : is_second c.args.self.now.round ≡ true = search rules in
    IfOk-weaker c.is_sound.result _ _
    (λ yes same. (
      λ e _. subst Sound c.in_ok-first-in-Second.ensures (same.0 e),
      λ h. same.1 (subst Sound (sym c.in_ok-first-in-Second.ensures) (h second)),
    )) c.is_sound.ensures
