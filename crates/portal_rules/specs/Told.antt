-- What one caller is told in a run, as a function of the first view and of what the caller hears.
use Rattle.std.specs.Prelude.{List, [], ◌∷◌}
use Rattle.portal_rules.specs.declared.view.View.{View as Sight}
use Rattle.portal_rules.specs.Answer.{Answer, answer, own}
use Rattle.portal_rules.specs.Run.{Wish, Calls, NoCall}
use Rattle.portal_rules.specs.Heard.{HeardItem, Asked, Sees}

-- the reply to a caller with this view
abbrev pub reply_to : Sight → Wish → Answer
reply_to v (Calls ask) = answer v ask
reply_to v (NoCall refusal) = refusal

-- the caller's view afterwards, if nothing else changes it
abbrev pub view_after : Sight → Wish → Sight
view_after v (Calls ask) = own v ask
view_after v (NoCall refusal) = v

-- the replies to a caller who starts with this view and hears this
abbrev pub replies_from : Sight → List HeardItem → List Answer
replies_from v [] = []
replies_from v (Asked head closes wish ∷ items) = reply_to v wish ∷ replies_from (view_after v wish) items
replies_from v (Sees u ∷ items) = replies_from u items

-- the caller's last view
abbrev pub view_from : Sight → List HeardItem → Sight
view_from v [] = v
view_from v (Asked head closes wish ∷ items) = view_from (view_after v wish) items
view_from v (Sees u ∷ items) = view_from u items
