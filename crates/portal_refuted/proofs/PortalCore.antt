-- Refutes the law that answered runs exist, if a refusal by 503 counts as a reply.
use Rattle.std.proofs.Common.{◌≡◌, List, [], ◌∷◌, inl, inr, refl}
use Rattle.std.specs.List.{AllByRecursion}
use Rattle.std.specs.Prelude.{◌↔◌, false}
use Rattle.portal_core.specs.Replies.{HasReply}
use Rattle.portal_rules.specs.Answer.{Answer}
use Rattle.portal_rules.specs.Good.{Good}
use Rattle.portal_rules.specs.Run.{AllAnswered, Calls, HasForm, NoCall, Request, Run, Wish, unavailable}
use Rattle.portal_rules.specs.World.{World}
use Rattle.portal_refuted.proofs.GoodWorld.{published, published_good}

abbrev HasAnyReply : Wish → Type 0
HasAnyReply (Calls ask) = HasForm ask
HasAnyReply (NoCall refusal) = refusal ≡ refusal

abbrev HasRun : World → List Request → Type 0
HasRun w asked = (told : List Answer) × (after : List World) × Run w asked told after × AllAnswered told

abbrev RunExistsForAny : Type 0
RunExistsForAny = (w : World) (asked : List Request) → Good w → HasRun w asked ↔ AllByRecursion (λ r. HasAnyReply r.wish) asked

abbrev turned_away : Request
turned_away = record { code = []; head = false; closes = false; wish = NoCall unavailable }

no_run : HasRun published (turned_away ∷ []) → ⊥
no_run ([], after, run, answered) = run
no_run (a ∷ told, [], run, answered) = run
no_run (a ∷ told, v ∷ after, (inl same, rest), answered) = answered.0 same.0
no_run (a ∷ told, v ∷ after, (inr same, rest), answered) = answered.0 same.0

pub refusal_by_503_has_no_answered_run : RunExistsForAny → ⊥
refusal_by_503_has_no_answered_run law = no_run ((law published (turned_away ∷ []) published_good).1 (refl, tt))

pub refusal_by_503_is_no_reply : HasReply (NoCall unavailable) → ⊥
refusal_by_503_is_no_reply other = other refl
