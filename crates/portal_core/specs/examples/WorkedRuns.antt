-- Runs in a small world: two that a lecturer cannot tell apart, one that differs, and which list counts.
use Rattle.std.specs.Prelude.{◌≡◌, ◌≢◌, false, List, [], ◌∷◌, codes, Some, None}
use Rattle.portal_rules.specs.declared.phase.Phase.TheVariants.{Choosing}
use Rattle.portal_rules.specs.declared.phase.Round.TheVariants.{Second}
use Rattle.portal_rules.specs.Words.{Key}
use Rattle.portal_rules.specs.World.{World, Choices, Ranks, changed}
use Rattle.portal_rules.specs.View.{view}
use Rattle.portal_rules.specs.Calls.{AbstractCall}
use Rattle.portal_rules.specs.Answer.{Answer, answer}
use Rattle.portal_rules.specs.Run.{Request, Calls, Run, AllAnswered, unavailable}
use Rattle.portal_rules.specs.Heard.{Heard, HeardItem, Asked, replies_to}
use Rattle.portal_rules.specs.examples.Worked.{listed, body, refusal}
use Rattle.portal_core.specs.Saved.{submitted}

abbrev pub lee : Key
lee = codes "lee-code-01"

abbrev pub ann : Key
ann = codes "ann-code-1"

abbrev pub by : Key → AbstractCall → Request
by code ask = record { code = code; head = false; closes = false; wish = Calls ask }

-- Ann looks at her list, and Lee ranks Bea before Ann
abbrev pub ranked : List Key
ranked = codes "S2" ∷ codes "S1" ∷ []

abbrev pub asked : List Request
asked = by ann AbstractCall.ShowChoices ∷ by lee (AbstractCall.SetRanking ranked) ∷ []

abbrev pub both_answered : World → List Answer
both_answered w = answer (view w ann) AbstractCall.ShowChoices ∷ answer (view w lee) (AbstractCall.SetRanking ranked) ∷ []

abbrev pub only_lee_answered : World → List Answer
only_lee_answered w = unavailable ∷ answer (view w lee) (AbstractCall.SetRanking ranked) ∷ []

abbrev pub after : World → List World
after w = w ∷ changed w (Ranks (codes "L1") ranked) ∷ []

abbrev pub heard_by_lee : List HeardItem
heard_by_lee = Asked false false (Calls (AbstractCall.SetRanking ranked)) ∷ []

-- with Ann's list in another order, and without Lee's projects
abbrev pub turned : World
turned = changed listed (Choices (codes "S1") (codes "P2" ∷ codes "P1" ∷ []))

abbrev pub elsewhere : World
elsewhere = changed listed (Choices (codes "S1") (codes "P3" ∷ []))

-- Lee cannot tell whether Ann gets a 503, nor which order she chose
pub record TellsNothing : Type 0 where
  pub one : Run listed asked (only_lee_answered listed) (after listed)
  pub other : Run turned asked (both_answered turned) (after turned)
  -- the premises of `same_replies`
  pub answered : AllAnswered (replies_to lee asked (only_lee_answered listed))
  pub answered_too : AllAnswered (replies_to lee asked (both_answered turned))
  pub heard : Heard lee listed asked (after listed) heard_by_lee
  pub heard_too : Heard lee turned asked (after turned) heard_by_lee
  pub same_view : view listed lee ≡ view turned lee
  -- and what it says
  pub same_replies : replies_to lee asked (only_lee_answered listed) ≡ replies_to lee asked (both_answered turned)

-- if Ann chose none of Lee's projects, Lee's view differs, and the ranking is refused
pub record TellsChoice : Type 0 where
  pub run : Run elsewhere asked (both_answered elsewhere) (elsewhere ∷ elsewhere ∷ [])
  pub other_view : view listed lee ≢ view elsewhere lee
  pub other_replies : replies_to lee asked (only_lee_answered listed) ≢ replies_to lee asked (both_answered elsewhere)

-- Ann saves three lists, the last of which is refused; then the second round opens
abbrev pub saved : List Request
saved =
    by ann (AbstractCall.SetChoices (codes "P1" ∷ codes "P2" ∷ []))
    ∷ by ann (AbstractCall.SetChoices (codes "P2" ∷ []))
    ∷ by ann (AbstractCall.SetChoices (codes "P9" ∷ []))
    ∷ []

abbrev pub saved_told : List Answer
saved_told = body [] ∷ body [] ∷ refusal 422 (codes "bad_list") [] ∷ []

pub record TellsSubmitted : Type 0 where
  pub last : submitted ann false None saved saved_told ≡ Some (codes "P2" ∷ [])
  pub of_others : submitted lee false None saved saved_told ≡ None
  pub reopened : submitted ann false (Some (codes "P2" ∷ []))
      (by (codes "office-code-0") (AbstractCall.Move Choosing (Some Second)) ∷ []) (body [] ∷ []) ≡ None
