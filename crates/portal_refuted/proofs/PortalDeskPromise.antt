-- Refutes the main promise, part by part: of exchanges that are no run, leave a bad world, show a list to
-- others, publish or show a worse result, or give a caller other replies.
use Rattle.std.proofs.Common.{◌≡◌, ℕ, ◌<◌, inl, inr, true, false, List, [], ◌∷◌, length, None}
use Rattle.std.proofs.Common.{refl, ap, arith}
use Rattle.std.specs.Fmt.{digits}
use Rattle.std.specs.Prelude.{codes}
use Rattle.portal_rules.specs.declared.phase.Phase.TheVariants.{Ranking}
use Rattle.portal_rules.specs.declared.view.View.{View as Sight}
use Rattle.portal_rules.specs.declared.view.View.TheVariants as sees
use Rattle.portal_rules.specs.Answer.{Answer}
use Rattle.portal_rules.specs.Good.{instance, matching_of}
use Rattle.portal_rules.specs.Heard.{Asked, HeardItem}
use Rattle.portal_rules.specs.Run.{Calls, Serves, unavailable}
use Rattle.portal_rules.specs.Calls.{AbstractCall}
use Rattle.portal_rules.specs.World.{World, Choices, changed}
use Rattle.portal_core.specs.Honest.{ShowsBest}
use Rattle.portal_wire.specs.Conversation.{Closed, Exchange, common_lines, reply_text}
use Rattle.portal_wire.specs.Wish.{route_at, the_paths}
use Rattle.portal_desk.specs.Headline.{IsAnswered, Hears, IsLikeAll, IsUpheld, ServesAnswered}
use Rattle.spa_model.specs.Spa.{IsBest}
use Rattle.spa_model.specs.declared.letter.Letter.TheVariants.{A}
use Rattle.portal_refuted.proofs.GoodWorld.{ann, ben, published, published_best, published_good}
use Rattle.portal_refuted.proofs.Keepers.{choosing}
use Rattle.portal_refuted.proofs.PortalFrame.{plain_bytes}
use Rattle.portal_refuted.proofs.PortalDesk.{accepted, kept_none}
use Rattle.portal_refuted.proofs.PortalDeskServe.{digit, exchange, no_route_reply, not_found, plain_tells, sent}

-- ---- upheld: the exchanges are a run

pub reply_of_no_run_is_not_upheld : (a : Answer) → a.status ≡ 200
    → IsUpheld published (record exchange { reply = a } ∷ []) (published ∷ []) → ⊥
unfolding route_at the_paths
reply_of_no_run_is_not_upheld a ok upheld = no_step upheld.run.0
  where
    no_step : Serves published exchange.request a published → ⊥
    no_step (inl refused) = omega (arith, ok, ap (λ (b : Answer). b.status) refused.0)
    no_step (inr failed) = omega (arith, ok, ap (λ (b : Answer). b.status) failed.0)

pub accepted_list_that_is_not_kept_is_not_upheld : IsUpheld choosing (accepted ∷ []) (choosing ∷ []) → ⊥
accepted_list_that_is_not_kept_is_not_upheld upheld = kept_none upheld.run.0

-- a request that acts twice, and one whose world is left out
pub run_with_two_worlds_is_not_upheld : (e : Exchange) (w v u : World) → IsUpheld w (e ∷ []) (v ∷ u ∷ []) → ⊥
run_with_two_worlds_is_not_upheld e w v u upheld = upheld.run.1

pub run_without_its_last_world_is_not_upheld : (e : Exchange) (w : World) → IsUpheld w (e ∷ []) [] → ⊥
run_without_its_last_world_is_not_upheld e w upheld = upheld.run

-- ---- its worlds are good

pub world_without_an_office_code_is_not_upheld : (w : World) (e : Exchange)
    → IsUpheld w (e ∷ []) (record published { office = [] } ∷ []) → ⊥
world_without_an_office_code_is_not_upheld w e upheld = cc (upheld.good.0.sound.office_form)

-- ---- a request of a student or lecturer changes no other view

-- Ann sends a list
abbrev by_ann : Exchange
by_ann = record {
  request = record { code = codes "ann-code-1"; head = false; closes = true; wish = Calls (AbstractCall.SetChoices []) };
  reply = unavailable;
}

abbrev list_length : Sight → ℕ
list_length (sees.Student v) = length v.choices
list_length _ = 0

-- and Bea's is replaced
pub list_of_somebody_else_replaced_is_not_unseen :
    IsUpheld choosing (by_ann ∷ []) (changed choosing (Choices (codes "S2") []) ∷ []) → ⊥
list_of_somebody_else_replaced_is_not_unseen upheld =
    omega (arith, ap list_length ((upheld.unseen (codes "bea-code-2")).0 tt refl refl))

-- ---- each step that publishes leaves the best result

-- nobody has a project, though Ann listed one with room
abbrev nobody_placed : World
nobody_placed = record published { students = record ann { placed = None } ∷ ben ∷ [] }

abbrev ranking : World
ranking = record nobody_placed { phase = Ranking }

not_best : IsBest (instance nobody_placed) (matching_of nobody_placed) → ⊥
not_best best = best.stable.unblocked 0 0 A ((omega arith, _), omega arith, omega arith)

pub worse_result_is_not_published : (e : Exchange) → IsUpheld ranking (e ∷ []) (nobody_placed ∷ []) → ⊥
worse_result_is_not_published e upheld = not_best (upheld.published.0 refl refl).best

-- ---- a shown result stays the best

shows_best : ShowsBest published
shows_best = record { good = published_good; now = λ e. published_best; before = λ e. absurd (cc) }

pub worse_result_afterwards_is_not_best : (e : Exchange) → IsUpheld published (e ∷ []) (nobody_placed ∷ []) → ⊥
worse_result_afterwards_is_not_best e upheld = not_best ((upheld.best shows_best).0.now refl)

-- ---- the right exchange: a path that nobody has, and its 404

right_answered : IsAnswered [] (exchange ∷ [])
right_answered = ((λ is. omega (arith, ap (λ (a : Answer). a.status) is)), tt)

is_right : ServesAnswered published plain_bytes Closed (exchange ∷ []) sent (published ∷ [])
unfolding route_at the_paths
is_right = record { tells = plain_tells; run = (inl (refl, refl), tt); answered = right_answered }

pub right_exchange_is_upheld : ServesAnswered published plain_bytes Closed (exchange ∷ []) sent (published ∷ [])
    × IsUpheld published (exchange ∷ []) (published ∷ [])
right_exchange_is_upheld = (
  is_right,
  record {
    run = is_right.run;
    good = (published_good, tt);
    unseen = λ c. ((λ member other office. refl), tt);
    published = ((λ e. absurd (cc)), tt);
    best = λ shows. (shows, tt);
  },
)

-- ---- alike: other replies to a caller who asks the same

abbrev heard : List HeardItem
heard = Asked false true exchange.request.wish ∷ []

-- the same request with another reply
abbrev replied : Answer → List Exchange
replied a = record exchange { reply = a } ∷ []

-- whoever asks without a code hears the own request alone
hears : (a : Answer) → Hears [] published (replied a) (published ∷ []) heard
unfolding route_at the_paths
hears a = (heard, [], ([], refl, refl), refl, refl)

first_text : List (List ℕ) → List ℕ
first_text [] = []
first_text (t ∷ ts) = t

-- any reply but a 503 whose status begins with a digit other than 4
pub other_reply_is_not_alike : (a : Answer) → digit (reply_text a false true) < 52 → IsAnswered [] (replied a)
    → IsLikeAll published (replied a) (published ∷ []) → ⊥
unfolding first_text
other_reply_is_not_alike a low answered like =
    let same = like published (exchange ∷ []) (published ∷ []) is_right.run [] heard answered right_answered refl (hears a)
    (hears no_route_reply) in
    omega (arith, low, not_found, ap (λ ts. digit (first_text ts)) same.0)

abbrev yes_to_all : Answer
yes_to_all = record { status = 200; allow = []; body = no_route_reply.body }

pub yes_to_all_begins_lower : digit (reply_text yes_to_all false true) < 52
unfolding common_lines digits
yes_to_all_begins_lower = omega arith

pub yes_to_all_is_answered : IsAnswered [] (replied yes_to_all)
yes_to_all_is_answered = ((λ is. omega (arith, ap (λ (a : Answer). a.status) is)), tt)
