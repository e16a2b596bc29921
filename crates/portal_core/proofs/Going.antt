-- From each good world each call has a step, and requests that have replies have a run without a 503.
use Rattle.portal_rules.proofs.Base.{◌≡◌, ◌≢◌, ◌∙◌, false, List, [], ◌∷◌, refl, sym, ap, subst, inl, inr, arith}
use Rattle.portal_rules.proofs.Base.{AllByRecursion, Key, World, is_setup, is_from_ranking, is_still_to_rank, in_play}
use Rattle.portal_rules.proofs.Base.{changed, Choices, Ranks, Lecturers, Projects, Students, To}
use Rattle.portal_rules.proofs.Base.{Placements, Fill, SecondRound, Caller, NoCaller, OfficeCaller}
use Rattle.portal_rules.proofs.Base.{LecturerCaller, StudentCaller, caller, sight_of, view, office_sees, lecturer_sees}
use Rattle.portal_rules.proofs.Base.{student_sees, AbstractCall, Answer, Decision, refuses, decision, answer, Good}
use Rattle.portal_rules.proofs.Base.{Sound, IsBest, instance, instance_of, matching_of, student_keys, project_keys}
use Rattle.portal_rules.proofs.Base.{StepLeaves, Step, HasForm, Wish, Calls, NoCall, Request, Answers, Serves, Run}
use Rattle.portal_rules.proofs.Base.{AllAnswered, unavailable, pairs_by}
use Rattle.portal_core.specs.Replies.{HasReply}
use Rattle.spa_honest.proofs.Exists.{best_of}
use Rattle.spa_student.specs.inner.Machine.{IsRanked}
use Rattle.portal_rules.proofs.Cases.{by_student, by_lecturer, by_office}
use Rattle.portal_rules.proofs.Kept.{all_ranked, placed_sound, instance_placed}
use Rattle.portal_rules.proofs.Alone.{alone_sound, rows_alone}
use Rattle.portal_rules.proofs.Capacities.{first_plays, second_plays, left_of}
use Rattle.portal_rules.specs.Alone.{alone}
use Rattle.portal_core.proofs.HonestLists.{world_ranked}
use Rattle.portal_rules.proofs.Published.{pairs_place}
use Rattle.portal_rules.proofs.Steps.{step_good}
use Rattle.portal_rules.specs.declared.phase.Round.{Round}
use Rattle.portal_rules.specs.declared.phase.Round.TheVariants.{First, Second}
use Rattle.portal_rules.specs.declared.phase.Phase.TheVariants.{Choosing, Ranking}
use Rattle.portal_rules.specs.declared.view.View.{View as Sight}

-- where nobody is still to rank, the instance is ranked
ranked_now : (w : World) → Sound w → is_setup w.phase ≡ false
    → AllByRecursion (λ l. is_still_to_rank w l ≡ false) w.lecturers → IsRanked (instance w)
ranked_now w sound late ranked = subst IsRanked (instance_placed w []) (by_round w.round refl)
  where
    placed : Sound (changed w (Placements []))
    placed = placed_sound w [] sound late ranked

    by_round : (r : Round) → w.round ≡ r → IsRanked (instance (changed w (Placements [])))
    by_round First one = subst (λ u. IsRanked (instance_of u)) (sym (first_plays (changed w (Placements [])) one))
        (world_ranked (changed w (Placements [])) placed one refl)
    by_round Second two =
        subst (λ u. IsRanked (instance_of u)) (sym (second_plays (changed w (Placements [])) two))
        (subst IsRanked (rows_alone (left_of (changed w (Placements []))))
        (world_ranked (alone (left_of (changed w (Placements [])))) (alone_sound (changed w (Placements [])) placed two) refl refl))

module _ (w : World) (g : Good w) where
  -- a decision leaves a world
  abbrev Leads : AbstractCall → Decision → Type 0
  Leads ask d = (v : World) × StepLeaves w d.act v

  idle : (ask : AbstractCall) (reply : Answer) → Leads ask (refuses reply)
  idle ask reply = (w, refl)

  -- there is a best result to publish
  best : is_setup w.phase ≡ false → AllByRecursion (λ l. is_still_to_rank w l ≡ false) w.lecturers
      → (v : World) × (pairs : List (Key × Key)) × (v ≡ changed w (Placements pairs)) × IsBest (instance w) (matching_of v)
  best late ranked =
      let one = best_of (instance w) (ranked_now w g.sound late ranked) in
      let pairs : List (Key × Key) = pairs_by (student_keys (in_play w)) (project_keys (in_play w)) one.0 in (
        changed w (Placements pairs),
        pairs,
        refl,
        subst (IsBest (instance w)) (sym (pairs_place w one.0 g.sound one.1.stable.matching)) one.1,
      )

  leads : (x : Caller) (ask : AbstractCall) → Leads ask (decision (sight_of w x) ask)
  leads NoCaller ask = (w, refl)
  leads (StudentCaller s) ask = by_student Leads idle (student_sees w s)
      (λ list now left none. (changed w (Choices s.row.key list), refl)) ask
  leads (LecturerCaller l) ask = by_lecturer Leads idle (lecturer_sees w l) (λ list now none. (changed w (Ranks l.row.key list), refl)) ask
  leads OfficeCaller ask =
      by_office Leads idle (office_sees w)
      (record {
        lecturers = λ rs new n now took. (changed w (Lecturers new), refl);
        projects = λ rs new n now took. (changed w (Projects new), refl);
        students = λ rs new n now took. (changed w (Students new), refl);
        choosing = λ named at. (changed w (To Choosing), refl);
        ranking = λ named at. (changed w (To Ranking), refl);
        published = λ named at none. let b = best (ap is_setup at) (all_ranked w (ap is_from_ranking at) none) in (b.0, (b.1, b.2, b.3));
        opened = λ one at. (changed w SecondRound, refl);
        filled = λ now some. (changed w Fill, refl);
        sheets = λ ask text sheet calm. (w, refl);
      }) ask

  -- EACH CALL HAS A STEP
  pub step_there : (code : Key) (ask : AbstractCall) → HasForm ask
      → (v : World) × Step w code ask (answer (view w code) ask) v
  step_there code ask form = let one = leads (caller w code) ask in (one.0, record { form = form; told = refl; left = one.1 })

-- no reply to a call is 503
pub told_else : (v : Sight) (ask : AbstractCall) → answer v ask ≡ unavailable → ⊥
told_else v ask e = grind arith

replied : (w : World) (r : Request) (x : Wish) → Good w → HasReply x
    → (a : Answer) × (v : World) × Answers w r x a v × (a ≢ unavailable) × Good v
replied w r (Calls ask) g form =
    let one = step_there w g r.code ask form in (
      answer (view w r.code) ask,
      one.0,
      one.1,
      told_else (view w r.code) ask,
      step_good w one.0 r.code ask (answer (view w r.code) ask) g one.1,
    )
replied w r (NoCall refusal) g other = (refusal, w, (refl, refl), other, g)

-- A RUN WITHOUT A 503
pub run_there : (w : World) (asked : List Request) → Good w → AllByRecursion (λ r. HasReply r.wish) asked
    → (told : List Answer) × (after : List World) × Run w asked told after × AllAnswered told
run_there w [] g all = ([], [], tt, tt)
run_there w (r ∷ rs) g all =
    let one = replied w r r.wish g all.0 in
    let rest = run_there one.1 rs one.4 all.1 in
    (one.0 ∷ rest.0, one.1 ∷ rest.1, (inl one.2, rest.2), (one.3, rest.3))

-- and only they have one
has_reply : (w v : World) (r : Request) (x : Wish) (a : Answer) → Answers w r x a v → a ≢ unavailable → HasReply x
has_reply w v r (Calls ask) a step other = step.form
has_reply w v r (NoCall refusal) a told other = λ e. other (told.0 ∙ e)

pub run_only : (w : World) (asked : List Request) (told : List Answer) (after : List World) → Run w asked told after
    → AllAnswered told → AllByRecursion (λ r. HasReply r.wish) asked
run_only w [] told after run all = tt
run_only w (r ∷ rs) [] after run all = absurd run
run_only w (r ∷ rs) (a ∷ told) [] run all = absurd run
run_only w (r ∷ rs) (a ∷ told) (v ∷ after) run all = (by_serves run.0, run_only v rs told after run.1 all.1)
  where
    by_serves : Serves w r a v → HasReply r.wish
    by_serves (inl told) = has_reply w v r r.wish a told all.0
    by_serves (inr failed) = absurd (all.0 failed.0)
