-- A step from a good world leads to a good world, and so does a run.
use Rattle.portal_rules.proofs.Base.{List, [], ◌∷◌, AllByRecursion, Request, Serves, Run, ◌≡◌, true, false, refl, sym}
use Rattle.portal_rules.proofs.Base.{◌∙◌, ap, subst, Key, World, is_setup, is_ranking, is_published, is_from_ranking}
use Rattle.portal_rules.proofs.Base.{is_second, Round, First, Choices, Ranks, To, Placements, Fill, changed, opened}
use Rattle.portal_rules.proofs.Base.{in_first, with_lecturers, with_projects, with_students, Phase, Choosing, Ranking}
use Rattle.portal_rules.proofs.Base.{Published, Caller, NoCaller, OfficeCaller, LecturerCaller, StudentCaller, caller}
use Rattle.portal_rules.proofs.Base.{sight_of, office_sees, lecturer_sees, student_sees, AbstractCall, Answer, Decision}
use Rattle.portal_rules.proofs.Base.{is_open_to_rolls, refuses, decision, Good, IsRound, Sound, IsBest, instance}
use Rattle.portal_rules.proofs.Base.{matching_of, StepLeaves, Step, HasForm, arith}
use Rattle.portal_rules.proofs.Cases.{by_student, by_lecturer, by_office}
use Rattle.portal_rules.proofs.Unseen.{choosing_open, student_found}
use Rattle.portal_rules.proofs.Kept.{not_published, to_phase, to_published, all_ranked, choosing, ranking}
use Rattle.portal_rules.proofs.Fills.{filling}
use Rattle.portal_rules.proofs.Enrol.{open_phase, lecturers_added, projects_added, students_added}
use Rattle.portal_rules.proofs.Opened.{opened_good, opens_to, first_chosen, first_ranked, first_filled, alone_left}

pub ranking_open : (phase : Phase) → is_ranking phase ≡ true → is_published phase ≡ false
ranking_open phase e = grind arith

pub rolls_early : (round : Round) (phase : Phase) → is_open_to_rolls round phase ≡ true → is_from_ranking phase ≡ false
rolls_early round phase e = grind arith

module _ (w v : World) (code : Key) (g : Good w) where
  becomes : (u : World) → Good u → v ≡ u → Good v
  becomes u h e = subst Good (sym e) h

  -- what a decision leaves is good
  abbrev Leads : AbstractCall → Decision → Type 0
  Leads ask d = HasForm ask → StepLeaves w d.act v → Good v

  idle : (ask : AbstractCall) (reply : Answer) → Leads ask (refuses reply)
  idle ask reply form left = becomes w g left

  -- new rows, which the first round alone takes
  enrolled : (u : World) → is_open_to_rolls w.round w.phase ≡ true
      → (is_from_ranking w.phase ≡ false → w.round ≡ First → Sound u) → u.round ≡ w.round → u.phase ≡ w.phase
      → v ≡ in_first w.round u w → Good v
  enrolled u now sound round phase e =
      let early : is_from_ranking w.phase ≡ false = rolls_early w.round w.phase now in
      let one : w.round ≡ First = grind arith in
      becomes u (not_published u (sound early one) (ap is_published phase ∙ open_phase w.phase early)
      (λ h. let second : is_second w.round ≡ true = ap is_second (sym round) ∙ h in cc))
      (e ∙ ap (λ r. in_first r u w) one)

  pub step_case : (x : Caller) → caller w code ≡ x → (ask : AbstractCall) → Leads ask (decision (sight_of w x) ask)
  step_case NoCaller is ask = λ form left. becomes w g left
  step_case (StudentCaller s) is ask =
      by_student Leads idle (student_sees w s)
      (λ list now left none form.
      becomes _
      (not_published (changed w (Choices s.row.key list))
      (choosing w s.row.key list g.sound now (alone_left w _ s g.sound (student_found w code s is) left) none)
      (choosing_open w.phase now).1
      (λ h. subst IsRound (sym (first_chosen w s.row.key list)) (g.before h)))) ask
  step_case (LecturerCaller l) is ask =
      by_lecturer Leads idle (lecturer_sees w l)
      (λ list now none form.
      becomes _
      (not_published (changed w (Ranks l.row.key list)) (ranking w l.row.key list g.sound now none) (ranking_open w.phase now)
      (λ h. subst IsRound (sym (first_ranked w l.row.key list)) (g.before h)))) ask
  step_case OfficeCaller is ask =
      by_office Leads idle (office_sees w)
      (record {
        lecturers = λ rs new n now took form. enrolled (with_lecturers w new) now
            (λ early one. lecturers_added w early one rs new n g.sound form took) refl refl;
        projects = λ rs new n now took form. enrolled (with_projects w new) now
            (λ early one. projects_added w early one rs new n g.sound form took) refl refl;
        students = λ rs new n now took form. enrolled (with_students w new) now
            (λ early one. students_added w early one rs new n g.sound form took) refl refl;
        choosing = λ named at form. becomes _ (not_published (changed w (To Choosing))
            (to_phase w Choosing g.sound refl refl (ap is_published at) (λ h. ap is_from_ranking at)) refl g.before);
        ranking = λ named at form. becomes _ (not_published (changed w (To Ranking))
            (to_phase w Ranking g.sound refl refl (ap is_published at) (λ h. ap is_from_ranking at)) refl g.before);
        published = λ named at none form left.
            becomes (changed w (Placements left.0))
            (to_published w left.0 g (ap is_setup at) (all_ranked w (ap is_from_ranking at) none)
            (subst (λ u. IsBest (instance w) (matching_of u)) left.1 left.2))
            left.1;
        opened = λ one at form left. becomes (opened First Published w) (opened_good w g one at) (left ∙ opens_to w one at);
        filled = λ now some form. becomes _ (not_published (changed w Fill) (filling w g.sound now) (ranking_open w.phase now)
            (λ h. subst IsRound (sym (first_filled w)) (g.before h)));
        sheets = λ ask text sheet calm form left. becomes w g left;
      }) ask

pub step_good : (w v : World) (code : Key) (ask : AbstractCall) (reply : Answer) → Good w → Step w code ask reply v
    → Good v
step_good w v code ask reply g s = step_case w v code g (caller w code) refl ask s.form s.left

-- what each step keeps holds of each world that a run reaches, as that it is good
module _ (P : World → Type 0) (step : (w v : World) (code : Key) (ask : AbstractCall) (reply : Answer) → P w → Step w code ask reply v
    → P v) where
  served_keeps : (w v : World) (r : Request) (a : Answer) → P w → Serves w r a v → P v
  served_keeps w v r a p s = grind (arith, step w v r.code)

  pub run_keeps : (w : World) (asked : List Request) (told : List Answer) (after : List World) → P w
      → Run w asked told after → AllByRecursion P after
  run_keeps w asked told [] p run = tt
  run_keeps w (r ∷ rs) (a ∷ told) (v ∷ after) p run = let next : P v = served_keeps w v r a p run.0 in
      (next, run_keeps v rs told after next run.1)
  run_keeps w asked told after p run = grind arith

pub run_good : (w : World) (asked : List Request) (told : List Answer) (after : List World) → Good w
    → Run w asked told after → AllByRecursion Good after
run_good = run_keeps Good step_good
