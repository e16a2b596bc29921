-- Students whose lists are cut at the end harm nobody else: of worlds.
use Rattle.portal_rules.proofs.Base.{◌≡◌, ◌≢◌, inl, inr, ℕ, ◌<◌, true, List, [], ◌∷◌, map, length, get_or, sym, ◌∙◌, ap}
use Rattle.portal_rules.proofs.Base.{subst, arith, take, refl, ◌≤◌, cases_lt, get_or-map, get_or_past, length-map, AllZip, AllZip-get_or}
use Rattle.portal_rules.proofs.Base.{AllZip-long, IsAsGood, choices_of, project_of, number_in, Key, World}
use Rattle.portal_rules.proofs.Base.{project_key, student_key, is_published, students_in, in_play, instance_of}
use Rattle.portal_rules.proofs.Base.{places_of, project_keys, student_keys, StudentSees, view, Good, alone, alone_student}
use Rattle.std.proofs.lemmas.List.{take-map}
use Rattle.portal_core.specs.Honest.{HasBest, DifferInLists, ListAlike, IsNoWorse}
use Rattle.spa_honest.proofs.Shorter.{shorter_never_harm as shorter_by_number, as_good_alike as alike_by_number}
use Rattle.spa_honest.specs.Honest.{IsCut}
use Rattle.spa_honest.specs.Honest as instances
use Rattle.portal_rules.specs.declared.view.View.TheVariants as sees
use Rattle.portal_rules.specs.World.{Student}
use Rattle.portal_core.proofs.HonestLists.{no_student, IsBestRound, IsStableRound, best_alone, stable_alone}
use Rattle.portal_core.proofs.HonestLists.{world_ranked, differ_by_number, differ_alone}
use Rattle.portal_rules.proofs.Zips.{zip_same, zip_mapped, zip_in}
use Rattle.portal_core.proofs.HonestGroups.{gains_nothing, own_group, one_gains_nothing, if_playing}

-- what is alike in two ways
zip_both : {X : Type 0} (R Q : X → X → Type 0) (xs ys : List X) → AllZip R xs ys → AllZip Q xs ys
    → AllZip (λ x y. R x y × Q x y) xs ys
zip_both R Q [] [] r q = tt
zip_both R Q (x ∷ xs) (y ∷ ys) r q = ((r.0, q.0), zip_both R Q xs ys r.1 q.1)
zip_both R Q xs ys r q = grind arith

module _ (w v : World) (other : Good w) (one : HasBest v) (key : Key) (differ : DifferInLists w v (λ k. k ≢ key))
    (cut : AllZip (λ (x y : Student). IsCut x.choice y.choice) w.students v.students) where
  best : IsBestRound (alone (in_play v))
  best = best_alone v one

  apart : DifferInLists (alone (in_play w)) (alone (in_play v)) (λ k. k ≢ key)
  apart = differ_alone w v (λ k. k ≢ key) differ

  -- the same student, with the same list or a cut one
  abbrev Shortened : Student → Student → Type 0
  Shortened x y = ListAlike (λ k. k ≢ key) x y × IsCut x.choice y.choice

  shortened : AllZip Shortened (alone (in_play w)).students (alone (in_play v)).students
  shortened = zip_mapped Shortened alone_student alone_student (λ x y r. ((r.0.0, r.0.1, refl), r.1)) (in_play w).students
      (in_play v).students
      (subst (λ r. AllZip Shortened (students_in w.round w.students) (students_in r v.students)) (sym differ.round)
      (zip_in Shortened (λ x y r. r.0.2) w.round w.students v.students
      (zip_both (ListAlike (λ k. k ≢ key)) (λ (x y : Student). IsCut x.choice y.choice) w.students v.students differ.students cut)))

  as_long : length (alone (in_play v)).students ≡ length (alone (in_play w)).students
  as_long = AllZip-long Shortened (alone (in_play w)).students (alone (in_play v)).students shortened

  listed : (x : World) (s : ℕ) → s < length x.students
      → choices_of (instance_of x) s ≡ map (number_in (project_keys x)) (get_or x.students s no_student).choice
  listed x s h = get_or-map (λ (y : Student). map (number_in (project_keys x)) y.choice) x.students s no_student [] h

  none_past : (x : World) (s : ℕ) → length x.students ≤ s → choices_of (instance_of x) s ≡ []
  none_past x s past = get_or_past (instance_of x).choices s []
      (omega (arith, past, length-map x.students (λ (y : Student). map (number_in (project_keys x)) y.choice)))

  cut_by_number : (s : ℕ)
      → IsCut (choices_of (instance_of (alone (in_play w))) s) (choices_of (instance_of (alone (in_play v))) s)
  cut_by_number s = elim (cases_lt s (length (alone (in_play w)).students)) [
    | inr past ↦ (0, none_past (alone (in_play v)) s (omega (arith, past, as_long)))
    | inl low ↦
        let shorter = (AllZip-get_or Shortened (alone (in_play w)).students
        (alone (in_play v)).students s no_student no_student shortened low).1 in
        let mine : List Key = (get_or (alone (in_play w)).students s no_student).choice in (
          shorter.0,
          listed (alone (in_play v)) s (omega (arith, low, as_long))
              ∙ ap (map (number_in (project_keys (alone (in_play v))))) shorter.1
              ∙ sym (take-map (number_in (project_keys (alone (in_play v)))) shorter.0 mine)
              ∙ (λ i. take shorter.0 (map (number_in (map project_key (apart.projects i))) mine))
              ∙ ap (take shorter.0) (sym (listed (alone (in_play w)) s low)),
        )
  ]

  -- the student with the key, by number
  by_number : is_published w.phase ≡ true → (s : ℕ) → (get_or (alone (in_play v)).students s no_student).row.key ≡ key
      → instances.IsNoWorse (instance_of (alone (in_play v))) s (project_of (places_of (alone (in_play v))) s)
      (project_of (places_of (alone (in_play w))) s)
  by_number out s own p shows there =
      let rival : IsStableRound (alone (in_play w)) = stable_alone w other out in
      let apart_n = differ_by_number (alone (in_play w)) (alone (in_play v)) best.sound (λ k. k ≢ key) (λ t. t ≢ s) apart
      (λ t low differs same. differs (own_key t low same)) in
      subst (IsAsGood (instance_of (alone (in_play v))) s (project_of (places_of (alone (in_play v))) s)) shows
      (alike_by_number (instance_of (alone (in_play v))) (instance_of (alone (in_play w))) s
      (sym (apart_n.others s (λ differs. differs refl))) (project_of (places_of (alone (in_play v))) s)
      (project_of (places_of (alone (in_play w))) s)
      (shorter_by_number (instance_of (alone (in_play w))) (instance_of (alone (in_play v))) (places_of (alone (in_play w)))
      (places_of (alone (in_play v))) s
      (world_ranked (alone (in_play w)) rival.sound rival.one rival.published) apart_n cut_by_number rival.stable best.best))
    where
      own_key : (t : ℕ) → t < length (alone (in_play w)).students → t ≡ s → get_or (student_keys (alone (in_play w))) t [] ≡ key
      own_key t low same =
          let alike = (AllZip-get_or Shortened (alone (in_play w)).students
          (alone (in_play v)).students t no_student no_student shortened low).0 in
          get_or-map student_key (alone (in_play w)).students t no_student [] low
          ∙ sym (ap (λ row. row.key) alike.0)
          ∙ ap (λ n. (get_or (alone (in_play v)).students n no_student).row.key) same
          ∙ own

-- THEY HARM NOBODY ELSE
pub shorter_never_harm : (w v : World) → Good w → HasBest v → (code : Key) (a b : StudentSees)
    → view v code ≡ sees.Student a → view w code ≡ sees.Student b → DifferInLists w v (λ k. k ≢ a.me.key)
    → AllZip (λ (x y : Student). IsCut x.choice y.choice) w.students v.students → IsNoWorse a.choices a.result b.result
shorter_never_harm w v other one code a b sees_a sees_b differ cut =
    let far : DifferInLists (alone (in_play w)) (alone (in_play v)) (λ k. k ≢ a.me.key) = differ_alone w v (λ k. k ≢ a.me.key) differ in
    let same : map (λ (s : Student). s.row) (alone (in_play w)).students ≡ map (λ (s : Student). s.row) (alone (in_play v)).students
    = sym (zip_same (ListAlike (λ k. k ≢ a.me.key)) (λ (s : Student). s.row) (λ x y r. r.0) (alone (in_play w)).students
    (alone (in_play v)).students far.students) in
    if_playing v code a one.good.sound sees_a b.result
    (λ plays. one_gains_nothing v w code a b one.good.sound sees_a sees_b
    (gains_nothing v w one other same (sym (ap (map project_key) far.projects)) (a.me.key ∷ []) a.me.key (own_group a.me.key) plays
    (λ s at out. by_number w v other one a.me.key differ cut out s at)))
