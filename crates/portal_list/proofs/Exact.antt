-- What stands for the lines of a sound world is its instance.
use Rattle.portal_list.proofs.Base.{rules, AllByRecursion, ◌≡◌, false, List, map, sym, ◌∙◌, subst, ap, HasNoneBefore}
use Rattle.portal_list.proofs.Base.{Memory, Spa, IsLawful, StandsFor, Key, Rise, World, is_still_to_rank, instance}
use Rattle.portal_list.proofs.Base.{instance_of, Sound, First, first_plays, AllEntries, HasEntries, entries_in}
use Rattle.portal_list.proofs.Base.{instance_lecturer, instance_project, instance_student, instance_rows}
use Rattle.spa_model.specs.Spa as spa
use Rattle.portal_list.proofs.Rising.{map_map, pairs_rise}
use Rattle.portal_list.proofs.Standing.{spa_of_rows, only_instance}
use Rattle.portal_list.proofs.Faultless.{faultless}

keys_rise : {X L : Type 0} (f : X → L) (key : L → Key) (xs : List X) → Rise (map (λ x. key (f x)) xs)
    → spa.TextsRise (map key (map f xs))
keys_rise f key xs rise = subst spa.TextsRise (sym (map_map key f xs)) (pairs_rise (map (λ x. key (f x)) xs) rise)

-- the instance of the lines is that of the entries
same_instance : (w : World) → spa_of_rows (instance_rows (entries_in w)) ≡ instance_of w
same_instance w = search (rules, map_map)

exact : (w : World) (i : Spa) → Sound w → w.round ≡ First → IsLawful i → StandsFor (instance_rows (entries_in w)) i
    → i ≡ instance w
exact w i sound one lawful for =
    only_instance (instance_rows (entries_in w)) i lawful for
    (keys_rise instance_student (λ x. x.key) w.students sound.students_rise)
    (keys_rise instance_project (λ x. x.key) w.projects sound.projects_rise)
    (keys_rise instance_lecturer (λ x. x.key) w.lecturers sound.lecturers_rise)
    ∙ same_instance w
    ∙ ap instance_of (sym (first_plays w one))

-- of the entries of a sound world in its first round
module _ (e : AllEntries) (one : e.round ≡ First) (w : World) (has : HasEntries e w) (sound : Sound w) where
  is_first : w.round ≡ First
  is_first = ap (λ a. a.round) has.there ∙ one

  pub none_before_memory : AllByRecursion (λ l. is_still_to_rank w l ≡ false) w.lecturers
      → HasNoneBefore (instance_rows e) Memory
  none_before_memory ranked = subst (λ a. HasNoneBefore (instance_rows a) Memory) has.there (faultless w sound is_first ranked)

  pub only_meant : (i : Spa) → IsLawful i → StandsFor (instance_rows e) i → i ≡ instance w
  only_meant i lawful for = exact w i sound is_first lawful (subst (λ a. StandsFor (instance_rows a) i) (sym has.there) for)
