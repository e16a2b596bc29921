-- The entries of a world after a change of it.
use Rattle.portal_list.proofs.Base.{arith, ◌≡◌, true, List, map, refl, sym, ap, ◌∙◌, World, Lecturer, Student}
use Rattle.portal_list.proofs.Base.{catalogue, with_choice, with_ranking, changed, Choices, Ranks, Key, AllEntries}
use Rattle.portal_list.proofs.Base.{HasEntries, entries_in, filled, catalogue_in, Bool, cond, Some, None, is_none, not}
use Rattle.portal_list.proofs.Base.{◌&&◌, is_empty, student_key, applicants_of, with_missing, rules, Change, To, Fill}
use Rattle.portal_list.proofs.Base.{with_fill, catalogue_chosen, catalogue_ranked, catalogue_filled, is_followed}
use Rattle.portal_list.proofs.Base.{unless_empty}
use Rattle.portal_rules.proofs.Kept.{empty_map}
use Rattle.portal_list.proofs.Parted.{applicants_are}

-- A fill of the lists is the world's.
module _ (w : World) where
  filled_is : (l : Lecturer) → filled w.projects w.students l ≡ with_fill w l
  filled_is l =
      ap (λ keys. with_missing l (cond (is_none l.ranking) (unless_empty keys) None)) (applicants_are w l.row.key)
      ∙ by_case (is_none l.ranking) (is_empty (map student_key (applicants_of w l.row.key)))
      ∙ ap (λ b. cond (not b && is_none l.ranking) (record l { ranking = Some (map student_key (applicants_of w l.row.key)) }) l)
      (empty_map student_key (applicants_of w l.row.key))
    where
      by_case : (none empty : Bool)
          → with_missing l (cond none (cond empty None (Some (map student_key (applicants_of w l.row.key)))) None)
          ≡ cond (not empty && none) (record l { ranking = Some (map student_key (applicants_of w l.row.key)) }) l
      by_case none empty = grind arith

  pub all_filled : map (filled w.projects w.students) w.lecturers ≡ map (with_fill w) w.lecturers
  all_filled = λ i. map (λ l. filled_is l i) w.lecturers

module _ (before : AllEntries) (w : World) (there : entries_in w ≡ before) (change : Change) where
  pub list_followed : (k : Key) (list : List Key) (ss : List Student) → change ≡ Choices k list
      → ss ≡ map (with_choice k list) before.students → HasEntries (record before { students = ss }) (changed w change)
  list_followed k list ss is same = search rules

  pub ranking_followed : (k : Key) (list : List Key) (ls : List Lecturer) → change ≡ Ranks k list
      → ls ≡ map (with_ranking k list) before.lecturers
      → HasEntries (record before { lecturers = ls }) (changed w change)
  ranking_followed k list ls is same = search rules

  pub fill_followed : (ls : List Lecturer) → change ≡ Fill
      → ls ≡ map (filled before.projects before.students) before.lecturers
      → HasEntries (record before { lecturers = ls }) (changed w change)
  fill_followed ls is same = search (rules, all_filled)

-- what is followed leaves the catalogue
shown_followed : (w : World) (change : Change) → is_followed change ≡ true → catalogue (changed w change) ≡ catalogue w
shown_followed w (Choices k list) is = catalogue_chosen w k list
shown_followed w (Ranks k list) is = catalogue_ranked w k list
shown_followed w (To phase) is = refl
shown_followed w Fill is = catalogue_filled w
shown_followed w _ is = cc

pub catalogue_after : (w : World) (change : Change) → is_followed change ≡ true → (after : AllEntries)
    → HasEntries after (changed w change) → catalogue_in after ≡ catalogue_in (entries_in w)
catalogue_after w change is after has = ap catalogue_in (sym has.there) ∙ shown_followed w change is
