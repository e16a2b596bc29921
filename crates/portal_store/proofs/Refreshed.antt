-- What the office sees after a list or a ranking was put.
use Rattle.portal_store.proofs.Base.{◌≡◌, Bool, false, cond, List, [], ◌∷◌, refl, sym, ◌∙◌, ap, map, filter, Option}
use Rattle.portal_store.proofs.Base.{option_map, not, ◌&&◌, is_none, filter_map, Key, equals, is_empty, World, in_play}
use Rattle.portal_store.proofs.Base.{shown_placement, is_still_to_rank, applicants_of, is_from_ranking, pairs_of}
use Rattle.portal_store.proofs.Base.{Choices, Ranks, changed, with_choice, with_ranking, Choosing, Ranking, LecturerRow}
use Rattle.portal_store.proofs.Base.{OfficeSees, office_sees, arith, map_same}
use Rattle.portal_rules.specs.World as rows
use Rattle.portal_rules.specs.declared.view.OfficeView.TheInside.{Inside}
use Rattle.portal_rules.proofs.Acts.{choice_row, catalogue_chosen, catalogue_ranked}
use Rattle.portal_rules.proofs.InPlay.{play_chosen, ranking_row}

-- what the office's view of the code shows, with other keys where keys are taken out
abbrev pub seen_with : Inside → List Key → List Key → OfficeSees
seen_with v without still =
    record {
      round = v.round;
      phase = v.phase;
      office_code = v.office_code;
      lecturers = v.lecturers.value.items;
      projects = v.projects.value.items;
      students = v.students.value.items;
      catalogue = v.catalogue.value.items;
      without_list = without;
      still_to_rank = still;
      pairs = v.pairs.items;
    }

-- A change that keeps keys and drops chosen ones without the mark filters the chosen keys by it.
module _ {X : Type 0} (key : X → Key) (chosen : X → Bool) (change : X → X) (keeps : Key → Bool) (same : (x : X) → key (change x) ≡ key x)
    (one : (x : X) → chosen (change x) ≡ (chosen x && keeps (key x))) where
  pub chosen_after : (xs : List X) → map key (filter chosen (map change xs)) ≡ filter keeps (map key (filter chosen xs))
  chosen_after [] = refl
  chosen_after (x ∷ xs) = grind (arith, one x, same x, chosen_after xs)

ranked : (wanted : Bool) (k : Key) (list : List Key) (l : rows.Lecturer)
    → (wanted && is_none (with_ranking k list l).ranking) ≡ ((wanted && is_none l.ranking) && not (equals l.row.key k))
ranked wanted k list l = grind arith

still : (w : World) (k : Key) (list : List Key) (l : rows.Lecturer)
    → is_still_to_rank w (with_ranking k list l) ≡ (is_still_to_rank w l && not (equals l.row.key k))
still w k list l = ap (λ (r : LecturerRow). not (is_empty (applicants_of w r.key)) && is_none (with_ranking k list l).ranking)
    (ranking_row k list l)
    ∙ ranked (not (is_empty (applicants_of w l.row.key))) k list l

-- a list changes no place that is shown
pairs_chosen : (w : World) (k : Key) (list : List Key) → pairs_of (changed w (Choices k list)) ≡ pairs_of w
pairs_chosen w k list = go w.students
  where
    pair : rows.Student → Option (Key × Key)
    pair s = option_map (λ p. (s.row.key, p)) (shown_placement w.phase s)

    go : (ss : List rows.Student) → filter_map pair (map (with_choice k list) ss) ≡ filter_map pair ss
    go [] = refl
    go (s ∷ ss) = grind (arith, go ss)

-- a nonempty list, put while students choose, only takes the student from those without one
pub choosing_seen : (w : World) (k : Key) (list : List Key) → w.phase ≡ Choosing → is_empty list ≡ false
    → office_sees (changed w (Choices k list))
    ≡ record (office_sees w) { without_list = filter (λ x. not (equals x k)) (office_sees w).without_list }
choosing_seen w k [] e some = cc
choosing_seen w k (p ∷ ps) e some =
    let to : World = changed w (Choices k (p ∷ ps)) in
    λ i. record (office_sees w) {
      students = map_same (λ (s : rows.Student). s.row) (with_choice k (p ∷ ps)) (choice_row k (p ∷ ps)) w.students i;
      catalogue = catalogue_chosen w k (p ∷ ps) i;
      without_list = ((λ j. map (λ (s : rows.Student). s.row.key) (filter (λ s. is_empty s.choice) (play_chosen w k (p ∷ ps) j).students))
          ∙ chosen_after (λ s. s.row.key) (λ s. is_empty s.choice) (with_choice k (p ∷ ps)) (λ x. not (equals x k))
          (λ s. ap (λ r. r.key) (choice_row k (p ∷ ps) s)) (λ s. grind arith) (in_play w).students) i;
      still_to_rank = ((λ j. cond (is_from_ranking (e j))
          (map (λ (l : rows.Lecturer). l.row.key) (filter (is_still_to_rank to) w.lecturers)) [])
          ∙ sym (λ j. cond (is_from_ranking (e j))
          (map (λ (l : rows.Lecturer). l.row.key) (filter (is_still_to_rank w) w.lecturers)) [])) i;
      pairs = pairs_chosen w k (p ∷ ps) i;
    }

-- a ranking that is put while lecturers rank only takes the lecturer from those still to rank
pub ranking_seen : (w : World) (k : Key) (list : List Key) → w.phase ≡ Ranking
    → office_sees (changed w (Ranks k list))
    ≡ record (office_sees w) { still_to_rank = filter (λ x. not (equals x k)) (office_sees w).still_to_rank }
ranking_seen w k list e =
    let to : World = changed w (Ranks k list) in
    let own : (ls : List rows.Lecturer) → List Key = λ ls. map (λ l. l.row.key) ls in
    λ i. record (office_sees w) {
      lecturers = map_same (λ (l : rows.Lecturer). l.row) (with_ranking k list) (ranking_row k list) w.lecturers i;
      catalogue = catalogue_ranked w k list i;
      still_to_rank = ((λ j. cond (is_from_ranking (e j)) (own (filter (is_still_to_rank to) to.lecturers)) [])
          ∙ chosen_after (λ l. l.row.key) (is_still_to_rank w) (with_ranking k list) (λ x. not (equals x k))
          (λ l. ap (λ r. r.key) (ranking_row k list l)) (still w k list) w.lecturers
          ∙ sym (λ j. filter (λ x. not (equals x k)) (cond (is_from_ranking (e j)) (own (filter (is_still_to_rank w) w.lecturers)) []))) i;
    }
