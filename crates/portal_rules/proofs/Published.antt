-- The pairs of a matching by numbers place the students as the matching does.
use Rattle.portal_rules.proofs.Base.{◌≡◌, ℕ, zero, suc, ◌+◌, ◌<◌, true, cond, List, [], ◌∷◌, map, length, get_or, refl}
use Rattle.portal_rules.proofs.Base.{◌∙◌, ap, arith, Option, Some, None, option_map, AllByRecursion, length-map}
use Rattle.portal_rules.proofs.Base.{IsMatching, number_in, Key, is_before, Rise, World, in_play, is_left, student_key}
use Rattle.portal_rules.proofs.Base.{Placements, placement_in, with_place, changed, instance, matching_of, places_of}
use Rattle.portal_rules.proofs.Base.{project_keys, student_keys, Sound, pairs_by}
use Rattle.portal_rules.specs.World as rows
use Rattle.portal_rules.proofs.Keys.{is_own, all_unmap}
use Rattle.portal_rules.proofs.AllLaws.{is_sym, all_at}
use Rattle.portal_rules.proofs.Fills.{before_other}
use Rattle.portal_rules.proofs.Only.{on_roll}
use Rattle.portal_rules.proofs.InPlay.{play_placed}
use Rattle.portal_rules.proofs.InRound.{students_rise_in, projects_rise_in, choices_in, left_in}

-- the number of the key with a number
pub number_back : (keys : List Key) (n : ℕ) → Rise keys → n < length keys → number_in keys (get_or keys n []) ≡ n
number_back [] n rise lt = absurd (omega arith)
number_back (k ∷ ks) zero rise lt = rw (is_own k) refl
number_back (k ∷ ks) (suc n) rise lt =
    rw (before_other k (get_or ks n []) (all_at (λ l. is_before k l ≡ true) ks n [] rise.0 (omega arith)))
    (ap (λ (m : ℕ). 1 + m) (number_back ks n rise.1 (omega arith)) ∙ omega arith)

module _ (projects : List Key) (rise : Rise projects) where
  abbrev number_of : List (Key × Key) → rows.Student → Option ℕ
  number_of pairs s = option_map (number_in projects) (placement_in pairs s.row.key)

  -- a pair of another student changes nothing
  later : (k p : Key) (pairs : List (Key × Key)) (ss : List rows.Student)
      → AllByRecursion (λ s. is_before k (student_key s) ≡ true) ss
      → map (number_of ((k, p) ∷ pairs)) ss ≡ map (number_of pairs) ss
  later k p pairs [] all = refl
  later k p pairs (s ∷ ss) all =
      let here : number_of ((k, p) ∷ pairs) s ≡ number_of pairs s = rw (before_other k (student_key s) all.0) refl in
      λ i. here i ∷ later k p pairs ss all.1 i

  absent : (ss : List rows.Student) (places : List (Option ℕ)) (k : Key)
      → AllByRecursion (λ s. is_before k (student_key s) ≡ true) ss
      → placement_in (pairs_by (map student_key ss) projects places) k ≡ None
  absent [] places k all = refl
  absent (s ∷ ss) [] k all = refl
  absent (s ∷ ss) (Some p ∷ places) k all = rw (is_sym s.row.key k ∙ before_other k s.row.key all.0) (absent ss places k all.1)
  absent (s ∷ ss) (None ∷ places) k all = absent ss places k all.1

  pub placed_back : (ss : List rows.Student) (places : List (Option ℕ)) → Rise (map student_key ss)
      → length places ≡ length ss
      → ((s p : ℕ) → get_or places s None ≡ Some p → p < length projects)
      → map (number_of (pairs_by (map student_key ss) projects places)) ss ≡ places
  placed_back [] [] up same low = refl
  placed_back [] (m ∷ places) up same low = absurd (omega arith)
  placed_back (s ∷ ss) [] up same low = absurd (omega arith)
  placed_back (s ∷ ss) (Some p ∷ places) up same low =
      let above : AllByRecursion (λ s'. is_before (student_key s) (student_key s') ≡ true) ss =
      all_unmap (λ l. is_before (student_key s) l ≡ true) student_key ss up.0 in
      let pairs = pairs_by (map student_key ss) projects places in
      let here : number_of ((student_key s, get_or projects p []) ∷ pairs) s
      ≡ Some p = rw (is_own (student_key s)) (ap Some (number_back projects p rise (low 0 p refl))) in
      let rest = later (student_key s) (get_or projects p []) pairs ss above
      ∙ placed_back ss places up.1 (omega arith) (λ n q e. low (suc n) q e) in
      λ i. here i ∷ rest i
  placed_back (s ∷ ss) (None ∷ places) up same low =
      let above : AllByRecursion (λ s'. is_before (student_key s) (student_key s') ≡ true) ss =
      all_unmap (λ l. is_before (student_key s) l ≡ true) student_key ss up.0 in
      let here : number_of (pairs_by (map student_key ss) projects places) s
      ≡ None = ap (option_map (number_in projects)) (absent ss places (student_key s) above) in
      let rest = placed_back ss places up.1 (omega arith) (λ n q e. low (suc n) q e) in
      λ i. here i ∷ rest i

placed_map : (pairs : List (Key × Key)) (projects : List Key) (ss : List rows.Student)
    → AllByRecursion (λ s. is_left s ≡ true) ss
    → map (λ (s : rows.Student). option_map (number_in projects) s.placed) (map (with_place pairs) ss)
    ≡ map (λ (s : rows.Student). option_map (number_in projects) (placement_in pairs s.row.key)) ss
placed_map pairs projects [] left = refl
placed_map pairs projects (s ∷ ss) left =
    λ i. option_map (number_in projects) (cond (left.0 i) (record s { placed = placement_in pairs s.row.key }) s).placed
    ∷ placed_map pairs projects ss left.1 i

-- what a matching's pairs leave is the matching
pub pairs_place : (w : World) (places : List (Option ℕ)) → Sound w → IsMatching (instance w) places
    → matching_of (changed w (Placements (pairs_by (student_keys (in_play w)) (project_keys (in_play w)) places))) ≡ places
pairs_place w places sound matching =
    let u = in_play w in
    let pairs = pairs_by (student_keys u) (project_keys u) places in
    ap places_of (play_placed w pairs)
    ∙ placed_map pairs (project_keys u) u.students (left_in w sound)
    ∙ placed_back (project_keys u) (projects_rise_in w sound) u.students places (students_rise_in w sound)
    (matching.students ∙ length-map u.students _)
    (λ s p e. on_roll (project_keys u) u.students (choices_in w sound) s p (matching.acceptable s p e))
