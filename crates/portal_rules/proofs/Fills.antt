-- What the office's fill leaves of each caller, and that it keeps the rows sound.
use Rattle.portal_rules.proofs.Base.{◌≡◌, Bool, true, false, cond, List, [], ◌∷◌, refl, ◌∙◌, ap, map, filter}
use Rattle.portal_rules.proofs.Base.{option_map, IfSome, ◌||◌, filter_map, AllByRecursion, or-true, Key, equals, has}
use Rattle.portal_rules.proofs.Base.{is_before, Rise, AreDistinct, World, in_play, student_key, applicants_of}
use Rattle.portal_rules.proofs.Base.{is_still_to_rank, is_ranking, is_from_ranking, Fill, changed, with_fill, Office}
use Rattle.portal_rules.proofs.Base.{OfficeCaller, caller, sight_of, view, listing_with, listings, catalogue}
use Rattle.portal_rules.proofs.Base.{office_sees, Sound, IsRanking, project_keys, arith, list_any, projects_of}
use Rattle.portal_rules.specs.World as rows
use Rattle.portal_rules.proofs.Keys.{is_same, is_own, not_before_itself}
use Rattle.portal_rules.proofs.InPlay.{fill_row, play_filled}
use Rattle.portal_rules.proofs.AllLaws.{map_same}
use Rattle.portal_rules.proofs.Reranked.{re_called, caller_kept, names_kept, sound_kept}

module _ (w : World) where
  pub catalogue_filled : catalogue (changed w Fill) ≡ catalogue w
  catalogue_filled =
      (λ i. listings (play_filled w i).lecturers (play_filled w i).projects)
      ∙ λ i. filter_map (λ p. option_map (listing_with p) (names_kept (with_fill w) (fill_row w) (in_play w).lecturers p.lecturer i))
      (in_play w).projects

  -- nobody is still to rank

  pub now_ranked : (l : rows.Lecturer) → is_still_to_rank (changed w Fill) (with_fill w l) ≡ false
  now_ranked l = grind arith

  none_left : (ls : List rows.Lecturer) → filter (is_still_to_rank (changed w Fill)) (map (with_fill w) ls) ≡ []
  none_left [] = refl
  none_left (l ∷ ls) = rw (now_ranked l) (none_left ls)

  pub office_filled : office_sees (changed w Fill) ≡ record (office_sees w) { still_to_rank = [] }
  office_filled = λ i. record (office_sees w) {
    lecturers = map_same (λ (l : rows.Lecturer). l.row) (with_fill w) (fill_row w) w.lecturers i;
    catalogue = catalogue_filled i;
    still_to_rank = left (is_from_ranking w.phase) i;
  }
    where
      left : (b : Bool)
          → cond b (map (λ (l : rows.Lecturer). l.row.key) (filter (is_still_to_rank (changed w Fill)) (map (with_fill w) w.lecturers))) []
          ≡ []
      left b = grind (arith, none_left w.lecturers)

  pub view_filled : (c : Key) → caller w c ≡ OfficeCaller → view (changed w Fill) c ≡ Office (record (office_sees w) { still_to_rank = [] })
  view_filled c e = ap (sight_of (changed w Fill)) (caller_kept (with_fill w) (fill_row w) w c ∙ ap (re_called (with_fill w)) e)
      ∙ ap Office office_filled

-- the applicants by key are a ranking

all_there : (ks ls : List Key) → ((k : Key) → has ks k ≡ true → has ls k ≡ true)
    → AllByRecursion (λ k. has ls k ≡ true) ks
all_there [] ls k = tt
all_there (x ∷ ks) ls k = (
  k x (ap (λ b. b || has ks x) (is_own x)),
  all_there ks ls (λ l h. k l (ap (λ b. equals l x || b) h ∙ or-true (equals l x))),
)

-- a key that stands before another is another
pub before_other : (k l : Key) → is_before k l ≡ true → equals k l ≡ false
before_other k l h = grind (arith, is_same k l, not_before_itself k)

none_same : (k : Key) (ks : List Key) → AllByRecursion (λ l. is_before k l ≡ true) ks → has ks k ≡ false
none_same k [] all = refl
none_same k (l ∷ ks) all = grind (arith, before_other k l, none_same k ks)

pub rise_distinct : (ks : List Key) → Rise ks → AreDistinct ks
rise_distinct [] rise = tt
rise_distinct (k ∷ ks) rise = (none_same k ks rise.0, rise_distinct ks rise.1)

module _ {X : Type 0} (key : X → Key) (p : X → Bool) where
  all_kept : (P : Key → Type 0) (xs : List X) → AllByRecursion P (map key xs) → AllByRecursion P (map key (filter p xs))
  all_kept P [] all = tt
  all_kept P (x ∷ xs) all = grind (arith, all_kept P xs all.1)

  pub rise_kept : (xs : List X) → Rise (map key xs) → Rise (map key (filter p xs))
  rise_kept [] rise = tt
  rise_kept (x ∷ xs) rise = grind (arith, all_kept (λ l. is_before (key x) l ≡ true) xs rise.0, rise_kept xs rise.1)

pub ranks_by_key : (ks : List Key) → Rise ks → IsRanking ks ks
ranks_by_key ks rise = record { all = all_there ks ks (λ k h. h); only = all_there ks ks (λ k h. h); once = rise_distinct ks rise }

-- each missing ranking is made, and each other one stays
rankings_filled : (w : World) → Rise (map student_key w.students) → (ls : List rows.Lecturer)
    → AllByRecursion (λ l. IfSome l.ranking (IsRanking (map student_key (applicants_of w l.row.key)))) ls
    → AllByRecursion (λ l. IfSome l.ranking (IsRanking (map student_key (applicants_of w l.row.key)))) (map (with_fill w) ls)
rankings_filled w rise [] all = tt
rankings_filled w rise (l ∷ ls) all =
    let by_key = ranks_by_key (map student_key (applicants_of w l.row.key))
    (rise_kept student_key (λ s. list_any (λ p. has s.choice p.key) (projects_of w l.row.key)) w.students rise) in
    grind (arith, by_key, rankings_filled w rise ls all.1)

-- the ranking of the first round stays
pub fill_first : (w : World) (l : rows.Lecturer) → (with_fill w l).earlier_ranking ≡ l.earlier_ranking
fill_first w l = grind arith

pub filling : (w : World) → Sound w → is_ranking w.phase ≡ true → Sound (changed w Fill)
filling w g e = sound_kept (with_fill w) (fill_row w) w (fill_first w) (ap project_keys (play_filled w)) g e
    (rankings_filled w g.students_rise w.lecturers g.rankings)
