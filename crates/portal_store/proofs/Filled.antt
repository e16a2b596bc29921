-- The world with rankings put in turn; those that a fill would put make the filled world.
use Rattle.portal_store.proofs.Base.{◌≡◌, inl, inr, Bool, true, false, cond, Some, List, [], ◌∷◌, ◌++◌, map, filter}
use Rattle.portal_store.proofs.Base.{refl, sym, ap, subst, ◌∙◌, AllByRecursion, IsDistinct, Has, Key, equals, has, Rise}
use Rattle.portal_store.proofs.Base.{World, Lecturer, lecturer_key, student_key, applicants_of, is_still_to_rank}
use Rattle.portal_store.proofs.Base.{changed, Ranks, Fill, with_ranking, is_own, is_sym, map_same, map-id, fill_missing}
use Rattle.portal_store.proofs.Base.{ranking_elsewhere, ranking_here, with_rankings, map_twice, map_alike_on}
use Rattle.portal_store.proofs.Base.{rise_distinct, with_fill, all-filter, all_has, all_map, all_unmap, at, has_of}
use Rattle.portal_store.proofs.RankTurns.{same_key}

-- one ranking more
pub ranked_more : (w : World) (fs : List (Key × List Key)) (f : Key × List Key)
    → with_rankings w (fs ++ f ∷ []) ≡ changed (with_rankings w fs) (Ranks f.0 f.1)
ranked_more w [] f = refl
ranked_more w (g ∷ fs) f = ranked_more (changed w (Ranks g.0 g.1)) fs f

pub keys_still : (w : World) (fs : List (Key × List Key))
    → map lecturer_key (with_rankings w fs).lecturers ≡ map lecturer_key w.lecturers
keys_still w [] = refl
keys_still w (f ∷ fs) = keys_still (changed w (Ranks f.0 f.1)) fs
    ∙ map_same lecturer_key (with_ranking f.0 f.1) (same_key f.0 f.1) w.lecturers

-- a lecturer under all of these
with_all : List (Key × List Key) → Lecturer → Lecturer
with_all [] l = l
with_all (f ∷ fs) l = with_all fs (with_ranking f.0 f.1 l)

ranked_is : (w : World) (fs : List (Key × List Key)) → with_rankings w fs ≡ record w { lecturers = map (with_all fs) w.lecturers }
unfolding with_all
ranked_is w [] = λ i. record w { lecturers = sym (map-id w.lecturers) i }
ranked_is w (f ∷ fs) =
    let both = map_twice (with_all fs) (with_ranking f.0 f.1) w.lecturers in
    ranked_is (changed w (Ranks f.0 f.1)) fs ∙ (λ i. record w { lecturers = sym both i })

module _ (w : World) where
  abbrev keys_for : Lecturer → List Key
  keys_for l = map student_key (applicants_of w l.row.key)

  abbrev fill_for : Lecturer → Key × List Key
  fill_for l = (l.row.key, keys_for l)

  -- the fills of those who pass, and of one more
  abbrev among : List Lecturer → List (Key × List Key)
  among ls = map fill_for (filter (is_still_to_rank w) ls)

  abbrev and_one : Bool → Lecturer → List Lecturer → List (Key × List Key)
  and_one b x ls = map fill_for (cond b (x ∷ filter (is_still_to_rank w) ls) (filter (is_still_to_rank w) ls))

  -- the ranking of another lecturer changes nothing
  one_other : (b : Bool) (x : Lecturer) (ls : List Lecturer) (l m : Lecturer) → equals l.row.key x.row.key ≡ false
      → with_all (among ls) l ≡ m
      → with_all (and_one b x ls) l ≡ m
  unfolding with_all
  one_other true x ls l m other h = ap (with_all (among ls)) (ranking_elsewhere x.row.key (keys_for x) l other) ∙ h
  one_other false x ls l m other h = h

  others_only : (ls : List Lecturer) (l : Lecturer)
      → AllByRecursion (λ k. equals l.row.key k ≡ false) (map lecturer_key ls) → with_all (among ls) l ≡ l
  unfolding with_all
  others_only [] l apart = refl
  others_only (x ∷ ls) l apart = one_other (is_still_to_rank w x) x ls l l apart.0 (others_only ls l apart.1)

  each_filled : (ls : List Lecturer) (l : Lecturer) → IsDistinct equals (map lecturer_key ls) → Has ls l
      → with_all (among ls) l ≡ with_fill w l
  unfolding with_all IsDistinct
  each_filled [] l d h = absurd h
  each_filled (x ∷ ls) l d (inl same) = subst (λ y. with_all (among (x ∷ ls)) y ≡ with_fill w y) (sym same) (go (is_still_to_rank w x))
    where
      go : (b : Bool) → with_all (and_one b x ls) x ≡ cond b (record x { ranking = Some (map student_key (applicants_of w x.row.key)) }) x
      go true =
          ap (with_all (among ls)) (sym (ranking_here x.row.key (keys_for x) x (is_own x.row.key)))
          ∙ others_only ls (record x { ranking = Some (map student_key (applicants_of w x.row.key)) }) d.0
      go false = others_only ls x d.0
  each_filled (x ∷ ls) l d (inr has) = one_other (is_still_to_rank w x) x ls l (with_fill w l)
      (is_sym l.row.key x.row.key ∙ at (λ m. equals x.row.key (lecturer_key m) ≡ false) ls l
      (all_unmap (λ k. equals x.row.key k ≡ false) lecturer_key ls d.0) has) (each_filled ls l d.1 has)

  pub all_filled : Rise (map lecturer_key w.lecturers) → with_rankings w (fill_missing w) ≡ changed w Fill
  all_filled up =
      let every : map (with_all (fill_missing w)) w.lecturers ≡ map (with_fill w) w.lecturers =
      map_alike_on (with_all (fill_missing w)) (with_fill w) w.lecturers (λ l h. each_filled w.lecturers l (rise_distinct _ up) h) in
      ranked_is w (fill_missing w) ∙ (λ i. record w { lecturers = every i })

  pub fills_there : AllByRecursion (λ (f : Key × List Key). has (map lecturer_key w.lecturers) f.0 ≡ true) (fill_missing w)
  fills_there =
      let keys = map lecturer_key w.lecturers in
      all_map (λ (f : Key × List Key). has keys f.0 ≡ true) fill_for (filter (is_still_to_rank w) w.lecturers)
      (all-filter (λ l. has keys (lecturer_key l) ≡ true) (is_still_to_rank w) w.lecturers
      (all_unmap (λ k. has keys k ≡ true) lecturer_key w.lecturers (all_has (λ k. has keys k ≡ true) keys (has_of keys))))
