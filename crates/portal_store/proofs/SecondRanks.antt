-- Putting a lecturer's ranking of the second round turns the tables to the world with that ranking.
use Rattle.portal_store.proofs.Base.{◌≡◌, inl, inr, true, false, ◌||◌, cond, Some, None, List, [], map, refl, sym, ap}
use Rattle.portal_store.proofs.Base.{subst, ◌∙◌, cases_Bool, AllByRecursion, Row, Trees, Database, State, Second, Key}
use Rattle.portal_store.proofs.Base.{equals, has, put_all, Lecturer, lecturer_key, changed, Ranks, with_ranking}
use Rattle.portal_store.proofs.Base.{all_weaker, IsCurrentSchema, RowNumbersDiffer, row_key, of_key, chosen, HasPut}
use Rattle.portal_store.proofs.Base.{PutsList, RanksSecond, Made, GoesOn, ranked2_tree, ranking2_tree, own_trees}
use Rattle.portal_store.proofs.Base.{goes_then, put_all_map, map_alike, map_twice, world_in, lecturer_stored, is_ranked}
use Rattle.portal_store.proofs.Base.{Whole, IsConsistentIn, TurnsThere, HasRanked}
use Rattle.portal_store.proofs.ChoiceTurns.{chosen_is, whole_at}
use Rattle.portal_store.proofs.RankTurns.{same_key}
use Rattle.portal_store.proofs.Still.{but_two, two_changed, world_same, whole_same, kept_at, apart_kept, first_kept}
use Rattle.portal_store.proofs.Still.{first_then, opened_kept, holds_second}

-- the ranking is put, and then a row says that it is there
module _ (k : Key) (list : List Key) (first mid now : Database) (put : HasPut ranking2_tree k list first mid)
    (says : HasRanked k mid now) where
  -- the tables at the start, with the new rankings and who has one
  abbrev there : Trees
  there = but_two ranking2_tree ranked2_tree first mid now

  same : AllByRecursion (λ t. now.trees t ≡ there t) own_trees
  same = two_changed ranking2_tree ranked2_tree first mid now put.tables says.tables

  -- who has a ranking is this lecturer, and who had one
  known : (key : Key) → has (map row_key (now.trees 19)) key ≡ (equals key k || has (map row_key (first.trees 19)) key)
  known key = says.known key ∙ ap (λ rows. equals key k || has (map row_key rows) key)
      (kept_at ranking2_tree first mid put.tables ranked2_tree refl refl)

  -- a ranking of the lecturer, by whether it is this one
  one : (r : Row) → lecturer_stored Second there r ≡ with_ranking k list (lecturer_stored Second first.trees r)
  one r =
      let l = lecturer_stored Second first.trees r in
      let had = has (map row_key (first.trees 19)) (row_key r) in
      (λ i. record l { ranking = cond (known (row_key r) i) (Some (chosen_is ranking2_tree k list first mid put (row_key r) i)) None })
      ∙ elim (equals (row_key r) k) as (λ b. ◌≡◌ {A = Lecturer}
      (record l { ranking = cond (b || had) (Some (cond b list (chosen (first.trees 21) (row_key r)))) None })
      (cond b (record l { ranking = Some list }) l)) [ true ↦ refl | false ↦ refl ]

  rank_world : world_in Second now.trees ≡ changed (world_in Second first.trees) (Ranks k list)
  unfolding world_in
  rank_world =
      let show : Row → Lecturer = lecturer_stored Second first.trees in
      let roll : put_all lecturer_key (map (lecturer_stored Second there) (first.trees 1)) []
      ≡ map (with_ranking k list) (put_all lecturer_key (map show (first.trees 1)) []) =
      ap (λ l. put_all lecturer_key l []) (map_alike (lecturer_stored Second there) (λ r. with_ranking k list (show r)) (first.trees 1) one
      ∙ map_twice (with_ranking k list) show (first.trees 1))
      ∙ put_all_map lecturer_key lecturer_key (with_ranking k list) (same_key k list) (map show (first.trees 1)) [] in
      world_same Second there now.trees same ∙ ap (λ l. record (world_in Second first.trees) { lecturers = l }) roll

  rank_whole : Whole Second first.trees → Whole Second now.trees
  rank_whole was = whole_same Second there now.trees same (record {
    choices = was.choices;
    rankings = all_weaker _ _ (λ r h. whole_at ranking2_tree k list first mid put (row_key r) h) (first.trees 1) was.rankings;
    ranked = all_weaker _ _ none (first.trees 1) was.ranked;
  })
    where
      none : (r : Row) → (is_ranked Second first.trees r ≡ false → of_key (row_key r) (first.trees 21) ≡ [])
          → is_ranked Second now.trees r ≡ false → of_key (row_key r) (mid.trees 21) ≡ []
      none r h unranked = elim (cases_Bool (equals (row_key r) k)) [
        | inl hit ↦ let e : true ≡ false = sym (known (row_key r) ∙ ap (λ b. b || has (map row_key (first.trees 19)) (row_key r)) hit)
            ∙ unranked in absurd (cc)
        | inr other ↦ put.others (row_key r) other
            ∙ h (sym (known (row_key r) ∙ ap (λ b. b || has (map row_key (first.trees 19)) (row_key r)) other) ∙ unranked)
      ]

  rank_holds : IsConsistentIn Second first → IsConsistentIn Second now
  rank_holds was =
      holds_second first now was (first_then first mid now (first_kept ranking2_tree first mid refl put.tables)
      (first_kept ranked2_tree mid now refl says.tables)) (says.schema_is ∙ put.schema_is) says.sound
      (apart_kept ranked2_tree mid now says.tables says.apart (apart_kept ranking2_tree first mid put.tables put.apart was.apart))
      (opened_kept first.trees now.trees same.0 same.1.1.1.1.1.1.0 was.second) (rank_whole was.whole.1)

pub second_turns : (k : Key) (list : List Key) (first mid now : Database) → PutsList ranking2_tree k list first mid
    → RanksSecond k mid now → TurnsThere Second k list first now
second_turns k list first mid now puts ranks there holds up =
    let put = puts holds.current holds.apart.1.1.1.1.1.1.1.1.1.0 in
    let apart : RowNumbersDiffer (mid.trees ranked2_tree) =
    subst RowNumbersDiffer (sym (kept_at ranking2_tree first mid put.tables ranked2_tree refl refl)) holds.apart.1.1.1.1.1.1.1.1.0 in
    let says = ranks (subst IsCurrentSchema (sym put.schema_is) holds.current) apart in
    record { holds = rank_holds k list first mid now put says holds; world = rank_world k list first mid now put says }

pub second_made : (k : Key) (list : List Key) (old mid new : State) → GoesOn (PutsList ranking2_tree k list) old mid
    → Made (RanksSecond k) mid new → GoesOn (TurnsThere Second k list) old new
second_made k list old mid new p q = goes_then _ _ _ old mid new p q (second_turns k list old.now mid.now new.now)
