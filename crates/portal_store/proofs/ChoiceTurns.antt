-- Putting a student's list turns the tables to the world with that list.
use Rattle.portal_store.proofs.Base.{◌≡◌, inl, inr, ℕ, true, false, cond, List, [], map, refl, sym, ap, subst, ◌∙◌}
use Rattle.portal_store.proofs.Base.{cases_Bool, AllByRecursion, Row, Trees, Database, State, Round, First, Second, Key}
use Rattle.portal_store.proofs.Base.{equals, put_all, Student, student_key, changed, Choices, is_same, all_weaker}
use Rattle.portal_store.proofs.Base.{tree_of, RowNumbersDiffer, row_key, choice_tree, choice2_tree, GoesOn, goes_more}
use Rattle.portal_store.proofs.Base.{of_key, list_in_order, chosen, IsWhole, world_in, choice_table, student_stored}
use Rattle.portal_store.proofs.Base.{Whole, IsConsistentIn, IsTransitionIn, HasPut, PutsList, put_all_map, map_alike}
use Rattle.portal_store.proofs.Base.{map_twice, with_choice}
use Rattle.portal_store.proofs.Still.{but_one, holds_after, holds_there, opened_kept, world_after}
use Rattle.portal_tables.proofs.Putting.{list_is, whole_is}

-- in any table of lists
module _ (tree : ℕ) (k : Key) (list : List Key) (first now : Database) (put : HasPut tree k list first now) where
  pub chosen_is : (key : Key) → chosen (now.trees tree) key ≡ cond (equals key k) list (chosen (first.trees tree) key)
  chosen_is key = elim (cases_Bool (equals key k)) [
    | inl same ↦ ap (λ l. chosen (now.trees tree) l) (is_same key k same) ∙ list_is (of_key k (now.trees tree)) list put.places
        ∙ rw same refl
    | inr other ↦ ap list_in_order (put.others key other) ∙ rw other refl
  ]

  pub whole_at : (key : Key) → IsWhole (of_key key (first.trees tree)) → IsWhole (of_key key (now.trees tree))
  whole_at key was = elim (cases_Bool (equals key k)) [
    | inl same ↦ subst (λ l. IsWhole (of_key l (now.trees tree))) (sym (is_same key k same))
        (whole_is (of_key k (now.trees tree)) list put.places)
    | inr other ↦ subst IsWhole (sym (put.others key other)) was
  ]

same_key : (k : Key) (list : List Key) (s : Student) → student_key (with_choice k list s) ≡ student_key s
same_key k list s = elim (equals s.row.key k) as
    (λ b. student_key (cond b (record s { choice = list }) s) ≡ student_key s) [ true ↦ refl | false ↦ refl ]

here : (k : Key) (list : List Key) (s : Student)
    → ◌≡◌ {A = Student} (record s { choice = cond (equals s.row.key k) list s.choice }) (with_choice k list s)
here k list s = elim (equals s.row.key k) as
    (λ b. ◌≡◌ {A = Student} (record s { choice = cond b list s.choice })
    (cond b (record s { choice = list }) s)) [ true ↦ refl | false ↦ refl ]

-- the tables of a round, with these lists of the students
abbrev put_in : Round → Database → Database → Trees
put_in round = but_one (tree_of (choice_table round))

module _ (round : Round) (k : Key) (list : List Key) (first now : Database)
    (put : HasPut (tree_of (choice_table round)) k list first now) where
  one : (r : Row)
      → student_stored round (put_in round first now) r ≡ with_choice k list (student_stored round first.trees r)
  one r = go round put
    where
      go : (x : Round) → HasPut (tree_of (choice_table x)) k list first now
          → student_stored x (put_in x first now) r ≡ with_choice k list (student_stored x first.trees r)
      go First p = (λ i. record (student_stored First first.trees r) { choice = chosen_is choice_tree k list first now p (row_key r) i })
          ∙ here k list (student_stored First first.trees r)
      go Second p = (λ i. record (student_stored Second first.trees r) { choice = chosen_is choice2_tree k list first now p (row_key r) i })
          ∙ here k list (student_stored Second first.trees r)

  choice_world : world_in round now.trees ≡ changed (world_in round first.trees) (Choices k list)
  unfolding world_in
  choice_world =
      let show : Row → Student = student_stored round first.trees in
      let roll : put_all student_key (map (student_stored round (put_in round first now)) (first.trees 6)) []
      ≡ map (with_choice k list) (put_all student_key (map show (first.trees 6)) []) =
      ap (λ l. put_all student_key l []) (map_alike _ _ (first.trees 6) one ∙ map_twice (with_choice k list) show (first.trees 6))
      ∙ put_all_map student_key student_key (with_choice k list) (same_key k list) (map show (first.trees 6)) [] in
      world_after round (tree_of (choice_table round)) first now put.tables ∙ go round
      ∙ ap (λ l. record (world_in round first.trees) { students = l }) roll
    where
      -- they are read of students alone
      go : (x : Round) → world_in x (put_in x first now)
          ≡ record (world_in x first.trees) {
            students = put_all student_key
                (map (student_stored x (put_in x first now)) (first.trees 6)) [];
          }
      go First = refl
      go Second = refl

  choice_whole : Whole round first.trees → Whole round (put_in round first now)
  choice_whole was = go round (all_weaker _ _ (λ r h. whole_at (tree_of (choice_table round)) k list first now put (row_key r) h)
      (first.trees 6) was.choices) was
    where
      go : (x : Round)
          → AllByRecursion (λ r. IsWhole (of_key (row_key r) (now.trees (tree_of (choice_table x))))) (first.trees 6)
          → Whole x first.trees → Whole x (put_in x first now)
      go First choices w = record { choices = choices; rankings = w.rankings; ranked = w.ranked }
      go Second choices w = record { choices = choices; rankings = w.rankings; ranked = w.ranked }

choice_holds : (round : Round) (k : Key) (list : List Key) (first now : Database)
    → HasPut (tree_of (choice_table round)) k list first now → IsConsistentIn round first → IsConsistentIn round now
choice_holds First k list first now put was =
    holds_after choice_tree first now refl was put.tables put.schema_is put.sound put.apart was.office
    (choice_whole First k list first now put was.whole)
choice_holds Second k list first now put was =
    holds_there choice2_tree first now refl was put.tables put.schema_is put.sound put.apart
    (opened_kept first.trees (put_in Second first now) refl refl was.second) (choice_whole Second k list first now put was.whole.1)

its_apart : (round : Round) (db : Database) → IsConsistentIn round db
    → RowNumbersDiffer (db.trees (tree_of (choice_table round)))
its_apart First db was = was.apart.1.1.1.1.0
its_apart Second db was = was.apart.1.1.1.1.1.1.1.0

pub choice_turns : (round : Round) (k : Key) (list : List Key) (first now : Database)
    → PutsList (tree_of (choice_table round)) k list first now → IsTransitionIn round (Choices k list) first now
choice_turns round k list first now puts holds good then =
    let put = puts holds.current (its_apart round first holds) in
    record { holds = choice_holds round k list first now put holds; world = choice_world round k list first now put }

pub choice_made : (round : Round) (k : Key) (list : List Key) (old new : State)
    → GoesOn (PutsList (tree_of (choice_table round)) k list) old new
    → GoesOn (IsTransitionIn round (Choices k list)) old new
choice_made round k list old new h = goes_more _ _ old new h (choice_turns round k list old.now new.now)
