-- What the UPDATEs of the students' places are to the world.
use Rattle.portal_store.proofs.Base.{◌≡◌, inl, inr, true, ◌||◌, cond, Option, Some, None, List, [], ◌∷◌, map, filter}
use Rattle.portal_store.proofs.Base.{refl, sym, ap, subst, subst₂, ◌∙◌, cases_Bool, AllByRecursion, IsPermutation}
use Rattle.portal_store.proofs.Base.{IsPermutation-sym, IsPermutation-map, Row, column, Database, State, Made, GoesOn}
use Rattle.portal_store.proofs.Base.{Published, First, Key, equals, has, Rise, put_all, World, Student, student_key}
use Rattle.portal_store.proofs.Base.{placement_in, with_place, Good, is_same, all_unmap, map_same, all_map, place_row}
use Rattle.portal_store.proofs.Base.{student_tree, choice_tree, has_text, row_key, text_or_none, columns, every}
use Rattle.portal_store.proofs.Base.{MovesTo, Assigns, IsConsistentIn, of_key, IsWhole, first_cell, world_in}
use Rattle.portal_store.proofs.Base.{assigned_of, ShowsRoll, TurnsShown, filter_all, all_permuted, put_same}
use Rattle.portal_store.proofs.Base.{put_all_map, map_twice, map_alike, map_alike_on, at, IsStudentRow}
use Rattle.portal_store.proofs.Base.{student_rows_formed, goes_then, assigned_by, with_assigned, student_columns}
use Rattle.portal_store.proofs.Base.{text_or_null_cell, all_has, has_of, student_test}
use Rattle.sqlite.specs.declared.types.Value.{Value}
use Rattle.portal_store.proofs.Still.{holds_after, world_after}
use Rattle.portal_store.proofs.FirstRows.{student_of}
use Rattle.portal_store.proofs.Holding.{phase_turned}

text_back : (o : Option Key) → text_or_none (text_or_null_cell o) ≡ o
text_back None = refl
text_back (Some t) = refl

-- what is written for a student of whom rows are shown
module _ (pairs : List (Key × Key)) (r : Row) (f : IsStudentRow r) where
  abbrev place : Option Key
  place = placement_in pairs (row_key r)

  abbrev put : Row → Value → Value
  put x v = cond (has_text 1 (first_cell x) r) (text_or_null_cell (placement_in pairs (first_cell x))) v

  own_put : (x : Row) (v : Value) → has_text 1 (first_cell x) r ≡ true → text_or_none (put x v) ≡ place
  own_put x v hit =
      let key : row_key r ≡ first_cell x = is_same (row_key r) (first_cell x) (sym (student_test (first_cell x) r f) ∙ hit) in
      ap (λ b. text_or_none (cond b (text_or_null_cell (placement_in pairs (first_cell x))) v)) hit
      ∙ text_back (placement_in pairs (first_cell x)) ∙ sym (ap (placement_in pairs) key)

  stays_put : (shown : List Row) (v : Value) → text_or_none v ≡ place
      → text_or_none (assigned_by (map (assigned_of pairs) shown) (column r 1) v) ≡ place
  stays_put [] v equals = equals
  stays_put (x ∷ shown) v equals = stays_put shown (put x v) (elim (cases_Bool (has_text 1 (first_cell x) r)) [
    | inl hit ↦ own_put x v hit
    | inr other ↦ ap (λ b. text_or_none (cond b (text_or_null_cell (placement_in pairs (first_cell x))) v)) other ∙ equals
  ])

  assigned_is : (shown : List Row) → has (map first_cell shown) (row_key r) ≡ true → (v : Value)
      → text_or_none (assigned_by (map (assigned_of pairs) shown) (column r 1) v) ≡ place
  assigned_is [] h v = absurd (cc)
  assigned_is (x ∷ shown) h v = elim (cases_Bool (has_text 1 (first_cell x) r)) [
    | inl hit ↦ stays_put shown (put x v) (own_put x v hit)
    | inr other ↦ assigned_is shown (sym (ap (λ b. b || has (map first_cell shown) (row_key r))
        (sym (student_test (first_cell x) r f) ∙ other)) ∙ h) (put x v)
  ]

-- what a query shows of the roll are its keys, each once
shown_keys : (shown : List Row) (db : Database) → ShowsRoll shown db
    → IsPermutation (map row_key (db.trees student_tree)) (map first_cell shown)
shown_keys shown db h =
    let show = columns (1 ∷ 2 ∷ 3 ∷ 4 ∷ []) in
    let key = λ (k : Row × Row). first_cell k.1 in
    let pair : Row → Row × Row = λ r. (columns (1 ∷ []) r, show r) in
    let there : map key (map pair (filter every (db.trees student_tree)))
    ≡ map row_key (db.trees student_tree) = sym (map_twice key pair (filter every (db.trees student_tree)))
    ∙ ap (map row_key) (filter_all (db.trees student_tree)) in
    let here : map key h.keyed ≡ map first_cell shown = map_twice first_cell (λ (k : Row × Row). k.1) h.keyed
    ∙ sym (ap (map first_cell) h.is) in
    subst₂ IsPermutation there here (IsPermutation-map key _ h.keyed h.same)

-- each student of the roll is among those that are shown
pub shown_known : (shown : List Row) (db : Database) → ShowsRoll shown db
    → AllByRecursion (λ r. has (map first_cell shown) (row_key r) ≡ true) (db.trees student_tree)
shown_known shown db h =
    let keys = map first_cell shown in
    let roll = db.trees student_tree in
    all_unmap (λ k. has keys k ≡ true) row_key roll
    (all_permuted (λ k. has keys k ≡ true) keys (map row_key roll) (IsPermutation-sym _ _ (shown_keys shown db h))
    (all_has (λ k. has keys k ≡ true) keys (has_of keys)))

-- each student has the place that the pairs give, and nothing else has changed
record IsPlaced (pairs : List (Key × Key)) (old new : Database) : Type 0 where
  holds : IsConsistentIn First new
  world : world_in First new.trees ≡ record
      (world_in First old.trees) { students = map (with_place pairs) (world_in First old.trees).students }

-- where the rows are the roll, each student has the place
placed_all : (pairs : List (Key × Key)) (shown : List Row) (old new : Database)
    → Assigns (map (assigned_of pairs) shown) old new → IsConsistentIn First old → Good (world_in First old.trees)
    → ShowsRoll shown old → IsPlaced pairs old new
unfolding world_in
placed_all pairs shown old new assigns was good shows =
    let roll = old.trees student_tree in
    let same_key : (s : Student) → student_key (with_place pairs s) ≡ student_key s = λ s. ap (λ r. r.key) (place_row pairs s) in
    let all = map (assigned_of pairs) shown in
    let formed = student_rows_formed old was.own was.sound was.apart.1.1.1.0 in
    let a = assigns was.current was.sound was.apart.1.1.1.0 in
    let keys = map first_cell shown in
    let known = shown_known shown old shows in
    let f = student_of (old.trees choice_tree) in
    let written : map f (map (with_assigned all) roll) ≡ map (with_place pairs) (map f roll) =
    sym (map_twice f (with_assigned all) roll)
    ∙ map_alike_on (λ r. f (with_assigned all r)) (λ r. with_place pairs (f r)) roll
    (λ r there. ap (λ o. record (f r) { placed = o })
    (assigned_is pairs r (at IsStudentRow roll r formed there) shown (at (λ x. has keys (row_key x) ≡ true) roll r known there)
    (column r 4)))
    ∙ map_twice (with_place pairs) f roll in
    let read : map f (map student_columns (new.trees student_tree)) ≡ map f (new.trees student_tree) =
    sym (map_twice f student_columns (new.trees student_tree))
    ∙ map_alike (λ r. f (student_columns r)) f (new.trees student_tree) (λ r. refl) in
    let same : IsPermutation (map (with_place pairs) (map f roll)) (map f (new.trees student_tree)) =
    subst₂ IsPermutation written read (IsPermutation-map f (map (with_assigned all) roll)
    (map student_columns (new.trees student_tree)) a.rows) in
    let before : map student_key (map (with_place pairs) (map f roll)) ≡ map row_key roll =
    map_same student_key (with_place pairs) same_key (map f roll) ∙ sym (map_twice student_key f roll) in
    let kept : IsPermutation (map row_key roll) (map row_key (new.trees student_tree)) =
    subst₂ IsPermutation before (sym (map_twice student_key f (new.trees student_tree))) (IsPermutation-map student_key _ _ same) in
    let put : put_all student_key (map (with_place pairs) (map f roll)) []
    ≡ map (with_place pairs) (put_all student_key (map f roll) []) =
    put_all_map student_key student_key (with_place pairs) same_key (map f roll) [] in
    let up : Rise (map student_key (put_all student_key (map (with_place pairs) (map f roll)) [])) =
    subst Rise (sym (ap (map student_key) put ∙ map_same student_key (with_place pairs) same_key (put_all student_key (map f roll) [])))
    good.sound.students_rise in
    let students : put_all student_key (map f (new.trees student_tree)) [] ≡ map (with_place pairs) (put_all student_key (map f roll) []) =
    put_same student_key (map (with_place pairs) (map f roll)) (map f (new.trees student_tree)) same up ∙ put in
    let lists : AllByRecursion (λ r. IsWhole (of_key (row_key r) (old.trees choice_tree))) (new.trees student_tree) =
    all_unmap (λ k. IsWhole (of_key k (old.trees choice_tree))) row_key (new.trees student_tree)
    (all_permuted (λ k. IsWhole (of_key k (old.trees choice_tree))) _ _ kept
    (all_map (λ k. IsWhole (of_key k (old.trees choice_tree))) row_key roll was.whole.choices)) in
    record {
      holds = holds_after student_tree old new refl was a.others a.schema_is a.sound a.apart was.office
          (record { choices = lists; rankings = was.whole.rankings; ranked = was.whole.ranked });
      world = world_after First student_tree old new a.others ∙ ap (λ l. record (world_in First old.trees) { students = l }) students;
    }

pub now_published : {v w : World} → v ≡ w → ◌≡◌ {A = World} (record v { phase = Published }) (record w { phase = Published })
now_published e = λ i. record (e i) { phase = Published }

-- the places, and then the phase
result_turned : (pairs : List (Key × Key)) (shown : List Row) (old mid new : Database)
    → Assigns (map (assigned_of pairs) shown) old mid → MovesTo First 3 mid new → TurnsShown First pairs shown old new
result_turned pairs shown old mid new assigns moves shows was good better =
    let placed = placed_all pairs shown old mid assigns was good shows in
    let done = phase_turned Published mid new placed.holds moves in
    record { holds = done.holds; world = done.world ∙ now_published placed.world }

pub result_made : (pairs : List (Key × Key)) (shown : List Row) (old mid new : State)
    → GoesOn (Assigns (map (assigned_of pairs) shown)) old mid → Made (MovesTo First 3) mid new
    → GoesOn (TurnsShown First pairs shown) old new
result_made pairs shown old mid new assigns moves =
    goes_then _ _ _ old mid new assigns moves (result_turned pairs shown old.now mid.now new.now)
