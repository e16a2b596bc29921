-- List rows have owners on the roll, projects lecturers on it, and a roll shows its rows' keys.
use Rattle.portal_views.proofs.Base.{◌≡◌, ◌&&◌, ◌∷◌, RollRises, Open, own_is, IsText, OnRoll, owners_of, Follows}
use Rattle.portal_views.proofs.Base.{followed, project_rows_formed, all_two, permutes, key_texts, refl, Bool, true}
use Rattle.portal_views.proofs.Base.{List, ℕ, map, sym, ap, subst, ◌∙◌, and_parts, list_any-IsPermutation, Value, Null}
use Rattle.portal_views.proofs.Base.{Words, Database, IsDatabase, Row, column, bytes, Trees, ForeignKey, OfLists}
use Rattle.portal_views.proofs.Base.{everything, map-map, Key, equals, has, Rise, all_weaker, any_map, round_of}
use Rattle.portal_views.proofs.Base.{tree_of, Lists, Choices, Rankings, HasRound, Round}
use Rattle.portal_views.proofs.Base.{First, Choices, Rankings, Students, Lecturers, columns_of}
use Rattle.portal_views.proofs.Base.{students_shown, lecturers_shown, columns, row_key, by_key, AreOwned, first_cell}
use Rattle.portal_views.proofs.Base.{AllByRecursion, RowNumbersDiffer, HasFirstSchema, OfRoll, Projects, lecturer_tree}
use Rattle.portal_views.proofs.Base.{project_tree, Found, on_roll}

-- a roll shows the keys of its rows, and whoever is on it
pub keys_shown : (cs : List ℕ) (roll : List Row)
    → map first_cell (map (columns (1 ∷ cs)) (by_key roll)) ≡ map row_key (by_key roll)
keys_shown cs roll = map-map first_cell (columns (1 ∷ cs)) (by_key roll)

pub shown_there : (cs : List ℕ) (roll : List Row) (k : Key) → OnRoll roll k
    → has (map first_cell (map (columns (1 ∷ cs)) (by_key roll))) k ≡ true
shown_there cs roll k h =
    let mine : Row → _ = λ r. equals k (row_key r) in
    ap (λ ks. has ks k) (keys_shown cs roll) ∙ any_map (equals k) row_key (by_key roll)
    ∙ sym (list_any-IsPermutation mine roll (by_key roll) (permutes row_key roll))
    ∙ sym (any_map (equals k) row_key roll) ∙ h

no_text : (t : Key) → Null ≡ Words t → ⊥
no_text t e = cc

-- by the first foreign key of the table
owner_found : (l : Lists) (o : Open) (db : Trees) (n : Value) (t : Key) (vs : Row)
    → (rest : Bool) × (Follows ForeignKey (OfLists l) o db (n ∷ Words t ∷ vs) ≡ (Found (db (owners_of l)) t && rest))
unfolding everything
owner_found (Choices First) o db n t vs = (_, refl)
owner_found (Rankings First) o db n t vs = (_, refl)
owner_found _ o db n t vs = (_, refl)

place_owner : (l : Lists) (o : Open) (db : Trees) (r : Row) → IsText (column r 1)
    → Follows ForeignKey (OfLists l) o db r ≡ true → OnRoll (db (owners_of l)) (row_key r)
place_owner l o db (n ∷ v ∷ vs) text h =
    let rule = owner_found l o db n text.0 vs in
    let parts = and_parts (Found (db (owners_of l)) text.0) rule.0
    (sym rule.1 ∙ subst (λ x. Follows ForeignKey (OfLists l) o db (n ∷ x ∷ vs) ≡ true) text.1 h) in
    subst (OnRoll (db (owners_of l))) (sym (ap bytes text.1)) (on_roll (db (owners_of l)) text.0 parts.0)
place_owner l o db _ text h = absurd (no_text text.0 text.1)

-- the roll as it is shown has the owners of the lists
owned : (db : Database) (l : Lists) → HasRound (round_of l) db.schema → IsDatabase db → (cs : List ℕ)
    → Rise (map row_key (by_key (db.trees (owners_of l))))
    → AreOwned l db.trees (map (columns (1 ∷ cs)) (by_key (db.trees (owners_of l))))
owned db l own sound cs up =
    let o = (own_is (round_of l) db.schema own).o in
    let roll = db.trees (owners_of l) in
    record {
      rise = subst Rise (sym (keys_shown cs roll)) up;
      known = all_weaker (λ r. OnRoll roll (row_key r))
          (λ r. has (map first_cell (map (columns (1 ∷ cs)) (by_key roll))) (row_key r) ≡ true) (λ r h. shown_there cs roll (row_key r) h)
          (db.trees (tree_of l))
          (all_two (λ r. IsText (column r 1)) (λ r. Follows ForeignKey (OfLists l) o db.trees r ≡ true)
          (λ r. OnRoll roll (row_key r)) (place_owner l o db.trees) (db.trees (tree_of l)) (key_texts db (OfLists l) own sound)
          (followed db (OfLists l) own sound ForeignKey));
    }

-- so it has those of a round's lists
pub choices_owned : (round : Round) (db : Database) → HasRound round db.schema → IsDatabase db
    → RollRises Students db.trees → AreOwned (Choices round) db.trees (students_shown db.trees)
choices_owned round db own sound = owned db (Choices round) own sound (columns_of Students)

pub rankings_owned : (round : Round) (db : Database) → HasRound round db.schema → IsDatabase db
    → RollRises Lecturers db.trees → AreOwned (Rankings round) db.trees (lecturers_shown db.trees)
rankings_owned round db own sound = owned db (Rankings round) own sound (columns_of Lecturers)

-- the lecturer of a project is on the roll, by the first foreign key of the table
lecturer_found : (o : Open) (db : Trees) (n k : Value) (t : Key) (vs : Row)
    → (rest : Bool) × (Follows ForeignKey (OfRoll Projects) o db (n ∷ k ∷ Words t ∷ vs) ≡ (Found (db lecturer_tree) t && rest))
unfolding everything
lecturer_found o db n k t vs = (_, refl)

project_lecturer : (o : Open) (db : Trees) (r : Row) → IsText (column r 2)
    → Follows ForeignKey (OfRoll Projects) o db r ≡ true → OnRoll (db lecturer_tree) (bytes (column r 2))
project_lecturer o db (n ∷ k ∷ v ∷ vs) text h =
    let rule = lecturer_found o db n k text.0 vs in
    let parts = and_parts (Found (db lecturer_tree) text.0) rule.0
    (sym rule.1 ∙ subst (λ x. Follows ForeignKey (OfRoll Projects) o db (n ∷ k ∷ x ∷ vs) ≡ true) text.1 h) in
    subst (OnRoll (db lecturer_tree)) (sym (ap bytes text.1)) (on_roll (db lecturer_tree) text.0 parts.0)
project_lecturer o db _ text h = absurd (no_text text.0 text.1)

pub lecturers_known : (db : Database) → HasFirstSchema db.schema → IsDatabase db
    → RowNumbersDiffer (db.trees project_tree)
    → AllByRecursion (λ r. OnRoll (db.trees lecturer_tree) (bytes (column r 2))) (db.trees project_tree)
lecturers_known db own sound apart =
    let o = (own_is First db.schema own).o in
    all_two (λ r. IsText (column r 2)) (λ r. Follows ForeignKey (OfRoll Projects) o db.trees r ≡ true)
    (λ r. OnRoll (db.trees lecturer_tree) (bytes (column r 2))) (project_lecturer o db.trees) (db.trees project_tree)
    (project_rows_formed db own sound apart) (followed db (OfRoll Projects) own sound ForeignKey)
