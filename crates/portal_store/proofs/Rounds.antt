-- The round of the tables, and the world that they stand for in it.
use Rattle.portal_store.proofs.Base.{◌≡◌, ℕ, if◌then◌else◌, pos, true, false, [], ◌∷◌, slice_index_or, refl, sym, ap}
use Rattle.portal_store.proofs.Base.{subst, ◌∙◌, List, map, column, bytes, Row, Trees, Database, number_in, Phase}
use Rattle.portal_store.proofs.Base.{Setup, Published, Round, First, Second, is_setup, lecturer_key}
use Rattle.portal_store.proofs.Base.{Change, changed, Good, Key, portal_tree, second_tree, version, number_of_phase}
use Rattle.portal_store.proofs.Base.{Office, IsNow, portal_row, second_row, row_key, world_in, world_of, phase_numbered}
use Rattle.portal_store.proofs.Base.{phase_in, round_in, lecturer_stored, HasSecond, IsConsistent, IsConsistentIn}
use Rattle.portal_store.proofs.Base.{HasGoodWorld, HasGoodWorldIn, HasChanged, IsTransitionFrom, IsTransitionIn}
use Rattle.portal_store.proofs.Base.{map_alike, map_twice, IsJudged, AreEmpty}
use Rattle.std.specs.Prelude.{◌==◌}

abbrev round_by : ℕ → Round
round_by n = if n == 0 then First else Second

-- a phase other than setup is that of a second round
by_phase : (p : Phase) → is_setup p ≡ false
    → round_by (number_in (column (slice_index_or (second_row (pos (number_of_phase p)) ∷ []) 0 []) 2)) ≡ Second
by_phase Setup e = absurd (cc)
by_phase p e = refl

by_setup : (p : Phase) → is_setup p ≡ true → p ≡ Setup
by_setup Setup e = refl
by_setup p e = absurd (cc)

pub phase_back : (p : Phase) → phase_numbered (number_of_phase p) ≡ p
phase_back Setup = refl
phase_back p = refl

-- the round is what the row of `second` tells
pub round_told : (round : Round) (db : Trees) → HasSecond round db → round_in db ≡ round
round_told First db h = ap (λ rows. round_by (number_in (column (slice_index_or rows 0 []) 2))) h.is
round_told Second db h = ap (λ rows. round_by (number_in (column (slice_index_or rows 0 []) 2))) h.is ∙ by_phase h.phase h.opened

pub world_told : (round : Round) (db : Trees) → HasSecond round db → world_of db ≡ world_in round db
unfolding world_of
world_told round db h = ap (λ r. world_in r db) (round_told round db h)

-- tables that stand for a good world do so in their round
pub stands_in : (round : Round) (db : Trees) → HasGoodWorld db → round_in db ≡ round → HasGoodWorldIn round db
stands_in round db s is = subst (λ r. HasGoodWorldIn r db) (sym (round_told s.0 db s.1.second) ∙ is) s.1

-- `second` has a row that tells a phase
pub tells_phase : (round : Round) (db : Trees) → HasSecond round db
    → (phase : Phase) × (db second_tree ≡ second_row (pos (number_of_phase phase)) ∷ [])
tells_phase First db h = (Setup, h.is)
tells_phase Second db h = (h.phase, h.is)

-- the phase of the row of the office is that of the first round
pub first_phase : (db : Trees) (phase : Phase) (code : Key)
    → db portal_tree ≡ portal_row (pos version) (pos (number_of_phase phase)) code ∷ [] → phase_in First db ≡ phase
first_phase db phase code row = ap (λ rows. phase_numbered (number_in (column (slice_index_or rows 0 []) 3))) row ∙ phase_back phase

-- tables that were judged stand for a good world
pub judged_stands : (db : Trees) → HasSecond (round_in db) db → IsJudged db → HasGoodWorld db
unfolding world_of
judged_stands db second judged = (round_in db, record { office = judged.office; second = second; whole = judged.whole; good = judged.good })

-- what `second` may tell
module _ (db : Trees) (phase : Phase) (row : db second_tree ≡ second_row (pos (number_of_phase phase)) ∷ []) where
  pub first_by : is_setup phase ≡ true → round_in db ≡ First
  first_by setup = ap (λ rows. round_by (number_in (column (slice_index_or rows 0 []) 2)))
      (row ∙ ap (λ p. second_row (pos (number_of_phase p)) ∷ []) (by_setup phase setup))

  pub second_by : is_setup phase ≡ false → round_in db ≡ Second
  second_by other = ap (λ rows. round_by (number_in (column (slice_index_or rows 0 []) 2))) row ∙ by_phase phase other

  pub none_told : is_setup phase ≡ true → AreEmpty db → HasSecond (round_in db) db
  none_told setup none = subst (λ r. HasSecond r db) (sym (first_by setup))
      (record { is = row ∙ ap (λ p. second_row (pos (number_of_phase p)) ∷ []) (by_setup phase setup); says = none })

  pub one_told : is_setup phase ≡ false → phase_in First db ≡ Published → HasSecond (round_in db) db
  one_told other published = subst (λ r. HasSecond r db) (sym (second_by other))
      (record { phase = phase; is = row; opened = other; first = published })

-- what holds of tables of either round, where their round is known
pub held_in : (round : Round) (db : Database) → IsConsistent db → round_in db.trees ≡ round → IsConsistentIn round db
held_in round db h is = subst (λ r. IsConsistentIn r db) (sym (round_told h.0 db.trees h.1.second) ∙ is) h.1

-- tables that stay in their round have turned from it
pub from_in : (round : Round) (change : Change) (old new : Database) → IsTransitionIn round change old new
    → IsTransitionFrom round change old new
from_in round change old new turns holds good better =
    let done = turns holds good better in
    record { holds = (round, done.holds); world = world_told round new.trees done.holds.second ∙ done.world }

-- tables of a round have turned
pub turned_in : (round : Round) (change : Change) (old new : Database) → IsTransitionFrom round change old new
    → IsConsistentIn round old → Good (world_of old.trees) → Good (changed (world_of old.trees) change)
    → HasChanged change old new
turned_in round change old new turns holds good better =
    let same = world_told round old.trees holds.second in
    let done = turns holds (subst Good same good) (subst (λ w. Good (changed w change)) same better) in
    record { holds = done.holds; world = done.world ∙ sym (ap (λ w. changed w change) same) }

-- the code of the office is the one of its row, whatever the round
pub office_told : (db : Trees) (phase : Phase) (code : Key)
    → db portal_tree ≡ portal_row (pos version) (pos (number_of_phase phase)) code ∷ [] → code ≡ (world_of db).office
unfolding world_of world_in
office_told db phase code row = sym (ap (λ rows. bytes (column (slice_index_or rows 0 []) 4)) row)

-- what the rows of `second` and `portal` tell is so of the world
module _ (db : Trees) (second : Phase) (row : db second_tree ≡ second_row (pos (number_of_phase second)) ∷ []) (office : Office)
    (there : db portal_tree ≡ portal_row (pos version) (pos (number_of_phase office.phase)) office.code ∷ []) where
  pub now_first : is_setup second ≡ true → IsNow (world_of db) First office
  unfolding world_of world_in
  now_first setup = record {
    round_is = first_by db second row setup;
    phase_is = ap (λ r. phase_in r db) (first_by db second row setup) ∙ first_phase db office.phase office.code there;
    code_is = sym (office_told db office.phase office.code there);
  }

  pub now_second : is_setup second ≡ false → IsNow (world_of db) Second (record { phase = second; code = office.code })
  unfolding world_of world_in
  now_second other = record {
    round_is = second_by db second row other;
    phase_is = ap (λ r. phase_in r db) (second_by db second row other)
        ∙ ap (λ rows. phase_numbered (number_in (column (slice_index_or rows 0 []) 2))) row ∙ phase_back second;
    code_is = sym (office_told db office.phase office.code there);
  }

round_is : (db : Trees) (round : Round) → (world_of db).round ≡ round → round_in db ≡ round
unfolding world_of world_in
round_is db round is = is

-- and so the tables are those of that round
pub now_in : (db : Database) (round : Round) (office : Office) → IsConsistent db
    → IsNow (world_of db.trees) round office
    → IsConsistentIn round db × (world_of db.trees ≡ world_in round db.trees) × IsNow (world_in round db.trees) round office
now_in db round office holds now =
    let held = held_in round db holds (round_is db.trees round now.round_is) in
    let same = world_told round db.trees held.second in
    (held, same, subst (λ w. IsNow w round office) same now)

-- the keys of lecturers, by their rows
pub key_in : (round : Round) (db : Trees) (r : Row) → lecturer_key (lecturer_stored round db r) ≡ row_key r
key_in First db r = refl
key_in Second db r = refl

pub keys_in : (round : Round) (db : Trees) (rows : List Row)
    → map lecturer_key (map (lecturer_stored round db) rows) ≡ map row_key rows
keys_in round db rows = sym (map_twice lecturer_key (lecturer_stored round db) rows)
    ∙ map_alike (λ r. lecturer_key (lecturer_stored round db r)) row_key rows (key_in round db)
