-- What the store keeps of its tables, where some of them are as they were.
use Rattle.portal_store.proofs.Base.{◌≡◌, pos, false, [], refl, sym, ap, ◌∙◌, slice_index_or, column, bytes, Database}
use Rattle.portal_store.proofs.Base.{number_in, Phase, Round, First, Second, is_setup, To, portal_tree, second_tree}
use Rattle.portal_store.proofs.Base.{version, portal_row, second_row, MovesTo, apart_one, IsConsistentIn}
use Rattle.portal_store.proofs.Base.{HasChangedIn, IsTransitionIn, number_of_phase, world_in, phase_numbered, HasTables}
use Rattle.portal_store.proofs.Base.{office_row}
use Rattle.portal_store.proofs.Rounds.{phase_back}
use Rattle.portal_store.proofs.Still.{holds_after, holds_there, world_after}

pub has_tables : {round : Round} (db : Database) → IsConsistentIn round db → HasTables db
has_tables db holds = record { own = holds.own; current = holds.current; sound = holds.sound; apart = holds.apart }

-- the phase alone has changed
pub phase_turned : (phase : Phase) (old new : Database) → IsConsistentIn First old
    → MovesTo First (number_of_phase phase) old new → HasChangedIn First (To phase) old new
unfolding world_in
phase_turned phase old new was moves =
    let done = moves was.current (pos version) (pos (number_of_phase was.office.phase)) was.office.office was.office.is in
    let there : phase_numbered (number_in (column (office_row new.trees) 3))
    ≡ phase = ap (λ rows. phase_numbered (number_in (column (slice_index_or rows 0 []) 3))) done.rows ∙ phase_back phase in
    let named : bytes (column (office_row new.trees) 4) ≡ bytes (column (office_row old.trees) 4) =
    ap (λ rows. bytes (column (slice_index_or rows 0 []) 4)) done.rows
    ∙ sym (ap (λ rows. bytes (column (slice_index_or rows 0 []) 4)) was.office.is) in
    record {
      holds = holds_after portal_tree old new refl was done.others done.schema_is done.sound
          (apart_one (new.trees portal_tree) (portal_row (pos version) (pos (number_of_phase phase)) was.office.office)
          (pos 1) refl done.rows)
          (record { phase = phase; office = was.office.office; is = done.rows })
          (record { choices = was.whole.choices; rankings = was.whole.rankings; ranked = was.whole.ranked });
      world = world_after First portal_tree old new done.others
          ∙ (λ i. record (world_in First old.trees) { phase = there i; office = named i });
    }

-- the phase of the second round alone has changed, and it is not setup
pub second_turned : (phase : Phase) (old new : Database) → is_setup phase ≡ false → IsConsistentIn Second old
    → MovesTo Second (number_of_phase phase) old new → HasChangedIn Second (To phase) old new
unfolding world_in
second_turned phase old new begun was moves =
    let done = moves was.current (pos (number_of_phase was.second.phase)) was.second.is in
    let there : phase_numbered (number_in (column (slice_index_or (new.trees second_tree) 0 []) 2))
    ≡ phase = ap (λ rows. phase_numbered (number_in (column (slice_index_or rows 0 []) 2))) done.rows ∙ phase_back phase in
    record {
      holds = holds_there second_tree old new refl was done.others done.schema_is done.sound
          (apart_one (new.trees second_tree) (second_row (pos (number_of_phase phase))) (pos 1) refl done.rows)
          (record { phase = phase; is = done.rows; opened = begun; first = was.second.first })
          (record { choices = was.whole.1.choices; rankings = was.whole.1.rankings; ranked = was.whole.1.ranked });
      world = world_after Second second_tree old new done.others ∙ (λ i. record (world_in Second old.trees) { phase = there i });
    }

-- of either; in the second the changed world is good, so that its phase is not setup
pub phase_turns : (round : Round) (phase : Phase) (old new : Database)
    → MovesTo round (number_of_phase phase) old new → IsTransitionIn round (To phase) old new
unfolding world_in
phase_turns First phase old new moves was good better = phase_turned phase old new was moves
phase_turns Second phase old new moves was good better = second_turned phase old new (better.sound.no_second_setup refl) was moves
