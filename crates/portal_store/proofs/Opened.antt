-- The second round opens by one UPDATE of one row.
use Rattle.portal_store.proofs.Base.{◌≡◌, Result, ℕ, pos, true, false, not, ◌&&◌, eqb, [], map, slice_index_or, refl}
use Rattle.portal_store.proofs.Base.{sym, ap, subst, ◌∙◌, list_any, Row, column, bytes, Database, State, number_in}
use Rattle.portal_store.proofs.Base.{Phase, Choosing, Published, Round, First, Second, put_all, World}
use Rattle.portal_store.proofs.Base.{is_published, is_second, lecturer_key, project_key, student_key, Change}
use Rattle.portal_store.proofs.Base.{SecondRound}
use Rattle.portal_store.proofs.Base.{HasFirstSchema, IsCurrentSchema, of_key, IsWhole, HasOffice, row_key, second_row}
use Rattle.portal_store.proofs.Base.{MovesTo, portal_tree, lecturer_tree, project_tree, student_tree, choice_tree}
use Rattle.portal_store.proofs.Base.{ranking_tree, second_tree, choice2_tree, ranked2_tree, ranking2_tree}
use Rattle.portal_store.proofs.Base.{assigned2_tree, own_trees, version, apart_one, put_all_map, map_alike, map_twice}
use Rattle.portal_store.proofs.Base.{phase_numbered, phase_in, lecturer_stored, project_row, student_stored, world_in}
use Rattle.portal_store.proofs.Base.{IsConsistentIn, IsTransitionFrom, IsTransitionIn, OpensSecondRound, CommitsChange}
use Rattle.portal_store.proofs.Base.{opened, ranked_before, placed_before, Becomes, HasChangedFrom, is_opening, all_of}
use Rattle.portal_store.proofs.Ended.{ends_more}
use Rattle.portal_store.proofs.Rounds.{from_in, world_told}
use Rattle.portal_store.proofs.SecondRows.{lecturer_after, student_after}
use Rattle.portal_store.proofs.Still.{apart_kept, first_kept, kept_at, whole_first}

module _ (old new : Database) (holds : IsConsistentIn First old) (published : phase_in First old.trees ≡ Published)
    (moves : MovesTo Second 1 old new) where
  abbrev done : Becomes second_tree (second_row (pos 1)) old new
  done = moves holds.current (pos 0) holds.second.is

  kept : (t : ℕ) → list_any (λ x. eqb x t) own_trees ≡ true → eqb t second_tree ≡ false → new.trees t ≡ old.trees t
  kept = kept_at second_tree old new done.others

  choices2 : new.trees choice2_tree ≡ []
  choices2 = kept choice2_tree refl refl ∙ holds.second.says.0

  rankings2 : new.trees ranking2_tree ≡ []
  rankings2 = kept ranking2_tree refl refl ∙ holds.second.says.1.1.0

  student_before : (r : Row) → student_stored Second new.trees r ≡ placed_before (student_stored First old.trees r)
  student_before r = λ i. student_after (choices2 i) ((kept assigned2_tree refl refl ∙ holds.second.says.1.1.1.0) i)
      (kept choice_tree refl refl i) r

  lecturer_before : (r : Row) → lecturer_stored Second new.trees r ≡ ranked_before (lecturer_stored First old.trees r)
  lecturer_before r = λ i. lecturer_after ((kept ranked2_tree refl refl ∙ holds.second.says.1.0) i) (rankings2 i)
      (kept ranking_tree refl refl i) r

  abbrev was : World
  was = world_in First old.trees

  second_world : world_in Second new.trees ≡ opened First Published was
  unfolding world_in
  second_world =
      let students : put_all student_key (map (student_stored Second new.trees) (new.trees student_tree)) []
      ≡ map placed_before (put_all student_key (map (student_stored First old.trees) (old.trees student_tree)) []) =
      ap (λ rows. put_all student_key (map (student_stored Second new.trees) rows) []) (kept student_tree refl refl)
      ∙ ap (λ l. put_all student_key l []) (map_alike _ _ (old.trees student_tree) student_before
      ∙ map_twice placed_before (student_stored First old.trees) (old.trees student_tree))
      ∙ put_all_map student_key student_key placed_before (λ s. refl) (map (student_stored First old.trees) (old.trees student_tree)) [] in
      let lecturers : put_all lecturer_key (map (lecturer_stored Second new.trees) (new.trees lecturer_tree)) []
      ≡ map ranked_before (put_all lecturer_key (map (lecturer_stored First old.trees) (old.trees lecturer_tree)) []) =
      ap (λ rows. put_all lecturer_key (map (lecturer_stored Second new.trees) rows) []) (kept lecturer_tree refl refl)
      ∙ ap (λ l. put_all lecturer_key l []) (map_alike _ _ (old.trees lecturer_tree) lecturer_before
      ∙ map_twice ranked_before (lecturer_stored First old.trees) (old.trees lecturer_tree))
      ∙ put_all_map lecturer_key lecturer_key ranked_before (λ l. refl)
      (map (lecturer_stored First old.trees) (old.trees lecturer_tree)) [] in
      λ i. record {
        round = Second;
        phase = phase_numbered (number_in (column (slice_index_or (done.rows i) 0 []) 2));
        office = bytes (column (slice_index_or (kept portal_tree refl refl i) 0 []) 4);
        lecturers = lecturers i;
        projects = put_all project_key (map project_row (kept project_tree refl refl i)) [];
        students = students i;
      }

  opened_holds : IsConsistentIn Second new
  opened_holds = record {
    current = subst IsCurrentSchema (sym done.schema_is) holds.current;
    own = subst HasFirstSchema (sym done.schema_is) holds.own;
    sound = done.sound;
    apart = apart_kept second_tree old new done.others
        (apart_one (new.trees second_tree) (second_row (pos 1)) (pos 1) refl done.rows) holds.apart;
    office = subst (HasOffice version) (sym (kept portal_tree refl refl)) holds.office;
    second = record {
      phase = Choosing;
      is = done.rows;
      opened = refl;
      first = ap (λ rows. phase_numbered (number_in (column (slice_index_or rows 0 []) 3))) (kept portal_tree refl refl) ∙ published;
    };
    whole = (
      whole_first old.trees new.trees (first_kept second_tree old new refl done.others) holds.whole,
      record {
        choices = all_of _ (λ r. subst (λ rows. IsWhole (of_key (row_key r) rows)) (sym choices2) tt) (new.trees student_tree);
        rankings = all_of _ (λ r. subst (λ rows. IsWhole (of_key (row_key r) rows)) (sym rankings2) tt) (new.trees lecturer_tree);
        ranked = all_of _ (λ r e. ap (of_key (row_key r)) rankings2) (new.trees lecturer_tree);
      },
    );
  }

  -- from the first round's published world
  turned : HasChangedFrom First SecondRound old new
  unfolding world_in
  turned = record {
    holds = (Second, opened_holds);
    world = world_told Second new.trees opened_holds.second ∙ second_world ∙ ap (λ p. opened First p was) (sym published);
  }

pub second_opens : (old new : Database) → MovesTo Second 1 old new → OpensSecondRound old new
second_opens old new moves holds published = turned old new holds published moves

-- it opens from there alone

is_first : (round : Round) (phase : Phase) → (not (is_second round) && is_published phase) ≡ true
    → (round ≡ First) × (phase ≡ Published)
is_first First Published e = (refl, refl)
is_first round phase e = absurd (cc)

pub opens_in : (round : Round) (phase : Phase) (old new : Database)
    → (not (is_second round) && is_published phase) ≡ true → phase_in First old.trees ≡ phase → OpensSecondRound old new
    → IsTransitionFrom round SecondRound old new
opens_in round phase old new e is opens =
    let so = is_first round phase e in
    subst (λ r. IsTransitionFrom r SecondRound old new) (sym so.0) (λ holds good better. opens holds (is ∙ so.1))

stays : (round : Round) (phase : Phase) (w : World) → (not (is_second round) && is_published phase) ≡ false
    → opened round phase w ≡ w
stays First Published w e = absurd (cc)
stays round phase w e = refl

-- elsewhere nothing changes
pub opens_none : (round : Round) (phase : Phase) (db : Database) → (not (is_second round) && is_published phase) ≡ false
    → phase_in First db.trees ≡ phase → IsTransitionFrom round SecondRound db db
unfolding world_in
opens_none First phase db e is holds good better = record {
  holds = (First, holds);
  world = world_told First db.trees holds.second
      ∙ sym (stays First (phase_in First db.trees) (world_in First db.trees) (ap (λ p. not (is_second First) && is_published p) is ∙ e));
}
opens_none Second phase db e is holds good better = record { holds = (Second, holds); world = world_told Second db.trees holds.second }

-- every other change stays in its round
pub ends_any : {V E : Type 0} (round : Round) (change : Change) (r : Result V E) (old new : State)
    → (is_opening change ≡ false → CommitsChange (IsTransitionIn round change) r old new)
    → (change ≡ SecondRound → CommitsChange (IsTransitionFrom round SecondRound) r old new)
    → CommitsChange (IsTransitionFrom round change) r old new
ends_any round SecondRound r old new stay begins = begins refl
ends_any round change r old new stay begins = ends_more (stay refl) (λ after. from_in round change old.now after)
