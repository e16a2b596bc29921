-- The list or ranking that counts is the last that was accepted.
use Rattle.portal_rules.proofs.Base.{◌≡◌, ℕ, ◌≤◌, ◌+◌, Bool, true, false, cond, List, [], ◌∷◌, ◌++◌, length, refl, sym, ◌∙◌}
use Rattle.portal_rules.proofs.Base.{ap, subst, inl, inr, map, ◌&&◌, ◌||◌, ◌==◌, not, Option, Some, None, is_none}
use Rattle.portal_rules.proofs.Base.{unwrap_or, list_any, arith, AllByRecursion, or-true, or_comm, Key, equals, has, is_empty}
use Rattle.portal_rules.proofs.Base.{put, put_all, World, lecturer_key, student_key, applicants_of, projects_of}
use Rattle.portal_rules.proofs.Base.{is_left, is_second, is_choosing, is_from_ranking, is_still_to_rank}
use Rattle.portal_rules.proofs.Base.{Choices, Rise, find}
use Rattle.portal_rules.specs.declared.view.View.{View as Sight}
use Rattle.portal_rules.proofs.Base.{Ranks, Placements, Fill, SecondRound, changed}
use Rattle.portal_rules.proofs.Base.{in_first, opened, with_lecturers, with_projects, with_students, with_choice}
use Rattle.portal_rules.proofs.Base.{with_ranking, with_place, with_fill, placement_in, new_lecturer, new_student}
use Rattle.portal_rules.proofs.Base.{ranked_before, placed_before}
use Rattle.portal_rules.proofs.Base.{Caller, NoCaller, OfficeCaller, LecturerCaller, StudentCaller}
use Rattle.portal_rules.proofs.Base.{caller, lecturer_with, student_with, sight_of, view, student_sees, lecturer_sees}
use Rattle.portal_rules.proofs.Base.{office_sees, StudentSees, LecturerSees, AbstractCall}
use Rattle.portal_rules.proofs.Base.{Took, take_rows, lecturer_roll}
use Rattle.portal_rules.proofs.Base.{student_roll, Answer, Act, Nothing, Apply, Publish, Decision, decision}
use Rattle.portal_rules.proofs.Base.{is_open_to_rolls, to_student, to_lecturer, to_office, Good, codes_of, IsStudent}
use Rattle.portal_rules.proofs.Base.{IsLecturer, StepLeaves, Step, HasForm, Wish, Calls, NoCall, Request, Answers}
use Rattle.portal_rules.proofs.Base.{Serves, end_of, unavailable, answered, phase_body, refuses, moves_on, moves_in}
use Rattle.portal_rules.proofs.Base.{opens}
use Rattle.portal_rules.specs.Answer.{moves, still_to_rank}
use Rattle.portal_rules.proofs.Cases.{by_office}
use Rattle.std.proofs.lemmas.Simd.{map-map}
use Rattle.portal_rules.specs.declared.phase.Phase.{Phase}
use Rattle.portal_rules.specs.declared.phase.Phase.TheVariants.{Setup, Choosing, Ranking, Published}
use Rattle.portal_rules.specs.declared.phase.Round.{Round}
use Rattle.portal_rules.specs.declared.phase.Round.TheVariants.{First, Second}
use Rattle.portal_rules.specs.declared.view.View.TheVariants.{Nobody, Lecturer, Student}
use Rattle.portal_rules.specs.declared.rows.LecturerRow.{LecturerRow}
use Rattle.portal_rules.specs.declared.rows.ProjectRow.{ProjectRow}
use Rattle.portal_rules.specs.declared.rows.StudentRow.{StudentRow}
use Rattle.portal_rules.specs.World as rows
use Rattle.portal_rules.proofs.Keys.{is_same, is_own, found_passes}
use Rattle.portal_rules.proofs.AllLaws.{all_map, all_weaker, all_both, each_one, any_append, kept_filtered, map_same}
use Rattle.portal_rules.proofs.Puts.{all_put, has_put}
use Rattle.portal_rules.proofs.Adds.{has_alike, taken}
use Rattle.portal_rules.proofs.Acts.{choice_row}
use Rattle.portal_rules.proofs.InPlay.{ranking_row, fill_row}
use Rattle.portal_rules.proofs.Kept.{place_row}
use Rattle.portal_rules.proofs.Opened.{opens_to, rows_with}
use Rattle.portal_rules.proofs.Named.{students_named, lecturers_named, others_named}
use Rattle.portal_rules.proofs.Steps.{run_good}
use Rattle.portal_rules.proofs.Unseen.{lecturer_found, student_found, choosing_open}
use Rattle.portal_core.specs.Saved.{submission, names_second, submitted_then, submitted, IsLast}
use Rattle.portal_core.specs.Saved.{IsLastOrFilled, AreLast, SavedCounts, SavedSinceNew}

-- the same of a code, a wish and a reply
abbrev opens_by : Bool → Wish → Answer → Bool
opens_by second wish a = not second && ((a.status == 200) && names_second wish)

abbrev then_by : Key → Bool → Option (List Key) → Key → Wish → Answer → Option (List Key)
then_by c second last code wish a =
    cond (opens_by second wish a) None (cond (equals code c && (a.status == 200)) (submission wish last) last)

-- the request submits nothing that is accepted, and opens nothing
abbrev Silent : Bool → Wish → Answer → Type 0
Silent second wish a =
    (opens_by second wish a ≡ false) × ((a.status == 200) ≡ true → (o : Option (List Key)) → submission wish o ≡ o)

-- as of a reply other than 200
refused : (second : Bool) (wish : Wish) (a : Answer) → (a.status == 200) ≡ false → Silent second wish a
refused second wish a no' = (
  ap (λ b. not second && (b && names_second wish)) no' ∙ never second,
  λ ok o. let e : false ≡ true = sym no' ∙ ok in cc,
)
  where
    never : (b : Bool) → (not b && false) ≡ false
    never b = grind arith

-- what a decision's reply and act say of it

abbrev OfStudent : StudentSees → Bool → AbstractCall → Answer → Act → Type 0
OfStudent v second ask a Nothing = Silent second (Calls ask) a
OfStudent v second ask a (Apply (Choices k list)) =
    (ask ≡ AbstractCall.SetChoices list) × ((a.status == 200) ≡ true) × (k ≡ v.me.key) × (is_choosing v.phase ≡ true)
OfStudent v second ask a act = ⊥

abbrev OfLecturer : LecturerSees → Bool → AbstractCall → Answer → Act → Type 0
OfLecturer v second ask a Nothing = Silent second (Calls ask) a
OfLecturer v second ask a (Apply (Ranks k list)) =
    (ask ≡ AbstractCall.SetRanking list) × ((a.status == 200) ≡ true) × (k ≡ v.me.key)
OfLecturer v second ask a act = ⊥

student_acts : (v : StudentSees) (second : Bool) (ask : AbstractCall)
    → OfStudent v second ask (to_student v ask).reply (to_student v ask).act
student_acts v second (AbstractCall.SetChoices list) = grind arith
student_acts v second (AbstractCall.SetRanking list) =
    refused second (Calls (AbstractCall.SetRanking list)) (to_student v (AbstractCall.SetRanking list)).reply refl
student_acts v second AbstractCall.Result = grind arith
student_acts v second ask = (grind arith, λ ok o. refl)

lecturer_acts : (v : LecturerSees) (second : Bool) (ask : AbstractCall)
    → OfLecturer v second ask (to_lecturer v ask).reply (to_lecturer v ask).act
lecturer_acts v second (AbstractCall.SetRanking list) = grind arith
lecturer_acts v second (AbstractCall.SetChoices list) =
    refused second (Calls (AbstractCall.SetChoices list)) (to_lecturer v (AbstractCall.SetChoices list)).reply refl
lecturer_acts v second AbstractCall.Applicants = grind arith
lecturer_acts v second AbstractCall.ShowRanking = grind arith
lecturer_acts v second AbstractCall.Result = grind arith
lecturer_acts v second ask = (grind arith, λ ok o. refl)

abbrev ask_moves : Wish → Bool
ask_moves (Calls (AbstractCall.Move phase named)) = true
ask_moves _ = false

-- rolls are open in the first round before ranking
open_rolls : (r : Round) (phase : Phase) → is_open_to_rolls r phase ≡ true → (r ≡ First) × (is_from_ranking phase ≡ false)
open_rolls First phase e = (refl, grind arith)
open_rolls Second phase e = cc

-- a test that follows from another, and the other from it
both_tests : (a b : Bool) → (a ≡ true → b ≡ true) → (b ≡ true → a ≡ true) → a ≡ b
both_tests a b f g = grind (arith, f, g)

same_filled : (w v : World) (l : rows.Lecturer) (o : Option (List Key))
    → map student_key (applicants_of v l.row.key) ≡ map student_key (applicants_of w l.row.key) → IsLastOrFilled w l o
    → IsLastOrFilled v l o
same_filled w v l None e h = elim h [ inl none ↦ inl none | inr filled ↦ inr (filled ∙ ap Some (sym e)) ]
same_filled w v l (Some list) e h = h

-- a missing ranking is none that was filled in
not_filled : (w v : World) (l : rows.Lecturer) (o : Option (List Key)) → l.ranking ≡ None → IsLastOrFilled w l o → IsLastOrFilled v l o
not_filled w v l None none h = inl none
not_filled w v l (Some list) none h = h

-- before rankings
all_not_filled : (w v : World) (last : Key → Option (List Key)) (ls : List rows.Lecturer) → AllByRecursion (λ l. l.ranking ≡ None) ls
    → AllByRecursion (λ l. IsLastOrFilled w l (last l.row.code)) ls → AllByRecursion (λ l. IsLastOrFilled v l (last l.row.code)) ls
all_not_filled w v last ls none h = all_weaker _ _ (λ l x. not_filled w v l (last l.row.code) x.0 x.1) ls (all_both _ _ ls none h)

-- codes that are not there are not among fewer
fewer_codes : (front xs ys : List Key) (c : Key) → (has xs c ≡ true → has ys c ≡ true) → has (front ++ ys) c ≡ false
    → has (front ++ xs) c ≡ false
fewer_codes front xs ys c more none =
    any_append (equals c) front xs ∙ go (has front c) (has xs c) (has ys c) more (sym (any_append (equals c) front ys) ∙ none)
  where
    go : (a b d : Bool) → (b ≡ true → d ≡ true) → (a || d) ≡ false → (a || b) ≡ false
    go a b d f e = grind (arith, f)

swapped : (xs ys : List Key) (k : Key) → has (xs ++ ys) k ≡ has (ys ++ xs) k
swapped xs ys k = any_append (equals k) xs ys ∙ or_comm (has xs k) (has ys k) ∙ sym (any_append (equals k) ys xs)

module _ (w : World) (good : Good w) (last : Key → Option (List Key)) (h : AreLast w last) where
  abbrev IsSaved : World → Type 0
  IsSaved v = AreLast v last

  -- changes that submit nothing

  new_phase : (phase : Phase) → IsSaved (record w { phase = phase })
  new_phase phase = record {
    students = h.students;
    lecturers = all_weaker _ _ (λ l x. same_filled w (record w { phase = phase }) l (last l.row.code) refl x) w.lecturers h.lecturers;
    others = h.others;
  }

  placed : (pairs : List (Key × Key)) → IsSaved (changed w (Placements pairs))
  placed pairs = record {
    students = all_map (λ (s : rows.Student). IsLast s (last s.row.code)) (with_place pairs) w.students
        (all_weaker _ _ student w.students h.students);
    lecturers = all_weaker _ _ (λ l x. same_filled w (changed w (Placements pairs)) l (last l.row.code) (applicants l.row.key) x)
        w.lecturers h.lecturers;
    others = λ c none. h.others c (subst (λ cs. has (w.office ∷ map (λ (l : rows.Lecturer). l.row.code) w.lecturers ++ cs) c ≡ false)
        (map_same (λ (s : rows.Student). s.row.code) (with_place pairs) (λ s. ap (λ r. r.code) (place_row pairs s)) w.students) none);
  }
    where
      student : (s : rows.Student) → IsLast s (last s.row.code) → IsLast (with_place pairs s) (last (with_place pairs s).row.code)
      student s x = elim (is_left s) as (λ b. IsLast (cond b (record s { placed = placement_in pairs s.row.key }) s)
          (last (cond b (record s { placed = placement_in pairs s.row.key }) s).row.code)) [ true ↦ x | false ↦ x ]

      listed : (ps : List ProjectRow) (s : rows.Student)
          → list_any (λ p. has (with_place pairs s).choice p.key) ps ≡ list_any (λ p. has s.choice p.key) ps
      listed ps s = elim (is_left s) as (λ b. list_any
          (λ p. has (cond b (record s { placed = placement_in pairs s.row.key }) s).choice p.key) ps
          ≡ list_any (λ p. has s.choice p.key) ps) [ true ↦ refl | false ↦ refl ]

      applicants : (l : Key) → map student_key (applicants_of (changed w (Placements pairs)) l) ≡ map student_key (applicants_of w l)
      applicants l = kept_filtered student_key (with_place pairs) (λ s. list_any (λ p. has s.choice p.key) (projects_of w l))
          (λ s. ap (λ r. r.key) (place_row pairs s)) (listed (projects_of w l)) w.students

  filled : IsSaved (changed w Fill)
  filled = record {
    students = h.students;
    lecturers = all_map (λ (l : rows.Lecturer). IsLastOrFilled (changed w Fill) l (last l.row.code)) (with_fill w) w.lecturers
        (all_weaker _ _ lecturer w.lecturers h.lecturers);
    others = λ c none. h.others c (subst (λ cs. has (w.office ∷ cs ++ map (λ (s : rows.Student). s.row.code) w.students) c ≡ false)
        (map_same (λ (l : rows.Lecturer). l.row.code) (with_fill w) (λ l. ap (λ r. r.code) (fill_row w l)) w.lecturers) none);
  }
    where
      given : (l : rows.Lecturer) (o : Option (List Key)) → IsLastOrFilled w l o → is_none l.ranking ≡ true
          → IsLastOrFilled (changed w Fill) (record l { ranking = Some (map student_key (applicants_of w l.row.key)) }) o
      given l None x none = inr refl
      given l (Some list) x none = let e : false ≡ true = ap is_none (sym x) ∙ none in cc

      lecturer : (l : rows.Lecturer) → IsLastOrFilled w l (last l.row.code)
          → IsLastOrFilled (changed w Fill) (with_fill w l) (last (with_fill w l).row.code)
      lecturer l x =
          (elim (is_still_to_rank w l) as (λ b. (b ≡ true → is_none l.ranking ≡ true)
          → IsLastOrFilled (changed w Fill) (cond b (record l { ranking = Some (map student_key (applicants_of w l.row.key)) }) l)
          (last (cond b (record l { ranking = Some (map student_key (applicants_of w l.row.key)) }) l).row.code)) [
            | true ↦ λ none. given l (last l.row.code) x (none refl)
            | false ↦ λ none. same_filled w (changed w Fill) l (last l.row.code) refl x
          ]) (λ still. missing (not (is_empty (applicants_of w l.row.key))) (is_none l.ranking) still)
        where
          missing : (a b : Bool) → (a && b) ≡ true → b ≡ true
          missing a b e = grind arith

  module _ (shut : is_from_ranking w.phase ≡ false) where
    no_rankings : AllByRecursion (λ l. l.ranking ≡ None) w.lecturers
    no_rankings = good.sound.no_rankings_yet shut

    joined_projects : (rs : List ProjectRow) → IsSaved (with_projects w rs)
    joined_projects rs = record {
      students = h.students;
      lecturers = all_not_filled w (with_projects w rs) last w.lecturers no_rankings h.lecturers;
      others = h.others;
    }

    -- of new students
    abbrev StudentsSaved : List rows.Student → Type 0
    StudentsSaved ss =
        AllByRecursion (λ s. IsLast s (last s.row.code)) ss
        × ((c : Key) → has (codes_of (record w { students = ss })) c ≡ false → last c ≡ None)

    put_student : (ss : List rows.Student) (r : StudentRow) → StudentsSaved ss → IsStudent r
        → has (map student_key ss) r.key ≡ false
        → (student_roll (office_sees w)).is_bad (map (λ (s : rows.Student). s.row) ss) r ≡ false → length ss + 1 ≤ 2000
        → StudentsSaved (put student_key (new_student r) ss)
    put_student ss r kept form key free room =
        let code : has (codes_of (record w { students = ss })) r.code ≡ false
        = subst (λ ls. has (w.office ∷ ls ++ map (λ (s : rows.Student). s.row.code) ss) r.code ≡ false)
        (map-map (λ (r : LecturerRow). r.code) (λ (l : rows.Lecturer). l.row) w.lecturers)
        (subst (λ cs. has (w.office ∷ map (λ (l : LecturerRow). l.code) (map (λ (l : rows.Lecturer). l.row) w.lecturers) ++ cs) r.code
        ≡ false) (map-map (λ (r : StudentRow). r.code) (λ (s : rows.Student). s.row) ss) free) in (
          all_put student_key (new_student r) (λ s. IsLast s (last s.row.code)) ss
              (ap (λ o. unwrap_or o []) (sym (kept.1 r.code code))) kept.0,
          λ c none. kept.1 c (fewer_codes (w.office ∷ map (λ (l : rows.Lecturer). l.row.code) w.lecturers)
              (map (λ (s : rows.Student). s.row.code) ss) (map (λ (s : rows.Student). s.row.code) (put student_key (new_student r) ss)) c
              (λ there. has_put student_key (new_student r) (λ (s : rows.Student). s.row.code) ss c ∙ ap (λ b. equals c r.code || b) there
              ∙ or-true (equals c r.code)) none),
        )

    joined_students : (rs new : List StudentRow) (same : ℕ) → AllByRecursion IsStudent rs
        → take_rows (student_roll (office_sees w)) 1 (office_sees w).students rs ≡ Took new same → IsSaved (with_students w new)
    joined_students rs new same forms e =
        let all : StudentsSaved (put_all student_key (map new_student new) w.students)
        = taken (student_roll (office_sees w)) (λ s. s.row) new_student (λ r. refl) IsStudent StudentsSaved
        (λ xs ys r al. has_alike (λ (s : StudentRow). s.code)
        (w.office ∷ map (λ (l : LecturerRow). l.code) (office_sees w).lecturers) xs ys r.code al)
        put_student rs 1 (office_sees w).students w.students new same (h.students, h.others)
        (record { tests = λ p. refl; long = refl }) forms e in
        record {
          students = all.0;
          lecturers = all_not_filled w (with_students w new) last w.lecturers no_rankings h.lecturers;
          others = all.1;
        }

    -- and of new lecturers
    abbrev LecturersSaved : List rows.Lecturer → Type 0
    LecturersSaved ls =
        AllByRecursion (λ l. (l.ranking ≡ None) × IsLastOrFilled w l (last l.row.code)) ls
        × ((c : Key) → has (w.office ∷ map (λ (s : rows.Student). s.row.code) w.students ++ map (λ (l : rows.Lecturer). l.row.code) ls) c
        ≡ false → last c ≡ None)

    put_lecturer : (ls : List rows.Lecturer) (r : LecturerRow) → LecturersSaved ls → IsLecturer r
        → has (map lecturer_key ls) r.key ≡ false
        → (lecturer_roll (office_sees w)).is_bad (map (λ (l : rows.Lecturer). l.row) ls) r ≡ false → length ls + 1 ≤ 300
        → LecturersSaved (put lecturer_key (new_lecturer r) ls)
    put_lecturer ls r kept form key free room =
        let code : has (w.office ∷ map (λ (s : rows.Student). s.row.code) w.students ++ map (λ (l : rows.Lecturer). l.row.code) ls) r.code
        ≡ false
        = subst (λ cs. has (w.office ∷ cs ++ map (λ (l : rows.Lecturer). l.row.code) ls) r.code ≡ false)
        (map-map (λ (r : StudentRow). r.code) (λ (s : rows.Student). s.row) w.students)
        (subst (λ cs. has (w.office ∷ map (λ (s : StudentRow). s.code) (map (λ (s : rows.Student). s.row) w.students) ++ cs) r.code ≡ false)
        (map-map (λ (r : LecturerRow). r.code) (λ (l : rows.Lecturer). l.row) ls) free) in (
          all_put lecturer_key (new_lecturer r) (λ l. (l.ranking ≡ None) × IsLastOrFilled w l (last l.row.code)) ls
              (refl, subst (IsLastOrFilled w (new_lecturer r)) (sym (kept.1 r.code code)) (inl refl)) kept.0,
          λ c none. kept.1 c (fewer_codes (w.office ∷ map (λ (s : rows.Student). s.row.code) w.students)
              (map (λ (l : rows.Lecturer). l.row.code) ls)
              (map (λ (l : rows.Lecturer). l.row.code) (put lecturer_key (new_lecturer r) ls)) c
              (λ there. has_put lecturer_key (new_lecturer r) (λ (l : rows.Lecturer). l.row.code) ls c
              ∙ ap (λ b. equals c r.code || b) there ∙ or-true (equals c r.code)) none),
        )

    joined_lecturers : (rs new : List LecturerRow) (same : ℕ) → AllByRecursion IsLecturer rs
        → take_rows (lecturer_roll (office_sees w)) 1 (office_sees w).lecturers rs ≡ Took new same → IsSaved (with_lecturers w new)
    joined_lecturers rs new same forms e =
        let sc : List Key = map (λ (s : rows.Student). s.row.code) w.students in
        let first : LecturersSaved w.lecturers
        = (
          all_both _ _ w.lecturers no_rankings h.lecturers,
          λ c none. h.others c (ap (λ b. equals c w.office || b) (swapped (map (λ (l : rows.Lecturer). l.row.code) w.lecturers) sc c)
              ∙ none),
        ) in
        let all : LecturersSaved (put_all lecturer_key (map new_lecturer new) w.lecturers)
        = taken (lecturer_roll (office_sees w)) (λ l. l.row) new_lecturer (λ r. refl) IsLecturer LecturersSaved
        (λ xs ys r al. has_alike (λ (l : LecturerRow). l.code)
        (w.office ∷ map (λ (s : StudentRow). s.code) (office_sees w).students) xs ys r.code al)
        put_lecturer rs 1 (office_sees w).lecturers w.lecturers new same first (record { tests = λ p. refl; long = refl }) forms e in
        record {
          students = h.students;
          lecturers = all_weaker _ _ (λ l x. not_filled w (with_lecturers w new) l (last l.row.code) x.0 x.1)
              (with_lecturers w new).lecturers all.0;
          others = λ c none. all.1 c (ap (λ b. equals c w.office || b)
              (swapped sc (map (λ (l : rows.Lecturer). l.row.code) (with_lecturers w new).lecturers) c) ∙ none);
        }

  -- a list or a ranking that is submitted

  module _ (code : Key) (list : List Key) where
    abbrev then_last : Key → Option (List Key)
    then_last c = cond (equals code c) (Some list) (last c)

    unknown : (view w code ≡ Nobody → ⊥) → (c : Key) → has (codes_of w) c ≡ false → then_last c ≡ None
    unknown known c none =
        (elim (equals code c) as (λ b. equals code c ≡ b → cond b (Some list) (last c) ≡ None) [
          | true ↦ λ e. absurd (known (ap (view w) (is_same code c e) ∙ others_named w good.sound c none))
          | false ↦ λ e. h.others c none
        ]) refl

    -- another's stays
    other_last : (c : Key) → (code ≡ c → ⊥) → last c ≡ then_last c
    other_last c apart = sym (ap (λ b. cond b (Some list) (last c)) (is_not (equals code c) (λ e. apart (is_same code c e))))
      where
        is_not : (b : Bool) → (b ≡ true → ⊥) → b ≡ false
        is_not true no' = absurd (no' refl)
        is_not false no' = refl

    -- the row that the code finds is the only one with its key, and with the code
    alone : {Y : Type 0} (key code_of : Y → Key) (sees : Y → Sight) (ys : List Y) (y : Y) → Rise (map key ys)
        → find (λ t. equals (code_of t) code) ys ≡ Some y → AllByRecursion (λ t. view w (code_of t) ≡ sees t) ys
        → view w code ≡ sees y → ((t : Y) → sees t ≡ sees y → key t ≡ key y)
        → AllByRecursion (λ t. equals (key t) (key y) ≡ equals code (code_of t)) ys
    alone key code_of sees ys y rise found named seen known =
        all_weaker _ _
        (λ t x.
        both_tests (equals (key t) (key y)) (equals code (code_of t))
        (λ e. ap (λ u. equals code (code_of u)) (x.0 (is_same (key t) (key y) e))
        ∙ ap (equals code) (is_same _ _ (found_passes (λ u. equals (code_of u) code) ys y found)) ∙ is_own code)
        (λ e. ap (λ k. equals k (key y)) (known t (sym x.1 ∙ ap (view w) (sym (is_same code (code_of t) e)) ∙ seen)) ∙ is_own (key y)))
        ys (all_both _ _ ys (rows_with key _ ys y rise found) named)

    chosen : (s : rows.Student) → caller w code ≡ StudentCaller s → is_from_ranking w.phase ≡ false
        → AreLast (changed w (Choices s.row.key list)) then_last
    chosen s is shut =
        record {
          students = all_map (λ (t : rows.Student). IsLast t (then_last t.row.code)) (with_choice s.row.key list) w.students
              (all_weaker _ _ (λ t x. one t x.0 x.1) w.students (all_both _ _ w.students tests h.students));
          lecturers = all_weaker _ _ (λ l x. subst (IsLastOrFilled (changed w (Choices s.row.key list)) l)
              (other_last l.row.code (λ e. member l x.1.1 e))
              (not_filled w (changed w (Choices s.row.key list)) l (last l.row.code) x.0 x.1.0)) w.lecturers
              (all_both _ _ w.lecturers (good.sound.no_rankings_yet shut)
              (all_both _ _ w.lecturers h.lecturers (lecturers_named w good.sound)));
          others = λ c none. unknown (λ e. let clash : Nobody ≡ Student (student_sees w s) = sym e ∙ seen in cc) c
              (subst (λ cs. has (w.office ∷ map (λ (l : rows.Lecturer). l.row.code) w.lecturers ++ cs) c ≡ false)
              (map_same (λ (s : rows.Student). s.row.code) (with_choice s.row.key list)
              (λ t. ap (λ r. r.code) (choice_row s.row.key list t)) w.students) none);
        }
      where
        seen : view w code ≡ Student (student_sees w s)
        seen = ap (sight_of w) is

        found : student_with w code ≡ Some s
        found = student_found w code s is

        member : (l : rows.Lecturer) → view w l.row.code ≡ Lecturer (lecturer_sees w l) → code ≡ l.row.code → ⊥
        member l named e = let clash : Lecturer (lecturer_sees w l) ≡ Student (student_sees w s) = sym named ∙ ap (view w) (sym e)
            ∙ seen in cc

        tests : AllByRecursion (λ t. equals t.row.key s.row.key ≡ equals code t.row.code) w.students
        tests = alone student_key (λ t. t.row.code) (λ t. Student (student_sees w t)) w.students s good.sound.students_rise found
            (students_named w good.sound) seen
            (λ t e. let both : Student (student_sees w t) ≡ Student (student_sees w s) = e in
            let same : student_sees w t ≡ student_sees w s = cc in ap (λ (x : StudentSees). x.me.key) same)

        one : (t : rows.Student) → equals t.row.key s.row.key ≡ equals code t.row.code → IsLast t (last t.row.code)
            → IsLast (with_choice s.row.key list t) (then_last (with_choice s.row.key list t).row.code)
        one t e x =
            (elim (equals t.row.key s.row.key) as (λ b. b ≡ equals code t.row.code
            → IsLast (cond b (record t { choice = list }) t) (then_last (cond b (record t { choice = list }) t).row.code)) [
              | true ↦ λ e. ap (λ b. unwrap_or (cond b (Some list) (last t.row.code)) []) e
              | false ↦ λ e. x ∙ ap (λ b. unwrap_or (cond b (Some list) (last t.row.code)) []) e
            ]) e

    ranked : (m : rows.Lecturer) → caller w code ≡ LecturerCaller m → AreLast (changed w (Ranks m.row.key list)) then_last
    ranked m is =
        record {
          students = all_weaker _ _ (λ s x. subst (IsLast s) (other_last s.row.code (λ e. member s x.1 e)) x.0) w.students
              (all_both _ _ w.students h.students (students_named w good.sound));
          lecturers = all_map (λ (l : rows.Lecturer). IsLastOrFilled (changed w (Ranks m.row.key list)) l (then_last l.row.code))
              (with_ranking m.row.key list) w.lecturers
              (all_weaker _ _ (λ l x. one l x.0 x.1) w.lecturers (all_both _ _ w.lecturers tests h.lecturers));
          others = λ c none. unknown (λ e. let clash : Nobody ≡ Lecturer (lecturer_sees w m) = sym e ∙ seen in cc) c
              (subst (λ cs. has (w.office ∷ cs ++ map (λ (s : rows.Student). s.row.code) w.students) c ≡ false)
              (map_same (λ (l : rows.Lecturer). l.row.code) (with_ranking m.row.key list)
              (λ l. ap (λ r. r.code) (ranking_row m.row.key list l)) w.lecturers) none);
        }
      where
        seen : view w code ≡ Lecturer (lecturer_sees w m)
        seen = ap (sight_of w) is

        found : lecturer_with w code ≡ Some m
        found = lecturer_found w code m is

        member : (s : rows.Student) → view w s.row.code ≡ Student (student_sees w s) → code ≡ s.row.code → ⊥
        member s named e = let clash : Student (student_sees w s) ≡ Lecturer (lecturer_sees w m) = sym named ∙ ap (view w) (sym e)
            ∙ seen in cc

        tests : AllByRecursion (λ l. equals l.row.key m.row.key ≡ equals code l.row.code) w.lecturers
        tests = alone lecturer_key (λ l. l.row.code) (λ l. Lecturer (lecturer_sees w l)) w.lecturers m good.sound.lecturers_rise found
            (lecturers_named w good.sound) seen
            (λ l e. let both : Lecturer (lecturer_sees w l) ≡ Lecturer (lecturer_sees w m) = e in
            let same : lecturer_sees w l ≡ lecturer_sees w m = cc in ap (λ (x : LecturerSees). x.me.key) same)

        one : (l : rows.Lecturer) → equals l.row.key m.row.key ≡ equals code l.row.code → IsLastOrFilled w l (last l.row.code)
            → IsLastOrFilled (changed w (Ranks m.row.key list)) (with_ranking m.row.key list l)
            (then_last (with_ranking m.row.key list l).row.code)
        one l e x =
            (elim (equals l.row.key m.row.key) as (λ b. b ≡ equals code l.row.code
            → IsLastOrFilled (changed w (Ranks m.row.key list)) (cond b (record l { ranking = Some list }) l)
            (then_last (cond b (record l { ranking = Some list }) l).row.code)) [
              | true ↦ λ e. subst (λ b. IsLastOrFilled (changed w (Ranks m.row.key list)) (record l { ranking = Some list })
                  (cond b (Some list) (last l.row.code))) e refl
              | false ↦ λ e. subst (λ b. IsLastOrFilled (changed w (Ranks m.row.key list)) l (cond b (Some list) (last l.row.code))) e
                  (same_filled w (changed w (Ranks m.row.key list)) l (last l.row.code) refl x)
            ]) e

  -- the second round starts without any

  reopened : w.round ≡ First → w.phase ≡ Published → AreLast (changed w SecondRound) (λ c. None)
  reopened one out =
      subst (λ u. AreLast u (λ c. None)) (sym (opens_to w one out))
      (record {
        students = all_map (λ (s : rows.Student). IsLast s None) placed_before w.students (each_one _ (λ s. refl) w.students);
        lecturers = all_map (λ (l : rows.Lecturer). IsLastOrFilled (opened First Published w) l None) ranked_before w.lecturers
            (each_one _ (λ l. inl refl) w.lecturers);
        others = λ c none. refl;
      })

  -- a call

  module _ (v : World) (code : Key) where
    abbrev second : Bool
    second = is_second w.round

    abbrev Fits : Wish → Answer → Type 0
    Fits wish a =
        (is_second v.round ≡ (second || opens_by second wish a)) × AreLast v (λ c. then_by c second (last c) code wish a)

    quiet : (x y : Bool) (new old : Option (List Key)) → (y ≡ true → new ≡ old) → cond (x && y) new old ≡ old
    quiet x y new old f = grind (arith, f)

    or_none : (a b : Bool) → b ≡ false → a ≡ (a || b)
    or_none a b e = grind arith

    silent : (wish : Wish) (a : Answer) → Silent second wish a → v.round ≡ w.round → IsSaved v → Fits wish a
    silent wish a s same saved = (
      ap is_second same ∙ or_none second (opens_by second wish a) s.0,
      subst (λ f. AreLast v f) (λ i c. path c i) saved,
    )
      where
        path : (c : Key) → last c ≡ then_by c second (last c) code wish a
        path c =
            sym (ap (λ b. cond b None (cond (equals code c && (a.status == 200)) (submission wish (last c)) (last c))) s.0
            ∙ quiet (equals code c) (a.status == 200) (submission wish (last c)) (last c) (λ ok. s.1 ok (last c)))

    same_world : (wish : Wish) (a : Answer) → Silent second wish a → v ≡ w → Fits wish a
    same_world wish a s same = silent wish a s (ap (λ (x : World). x.round) same) (subst IsSaved (sym same) h)

    never : (b st : Bool) → (not b && (st && false)) ≡ false
    never b st = grind arith

    submits : (wish : Wish) (list : List Key) (a : Answer) → names_second wish ≡ false → submission wish ≡ (λ o. Some list)
        → (a.status == 200) ≡ true → v.round ≡ w.round → AreLast v (then_last code list) → Fits wish a
    submits wish list a plain is ok same saved = (
      ap is_second same ∙ or_none second (opens_by second wish a) none,
      subst (λ f. AreLast v f) (λ i c. path c i) saved,
    )
      where
        none : opens_by second wish a ≡ false
        none = ap (λ b. not second && ((a.status == 200) && b)) plain ∙ never second (a.status == 200)

        and_true : (x y : Bool) → y ≡ true → x ≡ (x && y)
        and_true x y e = grind arith

        path : (c : Key) → then_last code list c ≡ then_by c second (last c) code wish a
        path c =
            (λ i. cond (and_true (equals code c) (a.status == 200) ok i) (sym is i (last c)) (last c))
            ∙ sym (ap (λ b. cond b None (cond (equals code c && (a.status == 200)) (submission wish (last c)) (last c))) none)

    by_student : (s : rows.Student) → caller w code ≡ StudentCaller s → (ask : AbstractCall) (a : Answer) (act : Act)
        → OfStudent (student_sees w s) second ask a act → StepLeaves w act v → Fits (Calls ask) a
    by_student s is ask a Nothing f l = same_world (Calls ask) a f l
    by_student s is ask a (Apply (Choices k list)) f l =
        subst (λ call. Fits (Calls call) a) (sym f.0)
        (submits (Calls (AbstractCall.SetChoices list)) list a refl refl f.1 (ap (λ (x : World). x.round) l)
        (subst (λ u. AreLast u (then_last code list)) (sym (l ∙ ap (λ k. changed w (Choices k list)) f.2))
        (chosen code list s is (choosing_open w.phase f.3).0)))
    by_student s is ask a act f l = absurd f

    by_lecturer : (m : rows.Lecturer) → caller w code ≡ LecturerCaller m → (ask : AbstractCall) (a : Answer) (act : Act)
        → OfLecturer (lecturer_sees w m) second ask a act → StepLeaves w act v → Fits (Calls ask) a
    by_lecturer m is ask a Nothing f l = same_world (Calls ask) a f l
    by_lecturer m is ask a (Apply (Ranks k list)) f l =
        subst (λ call. Fits (Calls call) a) (sym f.0)
        (submits (Calls (AbstractCall.SetRanking list)) list a refl refl f.1 (ap (λ (x : World). x.round) l)
        (subst (λ u. AreLast u (then_last code list)) (sym (l ∙ ap (λ k. changed w (Ranks k list)) f.2)) (ranked code list m is)))
    by_lecturer m is ask a act f l = absurd f

    -- the office's calls

    abbrev Stays : Type 0
    Stays = (v.round ≡ w.round) × IsSaved v

    is_left_so : v ≡ w → Stays
    is_left_so l = (ap (λ (x : World). x.round) l, subst IsSaved (sym l) h)

    moved_on : (p q : Phase) → StepLeaves w (moves_on (office_sees w) p q).act v → Stays
    moved_on Setup Choosing l = (ap (λ (x : World). x.round) l, subst IsSaved (sym l) (new_phase Choosing))
    moved_on Choosing Ranking l = (ap (λ (x : World). x.round) l, subst IsSaved (sym l) (new_phase Ranking))
    moved_on Ranking Published l = publishing (is_empty (office_sees w).still_to_rank) l
      where
        publishing : (b : Bool)
            → StepLeaves w (cond b (record { reply = answered 200 (phase_body w.round Published); act = Publish })
            (refuses (still_to_rank (office_sees w).still_to_rank))).act v
            → Stays
        publishing true l = (ap (λ (x : World). x.round) l.1, subst IsSaved (sym l.1) (placed l.0))
        publishing false l = is_left_so l
    moved_on Setup Setup l = is_left_so l
    moved_on Choosing Choosing l = is_left_so l
    moved_on Ranking Ranking l = is_left_so l
    moved_on Published Published l = is_left_so l
    moved_on p q l = is_left_so l

    -- a move that names no other round
    plain : (wish : Wish) (a : Answer) → names_second wish ≡ false → ((o : Option (List Key)) → submission wish o ≡ o) → Stays
        → Fits wish a
    plain wish a names none s = silent wish a
        (ap (λ b. not second && ((a.status == 200) && b)) names ∙ never second (a.status == 200), λ ok. none) s.0 s.1

    opened_by : (p q : Phase) → w.phase ≡ p → w.round ≡ First → StepLeaves w (opens p q).act v
        → Fits (Calls (AbstractCall.Move q (Some Second))) (opens p q).reply
    opened_by Published Choosing at one l = (
      ap (λ (x : World). is_second x.round) (l ∙ opens_to w one at)
          ∙ sym (ap (λ r. is_second r || opens_by (is_second r) (Calls (AbstractCall.Move Choosing (Some Second)))
          (opens Published Choosing).reply) one),
      subst (λ f. AreLast v f) (λ i c. path c i) (subst (λ u. AreLast u (λ c. None)) (sym l) (reopened one at)),
    )
      where
        path : (c : Key) → None ≡ then_by c second (last c) code (Calls (AbstractCall.Move Choosing (Some Second)))
            (opens Published Choosing).reply
        path c = sym (ap (λ r. cond (opens_by (is_second r) (Calls (AbstractCall.Move Choosing (Some Second)))
            (opens Published Choosing).reply) None (cond (equals code c && ((opens Published Choosing).reply.status == 200)) (last c)
            (last c))) one)
    opened_by p q at one l =
        same_world (Calls (AbstractCall.Move q (Some Second))) (opens p q).reply
        (refused second (Calls (AbstractCall.Move q (Some Second))) (opens p q).reply refl) l

    moved_in : (named round : Round) → w.round ≡ round → (q : Phase) → StepLeaves w (moves_in (office_sees w) round named q).act v
        → Fits (Calls (AbstractCall.Move q (Some named))) (moves_in (office_sees w) round named q).reply
    moved_in First First at q l =
        plain (Calls (AbstractCall.Move q (Some First))) (moves_in (office_sees w) First First q).reply refl (λ o. refl)
        (moved_on w.phase q l)
    moved_in First Second at q l =
        plain (Calls (AbstractCall.Move q (Some First))) (moves_in (office_sees w) Second First q).reply refl (λ o. refl) (is_left_so l)
    moved_in Second First at q l = opened_by w.phase q refl at l
    moved_in Second Second at q l =
        let s : Stays = moved_on w.phase q l in
        silent (Calls (AbstractCall.Move q (Some Second))) (moves_in (office_sees w) Second Second q).reply
        (ap (λ r. not (is_second r) && (((moves_in (office_sees w) Second Second q).reply.status == 200) && true)) at, λ ok o. refl) s.0 s.1

    moved : (q : Phase) (named : Option Round) → StepLeaves w (moves (office_sees w) q named).act v
        → Fits (Calls (AbstractCall.Move q named)) (moves (office_sees w) q named).reply
    moved q None l =
        plain (Calls (AbstractCall.Move q None)) (moves (office_sees w) q None).reply refl (λ o. refl) (moved_on w.phase q l)
    moved q (Some named) l = moved_in named w.round refl q l

    -- all others
    abbrev Leaves : AbstractCall → Decision → Type 0
    Leaves ask d = HasForm ask → (ask_moves (Calls ask) ≡ false) → StepLeaves w d.act v → Stays

    in_round : (r : Round) (u : World) → r ≡ First → v ≡ in_first r u w → IsSaved u → u.round ≡ w.round → Stays
    in_round First u one l saved same = (ap (λ (x : World). x.round) l ∙ same, subst IsSaved (sym l) saved)
    in_round Second u one l saved same = absurd (cc)

    office_calls : (ask : AbstractCall) → Leaves ask (to_office (office_sees w) ask)
    office_calls =
        by_office Leaves (λ ask reply form calm l. is_left_so l) (office_sees w)
        (record {
          lecturers = λ rs new n now took form calm l. let o = open_rolls w.round w.phase now in
              in_round w.round (with_lecturers w new) o.0 l (joined_lecturers o.1 rs new n form took) refl;
          projects = λ rs new n now took form calm l. let o = open_rolls w.round w.phase now in
              in_round w.round (with_projects w new) o.0 l (joined_projects o.1 new) refl;
          students = λ rs new n now took form calm l. let o = open_rolls w.round w.phase now in
              in_round w.round (with_students w new) o.0 l (joined_students o.1 rs new n form took) refl;
          choosing = λ named at form calm. absurd (cc);
          ranking = λ named at form calm. absurd (cc);
          published = λ named at none form calm. absurd (cc);
          opened = λ one at form calm. absurd (cc);
          filled = λ now some form calm l. (ap (λ (x : World). x.round) l, subst IsSaved (sym l) filled);
          sheets = λ ask text sheet calm form still l. is_left_so l;
        })

    of_office : (ask : AbstractCall) → HasForm ask → StepLeaves w (to_office (office_sees w) ask).act v
        → Fits (Calls ask) (to_office (office_sees w) ask).reply
    of_office (AbstractCall.Move q named) form l = moved q named l
    of_office (AbstractCall.SetChoices list) form l =
        same_world (Calls (AbstractCall.SetChoices list)) (to_office (office_sees w) (AbstractCall.SetChoices list)).reply
        (refused second (Calls (AbstractCall.SetChoices list)) (to_office (office_sees w) (AbstractCall.SetChoices list)).reply refl) l
    of_office (AbstractCall.SetRanking list) form l =
        same_world (Calls (AbstractCall.SetRanking list)) (to_office (office_sees w) (AbstractCall.SetRanking list)).reply
        (refused second (Calls (AbstractCall.SetRanking list)) (to_office (office_sees w) (AbstractCall.SetRanking list)).reply refl) l
    of_office ask form l = plain (Calls ask) (to_office (office_sees w) ask).reply refl (λ o. refl) (office_calls ask form refl l)

    by_caller : (x : Caller) → caller w code ≡ x → (ask : AbstractCall) → HasForm ask → StepLeaves w (decision (sight_of w x) ask).act v
        → Fits (Calls ask) (decision (sight_of w x) ask).reply
    by_caller NoCaller is ask form l =
        same_world (Calls ask) (decision Nobody ask).reply (refused second (Calls ask) (decision Nobody ask).reply refl) l
    by_caller OfficeCaller is ask form l = of_office ask form l
    by_caller (StudentCaller s) is ask form l =
        by_student s is ask (to_student (student_sees w s) ask).reply (to_student (student_sees w s) ask).act
        (student_acts (student_sees w s) second ask) l
    by_caller (LecturerCaller m) is ask form l =
        by_lecturer m is ask (to_lecturer (lecturer_sees w m) ask).reply (to_lecturer (lecturer_sees w m) ask).act
        (lecturer_acts (lecturer_sees w m) second ask) l

    answers : (wish : Wish) (r : Request) (a : Answer) → r.code ≡ code → Answers w r wish a v → Fits wish a
    answers (Calls ask) r a is s =
        let step : Step w code ask a v = subst (λ k. Step w k ask a v) is s in
        subst (Fits (Calls ask)) (sym step.told) (by_caller (caller w code) refl ask step.form step.left)
    answers (NoCall refusal) r a is s = same_world (NoCall refusal) a (never second (a.status == 200), λ ok o. refl) s.1

  served : (v : World) (r : Request) (a : Answer) → Serves w r a v → Fits v r.code r.wish a
  served v r a (inl s) = answers v r.code r.wish r a refl s
  served v r a (inr s) = subst (Fits v r.code r.wish) (sym s.0)
      (same_world v r.code r.wish unavailable (refused (is_second w.round) r.wish unavailable refl) s.1)

pub saved_counts : SavedCounts
saved_counts w [] [] [] last good run h = h
saved_counts w (r ∷ rs) (a ∷ told) (v ∷ after) last good run h =
    let one = served w good last h v r a run.0 in
    let good' : Good v = (run_good w (r ∷ rs) (a ∷ told) (v ∷ after) good run).0 in
    let rest : AreLast (end_of v after) (λ c. submitted c (is_second v.round) (submitted_then c (is_second w.round) (last c) r a) rs told)
    = saved_counts v rs told after (λ c. submitted_then c (is_second w.round) (last c) r a) good' run.1 one.1 in
    subst (λ b. AreLast (end_of v after) (λ c. submitted c b (submitted_then c (is_second w.round) (last c) r a) rs told)) one.0 rest
saved_counts w asked told after last good run h = grind arith

pub saved_since_new : SavedSinceNew
saved_since_new w asked told after good no_students no_lecturers run =
    saved_counts w asked told after (λ c. None) good run
    (record {
      students = subst (λ ss. AllByRecursion (λ s. IsLast s None) ss) (sym no_students) tt;
      lecturers = subst (λ ls. AllByRecursion (λ l. IsLastOrFilled w l None) ls) (sym no_lecturers) tt;
      others = λ c none. refl;
    })
