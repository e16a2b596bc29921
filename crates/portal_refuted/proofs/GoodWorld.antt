-- A small good world, published, whose student has the lecturer's key as a code; and the second round
-- that opens on it.
use Rattle.std.proofs.Common.{◌≡◌, ℕ, zero, suc, ◌<◌, true, [], ◌∷◌, Some, None, refl, arith}
use Rattle.std.specs.Prelude.{codes}
use Rattle.std.specs.Str.{IsAscii, is_utf8}
use Rattle.std.proofs.lemmas.Str.{IsUtf8-from_ascii, is_utf8-from_IsUtf8}
use Rattle.portal_rules.specs.declared.phase.Phase.TheVariants.{Published}
use Rattle.portal_rules.specs.declared.phase.Round.TheVariants.{First}
use Rattle.portal_rules.specs.Good.{Good, Sound, instance, matching_of}
use Rattle.portal_rules.specs.declared.rows.ProjectRow.{ProjectRow}
use Rattle.portal_rules.specs.World.{World, Lecturer, Student, SecondRound, changed}
use Rattle.portal_rules.proofs.Opened.{opened_good}
use Rattle.spa_model.specs.Spa.{IsBest, IsLawful}
use Rattle.spa_student.proofs.Machine.{ranked_of}
use Rattle.spa_honest.proofs.Tested.{lawful_by, best_by}

-- a name of one ASCII letter
letter_name : (b : ℕ) → b < 128 → is_utf8 (b ∷ []) ≡ true
letter_name b low = is_utf8-from_IsUtf8 (b ∷ []) (IsUtf8-from_ascii (b ∷ []) ascii)
  where
    ascii : IsAscii (b ∷ [])
    ascii zero = low
    ascii (suc k) = omega arith

abbrev pub lee : Lecturer
lee = record {
  row = record { key = codes "ann-code-1"; name = codes "L"; code = codes "lee-code-01"; capacity = 2 };
  ranking = Some (codes "S" ∷ []);
  earlier_ranking = None;
}

abbrev pub kites : ProjectRow
kites = record { key = codes "K"; lecturer = codes "ann-code-1"; title = codes "K"; capacity = 1 }

abbrev pub tides : ProjectRow
tides = record { key = codes "T"; lecturer = codes "ann-code-1"; title = codes "T"; capacity = 1 }

-- Ann has Kites
abbrev pub ann : Student
ann = record {
  row = record { key = codes "S"; name = codes "S"; code = codes "ann-code-1" };
  choice = codes "K" ∷ [];
  placed = Some (codes "K");
  earlier_choice = [];
  earlier_placement = None;
}

-- Ben listed nothing
abbrev pub ben : Student
ben = record {
  row = record { key = codes "Z"; name = codes "Z"; code = codes "ben-code-2" };
  choice = [];
  placed = None;
  earlier_choice = [];
  earlier_placement = None;
}

abbrev pub published : World
published = record {
  round = First;
  phase = Published;
  office = codes "office-code-0";
  lecturers = lee ∷ [];
  projects = kites ∷ tides ∷ [];
  students = ann ∷ ben ∷ [];
}

sound : Sound published
sound = record {
  lecturers_rise = (tt, tt);
  projects_rise = ((refl, tt), (tt, tt));
  students_rise = ((refl, tt), (tt, tt));
  lecturer_forms = (record { key = refl; name = letter_name 76 (omega arith); code = refl; low = omega arith; high = omega arith }, tt);
  project_forms = (
    record { key = refl; lecturer = refl; title = letter_name 75 (omega arith); low = omega arith; high = omega arith },
    (record { key = refl; lecturer = refl; title = letter_name 84 (omega arith); low = omega arith; high = omega arith }, tt),
  );
  student_forms = (
    record { key = refl; name = letter_name 83 (omega arith); code = refl },
    (record { key = refl; name = letter_name 90 (omega arith); code = refl }, tt),
  );
  office_form = refl;
  few_lecturers = omega arith;
  few_projects = omega arith;
  few_students = omega arith;
  codes = (refl, (refl, (refl, (refl, tt))));
  lecturers_known = (refl, (refl, tt));
  choices = (
    record { few = omega arith; known = (refl, tt); once = (refl, tt) },
    (record { few = omega arith; known = tt; once = tt }, tt),
  );
  no_choices_yet = λ e. absurd (cc);
  no_rankings_yet = λ e. absurd (cc);
  rankings = (record { all = (refl, tt); only = (refl, tt); once = (refl, tt) }, tt);
  no_result_yet = λ e. absurd (cc);
  all_ranked = λ e. (refl, tt);
  no_earlier_lists = λ e. ((refl, refl), ((refl, refl), tt));
  no_earlier_rankings = λ e. (refl, tt);
  no_second_setup = λ e. absurd (cc);
  only_left = ((λ e. absurd (cc)), ((λ e. absurd (cc)), tt));
}

lawful : IsLawful (instance published)
lawful = lawful_by (instance published) refl

pub published_best : IsBest (instance published) (matching_of published)
published_best = best_by (instance published) (ranked_of (instance published) lawful) (matching_of published) refl

pub published_good : Good published
published_good = record { sound = sound; stable = λ e. published_best.stable; before = λ e. absurd (cc) }

-- the second round, with Tides for Ben
abbrev pub again : World
again = changed published SecondRound

pub again_good : Good again
again_good = opened_good published published_good refl refl
