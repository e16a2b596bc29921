-- Refutes keepers that change what they look at, leave a change out, make it twice or in part, or hide
-- a fault, and views of the wrong caller, in the wrong phase, in the order of places, or of an older
-- world.
use Rattle.std.proofs.Common.{◌≡◌, ℕ, zero, suc, inl, inr, true, false, List, [], ◌∷◌, length, refl, sym, ap, arith}
use Rattle.std.proofs.Common.{◌∙◌}
use Rattle.std.proofs.Common.{Ok, Err, replicate, get_or}
use Rattle.std.specs.Prelude.{codes, Result, IsTrue}
use Rattle.portal_rules.specs.declared.keeper.KeepFault.{KeepFault}
use Rattle.portal_rules.specs.declared.keeper.KeepFault.TheVariants.{Memory, Store}
use Rattle.portal_rules.specs.declared.view.View.{View as Sight}
use Rattle.portal_rules.specs.declared.view.View.TheVariants.{Nobody, Office, Lecturer, Student}
use Rattle.portal_rules.specs.Keeping.{Looks, Changes}
use Rattle.portal_rules.specs.Calls.{LecturerSees}
use Rattle.portal_rules.specs.View.{view}
use Rattle.portal_rules.specs.Words.{Key, is_code, is_name}
use Rattle.portal_rules.specs.World.{World, Change, Choices, Students, changed, is_ranking}
use Rattle.portal_rules.specs.declared.rows.Person.{Person}
use Rattle.portal_rules.specs.declared.rows.Listing.{Listing}
use Rattle.std.specs.Str.{IsAscii}
use Rattle.std.proofs.lemmas.Str.{IsUtf8-from_ascii, is_utf8-from_IsUtf8}
use Rattle.portal_rules.specs.examples.Worked.{listed, lecturer, student}
use Rattle.portal_refuted.proofs.Keepers.{lists, broken, shut, empty, cyr, dan, choosing, turned}

-- ---- a call that looks

pub looking_that_changes_the_world_is_not_same : {A : Type 0} (r : Result A KeepFault)
    → Looks r (lists listed 0) (lists choosing 0) → ⊥
looking_that_changes_the_world_is_not_same r looks =
    let clash : false ≡ true = ap (λ (w : World). is_ranking w.phase) (looks.same tt) in cc

pub store_fault_of_looking_uncounted_is_refuted : {A : Type 0} (w : World)
    → Looks {A = A} (Err Store) (lists w 0) (broken w 0) → ⊥
store_fault_of_looking_uncounted_is_refuted w looks = omega (arith, looks.counts)

pub memory_of_looking_counted_is_refuted : {A : Type 0} (w : World)
    → Looks {A = A} (Err Memory) (lists w 0) (lists w 1) → ⊥
memory_of_looking_counted_is_refuted w looks = omega (arith, looks.counts)

pub looking_that_shuts_a_keeper_does_not_last : {A : Type 0} (x : A) (w : World)
    → Looks (Ok x) (lists w 0) (shut w 0) → ⊥
looking_that_shuts_a_keeper_does_not_last x w looks = (looks.uses.lasts tt).1 tt

pub keeper_shut_and_not_broken_is_refuted : {A : Type 0} (r : Result A KeepFault) (w : World)
    → Looks r (lists w 0) (shut w 0) → ⊥
keeper_shut_and_not_broken_is_refuted r w looks = elim ((looks.uses.breaks tt).1 tt) [ inl clean ↦ clean | inr broke ↦ broke ]

pub keeper_made_clean_by_looking_is_refuted : {A : Type 0} (r : Result A KeepFault) (w : World)
    → Looks r (broken w 0) (lists w 0) → ⊥
keeper_made_clean_by_looking_is_refuted r w looks = looks.uses.clean tt

-- a stop leaves another world than before, though the keeper shows the same
pub stop_after_looking_that_leaves_more_is_not_settled : {A : Type 0} (r : Result A KeepFault)
    → Looks r (lists listed 0) (record (lists listed 0) { leaves = λ v. v ≡ choosing }) → ⊥
stop_after_looking_that_leaves_more_is_not_settled r looks =
    let clash : false ≡ true = ap (λ (w : World). is_ranking w.phase) (looks.uses.settled tt choosing refl) in cc

pub looked : {A : Type 0} (x : A) (w : World) → Looks (Ok x) (lists w 0) (lists w 0)
looked x w = record {
  uses = record {
    clean = λ c. c;
    lasts = λ d. (d, λ c. c);
    breaks = λ d. (d, (λ c. inl c), λ b. b);
    settled = λ c v is. is;
    leaves = λ d v is. inl is;
  };
  same = λ c. refl;
  counts = refl;
}

pub store_fault_of_looking_counted : {A : Type 0} (w : World) → Looks {A = A} (Err Store) (lists w 0) (broken w 1)
store_fault_of_looking_counted w = record {
  uses = record {
    clean = λ c. absurd c;
    lasts = tt;
    breaks = λ d. (d, (λ c. inr tt), λ b. absurd b);
    settled = λ c. absurd c;
    leaves = λ d v is. inl is;
  };
  same = λ c. absurd c;
  counts = refl;
}

-- ---- a call that makes a change

-- what a change may make of this world
abbrev makes : World → Change → World → Type 0
makes w change v = v ≡ changed w change

abbrev two_rows : Change
two_rows = Students (cyr ∷ dan ∷ [])

pub change_left_out_is_not_made : {A : Type 0} (x : A)
    → Changes (Ok x) (lists empty 0) (lists empty 0) (makes empty two_rows) → ⊥
change_left_out_is_not_made x changes = omega (arith, ap (λ (w : World). length w.students) (changes.made tt))

pub change_made_twice_is_not_made : {A : Type 0} (x : A)
    → Changes (Ok x) (lists empty 0) (lists (changed (changed empty two_rows) two_rows) 0) (makes empty two_rows) → ⊥
change_made_twice_is_not_made x changes = omega (arith, ap (λ (w : World). length w.students) (changes.made tt))

pub change_without_its_last_row_is_not_made : {A : Type 0} (x : A)
    → Changes (Ok x) (lists empty 0) (lists (changed empty (Students (cyr ∷ []))) 0) (makes empty two_rows) → ⊥
change_without_its_last_row_is_not_made x changes = omega (arith, ap (λ (w : World). length w.students) (changes.made tt))

pub refused_change_that_is_made_is_not_same : {A : Type 0} (fault : KeepFault) (n : ℕ)
    → Changes {A = A} (Err fault) (lists empty 0) (lists (changed empty two_rows) n) (makes empty two_rows) → ⊥
refused_change_that_is_made_is_not_same fault n changes = omega (arith, ap (λ (w : World). length w.students) (changes.same tt))

pub change_on_a_broken_keeper_is_not_alive : {A : Type 0} (x : A) (w v : World) (change : Change)
    → Changes (Ok x) (broken w 0) (broken v 0) (makes w change) → ⊥
change_on_a_broken_keeper_is_not_alive x w v change changes = changes.alive tt tt

pub store_fault_of_a_change_uncounted_is_refuted : {A : Type 0} (w : World) (change : Change)
    → Changes {A = A} (Err Store) (lists w 0) (broken w 0) (makes w change) → ⊥
store_fault_of_a_change_uncounted_is_refuted w change changes = omega (arith, changes.counts)

pub change_made_once : {A : Type 0} (x : A) (w : World) (change : Change)
    → Changes (Ok x) (lists w 0) (lists (changed w change) 0) (makes w change)
change_made_once x w change = record {
  uses = record {
    clean = λ c. c;
    lasts = λ d. (d, λ c. c);
    breaks = λ d. (d, (λ c. inl c), λ b. b);
    settled = λ c v is. is;
    leaves = λ d v is. inr (λ c. is);
  };
  alive = λ d b. b;
  made = λ c. refl;
  same = tt;
  counts = refl;
}

-- ---- what a caller sees

abbrev lee : Key
lee = codes "lee-code-01"

abbrev ann : Key
ann = codes "ann-code-1"

abbrev applicants_in : Sight → List (Key × List Person)
applicants_in (Lecturer v) = v.applicants
applicants_in _ = []

abbrev choices_in : Sight → List Key
choices_in (Student v) = v.choices
choices_in _ = []

abbrev catalogue_in : Sight → List Listing
catalogue_in (Student v) = v.catalogue
catalogue_in _ = []

abbrev person : List ℕ → List ℕ → Person
person key name = record { key = key; name = name }

-- the last byte of the first applicant's key at project n, 0 if there is none
abbrev first_at : ℕ → List (Key × List Person) → ℕ
first_at n ps = first_of (get_or ps n ([], [])).1
  where
    first_of : List Person → ℕ
    first_of [] = 0
    first_of (p ∷ them) = get_or p.key 1 0

abbrev both_at_tides : List Person → List (Key × List Person)
both_at_tides them = (codes "P1", them) ∷ (codes "P2", person (codes "S1") (codes "Ann") ∷ []) ∷ []

-- Ann has Tides in the second place now, Bea in the first
pub applicants_by_place_are_not_the_view : (v : Sight)
    → applicants_in v
    ≡ both_at_tides (person (codes "S2") (codes "Roe, Bea") ∷ person (codes "S1") (codes "Ann") ∷ [])
    → v ≡ view turned lee → ⊥
applicants_by_place_are_not_the_view v shows is = omega (arith, ap (first_at 0) (sym shows ∙ ap applicants_in is))

pub applicants_by_key_are_the_view : applicants_in (view turned lee)
    ≡ both_at_tides (person (codes "S1") (codes "Ann") ∷ person (codes "S2") (codes "Roe, Bea") ∷ [])
applicants_by_key_are_the_view = refl

-- only who has the project in the first place
pub applicants_of_a_place_are_not_the_view : (v : Sight)
    → applicants_in v
    ≡ (codes "P1", person (codes "S2") (codes "Roe, Bea") ∷ []) ∷ (codes "P2", person (codes "S1") (codes "Ann") ∷ [])
    ∷ []
    → v ≡ view turned lee → ⊥
applicants_of_a_place_are_not_the_view v shows is = omega (arith, ap (first_at 0) (sym shows ∙ ap applicants_in is))

pub applicants_while_choosing_are_not_the_view : (v : Sight)
    → applicants_in v
    ≡ both_at_tides (person (codes "S1") (codes "Ann") ∷ person (codes "S2") (codes "Roe, Bea") ∷ [])
    → v ≡ view choosing lee → ⊥
applicants_while_choosing_are_not_the_view v shows is = omega (arith, ap (first_at 0) (sym shows ∙ ap applicants_in is))

pub no_applicants_while_choosing : applicants_in (view choosing lee) ≡ (codes "P1", []) ∷ (codes "P2", []) ∷ []
no_applicants_while_choosing = refl

-- a student whose key is also a lecturer's
abbrev shared : World
shared = record listed {
  lecturers = lecturer (codes "A1") (codes "Lee") (codes "lee-code-01") 2 ∷ [];
  projects = [];
  students = student (codes "A1") (codes "Ann") (codes "ann-code-1") [] ∷ [];
}

-- 0 for nobody, then office, lecturer and student
abbrev kind : Sight → ℕ
kind Nobody = 0
kind (Office v) = 1
kind (Lecturer v) = 2
kind (Student v) = 3

pub caller_by_key_is_not_the_view : (v : LecturerSees) → Lecturer v ≡ view shared ann → ⊥
caller_by_key_is_not_the_view v is = omega (arith, ap kind is)

pub key_is_no_code : view shared (codes "A1") ≡ Nobody
key_is_no_code = refl

pub code_names_the_student : kind (view shared ann) ≡ 3
code_names_the_student = refl

pub nobody_is_not_the_view : Nobody ≡ view listed ann → ⊥
nobody_is_not_the_view is = omega (arith, ap kind is)

-- the view of the world before Ann's list was replaced
pub view_of_an_older_world_is_refuted : view listed ann ≡ view (changed listed (Choices (codes "S1") [])) ann → ⊥
view_of_an_older_world_is_refuted is = omega (arith, ap (λ (v : Sight). length (choices_in v)) is)

pub catalogue_without_its_last_project_is_not_the_view : (v : Sight) → length (catalogue_in v) ≡ 2
    → v ≡ view listed ann → ⊥
catalogue_without_its_last_project_is_not_the_view v two is =
    omega (arith, two, ap (λ (u : Sight). length (catalogue_in u)) is)

-- ---- the forms of codes and names

pub code_of_seven_bytes_is_refuted : IsTrue (is_code (codes "code-12")) → ⊥
code_of_seven_bytes_is_refuted is = cc

pub code_of_41_bytes_is_refuted : IsTrue (is_code (replicate 41 65)) → ⊥
code_of_41_bytes_is_refuted is = cc

pub code_of_eight_bytes : IsTrue (is_code (codes "code-123"))
code_of_eight_bytes = refl

pub name_with_a_line_feed_is_refuted : IsTrue (is_name (65 ∷ 10 ∷ [])) → ⊥
name_with_a_line_feed_is_refuted is = cc

pub name_of_three_letters : IsTrue (is_name (codes "Lee"))
name_of_three_letters = is_utf8-from_IsUtf8 (codes "Lee") (IsUtf8-from_ascii (codes "Lee") ascii)
  where
    ascii : IsAscii (codes "Lee")
    ascii zero = omega arith
    ascii (suc zero) = omega arith
    ascii (suc (suc zero)) = omega arith
    ascii (suc (suc (suc k))) = omega arith
