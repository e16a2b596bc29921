use Rattle.spa_model.proofs.Base.{List, refl, Rows, IsLeastOf, HasNoneBefore, HasFault, IsRefusal, NotApplicant}
use Rattle.spa_model.proofs.Base.{ApplicantMissing, Memory, handed_on, AllZip, AllZip-long, AreNumbers, HaveNumbers}
use Rattle.spa_model.proofs.Base.{keys_of_projects, keys_of_students, length-map, Student, Project, Ok, Err, refuse_ok}
use Rattle.spa_model.proofs.Base.{refuse_err, rows_of}
use Rattle.spa_model.proofs.Good.{AreGood, are_good}
use Rattle.spa_model.proofs.Numbered.{AreNumbered}
use Rattle.spa_model.proofs.Numbered
use Rattle.spa_model.proofs.Missing
use Rattle.spa_model.proofs.Lawful
use Rattle.spa_model.proofs.Stages
use Rattle.spa_model.proofs.build.instance_of.Goals as goal
use Rattle.spa_model.proofs.build.instance_of.Goals.{Start, After-deref-2, In_ok-refuse, In_ok-refuse-2}

-- the rows at the start, which are good
abbrev rows : Start → Rows
rows c = rows_of c.args.lecturers.now c.args.projects.now c.args.students.now

good : (c : Start) → AreGood (rows c)
good c =
    let sorted = c.requires.sorted in
    are_good (rows c) sorted.lecturers sorted.projects sorted.students c.requires.faultless

-- the same once students and projects have numbers
abbrev start : After-deref-2 → Start
start c = (goal.at.not_applicant-requires-clause-choices c).Start

abbrev students : After-deref-2 → List Student
students c = c.in_ok-student_rows.student_rows.items

abbrev projects : After-deref-2 → List Project
projects c = c.in_ok-project_rows.project_rows.items

choices_numbered : (c : Start)
    → AllZip (λ x own. AreNumbers (keys_of_projects c.args.projects.now) x.list own.items) c.args.students.now c.args.choices.now
choices_numbered c = Stages.numbers_listed (λ x. x.key) c.args.projects.now
    (λ x. x.list) c.args.students.now c.args.choices.now c.requires.choices (good c).known_projects

so : (c : After-deref-2) → AreNumbered (rows (start c)) (students c) (projects c)
so c = Stages.numbered _ _ _ (good (start c))
    (c.in_ok-student_rows.ensures (keys_of_projects c.args.projects.now) (choices_numbered (start c))) c.in_ok-project_rows.ensures

-- and once no list names another than an applicant
abbrev numbers : In_ok-refuse → After-deref-2
numbers c = (goal.at.number_lecturers-requires-clause-form c).After-deref-2

none_other : (c : In_ok-refuse) → HasNoneBefore (rows (start (numbers c))) ApplicantMissing
none_other c =
    let all : Rows = rows (start (numbers c)) in
    let least : IsLeastOf (HasFault all NotApplicant) c.not_applicant.result =
    Stages.other_least all _ _ (so (numbers c)) c.not_applicant.result
    (Numbered.others_numbered all _ _ (so (numbers c)) c.args.rankings.now c.requires.rankings c.not_applicant.result
    (rw (← c.deref.ensures.value, ← c.deref-2.ensures.value) c.not_applicant.ensures)) in
    refuse_ok all NotApplicant ApplicantMissing c.not_applicant.result
    (Ok c.in_ok-refuse.field-0) refl c.in_ok-refuse.ensures c.requires.faultless least

-- rankings by number
rankings_numbered : (c : In_ok-refuse)
    → AllZip (λ x own. AreNumbers (keys_of_students c.args.students.now) x.list own.items) c.args.lecturers.now c.args.rankings.now
rankings_numbered c = Stages.numbers_listed (λ x. x.key) c.args.students.now
    (λ x. x.list) c.args.lecturers.now c.args.rankings.now c.requires.rankings (Stages.lists_known _ _ _ (so (numbers c)) (none_other c))

pub number_students-requires-clause-form : goal.number_students-requires-clause-form
number_students-requires-clause-form c = (good c).form_students

pub number_students-requires-clause-count : goal.number_students-requires-clause-count
number_students-requires-clause-count c = AllZip-long _ _ _ (choices_numbered c)

pub number_projects-requires-clause-form : goal.number_projects-requires-clause-form
number_projects-requires-clause-form c = (good (goal.at.number_projects-requires-clause-form c).Start).form_projects

pub number_projects-requires-clause-known : goal.number_projects-requires-clause-known
number_projects-requires-clause-known c = (good (goal.at.number_projects-requires-clause-known c).Start).known_lecturers

pub not_applicant-requires-clause-count : goal.not_applicant-requires-clause-count
not_applicant-requires-clause-count c = AllZip-long
    (λ x own. HaveNumbers c.args.students.now (λ y. y.key) x.list own.items) _ _ c.requires.rankings

pub not_applicant-requires-clause-choices : goal.not_applicant-requires-clause-choices
not_applicant-requires-clause-choices c = rw (c.deref.ensures.value, c.deref-2.ensures.value) (Stages.choices_below _ _ _ (so c))

pub returns-in_err-refuse-clause-err : goal.returns-in_err-refuse-clause-err
returns-in_err-refuse-clause-err c =
    let known : After-deref-2 = (goal.at.returns-in_err-refuse-clause-err c).After-deref-2 in
    let all : Rows = rows (start known) in
    let least : IsLeastOf (HasFault all NotApplicant) c.not_applicant.result =
    Stages.other_least all _ _ (so known) c.not_applicant.result
    (Numbered.others_numbered all _ _ (so known) c.args.rankings.now c.requires.rankings c.not_applicant.result
    (rw (← c.deref.ensures.value, ← c.deref-2.ensures.value) c.not_applicant.ensures)) in
    let refusal = refuse_err all NotApplicant c.not_applicant.result
    (Err c.in_err-refuse.field-0.0) c.in_err-refuse.ensures c.requires.faultless least in
    handed_on c.from_residual-in_err-refuse.result c.in_err-refuse.field-0.0
    (λ e. IsRefusal all e.fault e.row) c.from_residual-in_err-refuse.ensures.1 refusal

pub number_lecturers-requires-clause-form : goal.number_lecturers-requires-clause-form
number_lecturers-requires-clause-form c = (good (start (numbers c))).form_lecturers

pub number_lecturers-requires-clause-count : goal.number_lecturers-requires-clause-count
number_lecturers-requires-clause-count c = AllZip-long _ _ _ (rankings_numbered c)

pub number_lecturers-requires-clause-below : goal.number_lecturers-requires-clause-below
number_lecturers-requires-clause-below c = Stages.rankings_below (rows (start (numbers c))) c.args.rankings.now (rankings_numbered c)

pub number_lecturers-requires-clause-distinct : goal.number_lecturers-requires-clause-distinct
number_lecturers-requires-clause-distinct c =
    Stages.rankings_distinct (rows (start (numbers c))) c.args.rankings.now (rankings_numbered c) (good (start (numbers c))).apart_lecturers

pub applicant_missing-requires-clause-choices : goal.applicant_missing-requires-clause-choices
applicant_missing-requires-clause-choices c =
    rw (c.deref-5.ensures.value, c.deref-4.ensures.value)
    (Stages.choices_below _ _ _ (so (goal.at.applicant_missing-requires-clause-choices c).After-deref-2))

pub applicant_missing-requires-clause-offered : goal.applicant_missing-requires-clause-offered
applicant_missing-requires-clause-offered c =
    rw (c.deref-4.ensures.value, c.deref-3.ensures.value)
    (Stages.offered_below _ _ _ (so (goal.at.applicant_missing-requires-clause-offered c).After-deref-2) _
    (c.in_ok-lecturer_rows.ensures (keys_of_students c.args.students.now) (length-map c.args.students.now (λ x. x.key))
    (rankings_numbered (goal.at.applicant_missing-requires-clause-offered c).In_ok-refuse)))

pub applicant_missing-requires-clause-count : goal.applicant_missing-requires-clause-count
applicant_missing-requires-clause-count c =
    rw c.deref-3.ensures.value (Missing.lecturer_count _ _ _ _ (so (goal.at.applicant_missing-requires-clause-count c).After-deref-2)
    (c.in_ok-lecturer_rows.ensures (keys_of_students c.args.students.now) (length-map c.args.students.now (λ x. x.key))
    (rankings_numbered (goal.at.applicant_missing-requires-clause-count c).In_ok-refuse)))

pub applicant_missing-requires-clause-ranks : goal.applicant_missing-requires-clause-ranks
applicant_missing-requires-clause-ranks c =
    rw (c.deref-3.ensures.value, c.deref-5.ensures.value)
    (Stages.ranks_for_all _ _ _ (so (goal.at.applicant_missing-requires-clause-ranks c).After-deref-2) _
    (c.in_ok-lecturer_rows.ensures (keys_of_students c.args.students.now) (length-map c.args.students.now (λ x. x.key))
    (rankings_numbered (goal.at.applicant_missing-requires-clause-ranks c).In_ok-refuse)))

pub returns-in_err-refuse-2-clause-err : goal.returns-in_err-refuse-2-clause-err
returns-in_err-refuse-2-clause-err c =
    let before : In_ok-refuse = (goal.at.returns-in_err-refuse-2-clause-err c).In_ok-refuse in
    let all : Rows = rows (start (numbers before)) in
    let missing : IsLeastOf (HasFault all ApplicantMissing) c.applicant_missing.result =
    Stages.missing_least all _ _ (so (numbers before)) _
    (c.in_ok-lecturer_rows.ensures (keys_of_students c.args.students.now) (length-map c.args.students.now (λ x. x.key))
    (rankings_numbered before)) c.applicant_missing.result
    (rw (← c.deref-3.ensures.value, ← c.deref-4.ensures.value, ← c.deref-5.ensures.value) c.applicant_missing.ensures) in
    let refusal = refuse_err all ApplicantMissing c.applicant_missing.result (Err c.in_err-refuse-2.field-0.0) c.in_err-refuse-2.ensures
    (none_other before) missing in
    handed_on c.from_residual-in_err-refuse-2.result c.in_err-refuse-2.field-0.0
    (λ e. IsRefusal all e.fault e.row) c.from_residual-in_err-refuse-2.ensures.1 refusal

-- and once there is no fault
abbrev before : In_ok-refuse-2 → In_ok-refuse
before c = (goal.at.returns-clause-ok c).In_ok-refuse

faultless : (c : In_ok-refuse-2) → HasNoneBefore (rows (start (numbers (before c)))) Memory
faultless c =
    let all : Rows = rows (start (numbers (before c))) in
    let missing : IsLeastOf (HasFault all ApplicantMissing) c.applicant_missing.result =
    Stages.missing_least all _ _ (so (numbers (before c))) _
    (c.in_ok-lecturer_rows.ensures (keys_of_students c.args.students.now) (length-map c.args.students.now (λ x. x.key))
    (rankings_numbered (before c))) c.applicant_missing.result
    (rw (← c.deref-3.ensures.value, ← c.deref-4.ensures.value, ← c.deref-5.ensures.value) c.applicant_missing.ensures) in
    refuse_ok all ApplicantMissing Memory c.applicant_missing.result (Ok c.in_ok-refuse-2.field-0) refl c.in_ok-refuse-2.ensures
    (none_other (before c)) missing

pub invariant_of-result : goal.invariant_of-result
invariant_of-result c =
    let good' : AreGood (rows (start (numbers (before c)))) = good (start (numbers (before c))) in
    let so' = so (numbers (before c)) in (
      Lawful.lawful _ _ _ _ good' so' (c.in_ok-lecturer_rows.ensures (keys_of_students c.args.students.now)
          (length-map c.args.students.now (λ x. x.key)) (rankings_numbered (before c))) (faultless c),
      Lawful.have_ranks _ _ _ _ good' so' (c.in_ok-lecturer_rows.ensures (keys_of_students c.args.students.now)
          (length-map c.args.students.now (λ x. x.key)) (rankings_numbered (before c))) (faultless c),
    )

pub returns-clause-ok : goal.returns-clause-ok
returns-clause-ok c =
    let good' : AreGood (rows (start (numbers (before c)))) = good (start (numbers (before c))) in
    let so' = so (numbers (before c)) in
    let count = length-map c.args.students.now (λ x. x.key) in
    let ranked = c.in_ok-lecturer_rows.ensures (keys_of_students c.args.students.now) count (rankings_numbered (before c)) in
    record {
      stands = Lawful.stands_for _ _ _ _ good' so' ranked (faultless c);
      lawful = Lawful.lawful _ _ _ _ good' so' ranked (faultless c);
      faultless = faultless c;
    }
