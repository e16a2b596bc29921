use Rattle.portal_rolls.proofs.Base.{◌≡◌, ◌<◌, ◌≤◌, ◌++◌, ◌∙◌, ℕ, List, length, take, get_or, ap, subst, IfOk, Ok, Err}
use Rattle.portal_rolls.proofs.Base.{Result, flat_map, take_all, StudentRow, OfficeSees, student_fields, csv_record}
use Rattle.portal_rolls.proofs.Base.{csv_header, HasWritten, rules, Vec, csv_text}
use Rattle.std.specs.Global.{Global}
use Rattle.portal_rules.proofs.Pieces.{one_more}
use Rattle.portal_rolls.proofs.allocation.write_allocation.Goals as goal

pub loop-student-init : goal.loop-student-init
loop-student-init c = search rules

pub loop-student-preserved : goal.loop-student-preserved
loop-student-preserved c =
    let v = c.args.view.now in
    let i = c.loop-student.student-index in
    let so_far : List ℕ = csv_record csv_header ++ flat_map (λ s. csv_record (student_fields v s)) (take i v.students) in
    let items : c.deref-student-items.result.now ≡ v.students = c.deref-student-items.ensures.value
    ∙ ap (λ (shared : Vec StudentRow Global). shared.items) c.deref.ensures ∙ ap (λ w. w.students) c.view.view_is in
    let inside : i < length v.students = subst (λ xs. i < length xs) items c.loop-student-test.true in
    let here : c.student-item.result ≡ get_or v.students i c.student-item.result =
    subst (λ (xs : List StudentRow). c.student-item.result ≡ get_or xs i c.student-item.result) items c.student-item.is in
    subst (HasWritten c.put_student.new.writer)
    (one_more (λ s. csv_record (student_fields v s)) (csv_record csv_header) v.students i c.student-item.result inside here)
    (subst (λ (p : OfficeSees). HasWritten c.put_student.new.writer (so_far ++ csv_record (student_fields p c.student-item.result)))
    c.in_ok-placings.ensures (c.in_ok-put_student.ensures so_far c.loop-student.invariant))

handed : {E : Type 0} (r : Result (Vec ℕ Global) E) (H : List ℕ → Type 0) (text wanted : List ℕ)
    → IfOk r (λ v. (held : List ℕ) → H held → v.items ≡ held) → H text → text ≡ wanted → IfOk r (λ v. v.items ≡ wanted)
handed (Ok v) H text wanted given holds e = given text holds ∙ e
handed (Err why) H text wanted given holds e = tt

pub returns : goal.returns
returns c =
    let v = c.args.view.now in
    let i = c.loop-student.student-index in
    let items : c.deref-student-items.result.now ≡ v.students = c.deref-student-items.ensures.value
    ∙ ap (λ (shared : Vec StudentRow Global). shared.items) c.deref.ensures ∙ ap (λ w. w.students) c.view.view_is in
    let all : length v.students ≤ i = subst (λ xs. length xs ≤ i) items c.loop-student-test.false in
    handed _ (HasWritten c.loop-student.writer) _ (csv_text v) c.text_of.ensures c.loop-student.invariant
    (ap (λ xs. csv_record csv_header ++ flat_map (λ s. csv_record (student_fields v s)) xs) (take_all i v.students all))
