use Rattle.portal_answer.proofs.Base.{◌≡◌, ◌∙◌, ◌<◌, ◌++◌, ap, sym, arith, rules, length, List, Option, is_some}
use Rattle.portal_answer.proofs.Base.{is_none, ℕ, refl, codes, append_assoc, decimal, count_by, flat_map, zip, Text}
use Rattle.portal_answer.proofs.Base.{Output, string_bytes, IsLawful}
use Rattle.std.proofs.Common.{take, ◌+◌, ◌-◌}
use Rattle.std.proofs.lemmas.List.{length-take-le}
use Rattle.std.proofs.lemmas.List.Sums.{count_by-le-length}
use Rattle.portal_answer.proofs.Assigned.{counts, line, line_more, one_more, whole}
use Rattle.portal_answer.proofs.solution.lines.Goals as goal

abbrev told : Text → Output
told text = record { text = text; status = 0 }

pub loop-student-preserved : goal.loop-student-preserved
loop-student-preserved c =
    let lawful : IsLawful c.args.instance.now = c.students-student-end.ensures.lawful in
    let here : c.loop-student.student < length c.args.instance.now.choices = omega (arith, c.students-student-end.ensures.count) in
    let in_keys : c.loop-student.student < length c.args.instance.now.student_keys = omega (arith, lawful.student_rows) in
    let in_matching : c.loop-student.student < length c.args.matching.now = omega (arith, c.requires.students) in
    let written = line_more c.args.instance.now c.args.matching.now c.loop-student.student c.loop-student.text.items
    c.project_of-project.result in_keys in_matching c.project_of-project.ensures.gives c.loop-student.invariant.text in
    let next : c.loop-student.assigned + c.from.result ≡ count_by is_some (take (c.loop-student.student + 1) c.args.matching.now) =
    rw (c.from.ensures, c.is_some.ensures, c.project_of-project.ensures.gives, c.loop-student.invariant.assigned)
    (sym (one_more c.args.matching.now c.loop-student.student in_matching)) in
    record {
      text = c.in_ok-put_student.ensures ∙ written;
      assigned = next;
      few = omega (
        arith,
        next,
        count_by-le-length is_some (take (c.loop-student.student + 1) c.args.matching.now),
        length-take-le (c.loop-student.student + 1) c.args.matching.now (omega arith),
      );
    }

pub returns : goal.returns
returns c =
    let lawful : IsLawful c.args.instance.now = c.students-student-end.ensures.lawful in
    let all : c.loop-student.student ≡ length c.args.matching.now =
    omega (arith, c.students-student-end.ensures.count, c.requires.students) in
    let same : length c.args.instance.now.student_keys
    ≡ length c.args.matching.now = omega (arith, lawful.student_rows, c.requires.students) in
    let ends = whole c.args.instance.now.student_keys c.args.matching.now c.loop-student.student all same in
    let last : string_bytes c.in_ok-last.last
    ≡ codes "assigned " ++ (decimal c.loop-student.assigned
    ++ (codes " unassigned " ++ (decimal (c.students.result - c.loop-student.assigned) ++ codes "\n"))) = search
    (rules, append_assoc) in
    let assigned : c.loop-student.assigned ≡ count_by is_some c.args.matching.now = c.loop-student.invariant.assigned
    ∙ ap (λ (m : List (Option ℕ)). count_by is_some m) ends.1 in
    let unassigned : c.students.result - c.loop-student.assigned
    ≡ count_by is_none c.args.matching.now = omega (arith, counts c.args.matching.now, assigned, c.students.ensures.count) in
    let before : c.loop-student.text.items ≡ flat_map (line c.args.instance.now) (zip c.args.instance.now.student_keys c.args.matching.now) =
    c.loop-student.invariant.text ∙ ap (λ (es : List (Text × Option ℕ)). flat_map (line c.args.instance.now) es) ends.0 in
    let text : c.extend_from_slice.new.self.items
    ≡ flat_map (line c.args.instance.now) (zip c.args.instance.now.student_keys c.args.matching.now)
    ++ (codes "assigned " ++ (decimal (count_by is_some c.args.matching.now)
    ++ (codes " unassigned " ++ (decimal (count_by is_none c.args.matching.now) ++ codes "\n")))) =
    c.in_ok-extend_from_slice.ensures.items ∙ rw (c.as_bytes.ensures.value, last, before, unassigned, assigned) refl in
    ap told (text ∙ simp append_assoc)
