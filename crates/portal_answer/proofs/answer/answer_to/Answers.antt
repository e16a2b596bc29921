use Rattle.portal_answer.proofs.Base.{File, IfLonger, OfRead, length, limit, subst, sym, ◌≡◌}
use Rattle.portal_answer.proofs.Refused.{rows_refused}
use Rattle.std.specs.Prelude.{IfOk, false, nat_lt}
use Rattle.std.proofs.lemmas.Bool.{le-ltb}
use Rattle.portal_answer.proofs.answer.answer_to.Goals as goal

pub returns-in-Err-build : goal.returns-in-Err-build
returns-in-Err-build c =
    let r = c.refused_instance.result in
    let task = c.args.task in
    let bytes = c.args.bytes.now in
    let small : nat_lt limit (length bytes) ≡ false = le-ltb limit (length bytes) c.if-bytes-gt-LIMIT.false in
    let file : File = record {
      lecturers = c.in-Ok.parts.0.lecturers;
      projects = c.in-Ok.parts.0.projects;
      students = c.in-Ok.parts.0.students;
      pairs = c.in-Ok.parts.1.items;
    } in
    let refused = rows_refused task file c.in-Err-build.bad.fault c.in-Err-build.bad.row r
    c.in-Err-build.ensures.err c.refused_instance.ensures.told c.refused_instance.ensures.memory in
    subst (λ b. IfOk r (IfLonger task b bytes)) (sym small) (subst (λ f. IfOk r (OfRead task f)) (sym c.in-Ok.ensures) refused)
