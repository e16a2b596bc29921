use Rattle.spa_model.proofs.Base.{NoSuchLecturer, SameLines, none_before_carry, handed_on, rules}
use Rattle.spa_model.proofs.Sorted.{refusal_of_rows, instance_of_rows}
use Rattle.spa_model.proofs.instance.Instance.build.Goals as goal

pub check_lists-requires : goal.check_lists-requires
check_lists-requires c =
    let same : SameLines c.args.rows c.sort_rows.new.rows =
    record {
      lecturers = c.sort_rows.ensures.lecturers;
      projects = c.sort_rows.ensures.projects;
      students = c.sort_rows.ensures.students;
    } in
    none_before_carry c.args.rows c.sort_rows.new.rows same NoSuchLecturer c.in_ok-check_lines.ensures.ok

pub returns-in_err-lists-clause-err : goal.returns-in_err-lists-clause-err
returns-in_err-lists-clause-err c = search (rules, refusal_of_rows, handed_on)

pub returns-clause-ok : goal.returns-clause-ok
returns-clause-ok c = search (rules, instance_of_rows)

pub returns-clause-err : goal.returns-clause-err
returns-clause-err c = search (rules, refusal_of_rows)
