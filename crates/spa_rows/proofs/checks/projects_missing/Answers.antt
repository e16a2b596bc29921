use Rattle.spa_rows.proofs.Base.{◌≡◌, length, ap, ◌∙◌, arith, AllZip-long, HaveNumbers}
use Rattle.spa_rows.proofs.Numbers.{unknown_least}
use Rattle.spa_rows.proofs.checks.projects_missing.Goals as goal

pub unknown_in_list-requires : goal.unknown_in_list-requires
unknown_in_list-requires c =
    let students : c.deref.result.now ≡ c.args.rows.now.students = c.deref.ensures.value ∙ ap (λ x. x.students) c.rows.view_is in
    rw students (AllZip-long (λ x own. HaveNumbers c.args.rows.now.projects (λ y. y.key) x.list own.items) c.args.rows.now.students
    c.args.choices.now c.requires)

pub returns : goal.returns
returns c =
    let students : c.deref.result.now ≡ c.args.rows.now.students = c.deref.ensures.value ∙ ap (λ x. x.students) c.rows.view_is in
    let count : c.len.result ≡ length c.args.rows.now.projects = omega (arith, ap (λ x. length x.projects) c.rows.view_is) in
    unknown_least c.args.rows.now.projects (λ y. y.key) c.args.rows.now.students (λ x. x.list) c.args.choices.now c.requires
    (λ x. x.row) c.unknown_in_list.result (rw (← students, ← count) c.unknown_in_list.ensures)
