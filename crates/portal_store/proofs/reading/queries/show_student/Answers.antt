use Rattle.portal_store.proofs.Readable.{students_readable}
use Rattle.portal_store.proofs.Base.{◌∙◌, None, Option, Student, ap, caller_among, option_map, reads_handed}
use Rattle.portal_store.proofs.Base.{reads_more, subst, Row, ListsBy, has_text, roll_columns, student_tree, as_list}
use Rattle.portal_store.proofs.Base.{[], ◌∷◌}
use Rattle.portal_store.proofs.Base.{reads_then, reads_then_of, sight_of, state, student_from, sym, world_in}
use Rattle.portal_store.proofs.Base.{StudentSight}
use Rattle.portal_store.proofs.Queried.{student_told}
use Rattle.portal_store.proofs.Identified.{student_found}
use Rattle.portal_store.proofs.reading.queries.show_student.Goals as goal

pub returns-in_err-row : goal.returns-in_err-row
returns-in_err-row g c =
    reads_handed c.from_residual.ensures.1 (student_found c.args.code.now (λ o shown. shown) (λ fault few. few) c.in_err-row.ensures)
    (λ own right told. (right.1, told))

pub returns-in_err-catalogue : goal.returns-in_err-catalogue
returns-in_err-catalogue g c =
    let f = c.in_err-catalogue in
    reads_handed c.from_residual-in_err-catalogue.ensures.1
    (reads_then (student_found c.args.code.now (λ o shown. shown) (λ fault few. few) c.in_ok-row.ensures) f.ensures)
    (λ own right told. told.1)

pub returns-in_err-student_view : goal.returns-in_err-student_view
returns-in_err-student_view g c =
    reads_handed c.from_residual-in_err-student_view.ensures.1
    (reads_then (student_found c.args.code.now (λ o shown. shown) (λ fault few. few) c.in_ok-row.ensures)
    (reads_then_of (λ own on right told. right.0.sound) c.in_ok-catalogue.ensures c.in_err-student_view.ensures))
    (λ own right told. (
      told.1.0.0,
      λ damaged good. told.1.1 damaged
          (students_readable c.args.round (state g.S.Store c.args.conn.now).now right.0 good c.args.code.now (c.in-Some.row ∷ [])
          (subst (λ (o : Option Row). ListsBy (1 ∷ []) (has_text 3 c.args.code.now) roll_columns
          ((state g.S.Store c.args.conn.now).now.trees student_tree) (as_list o)) c.in-Some.is told.0.1)).0,
    ))

pub returns-in_default : goal.returns-in_default
returns-in_default g c =
    let round = c.args.round in
    let db = (state g.S.Store c.args.conn.now).now.trees in
    reads_more tt (student_found c.args.code.now (λ o shown. shown) (λ fault few. few) c.in_ok-row.ensures)
    (λ own right told. (
      right.1,
      λ phase. ap (λ (o : Option Student). sight_of (world_in round db) (caller_among None o))
          (ap (option_map (student_from round db)) (sym c.in_default.is) ∙ told.0),
    ))

pub returns : goal.returns
returns g c =
    let round = c.args.round in
    let offers = c.in_ok-catalogue.catalogue.value.items in
    let row = c.in-Some.row in
    let db = (state g.S.Store c.args.conn.now).now.trees in
    reads_more tt
    (reads_then (student_found c.args.code.now (λ o shown. shown) (λ fault few. few) c.in_ok-row.ensures)
    (reads_then_of (λ own on right told. right.0.sound) c.in_ok-catalogue.ensures c.in_ok-student_view.ensures))
    (λ own right told. (
      told.1.0.0,
      λ phase.
          ap StudentSight (told.1.1 ∙ student_told round db row c.args.phase offers phase told.1.0.1)
          ∙ ap (λ (o : Option Student). sight_of (world_in round db) (caller_among None o))
          (ap (option_map (student_from round db)) (sym c.in-Some.is) ∙ told.0.0),
    ))
