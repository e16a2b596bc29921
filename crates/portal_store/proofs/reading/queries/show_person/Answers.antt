use Rattle.portal_store.proofs.Readable.{lecturers_readable}
use Rattle.portal_tables.proofs.InTurn.{its_own}
use Rattle.portal_store.proofs.Base.{◌∙◌, if◌then◌else◌, First, Lecturer, OfficeCaller, Option, Round, ap, subst, Row}
use Rattle.portal_store.proofs.Base.{ListsBy, has_text, lecturer_columns, lecturer_tree, as_list, [], ◌∷◌}
use Rattle.portal_store.proofs.Base.{MatchResult-weaker}
use Rattle.portal_store.proofs.Base.{caller_among, catalogue, lecturer_from, lecturer_with, option_map, reads_as}
use Rattle.portal_store.proofs.Base.{reads_handed, reads_more, reads_open, reads_then, reads_then_of, sight_of, state}
use Rattle.portal_store.proofs.Base.{student_with, sym, world_in, LecturerSight, IsCatalogue}
use Rattle.portal_store.proofs.Applying.{lecturer_told}
use Rattle.portal_store.proofs.Holding.{has_tables}
use Rattle.portal_store.proofs.Identified.{lecturer_found}
use Rattle.portal_store.proofs.CatalogueLeft.{catalogue_told}
use Rattle.portal_store.proofs.reading.queries.show_person.Goals as goal

pub returns-in_err-row : goal.returns-in_err-row
returns-in_err-row g c =
    reads_handed c.from_residual.ensures.1 (lecturer_found c.args.code.now (λ o shown. shown) (λ fault few. few) c.in_err-row.ensures)
    (λ own right told. (right.1, told))

pub returns-in_err-catalogue : goal.returns-in_err-catalogue
returns-in_err-catalogue g c =
    let f = c.in_err-catalogue in
    reads_handed c.from_residual-in_err-catalogue.ensures.1
    (reads_then (lecturer_found c.args.code.now (λ o shown. shown) (λ fault few. few) c.in_ok-row.ensures) f.ensures)
    (λ own right told. told.1)

pub returns-in_err-lecturer_view : goal.returns-in_err-lecturer_view
returns-in_err-lecturer_view g c =
    let f = c.in_err-lecturer_view in
    reads_handed c.from_residual-in_err-lecturer_view.ensures.1
    (reads_then (lecturer_found c.args.code.now (λ o shown. shown) (λ fault few. few) c.in_ok-row.ensures)
    (reads_then_of (λ own on right told. has_tables _ right.0) c.in_ok-catalogue.ensures f.ensures))
    (λ own right told. (
      told.1.0.0,
      λ damaged good. told.1.1 damaged
          (lecturers_readable c.args.round (state g.S.Store c.args.conn.now).now right.0 good c.args.code.now (c.in-Some.row ∷ [])
          (subst (λ (o : Option Row). ListsBy (1 ∷ []) (has_text 3 c.args.code.now) lecturer_columns
          ((state g.S.Store c.args.conn.now).now.trees lecturer_tree) (as_list o)) c.in-Some.is told.0.1)).0,
    ))

pub returns-in_default : goal.returns-in_default
returns-in_default g c =
    let r = c.show_student.result in
    let w = world_in c.args.round (state g.S.Store c.args.conn.now).now.trees in
    let code = c.args.code.now in
    reads_as (its_own _ r)
    (reads_then (lecturer_found c.args.code.now (λ o shown. shown) (λ fault few. few) c.in_ok-row.ensures)
    (reads_open c.show_student.ensures))
    (λ no. no)
    (λ own right told. (
      told.1.0,
      MatchResult-weaker r told.1.1 (λ v is phase other good. is phase
          ∙ sym (ap (λ b. sight_of w (if b then OfficeCaller else caller_among (lecturer_with w code) (student_with w code))) other
          ∙ ap (λ (o : Option Lecturer). sight_of w (caller_among o (student_with w code)))
          (sym (ap (option_map (lecturer_from c.args.round (state g.S.Store c.args.conn.now).now.trees)) (sym c.in_default.is)
          ∙ told.0.0)))) (λ fault no. no),
    ))

pub returns : goal.returns
returns g c =
    let a = state g.S.Store c.args.conn.now in
    let round = c.args.round in
    let w = world_in round a.now.trees in
    let code = c.args.code.now in
    let offers = c.in_ok-catalogue.catalogue.value.items in
    let row = c.in-Some.row in
    reads_more tt
    (reads_then (lecturer_found c.args.code.now (λ o shown. shown) (λ fault few. few) c.in_ok-row.ensures)
    (reads_then_of (λ own on right told. has_tables _ right.0) c.in_ok-catalogue.ensures c.in_ok-lecturer_view.ensures))
    (λ own right told.
    let listed = told.1.0.1 in
    let offered : IsCatalogue round a.now.trees offers = λ first. listed ∙ ap (λ (r : Round). catalogue (world_in r a.now.trees)) first
    ∙ sym (catalogue_told First a.now.trees) in (
      told.1.0.0,
      λ phase other good.
          ap LecturerSight (told.1.1 offered ∙ lecturer_told round a.now.trees right.0.second good row c.args.phase offers phase listed)
          ∙ sym (ap (λ b. sight_of w (if b then OfficeCaller else caller_among (lecturer_with w code) (student_with w code))) other
          ∙ ap (λ (o : Option Lecturer). sight_of w (caller_among o (student_with w code)))
          (sym (ap (option_map (lecturer_from round a.now.trees)) (sym c.in-Some.is) ∙ told.0.0))),
    ))
