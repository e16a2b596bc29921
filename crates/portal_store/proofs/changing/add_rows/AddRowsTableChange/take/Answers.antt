use Rattle.portal_store.proofs.Base.{sym, subst, subst₂, state, Round, Does, GoesOn, does_none, does_more, goes_nowhere}
use Rattle.portal_store.proofs.Base.{goes_more, with_rows_added, IsTransitionIn, NewRows}
use Rattle.portal_store.proofs.Adding.{lecturers_turn, projects_turn, students_turn, no_rows}
use Rattle.portal_store.proofs.changing.add_rows.AddRowsTableChange.take.Goals as goal

pub returns-in-Lecturers : goal.returns-in-Lecturers
returns-in-Lecturers g c =
    subst₂ (λ (round : Round) (rows : NewRows). Does g.S.Store
    (GoesOn (IsTransitionIn round (with_rows_added rows))) c.add_all.result c.args.tx.now c.add_all.new.tx) (sym c.in-First.is)
    (sym c.in-Lecturers.is)
    (does_more g.S.Store _ _ _ _ _ c.add_all.ensures (λ new. goes_more _ _ _ _ new (lecturers_turn c.in-Lecturers.rows.now _ _)))

pub returns-in-Projects : goal.returns-in-Projects
returns-in-Projects g c =
    subst₂ (λ (round : Round) (rows : NewRows). Does g.S.Store
    (GoesOn (IsTransitionIn round (with_rows_added rows))) c.add_all-in-Projects.result c.args.tx.now c.add_all-in-Projects.new.tx)
    (sym c.in-First.is) (sym c.in-Projects.is)
    (does_more g.S.Store _ _ _ _ _ c.add_all-in-Projects.ensures (λ new. goes_more _ _ _ _ new (projects_turn c.in-Projects.rows.now _ _)))

pub returns-in-Students : goal.returns-in-Students
returns-in-Students g c =
    subst₂ (λ (round : Round) (rows : NewRows). Does g.S.Store
    (GoesOn (IsTransitionIn round (with_rows_added rows))) c.add_all-in-Students.result c.args.tx.now c.add_all-in-Students.new.tx)
    (sym c.in-First.is) (sym c.in-Students.is)
    (does_more g.S.Store _ _ _ _ _ c.add_all-in-Students.ensures (λ new. goes_more _ _ _ _ new (students_turn c.in-Students.rows.now _ _)))

pub returns-in-Second : goal.returns-in-Second
returns-in-Second g c =
    let db = (state g.S.Store c.args.tx.now.conn.now).now in
    does_none g.S.Store _ _ c.args.tx.now (goes_nowhere _ _
    (subst (λ (round : Round). IsTransitionIn round (with_rows_added c.args.self.rows) db db) (sym c.in-Second.is)
    (no_rows c.args.self.rows db)))
