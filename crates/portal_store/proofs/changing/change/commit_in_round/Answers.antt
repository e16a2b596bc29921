use Rattle.portal_store.proofs.Base.{Choices, CommitsChange, IsTransitionIn, Lecturers, Placements, Projects, Ranks}
use Rattle.portal_store.proofs.Base.{Students, state, subst}
use Rattle.portal_store.proofs.Ended.{ends_by}
use Rattle.portal_store.proofs.changing.change.commit_in_round.Goals as goal

pub returns-in-Choices-clause-ends : goal.returns-in-Choices-clause-ends
returns-in-Choices-clause-ends g c =
    rw c.in-Choices.is (λ _. subst (λ all. CommitsChange (IsTransitionIn c.args.round (Choices c.in-Choices.student all)) c.commit.result
    (state g.S.Store c.args.conn.now) (state g.S.Store c.commit.new.conn)) c.deref.ensures.value
    (ends_by (IsTransitionIn c.args.round (Choices c.in-Choices.student c.deref.result.now)) c.commit.result
    (state g.S.Store c.args.conn.now) (state g.S.Store c.commit.new.conn) c.commit.ensures.idle c.commit.ensures.ok c.commit.ensures.err
    c.commit.ensures.durable c.commit.ensures.crash))

pub returns-in-Ranking-clause-ends : goal.returns-in-Ranking-clause-ends
returns-in-Ranking-clause-ends g c =
    rw c.in-Ranking.is (λ _. subst (λ all. CommitsChange
    (IsTransitionIn c.args.round (Ranks c.in-Ranking.lecturer all)) c.replace_ranking.result (state g.S.Store c.args.conn.now)
    (state g.S.Store c.replace_ranking.new.conn)) c.deref-in-Ranking.ensures.value
    c.replace_ranking.ensures)

pub returns-in-Lecturers-clause-ends : goal.returns-in-Lecturers-clause-ends
returns-in-Lecturers-clause-ends g c =
    rw c.in-Lecturers.is (λ _. subst (λ all. CommitsChange (IsTransitionIn c.args.round (Lecturers all)) c.add_rows.result
    (state g.S.Store c.args.conn.now) (state g.S.Store c.add_rows.new.conn)) c.deref-in-Lecturers.ensures.value
    c.add_rows.ensures)

pub returns-in-Projects-clause-ends : goal.returns-in-Projects-clause-ends
returns-in-Projects-clause-ends g c =
    rw c.in-Projects.is (λ _. subst (λ all. CommitsChange (IsTransitionIn c.args.round (Projects all)) c.add_rows-in-Projects.result
    (state g.S.Store c.args.conn.now) (state g.S.Store c.add_rows-in-Projects.new.conn)) c.deref-in-Projects.ensures.value
    c.add_rows-in-Projects.ensures)

pub returns-in-Students-clause-ends : goal.returns-in-Students-clause-ends
returns-in-Students-clause-ends g c =
    rw c.in-Students.is (λ _. subst (λ all. CommitsChange (IsTransitionIn c.args.round (Students all)) c.add_rows-in-Students.result
    (state g.S.Store c.args.conn.now) (state g.S.Store c.add_rows-in-Students.new.conn)) c.deref-in-Students.ensures.value
    c.add_rows-in-Students.ensures)

pub returns-in-Phase-clause-ends : goal.returns-in-Phase-clause-ends
returns-in-Phase-clause-ends g c =
    rw c.in-Phase.is (λ _. c.set_phase.ensures.ends)

pub returns-in-Result-clause-ends : goal.returns-in-Result-clause-ends
returns-in-Result-clause-ends g c =
    rw c.in-Result.is (λ _. subst (λ all. CommitsChange (IsTransitionIn c.args.round (Placements all)) c.publish.result
    (state g.S.Store c.args.conn.now) (state g.S.Store c.publish.new.conn)) c.deref-in-Result.ensures.value
    c.publish.ensures)

pub returns-in-Fill-clause-ends : goal.returns-in-Fill-clause-ends
returns-in-Fill-clause-ends g c =
    rw c.in-Fill.is (λ _. c.fill_rankings.ensures.ends)
