use Rattle.portal_list.proofs.Base.{sym, ◌∙◌, subst, List, false≢true, Lecturer, Student, all_at, applicant_keys}
use Rattle.portal_list.proofs.Base.{HasRanking}
use Rattle.portal_rules.proofs.Growing.{all_more}
use Rattle.portal_list.proofs.list_checks.rankings_fit.Goals as goal

pub returns-then-not-branch : goal.returns-then-not-branch
returns-then-not-branch c = (
  λ e. absurd (false≢true e),
  λ all.
      let fits : List Student → Lecturer → Type 0 =
      λ ss l. HasRanking c.args.asked (applicant_keys c.args.projects.now ss l.row.key) l.ranking in
      let fit = all_at (fits c.args.students.now) c.args.lecturers.now c.loop-lecturer.lecturer-index c.lecturer-item.result all
      c.loop-lecturer-test.true in
      sym c.if-not-branch.true
      ∙ c.in_ok-ranking_fits.ensures.1 (subst (λ ss. fits ss c.lecturer-item.result) (sym c.in_ok-wanted.ensures)
      (subst (fits c.args.students.now) (sym c.lecturer-item.is) fit)),
)

pub loop-lecturer-preserved : goal.loop-lecturer-preserved
loop-lecturer-preserved c =
    let fits : List Student → Lecturer → Type 0 =
    λ ss l. HasRanking c.args.asked (applicant_keys c.args.projects.now ss l.row.key) l.ranking in
    all_more (fits c.args.students.now) c.args.lecturers.now c.loop-lecturer.lecturer-index c.lecturer-item.result c.loop-lecturer-test.true
    (sym c.lecturer-item.is)
    c.loop-lecturer.invariant (subst (λ ss. fits ss c.lecturer-item.result) c.in_ok-wanted.ensures
    (c.in_ok-ranking_fits.ensures.0 c.if-not-branch.false))
