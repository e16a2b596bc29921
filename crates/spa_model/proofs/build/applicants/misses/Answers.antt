use Rattle.spa_model.proofs.Base.{◌≡◌, None, arith, get_or_default, least_step, least_all, lecturer_of_row, row_at}
use Rattle.spa_model.proofs.Base.{rank_at}
use Rattle.spa_model.proofs.Base.{rules}
use Rattle.spa_model.proofs.Applicants.{rank_read, row_read, none_iff}
use Rattle.spa_model.proofs.build.applicants.misses.Goals as goal

pub loop-choice-preserved : goal.loop-choice-preserved
loop-choice-preserved c = search (rules, get_or_default, rank_read, row_read, none_iff, least_step)

pub returns : goal.returns
returns c = least_all c.args.choices.now (λ q. row_at c.args.lines.now (lecturer_of_row c.args.projects.now q))
    (λ _ q. rank_at c.args.lecturers.now (lecturer_of_row c.args.projects.now q) c.args.student ≡ None) c.loop-choice.choice-index
    c.loop-choice.best (omega arith) c.loop-choice.invariant
