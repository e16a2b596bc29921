use Rattle.std.proofs.lemmas.Iterator.{YieldsList-from_slice, cases_from_any}
use Rattle.spa_rows.proofs.Deciding.{not_iff}
use Rattle.spa_model.proofs.Applicants.{any_tested}
use Rattle.spa_model.proofs.Base.{rules, IsApplicantNumber}
use Rattle.spa_model.proofs.build.applicants.lists_other.Goals as goal

pub returns : goal.returns
returns c = any_tested (λ n. IsApplicantNumber c.args.students.now c.args.projects.now c.args.lecturer n → ⊥) c.any.result
    c.args.ranking.now
    (cases_from_any _ _ _ (λ n. IsApplicantNumber c.args.students.now c.args.projects.now c.args.lecturer n → ⊥)
    (λ n. (IsApplicantNumber c.args.students.now c.args.projects.now c.args.lecturer n → ⊥) → ⊥) c.any.ensures.ran
    (YieldsList-from_slice c.args.ranking.now cc) (λ x q k. search (rules, not_iff)) (λ x q k. search (rules, not_iff)))
