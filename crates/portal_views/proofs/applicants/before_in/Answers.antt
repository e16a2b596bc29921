use Rattle.std.proofs.Common.{rules}
use Rattle.portal_views.proofs.Base.{◌∙◌, Second, ap, persons_at, reads_both, reads_handed, reads_more, reads_open}
use Rattle.portal_views.proofs.Base.{reads_short}
use Rattle.portal_views.proofs.ToldLines.{of_first}
use Rattle.portal_views.proofs.applicants.before_in.Goals as goal

pub returns-in_ok-placed_at-in-Second : goal.returns-in_ok-placed_at-in-Second
returns-in_ok-placed_at-in-Second g c =
    rw c.in-Second.is (reads_more tt (reads_open (reads_both c.in_ok-lines-in-Second.ensures))
    (λ own tables told. c.in_ok-placed_at-in-Second.ensures ∙ ap (persons_at c.args.project.now) (c.deref.ensures.value ∙ told)))

pub returns-in_err-lines-in-Second : goal.returns-in_err-lines-in-Second
returns-in_err-lines-in-Second g c =
    rw c.in-Second.is (reads_handed c.from_residual.ensures.1 (reads_open (reads_both c.in_err-lines-in-Second.ensures))
    (λ own tables no damaged students. no damaged (of_first Second _ students)))

pub returns-in_err-placed_at-in-Second : goal.returns-in_err-placed_at-in-Second
returns-in_err-placed_at-in-Second g c =
    rw c.in-Second.is (reads_short c.from_residual-in_err-placed_at-in-Second.ensures.1
    (reads_open (reads_both c.in_ok-lines-in-Second.ensures)) (λ own tables told damaged. absurd (cc)))

pub returns-in-First : goal.returns-in-First
returns-in-First g c = search rules
