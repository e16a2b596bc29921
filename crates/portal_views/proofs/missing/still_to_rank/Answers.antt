use Rattle.std.proofs.Common.{get_or, ◌<◌}
use Rattle.portal_views.proofs.Base.{◌∙◌, ap, length, map, next_given, reads_handed, reads_more, reads_short}
use Rattle.portal_views.proofs.Base.{reads_then, shown_project, state, subst, waiting_key}
use Rattle.portal_views.proofs.missing.still_to_rank.Goals as goal

pub returns-in_err-key-clause-reads : goal.returns-in_err-key-clause-reads
returns-in_err-key-clause-reads g c = reads_handed c.from_residual.ensures.1
    (reads_then c.loop-lecturer.invariant c.in_err-key.ensures.reads) (λ own lists told. tt)

pub returns-in_err-push_some-clause-reads : goal.returns-in_err-push_some-clause-reads
returns-in_err-push_some-clause-reads g c =
    reads_short c.from_residual-in_err-push_some.ensures.1 (reads_then c.loop-lecturer.invariant c.in_ok-key.ensures.reads)
    (λ own lists told. tt)

pub loop-lecturer-preserved : goal.loop-lecturer-preserved
loop-lecturer-preserved g c =
    let rolls = c.args.rolls.now in
    let i = c.loop-lecturer.lecturer-index in
    let lecturer = c.lecturer-item.result in
    let items = c.deref-lecturer-items.ensures.value in
    reads_more tt (reads_then c.loop-lecturer.invariant (rw c.deref.ensures.value at c.in_ok-key.ensures.reads))
    (λ own lists told.
    c.in_ok-push_some.ensures
    ∙ next_given (waiting_key c.args.round (state g.S.Store c.args.conn.now).now.trees (map shown_project rolls.projects.items))
    rolls.lecturers.items i lecturer c.loop-lecturer.keys.items c.in_ok-key.key
    (c.lecturer-item.is ∙ ap (λ l. get_or l i lecturer) items) (subst (λ l. i < length l) items c.loop-lecturer-test.true) told.0 told.1)
