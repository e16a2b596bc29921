use Rattle.portal_tables.proofs.Base.{[], refl, List, ℕ, Bor}
use Rattle.portal_tables.proofs.Making.{one_made, each_next}
use Rattle.portal_tables.proofs.Runs.{does_none, does_then, does_both, does_failed, goes_nowhere}
use Rattle.portal_tables.proofs.writing.make.make_each.Goals as goal

pub loop-text-init : goal.loop-text-init
loop-text-init g c = does_none g.S.Store _ _ _ (goes_nowhere _ _ refl)

pub loop-text-preserved : goal.loop-text-preserved
loop-text-preserved g c =
    let blank : Bor (List ℕ) = record { ref_ptr = (0, 0); now = [] } in
    does_then g.S.Store _ _ _ _ _ _ _ _ c.loop-text.invariant c.in_ok-write.ensures
    (λ was ran. record {
      mode = λ _. ran.shown.mode;
      changed = each_next c.args.texts.now c.loop-text.text-index blank _ _ _ c.loop-text-test.true was.changed (one_made _ _ _ ran);
    })

pub returns-in_err-write : goal.returns-in_err-write
returns-in_err-write g c = does_failed g.S.Store c.from_residual.result c.from_residual.ensures.0
    (does_both g.S.Store c.loop-text.invariant c.write.ensures)
