use Rattle.std.proofs.Math.Logic.{∥∥₁_map}
use Rattle.std.proofs.lemmas.Result.{IfOk-weaker, MatchResult-weaker}
use Rattle.sqlite.specs.Tree.{Trees}
use Rattle.sqlite.specs.Files.{HoldsDatabase, file_state}
use Rattle.portal_file.proofs.Base.{if_err, if_stands_both}
use Rattle.portal_file.proofs.closing.close_files.Goals as goal

pub returns-clause-closes : goal.returns-clause-closes
returns-clause-closes g c = record {
  comes = if_stands_both c.close_store.result _ _ _
      (λ files falls leaves. record {
        clean = λ honest. c.release_store.ensures.comes.clean (falls honest);
        holds = λ honest image may.
            let clean = falls honest in
            ∥∥₁_map (leaves honest (c.release_store.ensures.numbered clean) (c.release_store.ensures.sound clean) image may)
            (λ h. let r : (db : Trees) × (file_state c.args.conn).may_leave db
            × HoldsDatabase image db = (h.0, c.release_store.ensures.quiet h.0 h.1, h.2) in r);
      }) c.close_store.ensures.clean c.close_store.ensures.left;
  failed = if_err c.close_store.result _ _ (λ left why. (c.release_store.result, why.0, why.1)) c.close_store.ensures.failed;
}

pub returns-clause-untouched : goal.returns-clause-untouched
returns-clause-untouched g c none =
    MatchResult-weaker c.close_store.result (c.close_store.ensures.untouched none)
    (λ files same. (c.release_store.result, c.release_store.ensures.comes, same)) (λ left never. never)

pub returns-clause-copied : goal.returns-clause-copied
returns-clause-copied g c copies =
    IfOk-weaker c.close_store.result _ _ (λ files is. (c.release_store.result, c.release_store.ensures.comes, is))
    (c.close_store.ensures.copied copies)
