use Rattle.portal_rules.proofs.Base.{[], ◌∷◌, ◌++◌, sym, ap, ◌∙◌, subst, arith, HasTexts}
use Rattle.std.proofs.lemmas.Grind.{common_steps}
use Rattle.portal_rules.proofs.Tables.{text_push}
use Rattle.portal_deciding.proofs.lists.checked_entries.Goals as goal

pub loop-text-preserved : goal.loop-text-preserved
loop-text-preserved c =
    let items = c.in_ok-push-in-Ok.ensures.items ∙ ap (λ y. c.loop-text.keys.items ++ y ∷ []) c.in_ok-copy-in-Ok.ensures in
    record {
      keys = grind (arith, common_steps);
      texts = subst (λ ks. HasTexts ks c.insert.new.self) (sym items)
          (text_push c.loop-text.keys.items c.loop-text.texts c.insert.new.self c.as_bytes.result c.in-Ok.key.now
          c.in_ok-insert-in-Ok.ensures.updates c.as_bytes.ensures.bytes c.loop-text.invariant.texts);
      rest = grind (arith, common_steps);
    }
