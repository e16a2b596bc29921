use Rattle.portal_store.proofs.Base.{rules}
use Rattle.std.proofs.lemmas.Fn.{filter_same}
use Rattle.portal_store.proofs.reading.view_cache.but_for.Goals as goal

pub returns : goal.returns
returns c = filter_same _ _ _ (λ x b f' k. search rules) _ _ c.retain.ensures.filtered
