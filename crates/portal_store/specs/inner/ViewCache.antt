-- What a keeper remembers of what it showed.
use Rattle.std.specs.Prelude.{◌≡◌, IfSome}
use Rattle.portal_rules.specs.World.{World}
use Rattle.portal_rules.specs.View.{catalogue, office_sees}
use Rattle.portal_store.specs.declared.reading.view_cache.ViewCache.{ViewCache}

-- what is remembered, if anything is, is what this world shows
pub record IsCacheOf (cache : ViewCache) (world : World) : Type 0 where
  pub offers : IfSome cache.catalogue (λ shared. shared.value.items ≡ catalogue world)
  pub office : IfSome cache.office (λ view. view ≡ office_sees world)
