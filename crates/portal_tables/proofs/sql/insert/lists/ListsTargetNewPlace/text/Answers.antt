use Rattle.portal_tables.proofs.Base.{refl}
use Rattle.portal_tables.proofs.Statements.{places_added, add_is, by_one}
use Rattle.portal_tables.proofs.sql.insert.lists.ListsTargetNewPlace.text.Goals as goal

pub returns : goal.returns
returns g c = let lists = c.args.self.now in
    rw c.add_text.ensures (places_added lists g.S.Store 1 _ _ (add_is lists) (by_one (λ a more. refl)))
