use Rattle.portal_tables.proofs.Base.{refl}
use Rattle.portal_tables.proofs.Statements.{places_added, add_eight_is, by_eight}
use Rattle.portal_tables.proofs.sql.insert.lists.ListsTargetNewPlace.text_of_eight.Goals as goal

pub returns : goal.returns
returns g c = let lists = c.args.self.now in
    rw c.add_eight_text.ensures (places_added lists g.S.Store 8 _ _ (add_eight_is lists) (by_eight (λ a b c d e f g h more. refl)))
