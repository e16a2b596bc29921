use Rattle.portal_wire.proofs.Base.{refl, matchit_on_literals, the_paths, the_rows}
use Rattle.portal_wire.proofs.routes.all_routes.Goals as goal

pub returns : goal.returns
unfolding matchit_on_literals the_paths the_rows
returns c = rw (c.in_ok-insert_each.ensures, c.new-router.ensures) refl
