use Rattle.spa_check.proofs.Base.{◌≡◌, eqb, position, rules, tests}
use Rattle.std.proofs.lemmas.Iterator.{YieldsList-from_slice}
use Rattle.std.proofs.lemmas.Iterator.Search.{position_from_yields_List}
use Rattle.spa_check.proofs.Wanting.{place_found, place_none}
use Rattle.spa_check.proofs.wants.place_in.Goals as goal

pub returns-in-Some : goal.returns-in-Some
returns-in-Some c =
    let first : c.position.result ≡ position (λ y. eqb y c.args.x) c.args.list.now =
    position_from_yields_List (λ y. eqb y c.args.x) _ _ c.position.result c.position.ensures.ran
    (YieldsList-from_slice c.args.list.now cc) (λ x b q k. search (rules, tests)) in
    place_found c.args.list.now c.args.x c.in-Some.k c.position.result first c.in-Some.is

pub returns-in-None : goal.returns-in-None
returns-in-None c =
    let first : c.position.result ≡ position (λ y. eqb y c.args.x) c.args.list.now =
    position_from_yields_List (λ y. eqb y c.args.x) _ _ c.position.result c.position.ensures.ran
    (YieldsList-from_slice c.args.list.now cc) (λ x b q k. search (rules, tests)) in
    place_none c.args.list.now c.args.x c.position.result first c.in-None.is
