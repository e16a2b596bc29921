use Rattle.portal_rules.proofs.Base.{reverse, map, ap, ◌∙◌, subst, iter_rest, reverse-reverse}
use Rattle.portal_rules.proofs.Base.{YieldsList-from_rev_slice, YieldsList-at, YieldsList-end, HasRows}
use Rattle.portal_rules.proofs.Tables.{row_put, before_seen}
use Rattle.portal_rules.proofs.index.rows_by_key.Goals as goal

pub loop-row-preserved : goal.loop-row-preserved
loop-row-preserved g c =
    let seen = reverse (map (λ r. r.now) c.loop-row.yielded) in
    subst (λ there. HasRows g.X.Keyed.key_of there c.insert.new.self) (before_seen c.loop-row.yielded c.in-Some.row)
    (row_put g.X.Keyed.key_of seen c.loop-row.table c.insert.new.self c.as_bytes.result c.in-Some.row c.in_ok-insert.ensures.updates
    (c.as_bytes.ensures.bytes ∙ c.key.ensures) c.loop-row.invariant)

pub returns : goal.returns
returns g c =
    let road = YieldsList-at c.into_iter-row-iterator.ensures.into_iter_gives
    (YieldsList-from_rev_slice c.args.rows.now (ap iter_rest c.rev-row-items.ensures.source ∙ c.iter.ensures.rest)) in
    let all = ap reverse (YieldsList-end road c.loop-row.yielded _ c.loop-row.yielded_by _ _ c.in-None.is c.next.ensures.steps).0
    ∙ reverse-reverse c.args.rows.now in
    subst (λ there. HasRows g.X.Keyed.key_of there c.loop-row.table) all c.loop-row.invariant
