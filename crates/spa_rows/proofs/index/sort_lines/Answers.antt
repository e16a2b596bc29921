use Rattle.spa_rows.proofs.Base.{◌≡◌, nat_cmp, slice_cmp, nat_list_cmp_total, IsSortedByKey, rules, is_lt, ranks_by}
use Rattle.spa_rows.proofs.Base.{answers_always}
use Rattle.std.proofs.lemmas.Result.{on_ok_weaker}
use Rattle.spa_rows.proofs.index.sort_lines.Goals as goal

pub returns-clause-sorted : goal.returns-clause-sorted
returns-clause-sorted g c = on_ok_weaker {Q = IsSortedByKey g.L.Line.key_of (slice_cmp nat_cmp) c.sort_by.new.self.items} c.sort_by.result
    (λ sorted. sorted (λ x y. is_lt (slice_cmp nat_cmp (g.L.Line.key_of x) (g.L.Line.key_of y)))
    (ranks_by nat_list_cmp_total g.L.Line.key_of)
    (answers_always _ _ _ (λ f a r k h. let same : r
    ≡ slice_cmp nat_cmp (g.L.Line.key_of a.0.now) (g.L.Line.key_of a.1.0.now) = search rules in search (rules, same))))
    c.sort_by.ensures.sorted
