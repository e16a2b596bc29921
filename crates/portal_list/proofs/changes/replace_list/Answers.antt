use Rattle.portal_list.proofs.Base.{get_or, sym, ◌∙◌, Key}
use Rattle.portal_list.proofs.Replaced.{replaced, unchanged}
use Rattle.portal_list.proofs.changes.replace_list.Goals as goal

pub returns-in-Some-clause-made : goal.returns-in-Some-clause-made
returns-in-Some-clause-made g c rise =
    let k : Key = c.args.key.now in
    let put = g.T.Entry.with_list c.args.list.now in
    let x = c.index-entries-place.result in
    let old = get_or c.args.entries.now c.in-Some.place x in
    replaced g.T.Keyed.key_of k put c.args.entries.now c.in-Some.place _ x rise c.in-Some.ensures.some.0 (c.in-Some.ensures.some.1 x)
    (c.set_list.ensures ∙ λ i. g.T.Entry.with_list (c.in_ok-list.ensures i) old)

pub returns-in_default-clause-made : goal.returns-in_default-clause-made
returns-in_default-clause-made g c rise =
    sym (unchanged g.T.Keyed.key_of c.args.key.now (g.T.Entry.with_list c.args.list.now) c.args.entries.now c.in_default.ensures.none)
