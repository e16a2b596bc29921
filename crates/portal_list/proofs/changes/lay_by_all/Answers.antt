use Rattle.portal_list.proofs.Base.{◌<◌, length, ap, ◌∙◌, sym, arith, slice_set, map_over_more}
use Rattle.portal_list.proofs.changes.lay_by_all.Goals as goal

pub loop-entry-preserved : goal.loop-entry-preserved
loop-entry-preserved g c =
    let within : c.loop-entry.entry-index < length c.args.entries.now = omega arith in
    ap (slice_set c.loop-entry.entries c.loop-entry.entry-index) (c.lay_by.ensures ∙ ap g.T.Entry.laid_by (sym c.entry-item.is))
    ∙ map_over_more g.T.Entry.laid_by c.args.entries.now c.loop-entry.entries c.loop-entry.entry-index c.entry-item.result within
    c.loop-entry.invariant c.entry-item.is
