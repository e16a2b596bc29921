use Rattle.portal_desk.proofs.Base.{rules, ◌∙◌}
use Rattle.portal_desk.proofs.Known.{Appends-more}
use Rattle.portal_desk.proofs.devices.write_whole.Goals as goal

pub loop-at-preserved : goal.loop-at-preserved
loop-at-preserved g c =
    let x = c.loop-at.invariant in
    let w = rw c.split_at.ensures.back at c.in_ok-at.ensures.bytes in
    record {
      within = search rules;
      written = Appends-more _ _ _ c.args.bytes.now c.loop-at.at c.in_ok-at.field-0 x.within x.written w;
      counted = c.in_ok-at.ensures.counts ∙ x.counted;
      named = c.in_ok-at.ensures.same_device ∙ x.named;
    }
