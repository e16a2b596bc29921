use Rattle.portal_rules.proofs.Base.{◌≡◌, map, reverse, ap, ◌∙◌, subst, iter_rest, reverse-reverse}
use Rattle.portal_rules.proofs.Base.{YieldsList-from_rev_slice, YieldsList-at, YieldsList-end, HasRows, HasTexts}
use Rattle.portal_rules.proofs.Tables.{before_seen}
use Rattle.portal_deciding.proofs.new_rows.register_of.Goals as goal

pub loop-old-preserved : goal.loop-old-preserved
loop-old-preserved g c =
    let next = before_seen c.loop-old.yielded c.in-Some.old in
    record {
      rows = subst (λ there. HasRows g.X.Keyed.key_of there c.enter.new.register.rows) next
          (c.in_ok-enter.ensures.rows _ c.loop-old.invariant.rows);
      texts = subst (λ there. HasTexts (g.R.RollRules.texts_beside c.args.roll.now there) c.enter.new.register.texts) next
          (c.in_ok-enter.ensures.texts _ c.loop-old.invariant.texts);
    }

all_seen : (g : _) (c : goal.In-None g) → reverse (map (λ r. r.now) c.loop-old.yielded) ≡ c.args.on_roll.now
all_seen g c =
    let road = YieldsList-at c.into_iter-old-iterator.ensures.into_iter_gives
    (YieldsList-from_rev_slice c.args.on_roll.now (ap iter_rest c.rev-old-items.ensures.source ∙ c.iter.ensures.rest)) in
    ap reverse (YieldsList-end road c.loop-old.yielded _ c.loop-old.yielded_by _ _ c.in-None.is c.next.ensures.steps).0
    ∙ reverse-reverse c.args.on_roll.now

pub returns-clause-rows : goal.returns-clause-rows
returns-clause-rows g c = subst (λ there. HasRows g.X.Keyed.key_of there c.loop-old.register.rows) (all_seen g c) c.loop-old.invariant.rows

pub returns-clause-texts : goal.returns-clause-texts
returns-clause-texts g c = subst (λ there. HasTexts (g.R.RollRules.texts_beside c.args.roll.now there) c.loop-old.register.texts)
    (all_seen g c) c.loop-old.invariant.texts
