use Rattle.std.proofs.Common.{rules}
use Rattle.std.proofs.lemmas.Grind.{common_steps}
use Rattle.portal_rules.proofs.Base.{◌≡◌, ◌+◌, Vec, Global, [], ◌∷◌, ◌++◌, reverse, refl, arith, sym, ◌∙◌, ap, subst}
use Rattle.portal_rules.proofs.Base.{HasRows, HasTexts}
use Rattle.portal_deciding.specs.declared.new_rows.Register.{Register}
use Rattle.portal_rules.proofs.RowFaults.{row_faulty, row_same, row_new, there_new}
use Rattle.portal_deciding.proofs.new_rows.take_rows.Goals as goal
use Rattle.portal_deciding.proofs.new_rows.take_rows.Goals.{then-added+in_ok-enter+in_ok-copy+in_ok-push, else-added}

pub returns-in-Err-clause-err : goal.returns-in-Err-clause-err
returns-in-Err-clause-err g c =
    row_faulty (g.R.RollRules.rules c.args.roll.now)
    (c.loop-row.at + 1) c.args.on_roll.now c.args.rows.now c.loop-row.new.items _ c.loop-row.same c.loop-row.row-index c.row-item.result
    _ (omega arith) c.row-item.is
    c.deref.ensures.value c.loop-row.invariant.rest _ c.in-Err.ensures.refused

pub loop-row-preserved : goal.loop-row-preserved
loop-row-preserved g c =
    let key = g.X.Keyed.key_of in
    let beside = g.R.RollRules.texts_beside c.args.roll.now in
    let on_roll = c.args.on_roll.now in
    let there = reverse c.if-added.new.items ++ on_roll in
    elim c.if-added.branch [
      | then-added+in_ok-enter+in_ok-copy+in_ok-push w ↦
          let items : c.if-added.new.items ≡ c.loop-row.new.items ++ c.row-item.result
          ∷ [] = ap (λ (v : Vec g.row.X.Denot Global). v.items) w.new-is ∙ w.in_ok-push.ensures.items
          ∙ ap (λ y. c.loop-row.new.items ++ y ∷ []) w.in_ok-copy.ensures in
          let now = there_new on_roll c.loop-row.new.items c.if-added.new.items c.row-item.result items in
          record {
            place = omega arith;
            few = omega arith;
            rows = subst (λ (r : Register g.row.X.Denot). HasRows key there r.rows) (sym w.register-is)
                (subst (λ rows. HasRows key rows w.enter.new.register.rows) now (w.in_ok-enter.ensures.rows _ c.loop-row.invariant.rows));
            texts = subst (λ (r : Register g.row.X.Denot). HasTexts (beside there) r.texts) (sym w.register-is)
                (subst (λ rows. HasTexts (beside rows) w.enter.new.register.texts) now
                (w.in_ok-enter.ensures.texts _ c.loop-row.invariant.texts));
            rest = row_new (g.R.RollRules.rules c.args.roll.now)
                (c.loop-row.at + 1) on_roll c.args.rows.now c.loop-row.new.items _ c.loop-row.same c.loop-row.row-index c.row-item.result _
                (omega arith) c.row-item.is
                c.deref.ensures.value c.loop-row.invariant.rest c.in-Ok.added w.if-added.true c.in-Ok.ensures.taken _ _ items w.same-is;
          }
      | else-added w ↦
          let items : c.if-added.new.items ≡ c.loop-row.new.items = ap (λ (v : Vec g.row.X.Denot Global). v.items) w.new-is in
          let now = ap (λ rows. reverse rows ++ on_roll) (sym items) in
          record {
            place = omega arith;
            few = omega arith;
            rows = subst (λ (r : Register g.row.X.Denot). HasRows key there r.rows) (sym w.register-is)
                (subst (λ rows. HasRows key rows c.loop-row.register.rows) now c.loop-row.invariant.rows);
            texts = subst (λ (r : Register g.row.X.Denot). HasTexts (beside there) r.texts) (sym w.register-is)
                (subst (λ rows. HasTexts (beside rows) c.loop-row.register.texts) now c.loop-row.invariant.texts);
            rest = row_same (g.R.RollRules.rules c.args.roll.now)
                (c.loop-row.at + 1) on_roll c.args.rows.now c.loop-row.new.items _ c.loop-row.same c.loop-row.row-index c.row-item.result _
                (omega arith) c.row-item.is
                c.deref.ensures.value c.loop-row.invariant.rest c.in-Ok.added w.if-added.false c.in-Ok.ensures.taken _ _ items w.same-is;
          }
    ]

pub returns-clause-ok : goal.returns-clause-ok
returns-clause-ok g c = grind (arith, common_steps)

pub loop-row-init : goal.loop-row-init
loop-row-init g c = record {
  place = refl;
  few = omega arith;
  rows = rw c.new-new.ensures.items c.in_ok-register.ensures.rows;
  texts = rw c.new-new.ensures.items c.in_ok-register.ensures.texts;
  rest = rw c.new-new.ensures.items grind (arith, common_steps);
}

pub is_new-requires-clause-rows : goal.is_new-requires-clause-rows
is_new-requires-clause-rows g c = rw c.deref.ensures.value c.loop-row.invariant.rows

pub is_new-requires-clause-texts : goal.is_new-requires-clause-texts
is_new-requires-clause-texts g c = rw c.deref.ensures.value c.loop-row.invariant.texts
