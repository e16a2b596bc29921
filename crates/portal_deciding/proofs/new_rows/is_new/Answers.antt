use Rattle.portal_rules.proofs.Base.{◌≡◌, ◌++◌, ◌∙◌, ℕ, List, Option, sym, ap, Bor, option_map, reverse, find}
use Rattle.portal_rules.proofs.Base.{if◌then◌else◌, text_eq, Key, equals, HasRows, RollRules, Present, Rejected}
use Rattle.portal_rules.proofs.Base.{verdict, verdict_beside}
use Rattle.std.specs.HashMap as hash
use Rattle.std.specs.HashMap.{HashMap}
use Rattle.portal_rules.specs.Faults.{conflict_at}
use Rattle.portal_deciding.proofs.new_rows.is_new.Goals as goal

-- a row is judged by the one that the table finds
judged_by : {X S : Type 0} (rules : RollRules X) (key_of : X → Key) (there : List X) (table : HashMap (Bor Key) (Bor X) S) (q : Bor Key)
    (row : X) (found : Option (Bor X)) (at : ℕ)
    → rules.key ≡ key_of → HasRows key_of there table → q.now ≡ key_of row → found ≡ hash.get text_eq table q
    → verdict rules at there row ≡ verdict_beside rules at (option_map (λ r. r.now) found) there row
judged_by rules key_of there table q row found at same has_all is_key got =
    ap (λ o. verdict_beside rules at o there row)
    ((λ i. find (λ x. equals (same i x) (same i row)) there) ∙ ap (λ k. find (λ x. equals (key_of x) k) there) (sym is_key)
    ∙ sym (has_all q) ∙ ap (option_map (λ r. r.now)) (sym got))

pub returns-then-is_same-clause-taken : goal.returns-then-is_same-clause-taken
returns-then-is_same-clause-taken g c =
    judged_by (g.R.RollRules.rules c.args.roll.now) g.X.Keyed.key_of
    (reverse c.args.new.now ++ c.args.on_roll.now) c.args.register.now.rows c.as_bytes.result c.args.row.now _ c.args.at
    (g.met.R.RollRules.finds_by_key c.args.roll.now) c.requires.rows (c.as_bytes.ensures.bytes ∙ c.key.ensures) c.in-Some.ensures
    ∙ ap (λ b. if b then Present else Rejected (conflict_at c.args.at)) (sym c.is_same.ensures ∙ c.if-is_same.true)

pub returns-else-is_same-clause-refused : goal.returns-else-is_same-clause-refused
returns-else-is_same-clause-refused g c =
    judged_by (g.R.RollRules.rules c.args.roll.now) g.X.Keyed.key_of
    (reverse c.args.new.now ++ c.args.on_roll.now) c.args.register.now.rows c.as_bytes.result c.args.row.now _ c.args.at
    (g.met.R.RollRules.finds_by_key c.args.roll.now) c.requires.rows (c.as_bytes.ensures.bytes ∙ c.key.ensures) c.in-Some.ensures
    ∙ ap (λ b. if b then Present else Rejected (conflict_at c.args.at)) (sym c.is_same.ensures ∙ c.if-is_same.false)
    ∙ ap Rejected (sym c.conflict_at.ensures)

pub returns-else-is_same-clause-taken : goal.returns-else-is_same-clause-taken
returns-else-is_same-clause-taken g c = tt
