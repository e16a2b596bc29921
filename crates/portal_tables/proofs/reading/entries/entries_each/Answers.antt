use Rattle.portal_tables.proofs.Base.{◌++◌, [], ap, subst, ◌∙◌, arith, rules, take_all, AreEntriesOf, map, map-append}
use Rattle.portal_tables.proofs.Base.{cons_option, option_map, state, all_more, entry, with_list, IsRead, IsFine}
use Rattle.portal_tables.proofs.InTurn.{reads_self, reads_then, reads_more, reads_handed, reads_short, at_item}
use Rattle.portal_tables.proofs.InTurn.{next_given, map_one}
use Rattle.portal_tables.proofs.reading.entries.entries_each.Goals as goal

pub returns-in_err-entry : goal.returns-in_err-entry
returns-in_err-entry g c =
    reads_handed c.from_residual.ensures.1 (reads_then c.loop-owner.invariant c.in_err-entry.ensures)
    (λ own sound told blamed fine. told.1 blamed
    (at_item (IsFine c.args.lists (state g.S.Store c.args.conn.now).now.trees) c.args.owners.now _ _ c.owner-item.is
    c.loop-owner-test.true fine))

pub returns-in_err-push_some : goal.returns-in_err-push_some
returns-in_err-push_some g c = reads_short c.from_residual-in_err-push_some.ensures.1
    (reads_then c.loop-owner.invariant c.in_ok-entry.ensures) (λ own sound told blamed. absurd (cc))

pub loop-owner-preserved : goal.loop-owner-preserved
loop-owner-preserved g c =
    let db = (state g.S.Store c.args.conn.now).now.trees in
    let lists = c.args.lists in
    let i = c.loop-owner.owner-index in
    let owners = c.args.owners.now in
    let owner = c.owner-item.result in
    let all = c.loop-owner.entries.items in
    let found = c.in_ok-entry.entry in
    reads_more tt (reads_then c.loop-owner.invariant c.in_ok-entry.ensures)
    (λ own sound told. record {
      are = ap (map with_list) c.in_ok-push_some.ensures ∙ map-append with_list all (cons_option found [])
          ∙ ap (λ l. map with_list all ++ l) (map_one with_list found)
          ∙ next_given (entry lists db) owners i owner (map with_list all)
          (option_map with_list found) c.owner-item.is c.loop-owner-test.true told.0.are told.1.0;
      read = all_more (IsRead lists db) owners i owner c.loop-owner-test.true c.owner-item.is told.0.read told.1.1;
    })

pub loop-owner-init : goal.loop-owner-init
loop-owner-init g c = reads_self tt (λ own sound. record { are = search rules; read = tt })

pub returns : goal.returns
returns g c =
    let db = (state g.S.Store c.args.conn.now).now.trees in
    reads_more tt c.loop-owner.invariant
    (λ own sound told. subst (λ l. AreEntriesOf c.args.lists db l (map with_list c.loop-owner.entries.items))
    (take_all c.loop-owner.owner-index c.args.owners.now (omega (arith, c.loop-owner-test.false))) told)
