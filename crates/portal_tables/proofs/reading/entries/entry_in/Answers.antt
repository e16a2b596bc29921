use Rattle.portal_tables.proofs.Base.{sym, ap, subst, ◌∙◌, Err, if◌then◌else◌, Some, None, state, tree_of}
use Rattle.portal_tables.proofs.Base.{list_in_order, IsListOf}
use Rattle.portal_tables.proofs.Listed.{none_chosen}
use Rattle.portal_tables.proofs.InTurn.{reads_open, reads_of, reads_then, reads_more, reads_handed, judged, both, not_stores}
use Rattle.portal_tables.proofs.reading.entries.entry_in.Goals as goal

pub returns-in_err-is_there : goal.returns-in_err-is_there
returns-in_err-is_there g c =
    reads_handed c.from_residual-in_err-is_there.ensures.1
    (reads_then (reads_open (reads_of (λ own. own) (λ own sound. tt) c.in_ok-list.ensures)) c.in_err-is_there.ensures.reads)
    (λ own sound told blamed fine. c.in_err-is_there.ensures.undamaged (ap Err blamed))

pub returns : goal.returns
returns g c =
    let table = (state g.S.Store c.args.conn.now).now.trees (tree_of c.args.lists) in
    let key = c.in_ok-key.ensures.ok in
    let r = c.kept_entry.result in
    reads_more (not_stores r c.kept_entry.ensures.store)
    (reads_then (reads_open (reads_of (λ own. own) (λ own sound. tt) c.in_ok-list.ensures)) c.in_ok-is_there.ensures.reads)
    (λ own sound told.
    let list = subst (λ k. IsListOf k table c.in_ok-list.list.items) key told.0 in
    let there = told.1 in
    judged r _ _
    (both r _ _ _ (λ found is none. (
      is ∙ (λ i. if there i then Some (key i, list.are i) else None),
      record { whole = list.whole; none = λ no. none_chosen _ _ (sym list.are ∙ none (there ∙ no)) },
    )) c.kept_entry.ensures.ok
    c.kept_entry.ensures.none)
    (λ damaged fine. c.kept_entry.ensures.damaged damaged (λ no. list.are ∙ ap list_in_order (fine.read.none (sym there ∙ no)))))
