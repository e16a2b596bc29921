use Rattle.portal_tables.proofs.InTurn.{not_stores}
use Rattle.portal_views.proofs.Base.{◌∙◌, ◌≡◌, AllByRecursion, IfOk-weaker, List, Listing, Row, all_unmap, ap}
use Rattle.portal_views.proofs.Base.{first_cell, is_key, judged, map, own_listed, reads_handed, reads_more, reads_open}
use Rattle.portal_views.proofs.Base.{reads_self, state, subst, sym, true}
use Rattle.portal_views.proofs.Turns.{reads_first}
use Rattle.portal_views.proofs.RisingKeys.{own_rise}
use Rattle.portal_views.proofs.OwnProjects.{listed_are, own_found}
use Rattle.portal_views.proofs.lecturer.own_projects.Goals as goal

pub returns-in_ok-keys_listed-in-First : goal.returns-in_ok-keys_listed-in-First
returns-in_ok-keys_listed-in-First g c =
    let k = c.args.lecturer.now in
    reads_self tt (λ own tables offered.
    c.in_ok-keys_listed-in-First.ensures ∙ ap (λ (offers : List Listing). own_listed offers k) (offered c.in-First.is)
    ∙ listed_are (state g.S.Store c.args.conn.now).now tables k)

pub returns-in_err-rows-in-Second : goal.returns-in_err-rows-in-Second
returns-in_err-rows-in-Second g c =
    rw c.in-Second.is (reads_handed c.from_residual-in_err-rows-in-Second.ensures.1
    (reads_open (reads_first c.in_err-rows-in-Second.ensures.reads))
    (λ own tables no damaged fine. no damaged (own_rise (state g.S.Store c.args.conn.now).now tables c.args.lecturer.now)))

pub returns-in_ok-rows-in-Second : goal.returns-in_ok-rows-in-Second
returns-in_ok-rows-in-Second g c =
    let r = c.keys_of.result in
    rw c.in-Second.is (reads_more (not_stores r c.keys_of.ensures.store) (reads_open (reads_first c.in_ok-rows-in-Second.ensures.reads))
    (λ own tables told.
    let found = ap (λ (rs : List Row). map first_cell rs) c.deref.ensures.value
    ∙ own_found (state g.S.Store c.args.conn.now).now tables c.args.lecturer.now c.in_ok-rows-in-Second.rows.items told
    c.in_ok-rows-in-Second.ensures.rise in
    judged r _ _ (IfOk-weaker r _ _ (λ v is offered. is ∙ found) c.keys_of.ensures.ok)
    (λ damaged fine. c.keys_of.ensures.damaged damaged
    (all_unmap (λ k. is_key k ≡ true) first_cell c.deref.result.now
    (subst (AllByRecursion (λ k. is_key k ≡ true)) (sym found) fine.keys)))))
