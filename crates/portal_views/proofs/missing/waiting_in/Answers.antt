use Rattle.portal_tables.proofs.InTurn.{its_own}
use Rattle.portal_views.proofs.Base.{◌∙◌, if◌then◌else◌, ◌≡◌, Bool, IfOk-weaker, List, None, ProjectRow, Round, Row}
use Rattle.portal_views.proofs.Base.{Some, Trees, ap, cond, false, first_cell, has_list, is_wanted_shown, Rankings}
use Rattle.portal_views.proofs.Base.{reads_as, reads_handed, reads_more, reads_then, true, waiting_key}
use Rattle.portal_views.proofs.OfficeLists.{reads_whole}
use Rattle.portal_views.proofs.missing.waiting_in.Goals as goal

-- a ranking decides, and else whether there is an applicant
module _ (round : Round) (db : Trees) (projects : List ProjectRow) (row : Row) where
  pub decided : (b : Bool) → b ≡ has_list (Rankings round) db row
      → cond b None (if is_wanted_shown round db projects (first_cell row) then Some (first_cell row) else None)
      ≡ waiting_key round db projects row
  decided b is = ap (λ b. cond b None (if is_wanted_shown round db projects (first_cell row) then Some (first_cell row) else None)) is

pub returns-in_err-has_list_in-clause-reads : goal.returns-in_err-has_list_in-clause-reads
returns-in_err-has_list_in-clause-reads g c =
    reads_handed c.from_residual.ensures.1 (reads_whole c.in_err-has_list_in.ensures.reads) (λ own lists told. tt)

pub returns-then-branch-clause-reads : goal.returns-then-branch-clause-reads
returns-then-branch-clause-reads g c =
    let read = reads_whole c.in_ok-has_list_in.ensures.reads in
    reads_more tt (rw c.if-branch.true at read) (λ own lists told. decided c.args.round _ _ c.args.lecturer.now true told)

pub returns-clause-reads : goal.returns-clause-reads
returns-clause-reads g c =
    let read = reads_whole c.in_ok-has_list_in.ensures.reads in
    reads_as (its_own _ c.wanted_in.result) (reads_then (rw c.if-branch.false at read) c.wanted_in.ensures.reads) (λ no. no)
    (λ own lists told. IfOk-weaker c.wanted_in.result _ _ (λ k is. is ∙ decided c.args.round _ _ c.args.lecturer.now false told.0) told.1)
