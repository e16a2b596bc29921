use Rattle.portal_rolls.proofs.Base.{◌∙◌, sym, ap, arith, err_from_is_err_and, fields_of, same_record, Record}
use Rattle.portal_rolls.proofs.Run.{bad_header, begun, goes_on, is_whole, no_header, stops, too_many}
use Rattle.portal_rolls.proofs.reading.read_lines.Goals as goal

pub returns-then-not-branch : goal.returns-then-not-branch
returns-then-not-branch g c rows h =
    no_header g.T.FromRecord.format rows (fields_of c.take_record.new.row) c.take_record.new.rdr
    (rw c.if-not-branch.true at c.in_ok-take_record.ensures.took rows h)

pub returns-then-not-has_names : goal.returns-then-not-has_names
returns-then-not-has_names g c rows h =
    bad_header g.T.FromRecord.format rows (fields_of c.take_record.new.row) c.take_record.new.rdr
    (rw c.if-not-branch.false at c.in_ok-take_record.ensures.took rows h)
    (ap (λ (h : Record). same_record h (fields_of c.take_record.new.row)) (sym c.names.ensures) ∙ sym c.if-not-has_names.ensures)

pub loop-number-init : goal.loop-number-init
loop-number-init g c = (
  c.in_ok-take_record.ensures.kept,
  λ rows h. rw c.new-lines.ensures.items (begun g.T.FromRecord.format rows (fields_of c.take_record.new.row) c.take_record.new.rdr
      (rw c.if-not-branch.false at c.in_ok-take_record.ensures.took rows h)
      (ap (λ (h : Record). same_record h (fields_of c.take_record.new.row)) (sym c.names.ensures) ∙ sym c.if-not-has_names.ensures)),
)

pub returns-then-not-branch-2 : goal.returns-then-not-branch-2
returns-then-not-branch-2 g c rows h =
    is_whole g.T.FromRecord.format rows c.loop-number.number c.loop-number.rdr c.take_record-in-loop-number.new.rdr
    c.loop-number.lines.items (fields_of c.take_record-in-loop-number.new.row)
    (c.loop-number.invariant.1 rows h) (λ left has. rw c.if-not-branch-2.true at c.in_ok-take_record-2.ensures.took left has)

pub returns-in_err-parse_line : goal.returns-in_err-parse_line
returns-in_err-parse_line g c rows h =
    let (e, returned, is) = err_from_is_err_and c.from_residual-in_err-parse_line.result c.from_residual-in_err-parse_line.ensures.1 in
    let first = stops g.T.FromRecord.format rows c.loop-number.number c.loop-number.rdr c.take_record-in-loop-number.new.rdr
    c.loop-number.lines.items (fields_of c.take_record-in-loop-number.new.row)
    c.in_err-parse_line.field-0.0 (c.loop-number.invariant.1 rows h) (omega arith)
    (λ left has. rw c.if-not-branch-2.false at c.in_ok-take_record-2.ensures.took left has) c.in_err-parse_line.ensures in
    rw (returned, is) first

pub loop-number-preserved : goal.loop-number-preserved
loop-number-preserved g c = (
  c.in_ok-take_record-2.ensures.kept,
  λ rows h. rw c.in_ok-push.ensures.items (goes_on g.T.FromRecord.format rows c.loop-number.number c.loop-number.rdr
      c.take_record-in-loop-number.new.rdr c.loop-number.lines.items
      (fields_of c.take_record-in-loop-number.new.row) c.in_ok-parse_line.field-0
      (c.loop-number.invariant.1 rows h) (omega arith)
      (λ left has. rw c.if-not-branch-2.false at c.in_ok-take_record-2.ensures.took left has) c.in_ok-parse_line.ensures),
)

pub returns-then-branch : goal.returns-then-branch
returns-then-branch g c rows h =
    too_many g.T.FromRecord.format rows c.loop-number.number c.loop-number.rdr _ c.loop-number.lines.items _
    (c.loop-number.invariant.1 rows h) (omega arith) (λ left has. rw c.if-branch.true at c.in_ok-take_record-3.ensures.took left has)

pub returns : goal.returns
returns g c rows h =
    is_whole g.T.FromRecord.format rows c.loop-number.number c.loop-number.rdr _ c.loop-number.lines.items _
    (c.loop-number.invariant.1 rows h) (λ left has. rw c.if-branch.false at c.in_ok-take_record-3.ensures.took left has)
