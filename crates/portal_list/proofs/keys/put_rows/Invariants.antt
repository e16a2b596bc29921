use Rattle.portal_list.proofs.Base.{◌≡◌, ◌+◌, ◌≤◌, length, put_all, vec_len, vec_capacity}
use Rattle.portal_list.proofs.keys.put_rows.Given as goal

abbrev pub invariant-loop-row : goal.invariant-loop-row
invariant-loop-row g l = record {
  rows : l.rows.items ≡ put_all g.T.Keyed.key_of l.yielded l.initial.rows.items;
  length : vec_len l.rows ≡ vec_len l.initial.rows + length l.yielded;
  capacity : vec_capacity l.initial.rows ≤ vec_capacity l.rows;
}
