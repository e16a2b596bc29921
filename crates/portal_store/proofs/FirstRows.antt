-- What the rows of the rolls stand for in the first round, by the rows of its lists.
use Rattle.portal_store.proofs.Base.{Bool, if◌then◌else◌, ◌==◌, List, [], Some, None, Row, column, number_in, Lecturer}
use Rattle.portal_store.proofs.Base.{Student, chosen, row_key, text_or_none, lecturer_row, student_row}

abbrev pub has_ranking : Row → Bool
has_ranking r = number_in (column r 5) == 1

abbrev pub lecturer_of_cells : List Row → Row → Lecturer
lecturer_of_cells rankings r = record {
  row = lecturer_row r;
  ranking = if has_ranking r then Some (chosen rankings (row_key r)) else None;
  earlier_ranking = None;
}

abbrev pub student_of : List Row → Row → Student
student_of choices r = record {
  row = student_row r;
  choice = chosen choices (row_key r);
  placed = text_or_none (column r 4);
  earlier_choice = [];
  earlier_placement = None;
}
