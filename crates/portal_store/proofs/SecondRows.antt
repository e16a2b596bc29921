-- What the rolls' rows stand for in the second round, by the rows of both rounds' lists and places.
use Rattle.portal_store.proofs.Base.{if◌then◌else◌, List, map, Some, None, option_map, find, Row, column, bytes, equals}
use Rattle.portal_store.proofs.Base.{has, Lecturer, Student, chosen, row_key, text_or_none, lecturer_row, student_row}
use Rattle.portal_store.proofs.FirstRows.{has_ranking}

-- of those with a ranking of the second round, the rankings of it, and those of the first
abbrev pub lecturer_after : List Row → List Row → List Row → Row → Lecturer
lecturer_after ranked rankings earlier r =
    record {
      row = lecturer_row r;
      ranking = if has (map row_key ranked) (row_key r) then Some (chosen rankings (row_key r)) else None;
      earlier_ranking = if has_ranking r then Some (chosen earlier (row_key r)) else None;
    }

-- of the lists of the second round, the places that it gives, and the lists of the first
abbrev pub student_after : List Row → List Row → List Row → Row → Student
student_after choices places earlier r =
    record {
      row = student_row r;
      choice = chosen choices (row_key r);
      placed = option_map (λ a. bytes (column a 2)) (find (λ a. equals (row_key a) (row_key r)) places);
      earlier_choice = chosen earlier (row_key r);
      earlier_placement = text_or_none (column r 4);
    }
