-- The catalogue of lecturers is that of their rows.
use Rattle.portal_list.proofs.Base.{◌≡◌, Option, Some, None, option_map, List, map, refl, ap, ◌∙◌, find, filter_map}
use Rattle.portal_list.proofs.Base.{LecturerRow, ProjectRow, Key, equals, Lecturer, name_of, offered, name_in}
use Rattle.portal_list.proofs.Base.{listing_with, listings, find_map}

abbrev pub row_of : Lecturer → LecturerRow
row_of l = l.row

name_row : (o : Option Lecturer)
    → option_map (λ (r : LecturerRow). r.name) (option_map row_of o) ≡ option_map (λ (l : Lecturer). l.row.name) o
name_row None = refl
name_row (Some l) = refl

name_is : (ls : List Lecturer) (k : Key) → name_of (map row_of ls) k ≡ name_in ls k
name_is ls k =
    ap (option_map (λ (r : LecturerRow). r.name))
    (find_map row_of (λ (l : Lecturer). equals l.row.key k) (λ (r : LecturerRow). equals r.key k) (λ l. refl) ls)
    ∙ name_row (find (λ (l : Lecturer). equals l.row.key k) ls)

pub offered_rows : (ls : List Lecturer) (ps : List ProjectRow) → offered (map row_of ls) ps ≡ listings ls ps
offered_rows ls ps = λ i. filter_map (λ p. option_map (listing_with p) (name_is ls p.lecturer i)) ps
