-- From what queries show of one caller to what the world says.
use Rattle.portal_store.proofs.Base.{◌≡◌, List, refl, sym, ap, ◌∙◌, Row, column}
use Rattle.portal_store.proofs.Base.{bytes, Trees, Listing, Key, equals, Phase, catalogue}
use Rattle.portal_store.proofs.Base.{Round, First, Second}
use Rattle.portal_store.proofs.Base.{has_text, lecturer_columns, roll_columns, world_in}
use Rattle.portal_store.proofs.Base.{lecturer_stored, student_stored, student_shown, lecturer_from, student_from}
use Rattle.portal_store.proofs.Base.{IsLecturerRow, IsStudentRow, has_text_of}
use Rattle.portal_store.proofs.Base.{student_sees}

-- a row of a roll, and as it is shown, stand for one lecturer or student
pub lecturer_is : (round : Round) (db : Trees) (r : Row)
    → lecturer_from round db (lecturer_columns r) ≡ lecturer_stored round db r
lecturer_is First db r = refl
lecturer_is Second db r = refl

pub student_is : (round : Round) (db : Trees) (r : Row)
    → student_from round db (roll_columns r) ≡ student_stored round db r
student_is First db r = refl
student_is Second db r = refl

pub lecturer_agrees : (code : Key) (r : Row) → IsLecturerRow r → has_text 3 code r ≡ equals (bytes (column r 3)) code
lecturer_agrees code r x = has_text_of 3 code r x.code (ap (λ s. column s 3) x.is) ∙ ap (λ s. equals (bytes (column s 3)) code) (sym x.is)

pub student_agrees : (code : Key) (r : Row) → IsStudentRow r → has_text 3 code r ≡ equals (bytes (column r 3)) code
student_agrees code r x = has_text_of 3 code r x.code (ap (λ s. column s 3) x.is) ∙ ap (λ s. equals (bytes (column s 3)) code) (sym x.is)

-- what a student sees, of what was read
pub student_told : (round : Round) (db : Trees) (row : Row) (phase : Phase) (offers : List Listing)
    → phase ≡ (world_in round db).phase → offers ≡ catalogue (world_in round db)
    → student_shown round db phase row offers ≡ student_sees (world_in round db) (student_from round db row)
unfolding world_in
student_told round db row phase offers at_phase all = λ i. student_shown round db (at_phase i) row (all i)
