use Rattle.portal_rolls.proofs.Base.{◌≡◌, ◌++◌, ◌∙◌, ◌∷◌, [], ℕ, List, ap, subst, Some, None, ProjectRow, StudentRow}
use Rattle.portal_rolls.proofs.Base.{OfficeSees, student_fields, csv_record, HasWritten, rules, OnOk, project_given}
use Rattle.portal_rolls.proofs.Base.{project_fields}
use Rattle.portal_rolls.proofs.allocation.put_student.Goals as goal

placed : (v : OfficeSees) (s : StudentRow) (p : ProjectRow) (key name project title lecturer : List ℕ)
    → key ≡ s.key → name ≡ s.name → project ≡ p.key → title ≡ p.title → lecturer ≡ p.lecturer → Some p ≡ project_given v s
    → key ∷ name ∷ project ∷ title ∷ lecturer ∷ [] ≡ student_fields v s
placed v s p key name project title lecturer k n q t l e = search rules

unplaced : (v : OfficeSees) (s : StudentRow) (key name : List ℕ) → key ≡ s.key → name ≡ s.name
    → None ≡ project_given v s
    → key ∷ name ∷ [] ∷ [] ∷ [] ∷ [] ≡ student_fields v s
unplaced v s key name k n e = (λ i. k i ∷ n i ∷ [] ∷ [] ∷ [] ∷ []) ∙ ap (λ o. s.key ∷ s.name ∷ project_fields o) e

pub returns-in-Some : goal.returns-in-Some
returns-in-Some c =
    let there = rw c.in-Some.is at c.project_of.ensures in
    let e = placed c.args.placings.now c.args.student.now c.in-Some.project.now _ _ _ _ _ c.as_bytes-key.ensures.bytes
    c.as_bytes-name.ensures.bytes
    c.as_bytes.ensures.bytes c.as_bytes-title.ensures.bytes c.as_bytes-in-Some.ensures.bytes there in
    subst (λ fields. OnOk c.put_record.result
    ((text : List ℕ) → HasWritten c.args.writer.now text → HasWritten c.put_record.new.writer (text ++ csv_record fields))) e
    c.put_record.ensures

pub returns-in-None : goal.returns-in-None
returns-in-None c =
    let none = rw c.in-None.is at c.project_of.ensures in
    let e = unplaced c.args.placings.now c.args.student.now _ _ c.as_bytes-key.ensures.bytes c.as_bytes-name.ensures.bytes none in
    subst (λ fields. OnOk c.put_record-in-None.result
    ((text : List ℕ) → HasWritten c.args.writer.now text → HasWritten c.put_record-in-None.new.writer (text ++ csv_record fields))) e
    c.put_record-in-None.ensures
