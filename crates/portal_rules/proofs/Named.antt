-- In a sound world each code names its own row, and another names nobody.
use Rattle.portal_rules.proofs.Base.{◌≡◌, false, cond, List, [], ◌∷◌, ◌++◌, refl, sym, ◌∙◌, ap, map, ◌||◌, Option, Some}
use Rattle.portal_rules.proofs.Base.{None, find, AllByRecursion, or_parts, Key, equals, has, AreDistinct, World, Nobody}
use Rattle.portal_rules.proofs.Base.{Office, Lecturer, Student, OfficeCaller, caller_among, lecturer_with, student_with}
use Rattle.portal_rules.proofs.Base.{sight_of, view, office_sees, lecturer_sees, student_sees, Sound, codes_of, arith}
use Rattle.portal_rules.specs.World as rows
use Rattle.portal_rules.proofs.Keys.{is_own, all_unmap}
use Rattle.portal_rules.proofs.AllLaws.{all_both, all_weaker, any_append, is_sym, none_of, none_yet}

distinct_parts : (xs ys : List Key) → AreDistinct (xs ++ ys)
    → AreDistinct xs × AreDistinct ys × AllByRecursion (λ y. has xs y ≡ false) ys
distinct_parts [] ys d = (tt, d, none_yet ys)
distinct_parts (x ∷ xs) ys d =
    let rest : AreDistinct xs × AreDistinct ys × AllByRecursion (λ y. has xs y ≡ false) ys = distinct_parts xs ys d.1 in
    let parts : (has xs x ≡ false) × (has ys x ≡ false) = or_parts (has xs x) (has ys x) (sym (any_append (equals x) xs ys) ∙ d.0) in (
      (parts.0, rest.0),
      rest.1,
      all_weaker _ _ (λ y h. ap (λ b. b || has xs y) (is_sym y x ∙ h.0) ∙ h.1) ys (all_both _ _ ys (none_of ys x parts.1) rest.2),
    )

module _ {X : Type 0} (code : X → Key) where
  finds_none : (xs : List X) (k : Key) → has (map code xs) k ≡ false → find (λ x. equals (code x) k) xs ≡ None
  finds_none [] k h = refl
  finds_none (x ∷ xs) k h = grind (arith, is_sym (code x) k, finds_none xs k)

  finds_each : (xs : List X) → AreDistinct (map code xs)
      → AllByRecursion (λ x. find (λ y. equals (code y) (code x)) xs ≡ Some x) xs
  finds_each [] d = tt
  finds_each (x ∷ xs) d = (
    ap (λ b. cond b (Some x) (find (λ y. equals (code y) (code x)) xs)) (is_own (code x)),
    all_weaker _ _ (λ z h. ap (λ b. cond b (Some x) (find (λ y. equals (code y) (code z)) xs)) h.0 ∙ h.1) xs
        (all_both (λ z. equals (code x) (code z) ≡ false) _ xs
        (all_unmap (λ l. equals (code x) l ≡ false) code xs (none_of (map code xs) (code x) d.0)) (finds_each xs d.1)),
  )

module _ (w : World) (g : Sound w) where
  abbrev lecturer_codes : List Key
  lecturer_codes = map (λ (l : rows.Lecturer). l.row.code) w.lecturers

  abbrev student_codes : List Key
  student_codes = map (λ (s : rows.Student). s.row.code) w.students

  people : AreDistinct lecturer_codes × AreDistinct student_codes × AllByRecursion (λ y. has lecturer_codes y ≡ false) student_codes
  people = distinct_parts lecturer_codes student_codes g.codes.1

  not_office : (has lecturer_codes w.office ≡ false) × (has student_codes w.office ≡ false)
  not_office = or_parts (has lecturer_codes w.office) (has student_codes w.office)
      (sym (any_append (equals w.office) lecturer_codes student_codes) ∙ g.codes.0)

  pub office_named : view w w.office ≡ Office (office_sees w)
  office_named = ap (λ b. sight_of w (cond b OfficeCaller (caller_among (lecturer_with w w.office) (student_with w w.office))))
      (is_own w.office)

  named : (c : Key) (l : Option rows.Lecturer) (s : Option rows.Student) → equals w.office c ≡ false
      → lecturer_with w c ≡ l → student_with w c ≡ s → view w c ≡ sight_of w (caller_among l s)
  named c l s office el es = λ i. sight_of w (cond (office i) OfficeCaller (caller_among (el i) (es i)))

  pub lecturers_named : AllByRecursion (λ l. view w l.row.code ≡ Lecturer (lecturer_sees w l)) w.lecturers
  lecturers_named =
      all_weaker _ _ (λ l h. named l.row.code (Some l) (student_with w l.row.code) h.0 h.1 refl) w.lecturers
      (all_both _ _ w.lecturers (all_unmap (λ c. equals w.office c ≡ false) (λ (l : rows.Lecturer). l.row.code) w.lecturers
      (none_of lecturer_codes w.office not_office.0)) (finds_each (λ (l : rows.Lecturer). l.row.code) w.lecturers people.0))

  pub students_named : AllByRecursion (λ s. view w s.row.code ≡ Student (student_sees w s)) w.students
  students_named =
      all_weaker _ _ (λ s h. named s.row.code None (Some s) h.0.0
      (finds_none (λ (l : rows.Lecturer). l.row.code) w.lecturers s.row.code h.1) h.0.1) w.students
      (all_both _ _ w.students
      (all_both _ _ w.students (all_unmap (λ c. equals w.office c ≡ false) (λ (s : rows.Student). s.row.code) w.students
      (none_of student_codes w.office not_office.1)) (finds_each (λ (s : rows.Student). s.row.code) w.students people.1))
      (all_unmap (λ c. has lecturer_codes c ≡ false) (λ (s : rows.Student). s.row.code) w.students people.2))

  pub others_named : (c : Key) → has (codes_of w) c ≡ false → view w c ≡ Nobody
  others_named c h =
      let parts : (equals c w.office ≡ false) × (has (lecturer_codes ++ student_codes) c ≡ false) =
      or_parts (equals c w.office) (has (lecturer_codes ++ student_codes) c) h in
      let both : (has lecturer_codes c ≡ false)
      × (has student_codes c ≡ false) = or_parts (has lecturer_codes c) (has student_codes c)
      (sym (any_append (equals c) lecturer_codes student_codes) ∙ parts.1) in
      named c None None (is_sym w.office c ∙ parts.0) (finds_none (λ (l : rows.Lecturer). l.row.code) w.lecturers c both.0)
      (finds_none (λ (s : rows.Student). s.row.code) w.students c both.1)
