-- Worlds that differ in the order within students' lists show all but the lists alike, and stay so.
use Rattle.portal_rules.proofs.Base.{◌≡◌, Bool, true, false, cond, List, [], ◌∷◌, refl, sym, ◌∙◌, ap, subst, map}
use Rattle.portal_rules.proofs.Base.{filter, Option, Some, None, option_map, not, ◌&&◌, is_none, list_any, find}
use Rattle.portal_rules.proofs.Base.{filter_map, cons_option, AllZip, Key, equals, has, is_empty, put, put_all, World}
use Rattle.portal_rules.proofs.Base.{lecturer_key, project_key, student_key, projects_of, applicants_of, is_at}
use Rattle.portal_rules.proofs.Base.{shown_placement, students_in, is_still_to_rank, is_from_ranking, Round, First}
use Rattle.portal_rules.proofs.Base.{Second, Phase, Published, Change, Choices, Ranks, Lecturers, Projects, Students}
use Rattle.portal_rules.proofs.Base.{To, Placements, Fill, SecondRound, changed, opened, ranked_before, placed_before}
use Rattle.portal_rules.proofs.Base.{in_first, with_lecturers, with_projects, with_students, with_choice, with_ranking}
use Rattle.portal_rules.proofs.Base.{with_place, with_fill, new_lecturer, new_student, Person, Office, Lecturer}
use Rattle.portal_rules.proofs.Base.{Student, OfficeCaller, caller_among, lecturer_with, student_with, sight_of, view}
use Rattle.portal_rules.proofs.Base.{student_sees, lecturer_sees, office_sees, listings, catalogue, Reordered}
use Rattle.portal_rules.proofs.Base.{SameUpToListOrder, arith, Sight, SameStudent}
use Rattle.portal_rules.specs.World as rows
use Rattle.portal_rules.proofs.Zips.{zip_by, zip_same, zip_mapped, zip_in, zip_lecturers, zip_projects}
use Rattle.portal_rules.proofs.Kept.{empty_map}
use Rattle.portal_rules.proofs.Reorder.{any_reordered, empty_reordered, reordered_itself}

-- lists of students that are the same but for the order within their lists

pub zip_filter : {Y : Type 0} (f : rows.Student → Y) (p : rows.Student → Bool)
    → ((s t : rows.Student) → SameStudent s t → f s ≡ f t) → ((s t : rows.Student) → SameStudent s t → p s ≡ p t)
    → (ss ts : List rows.Student) → AllZip SameStudent ss ts → map f (filter p ss) ≡ map f (filter p ts)
zip_filter f p same alike = zip_by SameStudent (λ ss ts. map f (filter p ss) ≡ map f (filter p ts)) refl
    (λ s t ss ts z e. grind (arith, same s t z, alike s t z, e))

zip_some : {Y : Type 0} (f : rows.Student → Option Y) → ((s t : rows.Student) → SameStudent s t → f s ≡ f t)
    → (ss ts : List rows.Student) → AllZip SameStudent ss ts → filter_map f ss ≡ filter_map f ts
zip_some f same = zip_by SameStudent (λ ss ts. filter_map f ss ≡ filter_map f ts) refl (λ s t ss ts z e i. cons_option (same s t z i) (e i))

same_itself : (x : rows.Student) → SameStudent x x
same_itself x = record {
  row = refl;
  choice = reordered_itself x.choice;
  placed = refl;
  earlier_choice = reordered_itself x.earlier_choice;
  earlier_placement = refl;
}

zip_put : (x : rows.Student) (ss ts : List rows.Student) → AllZip SameStudent ss ts
    → AllZip SameStudent (put student_key x ss) (put student_key x ts)
zip_put x [] [] z = (same_itself x, tt)
zip_put x (s ∷ ss) (t ∷ ts) z = grind (arith, z.0.row, same_itself x, zip_put x ss ts z.1)
zip_put x ss ts z = grind arith

zip_put_all : (xs ss ts : List rows.Student) → AllZip SameStudent ss ts
    → AllZip SameStudent (put_all student_key xs ss) (put_all student_key xs ts)
zip_put_all [] ss ts z = z
zip_put_all (x ∷ xs) ss ts z = zip_put_all xs (put student_key x ss) (put student_key x ts) (zip_put x ss ts z)

same_shown : (phase : Phase) (s t : rows.Student) → SameStudent s t → shown_placement phase s ≡ shown_placement phase t
same_shown phase s t same = λ i. shown_placement phase (record s { placed = same.placed i; earlier_placement = same.earlier_placement i })

-- whom a code names

abbrev SameFound : Option rows.Student → Option rows.Student → Type 0
SameFound None None = Unit {0}
SameFound (Some s) (Some t) = SameStudent s t
SameFound _ _ = ⊥

same_found : (c : Key) (ss ts : List rows.Student) → AllZip SameStudent ss ts
    → SameFound (find (λ s. equals s.row.code c) ss) (find (λ s. equals s.row.code c) ts)
same_found c = zip_by SameStudent (λ ss ts. SameFound (find (λ s. equals s.row.code c) ss) (find (λ s. equals s.row.code c) ts)) tt
    (λ s t ss ts z e. grind (arith, z.row, e))

-- what is seen, but for the own list

abbrev pub SameSight : Sight → Sight → Type 0
SameSight (Student x) (Student y) = record x { choices = y.choices } ≡ y
SameSight x y = x ≡ y

module _ (w : World) (ss ts : List rows.Student) (z : AllZip SameStudent ss ts) where
  abbrev one : World
  one = record w { students = ss }

  abbrev other : World
  other = record w { students = ts }

  abbrev person_of : rows.Student → Person
  person_of s = record { key = s.row.key; name = s.row.name }

  same_person : (s t : rows.Student) → SameStudent s t → person_of s ≡ person_of t
  same_person s t same = λ i. record { key = (same.row i).key; name = (same.row i).name }

  left : (s t : rows.Student) → SameStudent s t → t.earlier_placement ≡ s.earlier_placement
  left s t same = sym same.earlier_placement

  catalogue_same : catalogue one ≡ catalogue other
  catalogue_same = λ i. listings (sym (zip_lecturers SameStudent left ss ts z w.round w.lecturers w.projects) i)
      (sym (zip_projects SameStudent left ss ts z w.round w.lecturers w.projects) i)

  keys_same : (l : Key) → map student_key (applicants_of one l) ≡ map student_key (applicants_of other l)
  keys_same l = zip_filter student_key (λ s. list_any (λ p. has s.choice p.key) (projects_of w l)) (λ s t same. ap (λ r. r.key) same.row)
      (λ s t same i. list_any (λ p. any_reordered (equals p.key) s.choice t.choice same.choice i) (projects_of w l)) ss ts z

  ranked_same : (l : rows.Lecturer) → is_still_to_rank one l ≡ is_still_to_rank other l
  ranked_same l =
      ap (λ b. not b && is_none l.ranking)
      (sym (empty_map student_key (applicants_of one l.row.key)) ∙ ap is_empty (keys_same l.row.key)
      ∙ empty_map student_key (applicants_of other l.row.key))

  pub fill_same : map (with_fill one) w.lecturers ≡ map (with_fill other) w.lecturers
  fill_same = λ i. map (λ l. cond (ranked_same l i) (record l { ranking = Some (keys_same l.row.key i) }) l) w.lecturers

  office_same : office_sees one ≡ office_sees other
  office_same = λ i. record (office_sees one) {
    students = sym (zip_same SameStudent (λ s. s.row) (λ s t same. sym same.row) ss ts z) i;
    catalogue = catalogue_same i;
    without_list = zip_filter student_key (λ s. is_empty s.choice) (λ s t same. ap (λ r. r.key) same.row)
        (λ s t same. empty_reordered s.choice t.choice same.choice) (students_in w.round ss) (students_in w.round ts)
        (zip_in SameStudent left w.round ss ts z) i;
    still_to_rank = cond (is_from_ranking w.phase) (map lecturer_key (filter (λ l. ranked_same l i) w.lecturers)) [];
    pairs = zip_some (λ s. option_map (λ p. (s.row.key, p)) (shown_placement w.phase s))
        (λ s t same. λ j. option_map (λ p. ((same.row j).key, p)) (same_shown w.phase s t same j)) ss ts z i;
  }

  lecturer_same : (l : rows.Lecturer) → lecturer_sees one l ≡ lecturer_sees other l
  lecturer_same l = λ i. record (lecturer_sees one l) {
    applicants = map (λ p. (
      p.key,
      cond (is_from_ranking w.phase)
          (zip_filter person_of (λ s. has s.choice p.key) same_person
          (λ s t same. any_reordered (equals p.key) s.choice t.choice same.choice) ss ts z i) [],
    )) (projects_of w l.row.key);
    catalogue = catalogue_same i;
    placed = map (λ p. (
      p.key,
      zip_filter person_of (λ s. is_at p.key (shown_placement w.phase s)) same_person
          (λ s t same. ap (is_at p.key) (same_shown w.phase s t same)) ss ts z i,
    )) (projects_of w l.row.key);
  }

  student_same : (s t : rows.Student) → SameStudent s t → record (student_sees one s) { choices = t.choice } ≡ student_sees other t
  student_same s t same = λ i. record (student_sees other t) {
    me = record { key = (same.row i).key; name = (same.row i).name };
    catalogue = catalogue_same i;
    result = same_shown w.phase s t same i;
  }

  seen_same : (b : Bool) (l : Option rows.Lecturer) (o p : Option rows.Student) → SameFound o p
      → SameSight (sight_of one (cond b OfficeCaller (caller_among l o))) (sight_of other (cond b OfficeCaller (caller_among l p)))
  seen_same true l o p f = ap Office office_same
  seen_same false (Some l) o p f = ap Lecturer (lecturer_same l)
  seen_same false None (Some s) (Some t) f = student_same s t f
  seen_same false None None None f = refl
  seen_same b l o p f = grind arith

  pub view_same : (c : Key) → SameSight (view one c) (view other c)
  view_same c = seen_same (equals w.office c) (lecturer_with w c) (student_with one c) (student_with other c) (same_found c ss ts z)

-- the first world with the rest of the second
pub but_students : (v w : World) (s : SameUpToListOrder v w) → v ≡ record w { students = v.students }
but_students v w s = λ i. record {
  round = s.round i;
  phase = s.phase i;
  office = s.office i;
  lecturers = s.lecturers i;
  projects = s.projects i;
  students = v.students;
}

pub same_view : (v w : World) → SameUpToListOrder v w → (c : Key) → SameSight (view v c) (view w c)
same_view v w s c = subst (λ u. SameSight (view u c) (view w c)) (sym (but_students v w s)) (view_same w v.students w.students s.students c)

-- a change of both

pub both_choose : (v w : World) (k : Key) (ks ls : List Key) → Reordered ks ls → SameUpToListOrder v w
    → SameUpToListOrder (changed v (Choices k ks)) (changed w (Choices k ls))
both_choose v w k ks ls r s = record {
  round = s.round;
  phase = s.phase;
  office = s.office;
  lecturers = s.lecturers;
  projects = s.projects;
  students = zip_mapped SameStudent (with_choice k ks) (with_choice k ls) each v.students w.students s.students;
}
  where
    each : (s t : rows.Student) → SameStudent s t → SameStudent (with_choice k ks s) (with_choice k ls t)
    each s t same = grind (arith, same.row, same.choice, same.placed, same.earlier_choice, same.earlier_placement, r)

-- new rows of both, in the first round
both_first : (v w p q : World) → SameUpToListOrder v w → SameUpToListOrder p q
    → SameUpToListOrder (in_first v.round p v) (in_first w.round q w)
both_first v w p q s t = subst (λ r. SameUpToListOrder (in_first v.round p v) (in_first r q w)) s.round
    (elim v.round as (λ r. SameUpToListOrder (in_first r p v) (in_first r q w)) [ First ↦ t | Second ↦ s ])

-- the second round of both
both_opened : (v w : World) → SameUpToListOrder v w → SameUpToListOrder (opened v.round v.phase v) (opened w.round w.phase w)
both_opened v w s =
    subst (λ r. SameUpToListOrder (opened v.round v.phase v) (opened r w.phase w)) s.round
    (subst (λ p. SameUpToListOrder (opened v.round v.phase v) (opened v.round p w)) s.phase (go v.round v.phase))
  where
    each : (s t : rows.Student) → SameStudent s t → SameStudent (placed_before s) (placed_before t)
    each s t same = grind (arith, same.row, same.choice, same.placed, reordered_itself [])

    go : (r : Round) (p : Phase) → SameUpToListOrder (opened r p v) (opened r p w)
    go First Published = record {
      round = refl;
      phase = refl;
      office = s.office;
      lecturers = ap (map ranked_before) s.lecturers;
      projects = s.projects;
      students = zip_mapped SameStudent placed_before placed_before each v.students w.students s.students;
    }
    go First _ = s
    go Second _ = s

pub both_changed : (v w : World) (change : Change) → SameUpToListOrder v w
    → SameUpToListOrder (changed v change) (changed w change)
both_changed v w (Choices k list) s = both_choose v w k list list (reordered_itself list) s
both_changed v w (Ranks k list) s = record {
  round = s.round;
  phase = s.phase;
  office = s.office;
  lecturers = ap (map (with_ranking k list)) s.lecturers;
  projects = s.projects;
  students = s.students;
}
both_changed v w (Lecturers rows) s = both_first v w (with_lecturers v rows) (with_lecturers w rows) s
    (record {
      round = s.round;
      phase = s.phase;
      office = s.office;
      lecturers = ap (put_all lecturer_key (map new_lecturer rows)) s.lecturers;
      projects = s.projects;
      students = s.students;
    })
both_changed v w (Projects rows) s = both_first v w (with_projects v rows) (with_projects w rows) s
    (record {
      round = s.round;
      phase = s.phase;
      office = s.office;
      lecturers = s.lecturers;
      projects = ap (put_all project_key rows) s.projects;
      students = s.students;
    })
both_changed v w (Students rows) s = both_first v w (with_students v rows) (with_students w rows) s
    (record {
      round = s.round;
      phase = s.phase;
      office = s.office;
      lecturers = s.lecturers;
      projects = s.projects;
      students = zip_put_all (map new_student rows) v.students w.students s.students;
    })
both_changed v w (To phase) s = record {
  round = s.round;
  phase = refl;
  office = s.office;
  lecturers = s.lecturers;
  projects = s.projects;
  students = s.students;
}
both_changed v w Fill s =
    let lecturers = subst (λ u. map (with_fill u) u.lecturers ≡ map (with_fill w) w.lecturers) (sym (but_students v w s))
    (fill_same w v.students w.students s.students) in
    assumption
both_changed v w SecondRound s = both_opened v w s
both_changed v w (Placements pairs) s = record {
  round = s.round;
  phase = refl;
  office = s.office;
  lecturers = s.lecturers;
  projects = s.projects;
  students = zip_mapped SameStudent (with_place pairs) (with_place pairs) each v.students w.students s.students;
}
  where
    each : (s t : rows.Student) → SameStudent s t → SameStudent (with_place pairs s) (with_place pairs t)
    each s t same = grind (arith, same.row, same.choice, same.placed, same.earlier_choice, same.earlier_placement)
