-- Rows and entries that fit each other.
use Rattle.std.proofs.Common.{append_assoc}
use Rattle.portal_list.proofs.Base.{◌≡◌, Bool, true, false, cond, List, [], ◌∷◌, ◌++◌, map, refl, sym, ◌∙◌, ap, subst}
use Rattle.portal_list.proofs.Base.{Option, Some, None, option_map, ◌&&◌, filter_map, cons_option, AllByRecursion}
use Rattle.portal_list.proofs.Base.{LecturerRow, Key, equals, is_before, is_empty, Rise, Round, First, Second, Lecturer}
use Rattle.portal_list.proofs.Base.{Student, pairs_with, is_same, is_own, not_before_itself, HasNothingEarlier}
use Rattle.portal_list.proofs.Base.{lecturers_fitting, students_fitting, rules, is_second, choices_in}
use Rattle.portal_list.proofs.Base.{earlier_choices_in, rankings_with, next_for, rest_for, earlier_for, earlier_rest}
use Rattle.portal_list.proofs.Base.{with_lists}
use Rattle.portal_rules.specs.declared.rows.StudentRow.{StudentRow}

pub next_map : {V W : Type 0} (f : V → W) (k : Key) (ps : List (Key × V))
    → option_map f (next_for k ps) ≡ next_for k (map {B = Key × W} (λ (p : Key × V). (p.0, f p.1)) ps)
next_map f k [] = refl
next_map {V} {W} f k (p ∷ ps) = elim (equals p.0 k) as
    (λ b. option_map f (cond b (Some p.1) None) ≡ cond b (Some (f p.1)) None) [ true ↦ refl | false ↦ refl ]

pub rest_map : {V W : Type 0} (f : V → W) (k : Key) (ps : List (Key × V))
    → map {B = Key × W} (λ (p : Key × V). (p.0, f p.1)) (rest_for k ps) ≡ rest_for k (map {B = Key × W} (λ (p : Key × V). (p.0, f p.1)) ps)
rest_map f k [] = refl
rest_map {V} {W} f k (p ∷ ps) = elim (equals p.0 k) as
    (λ b. map {B = Key × W} (λ (q : Key × V). (q.0, f q.1)) (cond b ps (p ∷ ps))
    ≡ cond b (map {B = Key × W} (λ (q : Key × V). (q.0, f q.1)) ps)
    ((p.0, f p.1) ∷ map {B = Key × W} (λ (q : Key × V). (q.0, f q.1)) ps)) [ true ↦ refl | false ↦ refl ]

-- one more in front of what is still to come, or behind what is there
pub moved : {X : Type 0} (es : List X) (e : X) (o : Option (List X))
    → option_map (λ xs. (es ++ e ∷ []) ++ xs) o ≡ option_map (λ xs. es ++ xs) (option_map (λ xs. e ∷ xs) o)
moved es e None = refl
moved es e (Some xs) = ap Some (append_assoc es (e ∷ []) xs)

-- what is there of some rows, each under its key
module _ {X V : Type 0} (key : X → Key) (opt : X → Option V) where
  abbrev there : List X → List (Key × V)
  there xs = filter_map (λ x. option_map (λ v. (key x, v)) (opt x)) xs

  -- nothing is there for a key before all of these
  nothing : (k : Key) (xs : List X) → AllByRecursion (λ l. is_before k l ≡ true) (map key xs)
      → (next_for k (there xs) ≡ None) × (rest_for k (there xs) ≡ there xs)
  nothing k [] all = (refl, refl)
  nothing k (x ∷ xs) all = at (opt x) (nothing k xs all.1)
    where
      differ : (b : Bool) → equals (key x) k ≡ b → b ≡ false
      differ false e = refl
      differ true e = absurd (not_before_itself k (subst (λ l. is_before k l ≡ true) (is_same (key x) k e) all.0))

      at : (o : Option V) → (next_for k (there xs) ≡ None) × (rest_for k (there xs) ≡ there xs)
          → (next_for k (cons_option (option_map (λ v. (key x, v)) o) (there xs)) ≡ None)
          × (rest_for k (cons_option (option_map (λ v. (key x, v)) o) (there xs))
          ≡ cons_option (option_map (λ v. (key x, v)) o) (there xs))
      at None rest = rest
      at (Some v) rest = let no : equals (key x) k ≡ false = differ (equals (key x) k) refl in rw no (refl, refl)

  -- the first row takes its own
  own : (x : X) (xs : List X) → AllByRecursion (λ l. is_before (key x) l ≡ true) (map key xs)
      → (next_for (key x) (there (x ∷ xs)) ≡ opt x) × (rest_for (key x) (there (x ∷ xs)) ≡ there xs)
  own x xs all = at (opt x)
    where
      at : (o : Option V)
          → (next_for (key x) (cons_option (option_map (λ v. (key x, v)) o) (there xs)) ≡ o)
          × (rest_for (key x) (cons_option (option_map (λ v. (key x, v)) o) (there xs)) ≡ there xs)
      at None = nothing (key x) xs all
      at (Some v) = rw (is_own (key x)) (refl, refl)

-- what is taken and what is left is what was there
pub put_back : {V : Type 0} (k : Key) (ps : List (Key × V))
    → cons_option (option_map (λ v. (k, v)) (next_for k ps)) (rest_for k ps) ≡ ps
put_back k [] = refl
put_back {V} k (p ∷ ps) = at (equals p.0 k) refl
  where
    at : (b : Bool) → equals p.0 k ≡ b
        → cons_option (option_map (λ v. (k, v)) (cond b (Some p.1) None)) (cond b ps (p ∷ ps)) ≡ p ∷ ps
    at true e = λ i. (sym (is_same p.0 k e) i, p.1) ∷ ps
    at false e = refl

-- nothing is left of any
four_left : {W X Y Z V : Type 0} (cs : List W) (ps : List X) (es : List Y) (qs : List Z) (y z : V)
    → cond (is_empty cs && is_empty ps && is_empty es && is_empty qs) (Some y) None ≡ Some z
    → (cs ≡ []) × (ps ≡ []) × (es ≡ []) × (qs ≡ []) × (y ≡ z)
four_left [] [] [] [] y z e = let same : y ≡ z = cc in (refl, refl, refl, refl, same)
four_left _ ps es qs y z e = cc

-- lecturers

pub lecturers_back : (ls : List Lecturer) → Rise (map (λ l. l.row.key) ls)
    → lecturers_fitting (map (λ l. l.row) ls) (rankings_with (λ l. l.ranking) ls) (rankings_with (λ l. l.earlier_ranking) ls) ≡ Some ls
lecturers_back [] rise = refl
lecturers_back (l ∷ ls) rise =
    let mine = own (λ (m : Lecturer). m.row.key) (λ (m : Lecturer). m.ranking) l ls rise.0 in
    let earlier = own (λ (m : Lecturer). m.row.key) (λ (m : Lecturer). m.earlier_ranking) l ls rise.0 in
    (λ i. option_map (λ ms. record { row = l.row; ranking = mine.0 i; earlier_ranking = earlier.0 i } ∷ ms)
    (lecturers_fitting (map (λ m. m.row) ls) (mine.1 i) (earlier.1 i)))
    ∙ ap (option_map (λ ms. l ∷ ms)) (lecturers_back ls rise.1)

abbrev RowsAre : List Lecturer → List LecturerRow → List (Key × List Key) → List (Key × List Key) → Type 0
RowsAre ls rs ps qs = (map (λ l. l.row) ls ≡ rs) × (rankings_with (λ l. l.ranking) ls ≡ ps)
    × (rankings_with (λ l. l.earlier_ranking) ls ≡ qs)

abbrev lecturer_made : LecturerRow → List (Key × List Key) → List (Key × List Key) → Lecturer
lecturer_made r ps qs = record { row = r; ranking = next_for r.key ps; earlier_ranking = next_for r.key qs }

pub lecturers_rows : (rs : List LecturerRow) (ps qs : List (Key × List Key)) (ls : List Lecturer)
    → lecturers_fitting rs ps qs ≡ Some ls → RowsAre ls rs ps qs
lecturers_rows [] ps qs ls e =
    let left = four_left {W = LecturerRow} {X = LecturerRow} [] [] ps qs [] ls e in (
      ap (map (λ (l : Lecturer). l.row)) (sym left.4),
      ap (rankings_with (λ (l : Lecturer). l.ranking)) (sym left.4)
          ∙ sym left.2,
      ap (rankings_with (λ (l : Lecturer). l.earlier_ranking)) (sym left.4) ∙ sym left.3,
    )
lecturers_rows (r ∷ rs) ps qs ls e = at (lecturers_fitting rs (rest_for r.key ps) (rest_for r.key qs))
    (λ ms f. lecturers_rows rs (rest_for r.key ps) (rest_for r.key qs) ms f) e
  where
    at : (o : Option (List Lecturer))
        → ((ms : List Lecturer) → o ≡ Some ms → RowsAre ms rs (rest_for r.key ps) (rest_for r.key qs))
        → option_map (λ ms. lecturer_made r ps qs ∷ ms) o ≡ Some ls → RowsAre ls (r ∷ rs) ps qs
    at None again f = cc
    at (Some ms) again f =
        let rest : RowsAre ms rs (rest_for r.key ps) (rest_for r.key qs) = again ms refl in
        let is_ls : lecturer_made r ps qs ∷ ms ≡ ls = cc in (
          ap (map (λ l. l.row)) (sym is_ls) ∙ ap (λ xs. r ∷ xs) rest.0,
          ap (rankings_with (λ l. l.ranking)) (sym is_ls) ∙ ap (cons_option (option_map (λ v. (r.key, v)) (next_for r.key ps))) rest.1
              ∙ put_back r.key ps,
          ap (rankings_with (λ l. l.earlier_ranking)) (sym is_ls)
              ∙ ap (cons_option (option_map (λ v. (r.key, v)) (next_for r.key qs))) rest.2 ∙ put_back r.key qs,
        )

-- one more lecturer is put together
pub lecturers_step : (es more : List Lecturer) (row : LecturerRow) (items others : List LecturerRow) (ps ps' qs qs' : List (Key × List Key))
    (ranking earlier : Option (List Key)) (all : Option (List Lecturer))
    → option_map (λ ls. es ++ ls) (lecturers_fitting items ps qs) ≡ all → items ≡ row ∷ others → ps' ≡ rest_for row.key ps
    → qs' ≡ rest_for row.key qs
    → ranking ≡ next_for row.key ps → earlier ≡ next_for row.key qs
    → more ≡ es ++ record { row = row; ranking = ranking; earlier_ranking = earlier } ∷ []
    → option_map (λ ls. more ++ ls) (lecturers_fitting others ps' qs') ≡ all
lecturers_step es more row items others ps ps' qs qs' ranking earlier all so_far is_row is_rest is_left is_next is_earlier is_more =
    (λ i. option_map (λ ls. is_more i ++ ls) (lecturers_fitting others (is_rest i) (is_left i)))
    ∙ moved es (record { row = row; ranking = ranking; earlier_ranking = earlier })
    (lecturers_fitting others (rest_for row.key ps) (rest_for row.key qs))
    ∙ (λ i. option_map (λ ls. es ++ ls) (option_map (λ ls. record { row = row; ranking = is_next i; earlier_ranking = is_earlier i } ∷ ls)
    (lecturers_fitting others (rest_for row.key ps) (rest_for row.key qs))))
    ∙ (λ i. option_map (λ ls. es ++ ls) (lecturers_fitting (sym is_row i) ps qs))
    ∙ so_far

-- students

-- each student has a list
pub students_back : (round : Round) (ss : List Student) → Rise (map (λ s. s.row.key) ss)
    → (is_second round ≡ false → AllByRecursion HasNothingEarlier ss)
    → students_fitting round (map (λ s. s.row) ss) (choices_in ss) (pairs_with (λ s. s.placed) ss) (earlier_choices_in round ss)
    (pairs_with (λ s. s.earlier_placement) ss) ≡ Some ss
students_back First [] rise none = refl
students_back Second [] rise none = refl
students_back round (s ∷ ss) rise none =
    let list : (next_for s.row.key (choices_in (s ∷ ss)) ≡ Some s.choice)
    × (rest_for s.row.key (choices_in (s ∷ ss)) ≡ choices_in ss) = rw (is_own s.row.key) (refl, refl) in
    let place = own (λ (t : Student). t.row.key) (λ (t : Student). t.placed) s ss rise.0 in
    let earlier_placement = own (λ (t : Student). t.row.key) (λ (t : Student). t.earlier_placement) s ss rise.0 in
    let earlier = mine round (λ e. (none e).0.0) in
    (λ i. with_lists s.row (list.0 i) (place.0 i) (earlier.0 i) (earlier_placement.0 i)
    (students_fitting round (map (λ t. t.row) ss) (list.1 i) (place.1 i) (earlier.1 i) (earlier_placement.1 i)))
    ∙ ap (option_map (λ ts. s ∷ ts)) (students_back round ss rise.1 (λ e. (none e).1))
  where
    mine : (r : Round) → (is_second r ≡ false → s.earlier_choice ≡ [])
        → (earlier_for r s.row.key (earlier_choices_in r (s ∷ ss)) ≡ Some s.earlier_choice)
        × (earlier_rest r s.row.key (earlier_choices_in r (s ∷ ss)) ≡ earlier_choices_in r ss)
    mine First empty = (sym (ap Some (empty refl)), refl)
    mine Second empty = rw (is_own s.row.key) (refl, refl)

no_earlier : (round : Round) → earlier_choices_in round [] ≡ []
no_earlier First = refl
no_earlier Second = refl

-- one more student with the list that was taken
earlier_back : (round : Round) (s : Student) (ts : List Student) (es : List (Key × List Key))
    → earlier_for round s.row.key es ≡ Some s.earlier_choice
    → earlier_choices_in round ts ≡ earlier_rest round s.row.key es
    → earlier_choices_in round (s ∷ ts) ≡ es
earlier_back First s ts es taken left = left
earlier_back Second s ts es taken left = search (rules, put_back)

-- what the rows of students are
abbrev ListsAre : Round → List Student → List StudentRow → List (Key × List Key) → List (Key × Key)
    → List (Key × List Key) → List (Key × Key) → Type 0
ListsAre round ss rs cs ps es qs =
    (map (λ s. s.row) ss ≡ rs) × (choices_in ss ≡ cs) × (pairs_with (λ s. s.placed) ss ≡ ps) × (earlier_choices_in round ss ≡ es)
    × (pairs_with (λ s. s.earlier_placement) ss ≡ qs)

pub students_rows : (round : Round) (rs : List StudentRow) (cs : List (Key × List Key)) (ps : List (Key × Key)) (es : List (Key × List Key))
    (qs : List (Key × Key)) (ss : List Student)
    → students_fitting round rs cs ps es qs ≡ Some ss → ListsAre round ss rs cs ps es qs
students_rows round [] cs ps es qs ss e = search (rules, four_left, no_earlier)
students_rows round (r ∷ rs) cs ps es qs ss e =
    at (next_for r.key cs) (earlier_for round r.key es)
    (students_fitting round rs (rest_for r.key cs) (rest_for r.key ps) (earlier_rest round r.key es) (rest_for r.key qs)) refl refl
    (λ ts f. students_rows round rs (rest_for r.key cs) (rest_for r.key ps) (earlier_rest round r.key es) (rest_for r.key qs) ts f) e
  where
    at : (list earlier : Option (List Key)) (o : Option (List Student)) → next_for r.key cs ≡ list
        → earlier_for round r.key es ≡ earlier
        → ((ts : List Student) → o ≡ Some ts → ListsAre round ts rs (rest_for r.key cs) (rest_for r.key ps) (earlier_rest round r.key es)
        (rest_for r.key qs))
        → with_lists r list (next_for r.key ps) earlier (next_for r.key qs) o ≡ Some ss → ListsAre round ss (r ∷ rs) cs ps es qs
    at None earlier o l m again f = cc
    at (Some list) None o l m again f = cc
    at (Some list) (Some earlier) None l m again f = cc
    at (Some list) (Some earlier) (Some ts) l m again f =
        let rest : ListsAre round ts rs (rest_for r.key cs) (rest_for r.key ps) (earlier_rest round r.key es) (rest_for r.key qs) =
        again ts refl in
        let made : Student = record {
          row = r;
          choice = list;
          placed = next_for r.key ps;
          earlier_choice = earlier;
          earlier_placement = next_for r.key qs;
        } in
        let is_ss : made ∷ ts ≡ ss = cc in (
          ap (map (λ s. s.row)) (sym is_ss) ∙ ap (λ xs. r ∷ xs) rest.0,
          ap choices_in (sym is_ss) ∙ ap (λ xs. (r.key, list) ∷ xs) rest.1
              ∙ ap (λ x. cons_option (option_map (λ v. (r.key, v)) x) (rest_for r.key cs)) (sym l) ∙ put_back r.key cs,
          ap (pairs_with (λ s. s.placed)) (sym is_ss) ∙ ap (cons_option (option_map (λ v. (r.key, v)) (next_for r.key ps))) rest.2
              ∙ put_back r.key ps,
          ap (earlier_choices_in round) (sym is_ss) ∙ earlier_back round made ts es m rest.3,
          ap (pairs_with (λ s. s.earlier_placement)) (sym is_ss)
              ∙ ap (cons_option (option_map (λ v. (r.key, v)) (next_for r.key qs))) rest.4 ∙ put_back r.key qs,
        )

-- one more student is put together
module _ (round : Round) (es more : List Student) (row : StudentRow) (items others : List StudentRow) (cs cs' : List (Key × List Key))
    (ps ps' : List (Key × Key)) (ds ds' : List (Key × List Key)) (qs qs' : List (Key × Key)) (choice : List Key) (placed : Option Key)
    (earlier : List Key) (earlier_placement : Option Key) (all : Option (List Student)) where
  abbrev made_student : Student
  made_student = record { row = row; choice = choice; placed = placed; earlier_choice = earlier; earlier_placement = earlier_placement }

  pub students_step : option_map (λ ss. es ++ ss) (students_fitting round items cs ps ds qs) ≡ all
      → items ≡ row ∷ others → cs' ≡ rest_for row.key cs → ps' ≡ rest_for row.key ps
      → ds' ≡ earlier_rest round row.key ds → qs' ≡ rest_for row.key qs
      → Some choice ≡ next_for row.key cs → placed ≡ next_for row.key ps → Some earlier ≡ earlier_for round row.key ds
      → earlier_placement ≡ next_for row.key qs → more ≡ es ++ made_student ∷ []
      → option_map (λ ss. more ++ ss) (students_fitting round others cs' ps' ds' qs') ≡ all
  students_step so_far is_row is_cs is_ps is_ds is_qs is_choice is_placed is_earlier is_earlier_placement is_more =
      let rest = students_fitting round others (rest_for row.key cs) (rest_for row.key ps) (earlier_rest round row.key ds)
      (rest_for row.key qs) in
      (λ i. option_map (λ ss. is_more i ++ ss) (students_fitting round others (is_cs i) (is_ps i) (is_ds i) (is_qs i)))
      ∙ moved es made_student rest
      ∙ (λ i. option_map (λ ss. es ++ ss) (with_lists row (is_choice i) (is_placed i) (is_earlier i) (is_earlier_placement i) rest))
      ∙ (λ i. option_map (λ ss. es ++ ss) (students_fitting round (sym is_row i) cs ps ds qs))
      ∙ so_far
