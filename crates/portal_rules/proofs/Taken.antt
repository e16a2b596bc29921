-- What is legal is taken.
use Rattle.portal_rules.proofs.Base.{◌≡◌, [], ℕ, ◌+◌, ◌<◌, Bool, true, false, List, ◌∷◌, length, refl, sym, ◌∙◌, ap}
use Rattle.portal_rules.proofs.Base.{subst, arith, map, None, not, ◌||◌, nat_le, list_any, find, AllByRecursion}
use Rattle.portal_rules.proofs.Base.{nat_tests, Key, equals, has, World, student_key, applicants_of, projects_of}
use Rattle.portal_rules.proofs.Base.{is_from_ranking, Listing, Person, lecturer_sees, choice_fault, ranking_fault}
use Rattle.portal_rules.proofs.Base.{RollRules, Took, take_rows, IsChoice, IsRanking, AreFresh}
use Rattle.portal_rules.specs.World as rows
use Rattle.portal_rules.proofs.AllLaws.{all_weaker, any_map, any_alike, is_sym, none_yet}
use Rattle.portal_rules.proofs.Kept.{shown_sets, union_any}
use Rattle.portal_rules.proofs.ListFaults.{choice_taken, ranking_taken}

-- a student's list

pub choice_legal : (catalogue : List Listing) (list : List Key) → IsChoice (map (λ (l : Listing). l.key) catalogue) list
    → choice_fault catalogue list ≡ None
choice_legal catalogue list c =
    choice_taken catalogue list c.few
    (record {
      only = all_weaker _ _ (λ k h. sym (any_map (equals k) (λ (l : Listing). l.key) catalogue
          ∙ any_alike _ _ (λ l. is_sym k l.key) catalogue) ∙ h) list c.known;
      once = c.once;
      new = none_yet list;
    })

-- a lecturer's ranking

lacks_none : (list ks : List Key) → AllByRecursion (λ k. has list k ≡ true) ks
    → list_any (λ k. not (has list k)) ks ≡ false
lacks_none list [] all = refl
lacks_none list (k ∷ ks) all = ap (λ b. not b || list_any (λ k. not (has list k)) ks) all.0 ∙ lacks_none list ks all.1

pub ranking_legal : (w : World) (l : rows.Lecturer) (list : List Key) → is_from_ranking w.phase ≡ true
    → IsRanking (map student_key (applicants_of w l.row.key)) list
    → ranking_fault (lecturer_sees w l).applicants list ≡ None
ranking_legal w l list closed r =
    subst (λ b. ranking_fault (shown_sets w l.row.key b) list ≡ None) (sym closed)
    (ranking_taken (shown_sets w l.row.key true) list
    (record {
      only = all_weaker _ _ (λ k h.
          (any_map (λ (p : Key × List Person). list_any (λ s. equals s.key k) p.1) _ (projects_of w l.row.key)
          ∙ union_any (λ s. equals s k) (projects_of w l.row.key) w.students)
          ∙ sym (any_alike (equals k) (λ s. equals s k) (λ s. is_sym k s) (map student_key (applicants_of w l.row.key))) ∙ h) list r.only;
      once = r.once;
      new = none_yet list;
    })
    (any_map (λ (p : Key × List Person). list_any (λ s. not (has list s.key)) p.1) _ (projects_of w l.row.key)
    ∙ union_any (λ k. not (has list k)) (projects_of w l.row.key) w.students
    ∙ lacks_none list (map student_key (applicants_of w l.row.key)) r.all))

-- rows

none_found : {X : Type 0} (p : X → Bool) (xs : List X) → list_any p xs ≡ false → find p xs ≡ None
none_found p [] e = refl
none_found p (x ∷ xs) e = grind (arith, none_found p xs)

has_room : (limit n : ℕ) → n < limit → nat_le limit n ≡ false
has_room limit n h = grind (arith, nat_tests)

pub rows_taken : {X : Type 0} (roll : RollRules X) (at : ℕ) (there rows : List X) → AreFresh roll there rows
    → take_rows roll at there rows ≡ Took rows 0
rows_taken roll at there [] f = refl
rows_taken roll at there (r ∷ rs) f =
    rw (
      none_found (λ x. equals (roll.key x) (roll.key r)) there f.0,
      f.1,
      has_room roll.limit (length there) f.2,
      rows_taken roll (at + 1) (r ∷ there) rs f.3,
    ) refl
