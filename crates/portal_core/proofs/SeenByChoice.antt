-- Until published, a lecturer learns of lists only which own projects each contains, and of no other ranking.
use Rattle.portal_rules.proofs.Base.{◌≡◌, ◌≢◌, Bool, true, false, cond, List, [], ◌∷◌, refl, sym, ◌∙◌, ap, subst, map, filter}
use Rattle.portal_rules.proofs.Base.{◌&&◌, ◌||◌, is_none, Option, Some, None, option_map, filter_map, find, arith, AllByRecursion}
use Rattle.portal_rules.proofs.Base.{Key, equals, has, World, project_key, is_at, shown_placement}
use Rattle.portal_rules.proofs.Base.{placed_at, applicants_to, projects_of, in_play, is_from_ranking, is_published, lowered_lecturer}
use Rattle.portal_rules.proofs.Base.{OfficeCaller, LecturerCaller, caller, caller_among}
use Rattle.portal_rules.proofs.Base.{lecturer_with, student_with, sight_of, view, catalogue, listings, listing_with, name_in, persons}
use Rattle.portal_rules.proofs.Base.{lecturer_sees, Answer, answer, Request, Wish, Calls, NoCall, Answers, AllAnswered, replies_to, unavailable}
use Rattle.portal_rules.specs.declared.rows.Person.{Person}
use Rattle.portal_rules.specs.declared.rows.ProjectRow.{ProjectRow}
use Rattle.portal_rules.specs.declared.view.View.TheVariants.{Lecturer}
use Rattle.portal_rules.specs.World as rows
use Rattle.portal_rules.proofs.Keys.{is_same, is_own, find_map}
use Rattle.portal_rules.proofs.AllLaws.{all_weaker, kept_filtered}
use Rattle.portal_rules.proofs.InPlay as play
use Rattle.portal_rules.proofs.Unseen.{lecturer_found, person_of}
use Rattle.portal_rules.proofs.Hearing.{really}
use Rattle.portal_core.specs.Unseen.{seen_student, seen_lecturer, seen_by, SameToLecturer}
use Rattle.portal_core.specs.Unseen.{ListsSeenByChoiceAlone}
use Rattle.portal_core.proofs.Purged.{same_both}

-- of a list, only which of these keys it has
has_among : (choice own : List Key) (k : Key) → has (filter (has choice) own) k ≡ (has choice k && has own k)
has_among choice [] k = grind arith
has_among choice (x ∷ own) k = grind (arith, has_among choice own k, is_same k x)

-- the keys of a list's rows are among its keys
own_there : (ps : List ProjectRow) → AllByRecursion (λ p. has (map project_key ps) p.key ≡ true) ps
own_there [] = tt
own_there (p ∷ ps) = (
  ap (λ b. b || has (map project_key ps) p.key) (is_own p.key),
  all_weaker _ _ (λ q h. grind (arith, h)) ps (own_there ps),
)

map_on : {Y : Type 0} (f g : ProjectRow → Y) (ps : List ProjectRow) → AllByRecursion (λ p. f p ≡ g p) ps → map f ps ≡ map g ps
map_on f g [] all = refl
map_on f g (p ∷ ps) all = λ i. all.0 i ∷ map_on f g ps all.1 i

module _ (key : Key) (w : World) where
  abbrev own : List Key
  own = map project_key (projects_of w key)

  abbrev fl : rows.Lecturer → rows.Lecturer
  fl = seen_lecturer key

  abbrev fs : rows.Student → rows.Student
  fs = seen_student own

  row_kept : (l : rows.Lecturer) → (fl l).row ≡ l.row
  row_kept l = elim (equals l.row.key key) as
      (λ b. (cond b l (record l { ranking = None; earlier_ranking = None })).row ≡ l.row) [ true ↦ refl | false ↦ refl ]

  lowers : (ps : List ProjectRow) (ss : List rows.Student) (l : rows.Lecturer)
      → lowered_lecturer ps ss (fl l) ≡ fl (lowered_lecturer ps ss l)
  lowers ps ss l =
      elim (equals l.row.key key) as (λ b. lowered_lecturer ps ss (cond b l (record l { ranking = None; earlier_ranking = None }))
      ≡ cond b (lowered_lecturer ps ss l) (record
      (lowered_lecturer ps ss l) { ranking = None; earlier_ranking = None })) [ true ↦ refl | false ↦ refl ]

  named : (o : Option rows.Lecturer) → option_map (λ (l : rows.Lecturer). l.row.name) (option_map fl o)
      ≡ option_map (λ (l : rows.Lecturer). l.row.name) o
  named None = refl
  named (Some l) = ap (λ r. Some r.name) (row_kept l)

  names : (ls : List rows.Lecturer) (k : Key) → name_in (map fl ls) k ≡ name_in ls k
  names ls k =
      ap (option_map (λ (l : rows.Lecturer). l.row.name))
      (find_map fl (λ l. equals l.row.key k) (λ l. equals l.row.key k) (λ l. ap (λ r. equals r.key k) (row_kept l)) ls)
      ∙ named (find (λ l. equals l.row.key k) ls)

  catalogue_seen : catalogue (seen_by key w) ≡ catalogue w
  catalogue_seen =
      (λ i. listings (play.lecturers_kept fs (λ s. refl) w.round (map fl w.lecturers) w.projects w.students i)
      (play.projects_kept fs (λ s. refl) w.round (map fl w.lecturers) w.projects w.students i))
      ∙ (λ i. listings (play.lecturers_of fl row_kept lowers w.round w.lecturers w.projects w.students i)
      (play.projects_of fl row_kept lowers w.round w.lecturers w.projects w.students i))
      ∙ λ i. filter_map (λ p. option_map (listing_with p) (names (in_play w).lecturers p.lecturer i)) (in_play w).projects

  module _ (l : rows.Lecturer) (mine : l.row.key ≡ key) (early : is_published w.phase ≡ false) where
    fixed : fl l ≡ l
    fixed = ap (λ b. cond b l (record l { ranking = None; earlier_ranking = None })) (ap (λ k. equals k key) mine ∙ is_own key)

    applied : AllByRecursion (λ p. persons (applicants_to (seen_by key w) p.key) ≡ persons (applicants_to w p.key)) (projects_of w key)
    applied = all_weaker _ _ (λ p there. kept_filtered person_of fs (λ s. has s.choice p.key) (λ s. refl)
        (λ s. has_among s.choice own p.key ∙ only (has s.choice p.key) (has own p.key) there) w.students) (projects_of w key)
        (own_there (projects_of w key))
      where
        only : (a b : Bool) → b ≡ true → (a && b) ≡ a
        only a b e = grind arith

    shown : (s : rows.Student) → shown_placement w.phase (fs s) ≡ shown_placement w.phase s
    shown s =
        (λ i. cond (is_none s.earlier_placement) (cond (early i) None None) s.earlier_placement)
        ∙ sym (λ i. cond (is_none s.earlier_placement) (cond (early i) s.placed None) s.earlier_placement)

    placed_seen : (p : Key) → persons (placed_at (seen_by key w) p) ≡ persons (placed_at w p)
    placed_seen p = kept_filtered person_of fs (λ s. is_at p (shown_placement w.phase s)) (λ s. refl)
        (λ s. ap (is_at p) (shown s)) w.students

    applicants_seen : (lecturer_sees (seen_by key w) l).applicants ≡ (lecturer_sees w l).applicants
    applicants_seen =
        subst (λ k. map {B = Key × List Person} (λ p.
        (p.key, cond (is_from_ranking w.phase) (persons (applicants_to (seen_by key w) p.key)) [])) (projects_of w k)
        ≡ map {B = Key × List Person} (λ p. (p.key, cond (is_from_ranking w.phase) (persons (applicants_to w p.key)) [])) (projects_of w k))
        (sym mine)
        (map_on {Y = Key × List Person} _ _ (projects_of w key)
        (all_weaker _ _ (λ p e i. (p.key, cond (is_from_ranking w.phase) (e i) [])) (projects_of w key) applied))

    lecturer_seen : lecturer_sees (seen_by key w) l ≡ lecturer_sees w l
    lecturer_seen = λ i. record (lecturer_sees w l) {
      catalogue = catalogue_seen i;
      applicants = applicants_seen i;
      placed = map (λ p. (p.key, placed_seen p.key i)) (projects_of w l.row.key);
    }

    view_seen : (c : Key) → caller w c ≡ LecturerCaller l → view (seen_by key w) c ≡ view w c
    view_seen c is =
        let found : lecturer_with (seen_by key w) c ≡ Some l
        = find_map fl (λ l. equals l.row.code c) (λ l. equals l.row.code c) (λ l. ap (λ r. equals r.code c) (row_kept l)) w.lecturers
        ∙ ap (option_map fl) (lecturer_found w c l is) ∙ ap Some fixed in
        let office : equals w.office c ≡ false = not_office (equals w.office c) refl in
        (λ i. sight_of (seen_by key w) (cond (office i) OfficeCaller (caller_among (found i) (student_with (seen_by key w) c))))
        ∙ ap Lecturer lecturer_seen ∙ sym (ap (sight_of w) is)
      where
        not_office : (b : Bool) → equals w.office c ≡ b → b ≡ false
        not_office true e = let clash : OfficeCaller
            ≡ LecturerCaller l = sym (ap (λ b. cond b OfficeCaller (caller_among (lecturer_with w c) (student_with w c))) e) ∙ is in cc
        not_office false e = refl

same_view : (c key : Key) (v w : World) → SameToLecturer c key v w → view v c ≡ view w c
same_view c key v w s =
    let early : is_published w.phase ≡ false = ap (λ (x : World). is_published x.phase) (sym s.same) ∙ s.early in
    sym (view_seen key v s.one.0 s.one.2 s.early c s.one.1) ∙ ap (λ x. view x c) s.same
    ∙ view_seen key w s.other.0 s.other.2 early c s.other.1

-- replies

replied : (c : Key) (v w v' w' : World) (r : Request) (wish : Wish) (a b : Answer) → r.code ≡ c → view v c ≡ view w c
    → Answers v r wish a v' → Answers w r wish b w' → a ≡ b
replied c v w v' w' r (Calls ask) a b mine same s t = s.told ∙ (λ i. answer (view v (mine i)) ask) ∙ ap (λ x. answer x ask) same
    ∙ sym (λ i. answer (view w (mine i)) ask) ∙ sym t.told
replied c v w v' w' r (NoCall refusal) a b mine same s t = s.0 ∙ sym t.0

-- no reply to the caller is 503: neither this one, if it is the caller's, nor another
split : (own : Bool) (a : Answer) (rest : List Answer) → AllAnswered (cond own (a ∷ rest) rest)
    → (own ≡ true → a ≢ unavailable) × AllAnswered rest
split true a rest all = (λ own. all.0, all.1)
split false a rest all = (λ own failed. cc, all)

pub lists_seen : ListsSeenByChoiceAlone
lists_seen c key v w [] [] [] [] [] [] worlds requests run all run' all' = refl
lists_seen c key v w (q ∷ qs) (r ∷ rs) (a ∷ told) (b ∷ said) (v' ∷ after) (w' ∷ later) worlds requests run all run' all' =
    let first = split (equals q.code c) a (replies_to c qs told) all in
    let second = split (equals r.code c) b (replies_to c rs said) all' in
    let rest : replies_to c qs told ≡ replies_to c rs said =
    lists_seen c key v' w' qs rs told said after later worlds.1 requests.1 run.1 first.1 run'.1 second.1 in
    let same : equals q.code c ≡ true → a ≡ b
    = λ own. replied c v w v' w' q q.wish a b (is_same q.code c own) (same_view c key v w worlds.0) (really v v' q a run.0 (first.0 own))
    (subst (λ (x : Request). Answers w x x.wish b w') (sym (requests.0.1 own))
    (really w w' r b run'.0 (second.0 (sym requests.0.0 ∙ own)))) in
    same_both (equals q.code c) a b (replies_to c qs told) (replies_to c rs said) same rest
    ∙ ap (λ x. cond x (b ∷ replies_to c rs said) (replies_to c rs said)) requests.0.0
lists_seen c key v w asked others told said after later worlds requests run all run' all' = grind arith
