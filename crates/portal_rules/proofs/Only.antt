-- A step has one reply and one end, since there is one best matching; and so has a run.
use Rattle.portal_rules.proofs.Base.{◌≡◌, ℕ, zero, suc, ◌<◌, ◌≤◌, true, false, cond, List, [], ◌∷◌, map, length, get_or}
use Rattle.portal_rules.proofs.Base.{refl, sym, ◌∙◌, ap, subst, arith, Contains, Option, Some, None, option_map}
use Rattle.portal_rules.proofs.Base.{AllByRecursion, eq-eqb, nat_tests, length-map, IsBest, IsMatching, IsOn}
use Rattle.portal_rules.proofs.Base.{project_of, is_project, at_project, number_in, number_is, number_known, Key}
use Rattle.portal_rules.proofs.Base.{equals, has, World, in_play, project_key, is_left, students_in, Round, First}
use Rattle.portal_rules.proofs.Base.{Second, Placements, placement_in, with_place, changed, instance, matching_of}
use Rattle.portal_rules.proofs.Base.{places_of, project_keys, view, AbstractCall, Answer, Act, Nothing, Apply, Publish}
use Rattle.portal_rules.proofs.Base.{Render, decision, ProjectRow, IsChoice, StepLeaves, Step, Wish, Calls, NoCall}
use Rattle.portal_rules.proofs.Base.{Request, Answers, Run, AllAnswered, Any-from_list_any}
use Rattle.spa_model.proofs.Counts.{one_if, count_by-cons}
use Rattle.spa_model.proofs.OneOnly.{best_is_one}
use Rattle.portal_rules.specs.World as rows
use Rattle.portal_rules.proofs.Keys.{is_same}
use Rattle.portal_rules.proofs.InPlay.{play_placed}
use Rattle.portal_rules.proofs.Hearing.{really}

pub has_contains : (ks : List Key) (c : Key) → has ks c ≡ true → Contains ks c
has_contains ks c h =
    let at = Any-from_list_any (equals c) ks h in
    subst (Contains ks) (sym (is_same c at.1 at.4)) (at.0, at.2, at.3)

module _ (keys : List Key) where
  -- what a list of known keys holds is a number of the roll
  on_list : (choice : List Key) → AllByRecursion (λ p. has keys p ≡ true) choice → (n : ℕ)
      → IsOn (map (number_in keys) choice) n → n < length keys
  on_list [] known n on = absurd (omega (arith, on))
  on_list (c ∷ cs) known n on = grind (arith, nat_tests, number_known keys c (has_contains keys c known.0), on_list cs known.1 n)

  pub on_roll : (ss : List rows.Student) → AllByRecursion (λ s. IsChoice keys s.choice) ss → (s n : ℕ)
      → IsOn (get_or (map (λ (s : rows.Student). map (number_in keys) s.choice) ss) s []) n → n < length keys
  on_roll [] all s n on = absurd (omega (arith, on))
  on_roll (x ∷ ss) all zero n on = on_list x.choice all.0.known n on
  on_roll (x ∷ ss) all (suc s) n on = on_roll ss all.1 s n on

  abbrev number_of : rows.Student → Option ℕ
  number_of s = option_map (number_in keys) s.placed

  same_key : (a b : Option Key) → option_map (number_in keys) a ≡ option_map (number_in keys) b
      → ((n : ℕ) → option_map (number_in keys) a ≡ Some n → n < length keys) → a ≡ b
  same_key (Some a) (Some b) e low =
      let number : number_in keys a ≡ number_in keys b = cc in
      let here : number_in keys a < length keys = low (number_in keys a) refl in
      ap Some (sym (number_is keys a here) ∙ ap (λ n. get_or keys n []) number
      ∙ number_is keys b (subst (λ n. n < length keys) number here))
  same_key a b e low = grind arith

  same_places : (p q : List (Key × Key)) (ss : List rows.Student)
      → map number_of (map (with_place p) ss) ≡ map number_of (map (with_place q) ss)
      → ((s n : ℕ) → get_or (map number_of (map (with_place p) ss)) s None ≡ Some n → n < length keys)
      → map (with_place p) ss ≡ map (with_place q) ss
  same_places p q [] e low = refl
  same_places p q (x ∷ ss) e low =
      let here : number_of (with_place p x) ≡ number_of (with_place q x) = cc in
      let rest : map number_of (map (with_place p) ss) ≡ map number_of (map (with_place q) ss) = cc in
      let one : with_place p x ≡ with_place q x
      = (elim (is_left x) as (λ b. number_of (cond b (record x { placed = placement_in p x.row.key }) x)
      ≡ number_of (cond b (record x { placed = placement_in q x.row.key }) x)
      → ((n : ℕ) → number_of (cond b (record x { placed = placement_in p x.row.key }) x) ≡ Some n → n < length keys)
      → cond b (record x { placed = placement_in p x.row.key }) x ≡ cond b (record x { placed = placement_in q x.row.key }) x) [
        | true ↦ λ e below. ap (λ o. record x { placed = o }) (same_key (placement_in p x.row.key) (placement_in q x.row.key) e below)
        | false ↦ λ e below. refl
      ]) here (λ n f. low 0 n f) in
      λ i. one i ∷ same_places p q ss rest (λ s n f. low (suc s) n f) i

-- those who stay out of the round keep their place
in_whole : (r : Round) (p q : List (Key × Key)) (ss : List rows.Student)
    → map (with_place p) (students_in r ss) ≡ map (with_place q) (students_in r ss)
    → map (with_place p) ss ≡ map (with_place q) ss
in_whole First p q ss e = e
in_whole Second p q [] e = refl
in_whole Second p q (x ∷ ss) e = grind (arith, in_whole Second p q ss)

-- who has a project is counted there, so that it has room, and is one of the roll

counted : (m : List (Option ℕ)) (s n : ℕ) → project_of m s ≡ Some n → 1 ≤ at_project m n
counted [] s n e = cc
counted (o ∷ m) zero n e =
    let here : is_project n o ≡ true = ap (is_project n) e ∙ eq-eqb n n refl in
    omega (arith, count_by-cons (is_project n) o m, ap one_if here)
counted (o ∷ m) (suc s) n e = omega (arith, count_by-cons (is_project n) o m, counted m s n e)

with_room : (ns : List ℕ) (n : ℕ) → 1 ≤ get_or ns n 0 → n < length ns
with_room [] n h = absurd (omega (arith, h))
with_room (x ∷ ns) zero h = omega arith
with_room (x ∷ ns) (suc n) h = let rest : n < length ns = with_room ns n h in omega arith

placed_known : (w : World) (m : List (Option ℕ)) → IsMatching (instance w) m → (s n : ℕ) → project_of m s ≡ Some n
    → n < length (project_keys (in_play w))
placed_known w m matching s n e =
    let low : n < length (map (λ (p : ProjectRow). p.capacity) (in_play w).projects) =
    with_room _ n (omega (arith, counted m s n e, matching.projects n)) in
    omega (arith, low, length-map (in_play w).projects (λ (p : ProjectRow). p.capacity), length-map (in_play w).projects project_key)

published_once : (w : World) (p q : List (Key × Key)) → IsBest (instance w) (matching_of (changed w (Placements p)))
    → IsBest (instance w) (matching_of (changed w (Placements q))) → changed w (Placements p) ≡ changed w (Placements q)
published_once w p q a b =
    let one : IsBest (instance w) (places_of (changed (in_play w) (Placements p))) =
    subst (λ u. IsBest (instance w) (places_of u)) (play_placed w p) a in
    let other : IsBest (instance w) (places_of (changed (in_play w) (Placements q))) =
    subst (λ u. IsBest (instance w) (places_of u)) (play_placed w q) b in
    ap (λ ss. record (changed w (Placements p)) { students = ss })
    (in_whole w.round p q w.students
    (same_places (project_keys (in_play w)) p q (in_play w).students (best_is_one (instance w) _ _ one other)
    (placed_known w _ one.stable.matching)))

one_end : (w v u : World) (a : Act) → StepLeaves w a v → StepLeaves w a u → v ≡ u
one_end w v u Nothing l m = l ∙ sym m
one_end w v u (Apply change) l m = l ∙ sym m
one_end w v u (Render sheet) l m = l ∙ sym m
one_end w v u Publish l m =
    l.1
    ∙ published_once w l.0 m.0 (subst (λ x. IsBest (instance w) (matching_of x)) l.1 l.2)
    (subst (λ x. IsBest (instance w) (matching_of x)) m.1 m.2)
    ∙ sym m.1

pub step_once : (w v u : World) (code : Key) (ask : AbstractCall) (a b : Answer) → Step w code ask a v
    → Step w code ask b u → (a ≡ b) × (v ≡ u)
step_once w v u code ask a b s t = (s.told ∙ sym t.told, one_end w v u (decision (view w code) ask).act s.left t.left)

-- one request, and a run

answered_once : (w v u : World) (r : Request) (wish : Wish) (a b : Answer) → Answers w r wish a v → Answers w r wish b u
    → (a ≡ b) × (v ≡ u)
answered_once w v u r (Calls ask) a b s t = step_once w v u r.code ask a b s t
answered_once w v u r (NoCall refusal) a b s t = (s.0 ∙ sym t.0, s.1 ∙ sym t.1)

pub one_run : (w : World) (asked : List Request) (told said : List Answer) (after later : List World)
    → Run w asked told after → AllAnswered told → Run w asked said later → AllAnswered said → (told ≡ said) × (after ≡ later)
one_run w [] [] [] [] [] run all other all' = (refl, refl)
one_run w (r ∷ rs) (a ∷ told) (b ∷ said) (v ∷ after) (u ∷ later) run all other all' =
    let here : (a ≡ b) × (v ≡ u) = answered_once w v u r r.wish a b (really w v r a run.0 all.0) (really w u r b other.0 all'.0) in
    let rest : (told ≡ said) × (after ≡ later) =
    one_run v rs told said after later run.1 all.1 (subst (λ x. Run x rs said later) (sym here.1) other.1) all'.1 in
    (λ i. here.0 i ∷ rest.0 i, λ i. here.1 i ∷ rest.1 i)
one_run w asked told said after later run all other all' = grind arith
