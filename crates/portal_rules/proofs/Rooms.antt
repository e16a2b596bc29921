-- What the pairs of the first round's result leave is what the world's students leave.
use Rattle.portal_rules.proofs.Base.{◌≡◌, ℕ, ◌-◌, Bool, false, cond, List, [], ◌∷◌, map, length, refl, sym, ◌∙◌, filter}
use Rattle.portal_rules.proofs.Base.{count_by, nat_lt, ◌&&◌, Option, Some, None, option_map, list_any, filter_map}
use Rattle.portal_rules.proofs.Base.{length-filter, Key, equals, has, is_at, project_key, given_to, given_with}
use Rattle.portal_rules.proofs.Base.{lowered_project, students_at, pairs_among, own_keys, LecturerRow, ProjectRow}
use Rattle.portal_rules.proofs.Base.{arith, pairs_with, project_left, lecturer_left}
use Rattle.portal_rules.specs.World.{Student}
use Rattle.portal_rules.proofs.InPlay.{given_none}
use Rattle.portal_rules.proofs.AllLaws.{any_map, filtered_any}

-- the project passes, if there is one
abbrev passes : (Key → Bool) → Option Key → Bool
passes q None = false
passes q (Some k) = q k

module _ (q : Key → Bool) (place : Student → Option Key) where
  as_many : (ss : List Student)
      → length (filter (λ (x : Key × Key). q x.1) (pairs_with place ss)) ≡ length (filter (λ s. passes q (place s)) ss)
  as_many [] = refl
  as_many (s ∷ ss) = grind (arith, as_many ss)

  counted : (ss : List Student)
      → count_by (λ (x : Key × Key). q x.1) (pairs_with place ss) ≡ count_by (λ s. passes q (place s)) ss
  counted ss = sym (length-filter (λ (x : Key × Key). q x.1) (pairs_with place ss)) ∙ as_many ss
      ∙ length-filter (λ s. passes q (place s)) ss

at_it : (p : Key) (o : Option Key) → passes (λ k. equals k p) o ≡ is_at p o
at_it p o = grind arith

at_one : (ps : List ProjectRow) (l : Key) (o : Option Key)
    → passes (has (own_keys ps l)) o ≡ list_any (λ p. equals p.lecturer l && is_at p.key o) ps
at_one ps l None = sym (given_none ps l)
at_one ps l (Some k) = any_map (equals k) project_key (filter (λ p. equals p.lecturer l) ps)
    ∙ filtered_any (λ p. equals k p.key) (λ p. equals p.lecturer l) ps

module _ (ss : List Student) where
  abbrev pairs : List (Key × Key)
  pairs = pairs_with (λ s. s.earlier_placement) ss

  to_is : (p : Key) → students_at pairs p ≡ given_to ss p
  to_is p = counted (λ k. equals k p) (λ s. s.earlier_placement) ss ∙ (λ i. count_by (λ s. at_it p s.earlier_placement i) ss)

  among_is : (ps : List ProjectRow) (l : Key) → pairs_among pairs (own_keys ps l) ≡ given_with ps ss l
  among_is ps l = counted (has (own_keys ps l)) (λ s. s.earlier_placement) ss ∙ (λ i. count_by (λ s. at_one ps l s.earlier_placement i) ss)

  room_case : {X : Type 0} (f : ℕ → X) (n : ℕ)
      → option_map f (cond (nat_lt 0 n) (Some n) None) ≡ cond (nat_lt 0 n) (Some (f n)) None
  room_case f n = grind arith

  pub project_left_is : (p : ProjectRow)
      → project_left pairs p ≡ cond (nat_lt 0 (lowered_project ss p).capacity) (Some (lowered_project ss p)) None
  project_left_is p = room_case (λ n. record p { capacity = n }) (p.capacity - students_at pairs p.key)
      ∙ (λ i. cond (nat_lt 0 (p.capacity - to_is p.key i)) (Some (record p { capacity = p.capacity - to_is p.key i })) None)

  pub lecturer_left_is : (ps : List ProjectRow) (l : LecturerRow) → lecturer_left ps pairs l
      ≡ cond (nat_lt 0 (l.capacity - given_with ps ss l.key)) (Some (record l { capacity = l.capacity - given_with ps ss l.key })) None
  lecturer_left_is ps l =
      room_case (λ n. record l { capacity = n }) (l.capacity - pairs_among pairs (own_keys ps l.key))
      ∙ (λ i. cond (nat_lt 0 (l.capacity - among_is ps l.key i)) (Some (record l { capacity = l.capacity - among_is ps l.key i })) None)

-- what is left of each, where there is something left
pub each_left : {X Y : Type 0} (h : X → Option Y) (q : Y → Bool) (f : X → Y)
    → ((x : X) → h x ≡ cond (q (f x)) (Some (f x)) None) → (xs : List X) → filter_map h xs ≡ filter q (map f xs)
each_left h q f each [] = refl
each_left h q f each (x ∷ xs) = grind (arith, each x, each_left h q f each xs)
