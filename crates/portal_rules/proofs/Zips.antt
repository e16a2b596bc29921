-- Lemmas on two lists whose elements are alike place by place.
use Rattle.portal_rules.proofs.Base.{◌≡◌, Bool, List, [], ◌∷◌, arith, refl, sym, ◌∙◌, ap, map, filter, count_by}
use Rattle.portal_rules.proofs.Base.{count_by-map, list_any, is_none, ◌&&◌, Option, AllZip, Key, equals, is_at, is_left}
use Rattle.portal_rules.proofs.Base.{students_in, lecturers_in, projects_in, Round, First, Second, ProjectRow}
use Rattle.portal_rules.specs.World.{Lecturer, Student}
use Rattle.portal_rules.proofs.InPlay.{lecturers_given, projects_given}

-- by recursion on both
pub zip_by : {X : Type 0} (R : X → X → Type 0) (P : List X → List X → Type 0) → P [] []
    → ((x y : X) (xs ys : List X) → R x y → P xs ys → P (x ∷ xs) (y ∷ ys)) → (xs ys : List X) → AllZip R xs ys → P xs ys
zip_by R P none more [] [] z = none
zip_by R P none more (x ∷ xs) (y ∷ ys) z = more x y xs ys z.0 (zip_by R P none more xs ys z.1)
zip_by R P none more xs ys z = grind arith

module _ {X : Type 0} (R : X → X → Type 0) where
  pub zip_same : {Y : Type 0} (f : X → Y) → ((x y : X) → R x y → f y ≡ f x) → (xs ys : List X) → AllZip R xs ys
      → map f ys ≡ map f xs
  zip_same f same = zip_by R (λ xs ys. map f ys ≡ map f xs) refl (λ x y xs ys r e i. same x y r i ∷ e i)

  pub zip_mapped : (f g : X → X) → ((x y : X) → R x y → R (f x) (g y)) → (xs ys : List X) → AllZip R xs ys
      → AllZip R (map f xs) (map g ys)
  zip_mapped f g same = zip_by R (λ xs ys. AllZip R (map f xs) (map g ys)) tt (λ x y xs ys r z. (same x y r, z))

  pub zip_kept : (q : X → Bool) → ((x y : X) → R x y → q y ≡ q x) → (xs ys : List X) → AllZip R xs ys
      → AllZip R (filter q xs) (filter q ys)
  zip_kept q same [] [] z = tt
  zip_kept q same (x ∷ xs) (y ∷ ys) z = grind (arith, same x y z.0, zip_kept q same xs ys z.1)
  zip_kept q same xs ys z = grind arith

-- students who have the same place of the first round
module _ (R : Student → Student → Type 0) (same : (s t : Student) → R s t → t.earlier_placement ≡ s.earlier_placement) where
  pub zip_in : (r : Round) (ss ts : List Student) → AllZip R ss ts → AllZip R (students_in r ss) (students_in r ts)
  zip_in First ss ts z = z
  zip_in Second ss ts z = zip_kept R is_left (λ s t r. ap is_none (same s t r)) ss ts z

  module _ (ss ts : List Student) (z : AllZip R ss ts) where
    count_same : (q : Option Key → Bool)
        → count_by (λ (s : Student). q s.earlier_placement) ts ≡ count_by (λ s. q s.earlier_placement) ss
    count_same q = sym (count_by-map q (λ (s : Student). s.earlier_placement) ts)
        ∙ ap (count_by q) (zip_same R (λ s. s.earlier_placement) same ss ts z) ∙ count_by-map q (λ (s : Student). s.earlier_placement) ss

    pub zip_lecturers : (r : Round) (ls : List Lecturer) (ps : List ProjectRow)
        → lecturers_in r ls ps ts ≡ lecturers_in r ls ps ss
    zip_lecturers = lecturers_given ts ss (λ p. count_same (is_at p))
        (λ ps l. count_same (λ o. list_any (λ p. equals p.lecturer l && is_at p.key o) ps))

    pub zip_projects : (r : Round) (ls : List Lecturer) (ps : List ProjectRow)
        → projects_in r ls ps ts ≡ projects_in r ls ps ss
    zip_projects = projects_given ts ss (λ p. count_same (is_at p))
        (λ ps l. count_same (λ o. list_any (λ p. equals p.lecturer l && is_at p.key o) ps))
