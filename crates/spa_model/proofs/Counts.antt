-- Lemmas on how many students a project or a lecturer has.
use Rattle.spa_model.proofs.Base.{◌≡◌, ◌≢◌, inl, inr, ℕ, zero, suc, ◌+◌, ◌<◌, ◌≤◌, Bool, true, false, eqb, cond, List}
use Rattle.spa_model.proofs.Base.{[], ◌∷◌, length, refl, sym, ◌∙◌, ap, arith, get_or, set, Option, Some, None, count_by}
use Rattle.spa_model.proofs.Base.{sum_by-cons, eq-eqb, ne_eqb, cases_lt, Spa, is_project, is_lecturer, at_project}
use Rattle.spa_model.proofs.Base.{at_lecturer, project_of, lecturer_of, sum_by-set}

-- 1 where the test holds
abbrev pub one_if : Bool → ℕ
one_if b = cond b 1 0

-- a test that fails is false
pub off_project : (p : ℕ) (o : Option ℕ) → (o ≡ Some p → ⊥) → is_project p o ≡ false
off_project p None off = refl
off_project p (Some q) off = ne_eqb q p (λ same. off (ap Some same))

-- a count after a write
pub count_by-set : (p : Option ℕ → Bool) (m : List (Option ℕ)) (s : ℕ) (v : Option ℕ) → s < length m
    → count_by p (set m s v) + one_if (p (get_or m s None)) ≡ count_by p m + one_if (p v)
count_by-set p m s v h = sum_by-set (λ x. cond (p x) 1 0) m s v None h

pub count_by-cons : (p : Option ℕ → Bool) (o : Option ℕ) (m : List (Option ℕ))
    → count_by p (o ∷ m) ≡ one_if (p o) + count_by p m
count_by-cons p o m = sum_by-cons (λ x. cond (p x) 1 0) o m

-- a count of what nobody has
pub count_by-none : (p : Option ℕ → Bool) (m : List (Option ℕ)) → ((s : ℕ) → p (get_or m s None) ≡ false)
    → count_by p m ≡ 0
count_by-none p [] h = refl
count_by-none p (o ∷ m) h = omega (arith, count_by-cons p o m, ap one_if (h 0), count_by-none p m (λ s. h (suc s)))

pub one_le : (a b : Bool) → (a ≡ true → b ≡ true) → one_if a ≤ one_if b
one_le true true f = omega arith
one_le true false f = let wrong = f refl in cc
one_le false b f = omega arith

-- where each that counts in m counts in n, m has no more
pub count_by-le : (p : Option ℕ → Bool) (m n : List (Option ℕ)) → length m ≡ length n
    → ((s : ℕ) → p (get_or m s None) ≡ true → p (get_or n s None) ≡ true) → count_by p m ≤ count_by p n
count_by-le p [] [] e h = omega arith
count_by-le p [] (y ∷ n) e h = absurd (omega arith)
count_by-le p (x ∷ m) [] e h = absurd (omega arith)
count_by-le p (x ∷ m) (y ∷ n) e h =
    omega (arith, count_by-cons p x m, count_by-cons p y n, one_le (p x) (p y) (h 0), count_by-le p m n (omega arith) (λ s. h (suc s)))

-- where each that counts in m counts in n, and one more counts in n, m has fewer
pub count_by-lt : (p : Option ℕ → Bool) (m n : List (Option ℕ)) (j : ℕ) → length m ≡ length n
    → ((s : ℕ) → p (get_or m s None) ≡ true → p (get_or n s None) ≡ true) → j < length n → p (get_or m j None) ≡ false
    → p (get_or n j None) ≡ true → count_by p m + 1 ≤ count_by p n
count_by-lt p m [] j e h l off on = absurd (omega arith)
count_by-lt p [] (y ∷ n) j e h l off on = absurd (omega arith)
count_by-lt p (x ∷ m) (y ∷ n) zero e h l off on =
    omega (arith, count_by-cons p x m, count_by-cons p y n, ap one_if off, ap one_if on, count_by-le p m n (omega arith) (λ s. h (suc s)))
count_by-lt p (x ∷ m) (y ∷ n) (suc j) e h l off on =
    omega (
      arith,
      count_by-cons p x m,
      count_by-cons p y n,
      one_le (p x) (p y) (h 0),
      count_by-lt p m n j (omega arith) (λ s. h (suc s)) (omega arith) off on,
    )

-- the sum of f at each number below n
abbrev pub sum_below : (ℕ → ℕ) → ℕ → ℕ
sum_below f zero = 0
sum_below f (suc n) = sum_below f n + f n

pub sum_below-le : (f g : ℕ → ℕ) (n : ℕ) → ((k : ℕ) → f k ≤ g k) → sum_below f n ≤ sum_below g n
sum_below-le f g zero h = omega arith
sum_below-le f g (suc n) h = omega (arith, sum_below-le f g n h, h n)

pub sum_below-lt : (f g : ℕ → ℕ) (n j : ℕ) → ((k : ℕ) → f k ≤ g k) → j < n → f j + 1 ≤ g j
    → sum_below f n + 1 ≤ sum_below g n
sum_below-lt f g zero j h l s = absurd (omega arith)
sum_below-lt f g (suc n) j h l s = elim (cases_lt j n) [
  | inl i ↦ omega (arith, sum_below-lt f g n j h i s, h n)
  | inr i ↦ let same : j ≡ n = omega arith in omega (arith, sum_below-le f g n h, rw same at s)
]

pub sum_below-add : (f g : ℕ → ℕ) (n : ℕ) → sum_below (λ k. f k + g k) n ≡ sum_below f n + sum_below g n
sum_below-add f g zero = refl
sum_below-add f g (suc n) = omega (arith, sum_below-add f g n)

pub sum_below-zero : (f : ℕ → ℕ) (n : ℕ) → ((k : ℕ) → k < n → f k ≡ 0) → sum_below f n ≡ 0
sum_below-zero f zero h = refl
sum_below-zero f (suc n) h = omega (arith, sum_below-zero f n (λ k l. h k (omega arith)), h n (omega arith))

pub sum_below-same : (f g : ℕ → ℕ) (n : ℕ) → ((k : ℕ) → f k ≡ g k) → sum_below f n ≡ sum_below g n
sum_below-same f g zero h = refl
sum_below-same f g (suc n) h = omega (arith, sum_below-same f g n h, h n)

-- a sum with one term that is not 0
pub sum_below-one : (f : ℕ → ℕ) (n j : ℕ) → ((k : ℕ) → k ≢ j → f k ≡ 0) → j < n → sum_below f n ≡ f j
sum_below-one f zero j h l = absurd (omega arith)
sum_below-one f (suc n) j h l = elim (cases_lt j n) [
  | inl i ↦ omega (arith, sum_below-one f n j h i, h n (omega arith))
  | inr i ↦ let same : j ≡ n = omega arith in
      omega (arith, sum_below-zero f n (λ k l. h k (omega arith)), ap f same)
]

-- what a project adds to its lecturer's number
abbrev pub share : Spa → List (Option ℕ) → ℕ → ℕ → ℕ
share i m l p = cond (eqb (lecturer_of i p) l) (at_project m p) 0

cond_zero : (b : Bool) → cond {A = ℕ} b 0 0 ≡ 0
cond_zero true = refl
cond_zero false = refl

-- one student adds to one project
one_share : (i : Spa) (l n : ℕ) (o : Option ℕ) → ((q : ℕ) → o ≡ Some q → q < n)
    → sum_below (λ p. cond (eqb (lecturer_of i p) l) (one_if (is_project p o)) 0) n ≡ one_if (is_lecturer i l o)
one_share i l n None h = sum_below-zero _ n (λ k _. cond_zero (eqb (lecturer_of i k) l))
one_share i l n (Some q) h =
    let one : sum_below (λ p. cond (eqb (lecturer_of i p) l) (one_if (eqb q p)) 0) n ≡ cond (eqb (lecturer_of i q) l) (one_if (eqb q q)) 0 =
    sum_below-one (λ p. cond (eqb (lecturer_of i p) l) (one_if (eqb q p)) 0) n q
    (λ k ne. rw (ne_eqb q k (λ e. ne (sym e))) (cond_zero (eqb (lecturer_of i k) l))) (h q refl) in
    one ∙ ap (λ b. cond (eqb (lecturer_of i q) l) (one_if b) 0) (eq-eqb q q refl)

cond_add : (b : Bool) (x y z : ℕ) → x ≡ y + z → cond b x 0 ≡ cond b y 0 + cond b z 0
cond_add true x y z e = e
cond_add false x y z e = refl

-- a lecturer has the students of the own projects together
pub at_lecturer-sum : (i : Spa) (l n : ℕ) (m : List (Option ℕ)) → ((s q : ℕ) → project_of m s ≡ Some q → q < n)
    → at_lecturer i m l ≡ sum_below (share i m l) n
at_lecturer-sum i l n [] h = sym (sum_below-zero _ n (λ k _. cond_zero (eqb (lecturer_of i k) l)))
at_lecturer-sum i l n (o ∷ m) h =
    let first : ℕ → ℕ = λ p. cond (eqb (lecturer_of i p) l) (one_if (is_project p o)) 0 in
    let split : sum_below (share i (o ∷ m) l) n ≡ sum_below first n + sum_below (share i m l) n =
    sum_below-same (share i (o ∷ m) l) (λ p. first p + share i m l p) n
    (λ p. cond_add (eqb (lecturer_of i p) l) _ _ _ (count_by-cons (is_project p) o m)) ∙ sum_below-add first (share i m l) n in
    omega (arith, split, one_share i l n o (h 0), at_lecturer-sum i l n m (λ s. h (suc s)), count_by-cons (is_lecturer i l) o m)
