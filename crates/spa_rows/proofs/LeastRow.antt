-- The least row so far.
use Rattle.spa_rows.proofs.Base.{◌≡◌, ◌⊎◌, inl, inr, ℕ, ◌+◌, ◌<◌, List, length, get_or, Option, Some, None, Bool, true}
use Rattle.spa_rows.proofs.Base.{false, IsTrue, ◌↔◌, if◌then◌else◌, refl, sym, ◌∙◌, subst, arith, get_or_default}
use Rattle.spa_rows.proofs.Base.{cases_lt, false≢true, IsLeastOf, BadAt, BadBelow, rules, min, least_row, lesser_row}
use Rattle.spa_rows.proofs.Base.{cond, eqb, eq-eqb, ne_eqb, ⊤, IsLeastTold}

module _ {X : Type 0} (lines : List X) (row : X → ℕ) (Bad : ℕ → X → Type 0) where
  -- who stands at a place stands there alone
  one_at : (n : ℕ) (x y : X) → n < length lines → get_or lines n x ≡ x → get_or lines n y ≡ y → y ≡ x
  one_at n x y h e f = sym f ∙ get_or_default lines n y x h ∙ e

  further : (n r : ℕ) → BadBelow lines row Bad n r → BadBelow lines row Bad (n + 1) r
  further n r (j, x, below, h, e, at, bad) = (j, x, omega arith, h, e, at, bad)

  last_or_before : (n r : ℕ) (x : X) → n < length lines → get_or lines n x ≡ x → BadBelow lines row Bad (n + 1) r
      → BadBelow lines row Bad n r ⊎ ((row x ≡ r) × Bad n x)
  last_or_before n r x h e (j, y, below, k, f, at, bad) = search (rules, one_at)

  -- the line at n is not bad
  pub least_skip : (n : ℕ) (x : X) (o : Option ℕ) → n < length lines → get_or lines n x ≡ x → (Bad n x → ⊥)
      → IsLeastOf (BadBelow lines row Bad n) o → IsLeastOf (BadBelow lines row Bad (n + 1)) o
  least_skip n x None h e good none = λ r bad. elim (last_or_before n r x h e bad) [ inl before ↦ none r before | inr here ↦ good here.1 ]
  least_skip n x (Some b) h e good found = (
    further n b found.0,
    λ r bad. elim (last_or_before n r x h e bad) [
      | inl before ↦ found.1 r before
      | inr here ↦ absurd
          (good here.1)
    ],
  )

  -- it is bad
  pub least_take : (n : ℕ) (x : X) (o : Option ℕ) → n < length lines → get_or lines n x ≡ x → Bad n x
      → IsLeastOf (BadBelow lines row Bad n) o → IsLeastOf (BadBelow lines row Bad (n + 1)) (Some (least_row o (row x)))
  least_take n x None h e bad none = (
    (n, x, omega arith, h, e, refl, bad),
    λ r b. elim (last_or_before n r x h e b) [ inl before ↦ absurd (none r before) | inr here ↦ omega (arith, here.0) ],
  )
  least_take n x (Some b) h e bad found = elim (cases_lt b (row x)) [
    | inl less ↦
        let is_b : min b (row x) ≡ b = omega arith in
        rw is_b (
          further n b found.0,
          λ r c. elim
              (last_or_before n r x h e c) [ inl before ↦ found.1 r before | inr here ↦ omega (arith, here.0) ],
        )
    | inr no_less ↦
        let is_row : min b (row x) ≡ row x = omega arith in
        rw is_row (
          (n, x, omega arith, h, e, refl, bad),
          λ r c. elim (last_or_before n r x h e c) [ inl before ↦ omega (arith, found.1 r before) | inr here ↦ omega (arith, here.0) ],
        )
  ]

  -- the step of a loop that asks of each line whether it is bad
  pub least_step : (n : ℕ) (x : X) (o new : Option ℕ) (r : ℕ) (b : Bool) → new ≡ (if b then Some (least_row o r) else o)
      → r ≡ row x → n < length lines → get_or lines n x ≡ x → (IsTrue b ↔ Bad n x)
      → IsLeastOf (BadBelow lines row Bad n) o → IsLeastOf (BadBelow lines row Bad (n + 1)) new
  least_step n x o new r true is at h e iff best = rw (is, at) (least_take n x o h e (iff.0 refl) best)
  least_step n x o new r false is at h e iff best = rw is (least_skip n x o h e (λ bad. absurd (false≢true (iff.1 bad))) best)

  -- all lines are looked at
  pub least_all : (n : ℕ) (o : Option ℕ) → n ≡ length lines → IsLeastOf (BadBelow lines row Bad n) o
      → IsLeastOf (BadAt lines row Bad) o
  least_all n o e h = let P : ℕ → Type 0 = λ m. IsLeastOf (BadBelow lines row Bad m) o in subst P e h

-- what a test tells of each line
module _ {X : Type 0} (lines : List X) (row : X → ℕ) (Says : X → Bool → Type 0) where
  -- two faults that the first n lines have alike
  pub alike : (P Q : ℕ → X → Type 0) (n : ℕ) (o : Option ℕ)
      → ((j : ℕ) (x : X) → j < n → get_or lines j x ≡ x → P j x ↔ Q j x) → IsLeastOf (BadBelow lines row P n) o
      → IsLeastOf (BadBelow lines row Q n) o
  alike P Q n None same none = λ r (j, x, below, h, at, is, bad). none r (j, x, below, h, at, is, (same j x below at).1 bad)
  alike P Q n (Some r) same ((j, x, below, h, at, is, bad), least) = (
    (j, x, below, h, at, is, (same j x below at).0 bad),
    λ q (k, y, under, g, there, has, worse). least q (k, y, under, g, there, has, (same k y under there).1 worse),
  )

  pub told_none : IsLeastTold lines row Says 0 None
  told_none = record { told = λ _. false; each = λ j x below at. absurd (omega arith); least = λ r bad. omega (arith, bad.2) }

  pub told_step : (n : ℕ) (x : X) (o new : Option ℕ) (r : ℕ) (b : Bool) → new ≡ (if b then Some (least_row o r) else o)
      → r ≡ row x → n < length lines → get_or lines n x ≡ x → Says x b → IsLeastTold lines row Says n o
      → IsLeastTold lines row Says (n + 1) new
  told_step n x o new r b is at h e says so = record {
    told = now;
    each = λ j y below f. elim (cases_lt j n) [
      | inl less ↦ rw (before j less) (so.each j y less f)
      | inr last ↦ let same : j ≡ n = omega arith in rw (same, here, one_at lines row (λ _ _. ⊤) n x y h e (rw same at f)) says
    ];
    least = least_step lines row (λ j _. IsTrue (now j)) n x o new r b is at h e (rw here (λ p. p, λ p. p))
        (alike (λ j _. IsTrue (so.told j)) (λ j _. IsTrue (now j)) n o (λ j y below f. rw (before j below) (λ p. p, λ p. p)) so.least);
  } where
    now : ℕ → Bool
    now j = cond (eqb j n) b (so.told j)

    here : now n ≡ b
    here = rw (eq-eqb n n refl) refl

    before : (j : ℕ) → j < n → now j ≡ so.told j
    before j below = rw (ne_eqb j n (λ same. omega arith)) refl

  pub told_least : (shown : List X) (Bad : X → Type 0) (o : Option ℕ) → IsLeastTold lines row Says (length lines) o
      → lines ≡ shown → ((x : X) (b : Bool) → Says x b → IsTrue b ↔ Bad x)
      → IsLeastOf (BadAt shown row (λ _ x. Bad x)) o
  told_least shown Bad o so same means = rw (sym same)
      (alike (λ j _. IsTrue (so.told j)) (λ _ x. Bad x) (length lines) o
      (λ j x below at. means x (so.told j) (so.each j x below at)) so.least)

-- the lesser of the two least rows
pub least_either : (P Q : ℕ → Type 0) (a b : Option ℕ) → IsLeastOf P a → IsLeastOf Q b
    → IsLeastOf (λ r. P r ⊎ Q r) (lesser_row a b)
least_either P Q None None p q = λ r either. elim either [ inl h ↦ p r h | inr h ↦ q r h ]
least_either P Q (Some a) None p q = (inl p.0, λ r either. elim either [ inl h ↦ p.1 r h | inr h ↦ absurd (q r h) ])
least_either P Q None (Some b) p q = (inr q.0, λ r either. elim either [ inl h ↦ absurd (p r h) | inr h ↦ q.1 r h ])
least_either P Q (Some a) (Some b) p q = search (rules, min)
