-- Lemmas on the table of places.
use Rattle.spa_model.proofs.Base.{◌≡◌, ◌≢◌, inl, inr, ℕ, ◌+◌, ◌<◌, ◌≤◌, true, eqb, List, [], length, length-set, get_or}
use Rattle.spa_model.proofs.Base.{set, Option, Some, None, All, sym, ◌∙◌, ap, subst, arith, AllPairs, cases_lt}
use Rattle.spa_model.proofs.Base.{cases_eq, eqb-true, get_or-set_same, get_or-set_other, get_or_default, get_or-take}
use Rattle.spa_model.proofs.Base.{length-take, Any-from_list_any, IsDistinct-from_AllPairs, AllZip-long, Text, Repeats}
use Rattle.spa_model.proofs.Base.{place, HasKey, AreNumbers, Decides-eqb}
use Rattle.std.specs.List.{Any}
use Rattle.std.proofs.lemmas.Map.Steps.{length-le_from_distinct_below}
use Rattle.spa_model.proofs.Places.{place-injective, place-get_or}
use Rattle.spa_model.proofs.Zips.{zip_at, zip_all}

-- the table, of the first i of the list
pub record AreRanksBelow (n : ℕ) (list : List ℕ) (i : ℕ) (ranks : List (Option ℕ)) : Type 0 where
  pub count : length ranks ≡ n
  pub before : (s : ℕ) → s < n → place list s < i → get_or ranks s None ≡ Some (place list s)
  pub after : (s : ℕ) → s < n → i ≤ place list s → get_or ranks s None ≡ None

pub one_rank : (n : ℕ) (list : List ℕ) (i s : ℕ) (ranks : List (Option ℕ)) → AllPairs (λ a b. a ≢ b) list
    → i < length list → s ≡ get_or list i s → s < n → AreRanksBelow n list i ranks
    → AreRanksBelow n list (i + 1) (set ranks s (Some i))
one_rank n list i s ranks apart h at l so =
    let here : place list s ≡ i = subst (λ t. place list t ≡ i) (sym at) (place-get_or list i s apart h) in
    let mine : get_or (set ranks s (Some i)) s None ≡ Some i = get_or-set_same ranks s (Some i) None (omega arith) in
    record {
      count = length-set ranks s (Some i) ∙ so.count;
      before = λ t k b. elim (cases_eq t s) [
        | inl same ↦ subst (λ u. get_or (set ranks s (Some i)) u None ≡ Some (place list u)) (sym same) (mine ∙ ap Some (sym here))
        | inr other ↦ get_or-set_other ranks s t (Some i) None other ∙ so.before t k (before_here t k b other)
      ];
      after = λ t k b.
          get_or-set_other ranks s t (Some i) None (λ same. absurd (omega (arith, ap (place list) same))) ∙ so.after t k (omega arith);
    }
  where
    before_here : (t : ℕ) → t < n → place list t < i + 1 → t ≢ s → place list t < i
    before_here t k b other = elim (cases_lt (place list t) i) [
      | inl less ↦ less
      | inr not ↦
          let here : place list s ≡ i = subst (λ t. place list t ≡ i) (sym at) (place-get_or list i s apart h) in
          absurd (other (place-injective list t s (omega arith) (omega arith)))
    ]

-- numbers below n, none twice, are at most n
pub at_most : (list : List ℕ) (n : ℕ) → AllPairs (λ a b. a ≢ b) list → All (λ s. s < n) list → length list ≤ n
at_most list n apart below = length-le_from_distinct_below list n (IsDistinct-from_AllPairs Decides-eqb list apart) (λ q any.
    let on : Any (λ x. eqb q x ≡ true) list = Any-from_list_any (eqb q) list any in
    omega (arith, on.3, eqb-true q on.1 on.4))

-- texts, none twice, have numbers, none twice
pub distinct_numbers : (keys : List Text) (texts : List Text) (numbers : List ℕ) → AreNumbers keys texts numbers
    → (Repeats texts → ⊥) → AllPairs (λ a b. a ≢ b) numbers
distinct_numbers keys texts numbers zip apart i j d less h = λ same.
    let long : length numbers ≡ length texts = AllZip-long (λ text n. HasKey keys n text) texts numbers zip in
    let first : HasKey keys (get_or numbers i d) (get_or texts i []) =
    zip_at (λ text n. HasKey keys n text) texts numbers i [] d (omega arith) zip in
    let second : HasKey keys (get_or numbers j d) (get_or texts j []) =
    zip_at (λ text n. HasKey keys n text) texts numbers j [] d (omega arith) zip in
    let one : get_or texts i [] ≡ get_or texts j [] = sym first.1 ∙ ap (λ n. get_or keys n []) same ∙ second.1 in
    apart (
      j,
      get_or texts j [],
      omega arith,
      get_or_default texts j (get_or texts j []) [] (omega arith),
      (
        i,
        get_or texts i [],
        omega (arith, length-take j texts),
        get_or-take j texts i (get_or texts i []) less
            ∙ get_or_default texts i (get_or texts i []) [] (omega arith),
        one,
      ),
    )

-- the numbers are those of keys
pub numbers_below : (keys : List Text) (texts : List Text) (numbers : List ℕ) → AreNumbers keys texts numbers
    → All (λ n. n < length keys) numbers
numbers_below keys texts numbers zip = zip_all (λ text n. HasKey keys n text) (λ n. n < length keys) texts numbers (λ text n h. h.0) zip
