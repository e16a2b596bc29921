-- What the tests of the texts mean.
use Rattle.portal_tables.proofs.Base.{◌≡◌, ◌∷◌, ◌&&◌, ℕ, ℤ, pos, List, [], true, Some, refl, is_eq, Ordering, Equal}
use Rattle.portal_tables.proofs.Base.{Value, Null, Int, Text, Binary, Row, value_cmp, column, binary, is_true}
use Rattle.portal_tables.proofs.Base.{from_truth, Term, col, lit, op2, Compare, Eq, has_text, has_number}
use Rattle.portal_tables.proofs.Query.{passes}

abbrev pub param : ℕ → Term
param at = col 0 at

-- the first value is what stands in this column
abbrev pub has_key : ℕ → List Term
has_key at = op2 (Compare Eq Binary) (col 1 at) (param 0) ∷ []

-- this number is what stands in this column
abbrev pub is_number : ℕ → ℕ → List Term
is_number at n = op2 (Compare Eq Binary) (col 1 at) (lit (Int (pos n))) ∷ []

told : (o : Ordering) → (is_true (from_truth (Some (is_eq o))) && true) ≡ is_eq o
told Equal = refl
told _ = refl

pub equals_text : (v : Value) (t : List ℕ)
    → (is_true (binary (Compare Eq Binary) v (Text t)) && true) ≡ is_eq (value_cmp v (Text t))
unfolding binary value_cmp
equals_text Null t = refl
equals_text v t = told (value_cmp v (Text t))

pub equals_int : (v : Value) (n : ℤ)
    → (is_true (binary (Compare Eq Binary) v (Int n)) && true) ≡ is_eq (value_cmp v (Int n))
unfolding binary value_cmp
equals_int Null n = refl
equals_int v n = told (value_cmp v (Int n))

pub same_key_of : (at : ℕ) (key : List ℕ) (more : Row) → passes (has_key at) (Text key ∷ more) ≡ has_text at key
same_key_of at key more = λ i r. equals_text (column r at) key i

pub same_key : (at : ℕ) (key : List ℕ) → passes (has_key at) (Text key ∷ []) ≡ has_text at key
same_key at key = same_key_of at key []

pub same_number : (at n : ℕ) (params : Row) → passes (is_number at n) params ≡ has_number at n
same_number at n params = λ i r. equals_int (column r at) (pos n) i
