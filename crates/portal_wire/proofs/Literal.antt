-- A router without parameters is a table of texts.
use Rattle.portal_wire.proofs.Base.{◌≡◌, ℕ, zero, suc, ◌-◌, Bool, true, false, List, [], ◌∷◌, length, map, refl, ap}
use Rattle.portal_wire.proofs.Base.{◌∙◌, subst, ◌<◌, ◌≤◌, arith, Option, Some, None, option_map, if◌then◌else◌, inl}
use Rattle.portal_wire.proofs.Base.{inr, bytes_decides, IsUtf8, bytes_eq, is_utf8, ne_eqb, IsUtf8-from_is_utf8}
use Rattle.portal_wire.proofs.Base.{is_utf8-from_IsUtf8, RowsOf, Route, the_paths, route_at, the_rows, cond, ◌==◌, ◌&&◌}
use Rattle.portal_wire.proofs.Base.{nat_lt, slice_index, and_parts, ltb-true, IsUtf8-from_ascii, param_token}
use Rattle.portal_wire.proofs.Base.{catch_all_token, step, own, or_else, has_slash, look_up}
use Rattle.std.proofs.lemmas.Bool.{cases_Bool}
use Rattle.std.specs.List.{list_all}
use Rattle.matchit.specs.Seek.{seek, param_step}
use Rattle.portal_wire.specs.inner.RouteRows.{row_of}

module _ {K : Type 0} where
  -- the first row with this pattern
  abbrev pub find : List ℕ → RowsOf K → Option K
  find path [] = None
  find path ((t, k) ∷ rows) = if bytes_eq t path then Some k else find path rows

  -- no token is a parameter
  abbrev pub is_literal : RowsOf K → Bool
  is_literal [] = true
  is_literal ((t, k) ∷ rows) = list_all (λ b. nat_lt b 256) t && is_literal rows

no_rows : {K : Type 0} (h : Bool) (n : ℕ) → (let r : ℕ × RowsOf K = cond h (0, []) (n, []) in r.1) ≡ []
no_rows true n = refl
no_rows false n = refl

after_none : {K : Type 0} (b : ℕ) (path : List ℕ) → (param_step {K = K} [] (b ∷ path)).1 ≡ []
unfolding param_step
after_none b path = no_rows (has_slash (b ∷ path)) (length (b ∷ path))

seek_none : {K : Type 0} (n : ℕ) (path : List ℕ) → seek {K = K} n [] path ≡ None
unfolding seek
seek_none zero [] = refl
seek_none (suc n) [] = refl
seek_none (suc n) (b ∷ path) = seek_none n path
seek_none {K} zero (b ∷ path) =
    let k = (param_step {K = K} [] (b ∷ path)).0 - 1 in
    ap (λ o. or_else o (or_else (seek k (param_step {K = K} [] (b ∷ path)).1 path) None)) (seek_none {K = K} 0 path)
    ∙ ap (λ o. or_else o None) (ap (λ r. seek k r path) (after_none {K = K} b path) ∙ seek_none k path)

or_none : {K : Type 0} (o : Option K) → or_else o None ≡ o
or_none None = refl
or_none (Some k) = refl

own_is : {K : Type 0} (rows : RowsOf K) → own rows ≡ find [] rows
own_is [] = refl
own_is (([], k) ∷ rows) = refl
own_is ((x ∷ t, k) ∷ rows) = own_is rows

find_step : {K : Type 0} (b : ℕ) (path : List ℕ) (rows : RowsOf K) → find path (step b rows) ≡ find (b ∷ path) rows
find_step b path [] = refl
find_step b path (([], k) ∷ rows) = find_step b path rows
find_step b path ((x ∷ t, k) ∷ rows) = elim (cases_Bool (x == b)) [
  | inl same ↦ rw same (ap (λ o. if bytes_eq t path then Some k else o) (find_step b path rows))
  | inr other ↦ rw other (find_step b path rows)
]

literal_step : {K : Type 0} (b : ℕ) (rows : RowsOf K) → is_literal rows ≡ true → is_literal (step b rows) ≡ true
literal_step b [] e = refl
literal_step b (([], k) ∷ rows) e = literal_step b rows e
literal_step b ((x ∷ t, k) ∷ rows) e =
    let parts = and_parts (list_all (λ c. nat_lt c 256) (x ∷ t)) (is_literal rows) e in
    let tail = and_parts (nat_lt x 256) (list_all (λ c. nat_lt c 256) t) parts.0 in
    let rest = literal_step b rows parts.1 in
    elim (cases_Bool (x == b)) [ inl same ↦ rw (same, tail.1) rest | inr other ↦ rw other rest ]

no_step : {K : Type 0} (token : ℕ) (rows : RowsOf K) → 256 ≤ token → is_literal rows ≡ true → step token rows ≡ []
no_step token [] high e = refl
no_step token (([], k) ∷ rows) high e = no_step token rows high e
no_step token ((x ∷ t, k) ∷ rows) high e =
    let parts = and_parts (list_all (λ c. nat_lt c 256) (x ∷ t)) (is_literal rows) e in
    let tail = and_parts (nat_lt x 256) (list_all (λ c. nat_lt c 256) t) parts.0 in
    let low : x < 256 = ltb-true x 256 tail.0 in
    ap (λ v. cond v ((t, k) ∷ step token rows) (step token rows)) (ne_eqb x token (λ same. omega (arith, low, high, same)))
    ∙ no_step token rows high parts.1

pub seek_is : {K : Type 0} (path : List ℕ) (rows : RowsOf K) → is_literal rows ≡ true
    → seek 0 rows path ≡ find path rows
unfolding seek
seek_is [] rows e = own_is rows
seek_is {K} (b ∷ path) rows e =
    let A = seek 0 (step b rows) path in
    let k = (param_step {K = K} [] (b ∷ path)).0 - 1 in
    ap (λ rs. or_else A (or_else (seek ((param_step rs (b ∷ path)).0 - 1) (param_step rs (b ∷ path)).1 path)
    (own (step catch_all_token rows)))) (no_step param_token rows (omega arith) e)
    ∙ (ap (λ rs. or_else A (or_else (seek k (param_step {K = K} [] (b ∷ path)).1 path) (own rs)))
    (no_step catch_all_token rows (omega arith) e)
    ∙ (ap (λ o. or_else A (or_else o None)) (ap (λ r. seek k r path) (after_none {K = K} b path) ∙ seek_none k path)
    ∙ (or_none A ∙ (seek_is path (step b rows) (literal_step b rows e) ∙ find_step b path rows))))

map_find : (path : List ℕ) (ps : List (List ℕ × Route))
    → option_map (λ r. r.value) (find path (map row_of ps)) ≡ look_up path ps
map_find path [] = refl
map_find path (p ∷ ps) = elim (cases_Bool (bytes_eq p.0 path)) [ inl same ↦ rw same | inr other ↦ rw other (map_find path ps) ]

pub first_is : (path : List ℕ) → option_map (λ r. r.value) (seek 0 the_rows path) ≡ route_at path
unfolding the_rows the_paths route_at
first_is path = ap (option_map (λ r. r.value)) (seek_is path the_rows refl) ∙ map_find path the_paths

-- a path that is no text is none of these
no_text : (path : List ℕ) (ps : List (List ℕ × Route)) → list_all (λ p. is_utf8 p.0) ps ≡ true → ¬ (IsUtf8 path)
    → look_up path ps ≡ None
no_text path [] e never = refl
no_text path (p ∷ ps) e never =
    let parts = and_parts (is_utf8 p.0) (list_all (λ q. is_utf8 q.0) ps) e in
    elim (cases_Bool (bytes_eq p.0 path)) [
      | inl same ↦ absurd (never (IsUtf8-from_is_utf8 path (subst (λ t. is_utf8 t ≡ true) ((bytes_decides p.0 path).0 same) parts.0)))
      | inr other ↦ rw other (no_text path ps parts.1 never)
    ]

all_text : (ps : List (List ℕ × Route)) → list_all (λ p. list_all (λ b. nat_lt b 128) p.0) ps ≡ true
    → list_all (λ p. is_utf8 p.0) ps ≡ true
all_text [] e = refl
all_text (p ∷ ps) e =
    let parts = and_parts (list_all (λ b. nat_lt b 128) p.0) (list_all (λ q. list_all (λ b. nat_lt b 128) q.0) ps) e in
    ap (λ v. v && list_all (λ q. is_utf8 q.0) ps) (is_utf8-from_IsUtf8 p.0 (IsUtf8-from_ascii p.0 (below p.0 parts.0)))
    ∙ all_text ps parts.1
  where
    below : (bs : List ℕ) → list_all (λ b. nat_lt b 128) bs ≡ true → (i : ℕ) → slice_index bs i < 128
    below [] f zero = omega arith
    below [] f (suc i) = omega arith
    below (b ∷ bs) f zero = ltb-true b 128 (and_parts (nat_lt b 128) (list_all (λ c. nat_lt c 128) bs) f).0
    below (b ∷ bs) f (suc i) = below bs (and_parts (nat_lt b 128) (list_all (λ c. nat_lt c 128) bs) f).1 i

pub none_at : (path : List ℕ) → ¬ (IsUtf8 path) → route_at path ≡ None
unfolding route_at the_paths
none_at path never = no_text path the_paths (all_text the_paths refl) never
