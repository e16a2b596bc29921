use Rattle.portal_list.proofs.Base.{rules, arith, nat_cmp, slice_cmp, nat_list_cmp_total, always_returns_same, map, ◌≡◌}
use Rattle.portal_list.proofs.Base.{ℕ, ◌<◌, ◌≤◌, Bool, true, false, List, length, get_or, Less, refl, sym, at_place}
use Rattle.portal_list.proofs.Base.{any_map, any_unmap, Key, has, Equal, Greater, tied_itself}
use Rattle.std.proofs.lemmas.List.Sorted.{searchable_from_sorted}
use Rattle.spa_model.proofs.Numbers.{sorted_rows}
use Rattle.portal_list.proofs.Rising.{pairs_rise}
use Rattle.std.proofs.lemmas.Map.Lookups.{exact_bytes}
use Rattle.portal_rules.proofs.Members.{there, has_it}
use Rattle.portal_list.proofs.keys.is_known.Goals as goal

-- Rows whose keys rise, and the search among them.
known_at : {X : Type 0} (key : X → Key) (rows : List X) (k : Key) (n : ℕ) → n < length rows
    → ((d : X) → slice_cmp nat_cmp (key (get_or rows n d)) k ≡ Equal) → true ≡ has (map key rows) k
known_at key rows k n low equal =
    let x = at_place rows n low in
    let same : key x.0 ≡ k = exact_bytes (key x.0) k (rw x.1 at (equal x.0)) in
    sym (has_it (map key rows) k (any_map (λ y. y ≡ k) key rows n x.0 low (sym x.1) same))

known_nowhere : {X : Type 0} (key : X → Key) (rows : List X) (k : Key) (n : ℕ)
    → ((i : ℕ) (d : X) → i < n → slice_cmp nat_cmp (key (get_or rows i d)) k ≡ Less)
    → ((i : ℕ) (d : X) → n ≤ i → i < length rows → slice_cmp nat_cmp (key (get_or rows i d)) k ≡ Greater)
    → false ≡ has (map key rows) k
known_nowhere {X} key rows k n below above = at (has (map key rows) k) refl
  where
    at : (b : Bool) → has (map key rows) k ≡ b → false ≡ b
    at false e = refl
    at true e =
        let found = any_unmap (λ y. y ≡ k) key rows (there (map key rows) k e) in
        let x : X = found.1 in
        let tied : slice_cmp nat_cmp (key (get_or rows found.0 x)) k ≡ Equal = rw (found.3, found.4) (tied_itself nat_list_cmp_total k) in
        grind arith

pub returns-in-Ok : goal.returns-in-Ok
returns-in-Ok g c =
    known_at g.K.Keyed.key_of c.args.rows.now c.args.key.now c.in-Ok.field-0 c.in-Ok.ensures.bound
    (c.in-Ok.ensures.position (λ y. slice_cmp nat_cmp (g.K.Keyed.key_of y) c.args.key.now)
    (always_returns_same _ _ _ (λ a r h k. search rules)))

pub returns-in-Err : goal.returns-in-Err
returns-in-Err g c =
    let part = c.in-Err.ensures.position (λ y. slice_cmp nat_cmp (g.K.Keyed.key_of y) c.args.key.now)
    (always_returns_same _ _ _ (λ a r h k. search rules))
    (searchable_from_sorted nat_list_cmp_total g.K.Keyed.key_of c.args.rows.now c.args.key.now
    (sorted_rows g.K.Keyed.key_of c.args.rows.now (pairs_rise (map g.K.Keyed.key_of c.args.rows.now) c.requires))) in
    known_nowhere g.K.Keyed.key_of c.args.rows.now c.args.key.now c.in-Err.field-0 (λ k d h. part.0 k d (omega arith) h) part.1
