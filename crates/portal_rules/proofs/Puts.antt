-- A new row put where its key belongs.
use Rattle.portal_rules.proofs.Base.{◌≡◌, suc, Bool, true, false, cond, List, [], ◌∷◌, ◌++◌, length, refl, sym, ◌∙◌, ap}
use Rattle.portal_rules.proofs.Base.{map, ◌||◌, list_any, AllByRecursion, is_lt, or_parts, Key, equals, has, is_before}
use Rattle.portal_rules.proofs.Base.{Rise, AreDistinct, put, arith, texts_ties, or_from}
use Rattle.std.specs.Cmp.Lexicographic.{nat_list_cmp_total}
use Rattle.std.specs.declared.cmp.Ordering.{Ordering}
use Rattle.std.specs.declared.cmp.Ordering.TheVariants.{Less}
use Rattle.portal_rules.proofs.Keys.{all_unmap}
use Rattle.portal_rules.proofs.AllLaws.{all_map, all_weaker, any_map, any_append, is_sym}

pub less_of : (o : Ordering) → is_lt o ≡ true → o ≡ Less
less_of o e = grind arith

pub before_trans : (a b c : Key) → is_before a b ≡ true → is_before b c ≡ true → is_before a c ≡ true
before_trans a b c h k = ap is_lt (nat_list_cmp_total.trans a b c (less_of _ h) (less_of _ k))

-- what is not before and not the same is after
pub after_other : (a b : Key) → is_before a b ≡ false → equals a b ≡ false → is_before b a ≡ true
after_other a b h d = grind (arith, nat_list_cmp_total.antisymm b a, texts_ties a b)

module _ {X : Type 0} (key : X → Key) (x : X) where
  pub any_put : (p : X → Bool) (ys : List X) → list_any p (put key x ys) ≡ (p x || list_any p ys)
  any_put p [] = refl
  any_put p (y ∷ ys) = grind (arith, any_put p ys)

  pub all_put : (P : X → Type 0) (ys : List X) → P x → AllByRecursion P ys → AllByRecursion P (put key x ys)
  all_put P [] new all = (new, tt)
  all_put P (y ∷ ys) new all = grind (arith, all_put P ys new all.1)

  pub length_put : (ys : List X) → length (put key x ys) ≡ suc (length ys)
  length_put [] = refl
  length_put (y ∷ ys) = grind (arith, length_put ys)

  pub rise_put : (ys : List X) → Rise (map key ys) → has (map key ys) (key x) ≡ false → Rise (map key (put key x ys))
  rise_put [] rise new = (tt, tt)
  rise_put (y ∷ ys) rise new =
      (elim (is_before (key x) (key y)) as (λ b. is_before (key x) (key y) ≡ b → Rise (map key (cond b (x ∷ y ∷ ys) (y ∷ put key x ys)))) [
        | true ↦ λ e. ((e, all_weaker _ _ (λ l h. before_trans (key x) (key y) l e h) (map key ys) rise.0), rise)
        | false ↦ λ e. (
          all_map (λ l. is_before (key y) l ≡ true) key (put key x ys)
              (all_put (λ z. is_before (key y) (key z) ≡ true) ys
              (after_other (key x) (key y) e (or_parts (equals (key x) (key y)) (has (map key ys) (key x)) new).0)
              (all_unmap (λ l. is_before (key y) l ≡ true) key ys rise.0)),
          rise_put ys rise.1 (or_parts (equals (key x) (key y)) (has (map key ys) (key x)) new).1,
        )
      ]) refl

  pub has_put : (part : X → Key) (ys : List X) (k : Key)
      → has (map part (put key x ys)) k ≡ (equals k (part x) || has (map part ys) k)
  has_put part ys k = any_map (equals k) part (put key x ys) ∙ any_put (λ z. equals k (part z)) ys
      ∙ ap (λ b. equals k (part x) || b) (sym (any_map (equals k) part ys))

  distinct_here : (part : X → Key) (ys : List X) → AreDistinct (map part ys) → has (map part ys) (part x) ≡ false
      → AreDistinct (map part (put key x ys))
  distinct_here part [] d new = (refl, tt)
  distinct_here part (y ∷ ys) d new = grind (arith, has_put part ys (part y), is_sym (part y) (part x), distinct_here part ys d.1)

  pub distinct_put : (part : X → Key) (front : List Key) (ys : List X) → AreDistinct (front ++ map part ys)
      → has (front ++ map part ys) (part x) ≡ false → AreDistinct (front ++ map part (put key x ys))
  distinct_put part [] ys d new = distinct_here part ys d new
  distinct_put part (k ∷ front) ys d new =
      let parts : (equals (part x) k ≡ false) × (has (front ++ map part ys) (part x) ≡ false) =
      or_parts (equals (part x) k) (has (front ++ map part ys) (part x)) new in
      let old : (has front k ≡ false) × (has (map part ys) k ≡ false) =
      or_parts (has front k) (has (map part ys) k) (sym (any_append (equals k) front (map part ys)) ∙ d.0) in (
        any_append (equals k) front (map part (put key x ys))
            ∙ or_from _ _ old.0 (has_put part ys k ∙ or_from _ _ (is_sym k (part x) ∙ parts.0) old.1),
        distinct_put part front ys d.1 parts.1,
      )
