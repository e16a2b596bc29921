-- What a roll takes is new; and what each one new row keeps, the whole roll keeps.
use Rattle.portal_rules.proofs.Base.{◌≡◌, [], ℕ, suc, ◌+◌, ◌≤◌, Bool, false, List, ◌∷◌, ◌++◌, length, refl, sym, ◌∙◌}
use Rattle.portal_rules.proofs.Base.{ap, subst, arith, map, ◌||◌, None, nat_le, list_any, find, AllByRecursion}
use Rattle.portal_rules.proofs.Base.{nat_tests, length-map, Key, equals, has, put, put_all, RollRules, Taken, Faulty}
use Rattle.portal_rules.proofs.Base.{Took, Verdict, Present, New, Rejected, verdict, take_rows}
use Rattle.portal_rules.proofs.AllLaws.{any_map, any_alike, any_append, is_sym}
use Rattle.portal_rules.proofs.Puts.{length_put, any_put}
use Rattle.portal_rules.proofs.RowFaults.{next_row, took_present, took_new, is_fresh}

not_found : {X : Type 0} (p : X → Bool) (xs : List X) → find p xs ≡ None → list_any p xs ≡ false
not_found p [] e = refl
not_found p (x ∷ xs) e = grind (arith, not_found p xs)

-- the same rows in another order, as far as tests and counts tell
pub record Alike {X : Type 0} (as' bs : List X) : Type 0 where
  pub tests : (p : X → Bool) → list_any p as' ≡ list_any p bs
  pub long : length as' ≡ length bs

pub has_alike : {X : Type 0} (code : X → Key) (front : List Key) (as' bs : List X) (k : Key) → Alike as' bs
    → has (front ++ map code as') k ≡ has (front ++ map code bs) k
has_alike code front as' bs k al =
    any_append (equals k) front (map code as')
    ∙ ap (λ b. has front k || b) (any_map (equals k) code as' ∙ al.tests (λ x. equals k (code x)) ∙ sym (any_map (equals k) code bs))
    ∙ sym (any_append (equals k) front (map code bs))

module _ {X Y : Type 0} (roll : RollRules X) (row : Y → X) (make : X → Y) (own : (x : X) → row (make x) ≡ x) (Form : X → Type 0)
    (Kept : List Y → Type 0)
    (bad_alike : (as' bs : List X) (r : X) → Alike as' bs → roll.is_bad as' r ≡ roll.is_bad bs r)
    (one : (ys : List Y) (r : X) → Kept ys → Form r → has (map (λ y. roll.key (row y)) ys) (roll.key r) ≡ false
    → roll.is_bad (map row ys) r ≡ false → length ys + 1 ≤ roll.limit → Kept (put (λ y. roll.key (row y)) (make r) ys)) where
  abbrev key : Y → Key
  key y = roll.key (row y)

  alike_put : (there : List X) (ys : List Y) (r : X) → Alike there (map row ys)
      → Alike (r ∷ there) (map row (put key (make r) ys))
  alike_put there ys r al =
      record {
        tests = λ p.
            ap (λ b. p r || b) (al.tests p ∙ any_map p row ys)
            ∙ ap (λ x. p x || list_any (λ y. p (row y)) ys) (sym (own r))
            ∙ sym (any_map p row (put key (make r) ys) ∙ any_put key (make r) (λ y. p (row y)) ys);
        long = ap suc (al.long ∙ length-map ys row) ∙ sym (length-map (put key (make r) ys) row ∙ length_put key (make r) ys);
      }

  new_key : (there : List X) (ys : List Y) (r : X) → Alike there (map row ys)
      → find (λ x. equals (roll.key x) (roll.key r)) there ≡ None → has (map key ys) (roll.key r) ≡ false
  new_key there ys r al e =
      any_map (equals (roll.key r)) key ys
      ∙ any_alike (λ y. equals (roll.key r) (key y)) (λ y. equals (key y) (roll.key r)) (λ y. is_sym (roll.key r) (key y)) ys
      ∙ sym (any_map (λ x. equals (roll.key x) (roll.key r)) row ys)
      ∙ sym (al.tests (λ x. equals (roll.key x) (roll.key r)))
      ∙ not_found _ there e

  room : (there : List X) (ys : List Y) → Alike there (map row ys) → nat_le roll.limit (length there) ≡ false
      → length ys + 1 ≤ roll.limit
  room there ys al e = let long : length there ≡ length ys = al.long ∙ length-map ys row in grind (arith, nat_tests)

  pub taken : (rs : List X) (at : ℕ) (there : List X) (ys : List Y) (new : List X) (same : ℕ) → Kept ys
      → Alike there (map row ys) → AllByRecursion Form rs → take_rows roll at there rs ≡ Took new same
      → Kept (put_all key (map make new) ys)
  taken [] at there ys new same kept al forms e = let none : [] ≡ new = cc in subst (λ l. Kept (put_all key (map make l) ys)) none kept
  taken (r ∷ rs) at there ys new same kept al forms e =
      go (λ t zs n m k a f. taken rs (at + 1) t zs n m k a forms.1 f) (verdict roll at there r) refl
    where
      go : ((t : List X) (zs : List Y) (n : List X) (m : ℕ) → Kept zs → Alike t (map row zs) → take_rows roll (at + 1) t rs ≡ Took n m
          → Kept (put_all key (map make n) zs))
          → (v : Verdict) → verdict roll at there r ≡ v → Kept (put_all key (map make new) ys)
      go again (Rejected f) is = let clash : ◌≡◌ {A = Taken X} (Faulty f) (Took new same) =
          sym (next_row roll at there r rs (Rejected f) is) ∙ e in cc
      go again Present is =
          let (m, rest) = took_present r (take_rows roll (at + 1) there rs) new same (sym (next_row roll at there r rs Present is) ∙ e) in
          again there ys new m kept al rest
      go again New is =
          let (n, m, more, rest) = took_new r (take_rows roll (at + 1) (r ∷ there) rs) new same
          (sym (next_row roll at there r rs New is) ∙ e) in
          let (unknown, good, left) = is_fresh roll at (find (λ x. equals (roll.key x) (roll.key r)) there) there r is in
          subst (λ l. Kept (put_all key (map make l) ys)) (sym more)
          (again (r ∷ there) (put key (make r) ys) n m
          (one ys r kept forms.0 (new_key there ys r al unknown) (sym (bad_alike there (map row ys) r al) ∙ good) (room there ys al left))
          (alike_put there ys r al) rest)
