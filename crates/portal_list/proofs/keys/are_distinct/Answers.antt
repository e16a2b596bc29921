use Rattle.portal_list.proofs.Base.{◌≡◌, get_or, Bor, [], sym, refl, ◌∙◌, ap, arith, not, get_or_default, false≢true}
use Rattle.portal_list.proofs.Base.{Text, IsEarlierKey, ℕ, zero, suc, ◌<◌, Bool, true, false, List, ◌∷◌, map, length}
use Rattle.portal_list.proofs.Base.{length-map, length-take, get_or-take, map_at, any_unmap, Key, has, AreDistinct}
use Rattle.portal_list.proofs.Base.{tree_more, tree_before}
use Rattle.portal_rules.proofs.Members.{there}
use Rattle.portal_list.proofs.Members.{distinct_apart}
use Rattle.portal_list.proofs.keys.are_distinct.Goals as goal

-- Texts of which none repeats.
module _ {X : Type 0} (key : X → Key) where
  -- no text is an earlier one
  abbrev NoneEarlier : List X → Type 0
  NoneEarlier xs = (j : ℕ) (x : X) → j < length xs → get_or xs j x ≡ x → IsEarlierKey xs key j (key x) → ⊥

  distinct_so : (xs : List X) → NoneEarlier xs → AreDistinct (map key xs)
  distinct_so [] none = tt
  distinct_so (x ∷ xs) none = (
    new (has (map key xs) (key x)) refl,
    distinct_so xs (λ j y low at (i, z, less, is_z, same). none (suc j) y (omega arith) at (suc i, z, omega arith, is_z, same)),
  )
    where
      new : (b : Bool) → has (map key xs) (key x) ≡ b → b ≡ false
      new false e = refl
      new true e =
          let found = any_unmap (λ y. y ≡ key x) key xs (there (map key xs) (key x) e) in
          absurd (none (suc found.0) found.1 (omega (arith, found.2)) found.3 (zero, x, omega arith, refl, sym found.4))

  not_earlier : (xs : List X) → AreDistinct (map key xs) → NoneEarlier xs
  not_earlier xs once j x low at (i, y, less, is_y, same) =
      let before : i < j = omega (arith, length-take j xs) in
      let y_at : get_or xs i y ≡ y = sym (get_or-take j xs i y before) ∙ is_y in
      distinct_apart (map key xs) i j [] once before (omega (arith, length-map xs key))
      (map_at key xs i y [] (omega arith) y_at ∙ same ∙ sym (map_at key xs j x [] low at))

pub returns-then-not-branch : goal.returns-then-not-branch
returns-then-not-branch c =
    let texts = c.args.texts.now in
    let n = c.loop-text.text-index in
    let blank : Bor Text = record { ref_ptr = (0, 0); now = [] } in
    let x : Bor Text = get_or texts n blank in
    let at : get_or texts n x ≡ x = get_or_default texts n x blank c.loop-text-test.true in
    let earlier = tree_before texts (λ t. t.now) c.loop-text.seen x c.in_ok-insert.field-0 n x c.in_ok-insert.ensures.added refl
    c.loop-text.invariant.seen in (
      λ e. absurd (false≢true e),
      λ once. absurd
          (not_earlier (λ t. t.now) texts once n x c.loop-text-test.true at (earlier.0 (ap not c.if-not-branch.true))),
    )

pub loop-text-preserved : goal.loop-text-preserved
loop-text-preserved c =
    let texts = c.args.texts.now in
    let n = c.loop-text.text-index in
    let blank : Bor Text = record { ref_ptr = (0, 0); now = [] } in
    let x : Bor Text = get_or texts n blank in
    let at : get_or texts n x ≡ x = get_or_default texts n x blank c.loop-text-test.true in
    let earlier = tree_before texts (λ t. t.now) c.loop-text.seen x c.in_ok-insert.field-0 n x c.in_ok-insert.ensures.added refl
    c.loop-text.invariant.seen in
    record {
      seen = tree_more texts (λ t. t.now) c.loop-text.seen c.insert.new.self x n x c.in_ok-insert.ensures.updates refl c.loop-text-test.true
          at c.loop-text.invariant.seen;
      distinct = λ j text below is repeated. grind (arith, get_or_default, false≢true);
    }

pub returns : goal.returns
returns c = (
  λ _. distinct_so (λ t. t.now) c.args.texts.now
      (λ j x low at earlier. c.loop-text.invariant.distinct j x (omega arith) at earlier),
  λ _. refl,
)
