use Rattle.portal_frame.proofs.Base.{rules, ◌≡◌, ℕ, ◌+◌, ◌<◌, ◌≤◌, ◌^◌, take, ◌-◌, true, arith, ◌∙◌, sym, ap}
use Rattle.portal_frame.proofs.Base.{common_steps, ◌&&◌, digits_value, is_ascii_digit, ◌*◌, slice_index_or, add-one}
use Rattle.portal_frame.proofs.Base.{digit_value}
use Rattle.std.proofs.Math.Nat.{pow-le-pow_right}
use Rattle.std.proofs.lemmas.Int.Digits.{digits_value_more}
use Rattle.std.proofs.lemmas.List.Folds.{list_all_more}
use Rattle.portal_frame.proofs.values.number_of.Goals as goal

short : (n i len : ℕ) → n < 10 ^ i → i < len → len ≤ 18 → n < 10 ^ 17
short n i len h a b =
    let few : i ≤ 17 = omega (arith, a, b) in
    let most : 10 ^ i ≤ 10 ^ 17 = pow-le-pow_right (omega arith) few in
    omega (arith, h, most)

digit : (b : ℕ) → is_ascii_digit b ≡ true → (digit_value b ≡ b - 48) × (b - 48 < 10)
digit b is = (grind (arith, common_steps, is), grind (arith, common_steps, is))

pub overflow_mul-number : goal.overflow_mul-number
overflow_mul-number c = omega (arith, short _ _ _ c.loop-digit.invariant.small c.loop-digit-test.true c.if-value-gt18.false)

pub overflow_add-number : goal.overflow_add-number
overflow_add-number c = omega (arith, short _ _ _ c.loop-digit.invariant.small c.loop-digit-test.true c.if-value-gt18.false)

pub loop-digit-preserved : goal.loop-digit-preserved
loop-digit-preserved c =
    let i = c.loop-digit.digit-index in
    let ds = c.args.value.now in
    let b = slice_index_or ds i 0 in
    let is : is_ascii_digit b ≡ true = search (rules, c.if-not-is_ascii_digit.false, c.is_ascii_digit.ensures.value) in
    let d = digit b is in
    let small : c.loop-digit.number < 10 ^ i = c.loop-digit.invariant.small in
    record {
      value_is = ap (λ n. n * 10 + (b - 48)) c.loop-digit.invariant.value_is
          ∙ (ap (λ n. digits_value 10 (take i ds) * 10 + n) (sym d.0) ∙ sym (digits_value_more 10 ds i c.loop-digit-test.true));
      small = rw add-one (omega (arith, small, d.1));
      digits = list_all_more is_ascii_digit ds i 0 c.loop-digit-test.true ∙ ap (λ t. t && is_ascii_digit b) c.loop-digit.invariant.digits
          ∙ is;
    }
