use Rattle.spa_check.proofs.Base.{◌≡◌, inl, inr, arith, cases_lt}
use Rattle.spa_check.proofs.stable.is_stable.Goals as goal

pub loop-s-preserved : goal.loop-s-preserved
loop-s-preserved c t p x below b = elim (cases_lt t c.loop-s.s) [
  | inl before ↦ c.loop-s.invariant t p x before b
  | inr after ↦ let here : t ≡ c.loop-s.s = omega arith in c.is_content.ensures.0 c.if-not-is_content.false p x (rw here at b)
]
