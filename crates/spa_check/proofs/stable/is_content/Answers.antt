use Rattle.spa_check.proofs.Base.{◌≡◌, inl, inr, get_or, sym, ◌∙◌, refl, arith, Contains, cases_lt, get_or_default}
use Rattle.spa_check.proofs.Base.{Wants, Contains-get_or}
use Rattle.spa_model.proofs.OneOnly.{blocks_wants}
use Rattle.spa_check.proofs.Listing.{none_blocks}
use Rattle.spa_check.proofs.stable.is_content.Goals as goal

pub letter_of-requires-clause-project : goal.letter_of-requires-clause-project
letter_of-requires-clause-project c =
    let p = get_or c.wanted_projects-p-items.result.now c.loop-p.p-index 0 in
    let wants : Wants c.args.instance.now c.args.matching.now c.args.s p =
    (c.wanted_projects-p-items.ensures.each p).0
    (Contains-get_or c.wanted_projects-p-items.result.now c.loop-p.p-index 0 c.loop-p-test.true) in
    c.wanted_projects-p-items.ensures.lawful.known c.args.s p wants.0

pub loop-p-preserved : goal.loop-p-preserved
loop-p-preserved c k x below = elim (cases_lt k c.loop-p.p-index) [
  | inl before ↦ c.loop-p.invariant k x before
  | inr after ↦
      let here : k ≡ c.loop-p.p-index = omega arith in
      rw here (none_blocks c.args.instance.now c.args.matching.now c.args.s
      (get_or c.wanted_projects-p-items.result.now c.loop-p.p-index 0) c.letter_of.result c.letter_of.ensures
      (sym c.is_some.ensures ∙ c.if-is_some.false) x)
]

pub returns : goal.returns
returns c = (
  λ _ p x b.
      let on : Contains c.wanted_projects-p-items.result.now p =
      (c.wanted_projects-p-items.ensures.each p).1 (blocks_wants c.args.instance.now c.args.matching.now c.args.s p x b) in
      let is_p : get_or c.wanted_projects-p-items.result.now on.0 0 ≡ p = get_or_default c.wanted_projects-p-items.result.now on.0 0 p on.1
      ∙ on.2 in
      c.loop-p.invariant on.0 x (omega (arith, on.1)) (rw is_p b),
  λ _. refl,
)
