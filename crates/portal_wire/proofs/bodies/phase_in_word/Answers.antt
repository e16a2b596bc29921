use Rattle.portal_wire.proofs.Base.{◌≡◌, ℕ, false, List, refl, sym, ap, ◌∙◌, codes, Option, Some, None, bytes_eq}
use Rattle.portal_wire.proofs.Base.{bytes_decides, IfSome, IfNone, phase_of}
use Rattle.std.proofs.lemmas.Bool.{false_from_ne_true}
use Rattle.portal_rules.specs.World.{phase_word}
use Rattle.portal_rules.specs.declared.phase.Phase.{Phase}
use Rattle.portal_rules.specs.declared.phase.Phase.TheVariants.{Setup, Choosing, Ranking, Published}
use Rattle.portal_wire.proofs.bodies.phase_in_word.Goals as goal

of_word : (p : Phase) → Some p ≡ phase_of (phase_word p)
of_word Setup = refl
of_word Choosing = refl
of_word Ranking = refl
of_word Published = refl

differs : (word other : List ℕ) → (other ≡ word → ⊥) → bytes_eq word other ≡ false
differs word other not = false_from_ne_true (bytes_eq word other) (λ e. not (sym ((bytes_decides word other).0 e)))

of_parse : (r : Option Phase) (word : List ℕ) → IfSome r (λ p. phase_word p ≡ word)
    → IfNone r ((p : Phase) → phase_word p ≡ word → ⊥) → r ≡ phase_of word
of_parse (Some p) word some none = of_word p ∙ ap phase_of some
of_parse None word some none =
    rw (
      differs word (codes "setup") (none Setup),
      differs word (codes "choosing") (none Choosing),
      differs word (codes "ranking") (none Ranking),
      differs word (codes "published") (none Published),
    )
    refl

pub returns : goal.returns
returns c = of_parse c.parse.result c.args.word.now c.parse.ensures.some c.parse.ensures.none
