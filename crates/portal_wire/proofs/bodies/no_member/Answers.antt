use Rattle.portal_wire.proofs.Base.{rules, ◌≡◌, ℕ, List, [], ◌∷◌, length, refl, ◌∙◌, ap, String, None, Global, object}
use Rattle.portal_wire.proofs.Base.{view, members_view, Value, the_lemmas, empty_object}
use Rattle.portal_wire.proofs.bodies.no_member.Goals as goal

some_member : (ms : List (String Global × Value)) (n : ℕ) → n ≡ length ms → (n ≡ 0 → ⊥)
    → empty_object (object (members_view ms)) ≡ None
some_member [] n e never = absurd (never e)
some_member (m ∷ ms) n e never = refl

pub returns : goal.returns
returns c =
    let entries = c.in-Object.members.entries in
    let obj : view c.args.value.now ≡ object (members_view entries) = ap view c.in-Object.is ∙ search (rules, the_lemmas) in
    ap empty_object obj ∙ some_member entries c.len.result (search (rules, c.len.ensures.len)) c.if-len-eq0.false
