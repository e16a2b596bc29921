use Rattle.portal_wire.proofs.Base.{rules, ◌≡◌, List, [], ◌∷◌, length, map, refl, ◌∙◌, ap, arith, sym, String, ne_eqb}
use Rattle.portal_wire.proofs.Base.{Global, object, view, members_view, Value, the_lemmas, eq-eqb, length-map, Data}
use Rattle.portal_wire.proofs.Base.{members_of, members_len}
use Rattle.portal_wire.proofs.bodies.member_among.Goals as goal

members_len_of : (ms : List (String Global × Data)) → members_len (members_of ms) ≡ length ms
members_len_of [] = refl
members_len_of (m ∷ ms) = omega (arith, members_len_of ms)

members_len_view : (ms : List (String Global × Value)) → members_len (members_view ms) ≡ length ms
members_len_view ms = members_len_of (map (λ m. (m.0, view m.1)) ms) ∙ length-map ms (λ m. (m.0, view m.1))

pub returns-then-len-count : goal.returns-then-len-count
returns-then-len-count c =
    let entries = c.in-Object.members.entries in
    let obj : view c.args.value.now ≡ object (members_view entries) = ap view c.in-Object.is ∙ search (rules, the_lemmas) in
    let other : length entries ≡ c.args.count → ⊥ = search (rules, c.if-len-count.true, c.len.ensures.len) in
    rw (obj, ne_eqb (members_len (members_view entries)) c.args.count (λ same. other (sym (members_len_view entries) ∙ same)))

pub returns : goal.returns
returns c =
    let entries = c.in-Object.members.entries in
    let obj : view c.args.value.now ≡ object (members_view entries) = ap view c.in-Object.is ∙ search (rules, the_lemmas) in
    let same : length entries ≡ c.args.count = search (rules, c.if-len-count.false, c.len.ensures.len) in
    c.get.ensures ∙ rw (obj, eq-eqb (members_len (members_view entries)) c.args.count (members_len_view entries ∙ same))
