use Rattle.portal_rules.proofs.Base.{◌≡◌, ◌∙◌, ℕ, List, sym, ap, map, Bor, Some, count_by, list_any, equals, option_map}
use Rattle.portal_rules.proofs.Base.{Key, pairs_among, room_of}
use Rattle.portal_rules.proofs.AllLaws.{any_map}
use Rattle.portal_rules.proofs.room.lecturer_left.Goals as goal

-- the pairs with one of these keys
counted : (keys : List (Bor Key)) (own : List Key) (pairs : List (Key × Key)) (given : ℕ)
    → given ≡ count_by (λ (x : Key × Key). list_any (λ k. equals x.1 k.now) keys) pairs → map (λ k. k.now) keys ≡ own
    → given ≡ pairs_among pairs own
counted keys own pairs given is own_keys = is
    ∙ (λ i. count_by (λ (x : Key × Key). sym (any_map (equals x.1) (λ (k : Bor Key). k.now) keys) i) pairs)
    ∙ ap (pairs_among pairs) own_keys

pub returns : goal.returns
returns c =
    (λ i. Some (record (c.in_ok-row.ensures i) { capacity = c.in-Some.capacity }))
    ∙ ap (option_map (λ n. record c.args.lecturer.now { capacity = n }))
    (c.in-Some.ensures ∙ ap (room_of c.args.lecturer.now.capacity)
    (counted c.deref.result.now _ c.args.pairs.now _ c.given_among.ensures
    (ap (map (λ k. k.now)) c.deref.ensures.value ∙ c.in_ok-own.ensures)))

pub returns-in_default : goal.returns-in_default
returns-in_default c =
    ap (option_map (λ n. record c.args.lecturer.now { capacity = n }))
    (c.in_default.ensures ∙ ap (room_of c.args.lecturer.now.capacity)
    (counted c.deref.result.now _ c.args.pairs.now _ c.given_among.ensures
    (ap (map (λ k. k.now)) c.deref.ensures.value ∙ c.in_ok-own.ensures)))
