-- Refutes `call_of` that turns every request away, or tells another refusal, and a reply that has a
-- body for HEAD or does not say that it closes the connection.
use Rattle.std.proofs.Common.{◌≡◌, ℕ, Bool, true, false, List, [], ◌++◌, length, refl, ap, arith, get_or}
use Rattle.std.specs.Prelude.{codes}
use Rattle.std.proofs.lemmas.List.{append_cancel_left, append_cancel_right}
use Rattle.portal_frame.specs.Stream.{RequestContent, RefusalContent}
use Rattle.portal_rules.specs.Run.{Calls, NoCall, Wish, unavailable}
use Rattle.portal_rules.specs.Calls.{AbstractCall}
use Rattle.portal_wire.specs.Conversation.{close_line, common_lines, crlf, reply_lines, reply_text, unavailable_body}
use Rattle.portal_wire.specs.Wish.{bad_method, no_route, route_at, the_paths, turned_away, wish_of}

abbrev request : List ℕ → List ℕ → RequestContent
request method path = record { method = method; path = path; code = []; close = false; body = [] }

-- the status of a refusal, 0 for a call
abbrev refused : Wish → ℕ
refused (Calls ask) = 0
refused (NoCall answer) = answer.status

pub call_turned_away_is_refuted : (why : RefusalContent) → why.status ≡ 404
    → turned_away why ≡ wish_of (request (codes "GET") (codes "/me")) → ⊥
unfolding route_at the_paths
call_turned_away_is_refuted why is same = absurd (cc same)

pub path_without_its_first_letter_is_none : refused (wish_of (request (codes "GET") (codes "/e"))) ≡ 404
unfolding route_at the_paths
path_without_its_first_letter_is_none = refl

pub call_of_another_path_is_refuted : (ask : AbstractCall) → Calls ask ≡ wish_of (request (codes "GET") (codes "/e"))
    → ⊥
unfolding route_at the_paths
call_of_another_path_is_refuted ask same = absurd (cc same)

pub method_that_a_path_does_not_take_is_told : wish_of (request (codes "POST") (codes "/me"))
    ≡ turned_away (bad_method (codes "GET, HEAD"))
unfolding route_at the_paths
method_that_a_path_does_not_take_is_told = refl

pub no_route_told_of_a_wrong_method_is_refuted : turned_away no_route
    ≡ wish_of (request (codes "POST") (codes "/me")) → ⊥
unfolding route_at the_paths
no_route_told_of_a_wrong_method_is_refuted same = omega (arith, ap refused same)

pub me_is_asked : wish_of (request (codes "GET") (codes "/me")) ≡ Calls AbstractCall.Me
unfolding route_at the_paths
me_is_asked = refl

-- ---- replies

pub reply_to_head_has_no_body : reply_text unavailable true true ≡ reply_text unavailable false true → ⊥
unfolding unavailable_body
reply_to_head_has_no_body same =
    let none : [] ≡ unavailable_body = append_cancel_left
    (reply_lines unavailable (length unavailable_body) true) [] unavailable_body same in
    omega (arith, ap (λ t. get_or t 0 0) none)

abbrev lines : Bool → List ℕ
lines closes = reply_lines unavailable (length unavailable_body) closes

abbrev common : List ℕ
common = common_lines 503 unavailable.body (length unavailable_body)

pub reply_that_does_not_say_that_it_closes_is_refuted : reply_text unavailable false false
    ≡ reply_text unavailable false true → ⊥
reply_that_does_not_say_that_it_closes_is_refuted same =
    let head : lines false ≡ lines true = append_cancel_right (lines false) (lines true) unavailable_body same in
    let last : close_line false ≡ close_line true =
    append_cancel_left (common ++ []) (close_line false) (close_line true)
    (append_cancel_right ((common ++ []) ++ close_line false) ((common ++ []) ++ close_line true) crlf head) in
    omega (arith, ap (λ t. get_or t 0 0) last)
