-- How long what is waited for can be.
use Rattle.portal_frame.proofs.Base.{◌≡◌, ℕ, ◌+◌, ◌<◌, ◌≤◌, Bool, true, false, List, [], ◌∷◌, length, refl, arith}
use Rattle.portal_frame.proofs.Base.{Result, Ok, if◌then◌else◌, nat_lt, codes, digits_value, length-append, RequestHead}
use Rattle.portal_frame.proofs.Base.{print_request, FramingFault, values_of, body_length, fields_of, Err, ltb-false, is_length}
use Rattle.portal_frame.proofs.Base.{has_bad_host, is_empty, length_of, body_limit, head_limit, request_limit}
use Rattle.portal_frame.specs.declared.types.FramingFault.TheVariants as faults

pick : (is_len over : Bool) (d n : ℕ) → nat_lt body_limit d ≡ over
    → ◌≡◌ {A = Result ℕ FramingFault} (if is_len then (if over then Err faults.TooLarge else Ok d) else Err faults.BadLength) (Ok n)
    → n ≤ body_limit
pick true true d n o e = absurd (cc)
pick true false d n o e = let same : d ≡ n = cc in omega (arith, same, ltb-false body_limit d o)
pick false over d n o e = absurd (cc)

length_of-le : (values : List (List ℕ)) (n : ℕ) → length_of values ≡ Ok n → n ≤ body_limit
length_of-le [] n e = let same : 0 ≡ n = cc in omega (arith, same)
length_of-le (value ∷ []) n e = pick (is_length value) (nat_lt body_limit (digits_value 10 value)) (digits_value 10 value) n refl e
length_of-le (value ∷ other ∷ values) n e = absurd (cc)

after_host : (bad plain : Bool) (values : List (List ℕ)) (n : ℕ)
    → (if bad then Err faults.BadHost else (if plain then length_of values else Err faults.CodedBody)) ≡ Ok n → n ≤ body_limit
after_host true plain values n e = absurd (cc)
after_host false true values n e = length_of-le values n e
after_host false false values n e = absurd (cc)

pub body_length-le : (minor : ℕ) (lines : List (List ℕ × List ℕ)) (n : ℕ) → body_length minor lines ≡ Ok n
    → n ≤ body_limit
body_length-le minor lines n e =
    after_host (has_bad_host minor (values_of (codes "host") lines)) (is_empty (values_of (codes "transfer-encoding") lines))
    (values_of (codes "content-length") lines) n e

head-some : (h : RequestHead) → 0 < length (print_request h)
unfolding print_request
head-some h = simp length-append (omega arith)

-- what a request takes
pub whole-within : (h : RequestHead) (len n : ℕ) → len ≡ length (print_request h)
    → length (print_request h) ≤ head_limit
    → body_length h.minor (fields_of h) ≡ Ok n → (0 < len + n) × (len + n ≤ request_limit)
whole-within h len n same short sized =
    let some = head-some h in
    let most = body_length-le h.minor (fields_of h) n sized in
    (omega (arith, same, some), omega (arith, same, short, most))
