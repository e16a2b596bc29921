-- One exchange more.
use Rattle.portal_desk.proofs.Base.{◌≡◌, ℕ, ◌-◌, Bool, true, false, List, [], ◌∷◌, ◌++◌, length, refl, sym, ap, ◌∙◌}
use Rattle.portal_desk.proofs.Base.{subst, arith, append-nil, append_assoc, World, Request, Run, AllAnswered, end_of}
use Rattle.portal_desk.proofs.Base.{RequestContent, Opens, Whole, request_of, closes_at, Rest, More, Shut, Leads}
use Rattle.portal_desk.proofs.Base.{Exchange}
use Rattle.portal_desk.proofs.Base.{requests_of, replies_of, text, exchange_text, Reaches}
use Rattle.std.specs.Bool.{MatchBool}

pub text-snoc : (es : List Exchange) (e : Exchange) → text (es ++ e ∷ []) ≡ text es ++ exchange_text e
text-snoc [] e = append-nil (exchange_text e)
text-snoc (x ∷ es) e = ap (λ t. exchange_text x ++ t) (text-snoc es e) ∙ sym (append_assoc (exchange_text x) (text es) (exchange_text e))

-- one list of exchanges after another
pub Run-append : (w : World) (es fs : List Exchange) (us vs : List World) → Run w (requests_of es) (replies_of es) us
    → Run (end_of w us) (requests_of fs) (replies_of fs) vs → Run w (requests_of (es ++ fs)) (replies_of (es ++ fs)) (us ++ vs)
Run-append w [] fs [] vs run next = next
Run-append w (e ∷ es) fs (u ∷ us) vs run next = (run.0, Run-append u es fs us vs run.1 next)
Run-append w _ fs _ vs run next = absurd run

pub end_more : (w : World) (us vs : List World) → end_of (end_of w us) vs ≡ end_of w (us ++ vs)
end_more w [] vs = refl
end_more w (u ∷ us) vs = end_more u us vs

pub Reaches-append : (w u v : World) (es fs : List Exchange) → Reaches w es u → Reaches u fs v → Reaches w (es ++ fs) v
Reaches-append w u v es fs (us, run, same) (vs, next, last) = (
  us ++ vs,
  Run-append w es fs us vs run (subst (λ x. Run x (requests_of fs) (replies_of fs) vs) same next),
  last ∙ ap (λ x. end_of x vs) same ∙ end_more w us vs,
)

-- where no reply is 503, none is in either part
pub answered_apart : (es fs : List Exchange) → AllAnswered (replies_of (es ++ fs))
    → AllAnswered (replies_of es) × AllAnswered (replies_of fs)
answered_apart [] fs all = (tt, all)
answered_apart (e ∷ es) fs all = let rest = answered_apart es fs all.1 in ((all.0, rest.0), rest.1)

-- what is left after a request
abbrev pub after_one : Bool → RequestContent → List ℕ → Rest
after_one true a after = Shut a.close
after_one false a after = More after

last_one : (b : Bool) (a : RequestContent) (after : List ℕ)
    → MatchBool b ((◌≡◌ {A = List Request} [] []) × (after_one b a after ≡ Shut a.close)) (after_one b a after ≡ More after)
last_one true a after = (refl, refl)
last_one false a after = refl

goes_on : (b : Bool) (close : Bool) (rs : List Request) (rest : List ℕ) (P Q : Type 0) (R : Type 0)
    → MatchBool b ((rs ≡ []) × (More rest ≡ Shut close)) P → (P → Q) → MatchBool b R Q
goes_on true close rs rest P Q R (e, f) go = absurd (cc)
goes_on false close rs rest P Q R p go = go p

pub Leads-snoc : (left n : ℕ) (bytes : List ℕ) (es : List Exchange) (rest : List ℕ) (e : Exchange) (a : RequestContent) (after : List ℕ)
    → Leads left bytes (requests_of es) (More rest) → Opens rest (Whole a after) → n ≡ left - length es
    → e.request ≡ request_of (closes_at n a) a
    → Leads left bytes (requests_of (es ++ e ∷ [])) (after_one (closes_at n a) a after)
Leads-snoc left n bytes [] rest e a after leads opens at is =
    let same : n ≡ left = omega (arith, at) in
    let whole_left : rest ≡ bytes = cc in
    subst (λ m. Leads m bytes (e.request ∷ []) (after_one (closes_at n a) a after)) same (
      a,
      after,
      subst (λ b. Opens b (Whole a after)) whole_left opens,
      is,
      last_one (closes_at n a) a after,
    )
Leads-snoc left n bytes (x ∷ es) rest e a after (b, next, first, is_first, then) opens at is = (
  b,
  next,
  first,
  is_first,
  goes_on (closes_at left b) b.close (requests_of es) rest _ _ _ then
      (λ leads. Leads-snoc (left - 1) n next es rest e a after leads opens (omega (arith, at)) is),
)
