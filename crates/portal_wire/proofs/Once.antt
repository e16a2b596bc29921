-- A stream has one list of requests and one ending.
use Rattle.portal_wire.proofs.Base.{◌≡◌, ℕ, ◌-◌, Bool, true, false, List, [], ◌∷◌, refl, sym, ap, ◌∙◌, subst, MatchBool}
use Rattle.portal_wire.proofs.Base.{Request, RequestContent, Whole, Opens, answer_to, reply_text, request_of, closes_at}
use Rattle.portal_wire.proofs.Base.{Rest}
use Rattle.portal_wire.proofs.Base.{More, Shut, Leads, Ends, Last, End, Refused, Closed, Limit}
use Rattle.portal_frame.proofs.Unique.{Opens-unique}

-- what two accounts of one stream share
abbrev pub Same : List Request → List Request → Last → Last → List ℕ → List ℕ → Type 0
Same rs qs end last closing text = (rs ≡ qs) × (end ≡ last) × (closing ≡ text)

ends_more : (bytes : List ℕ) (end last : Last) (closing text : List ℕ) → Ends (More bytes) end closing
    → Ends (More bytes) last text
    → (end ≡ last) × (closing ≡ text)
ends_more bytes End End closing text x y = (refl, x.1 ∙ sym y.1)
ends_more bytes End (Refused word) closing text x y = let same = Opens-unique bytes _ _ x.0 y.2 in absurd (cc)
ends_more bytes (Refused word) End closing text x y = let same = Opens-unique bytes _ _ y.0 x.2 in absurd (cc)
ends_more bytes (Refused word) (Refused other) closing text x y =
    let same = Opens-unique bytes _ _ x.2 y.2 in
    let why : x.0 ≡ y.0 = cc in
    let head : x.1 ≡ y.1 = cc in
    (ap Refused (x.3 ∙ ap (λ r. r.word) why ∙ sym y.3), x.4 ∙ (λ i. reply_text (answer_to (why i)) (head i) true) ∙ sym y.4)
ends_more bytes _ _ closing text x y = absurd (search)

ends_shut : (close : Bool) (end last : Last) (closing text : List ℕ) → Ends (Shut close) end closing
    → Ends (Shut close) last text
    → (end ≡ last) × (closing ≡ text)
ends_shut true Closed Closed closing text x y = (refl, x ∙ sym y)
ends_shut false Limit Limit closing text x y = (refl, x ∙ sym y)
ends_shut _ _ _ closing text x y = absurd (search)

-- a stream that ends does not begin with a request
ends_whole : (bytes : List ℕ) (end : Last) (closing : List ℕ) (a : RequestContent) (after : List ℕ)
    → Ends (More bytes) end closing → Opens bytes (Whole a after) → ⊥
ends_whole bytes End closing a after x opens = let same = Opens-unique bytes _ _ x.0 opens in absurd (cc)
ends_whole bytes (Refused r) closing a after x opens = let same = Opens-unique bytes _ _ x.2 opens in absurd (cc)
ends_whole bytes _ closing a after x opens = x

-- the rest of two lists, after equal first requests
rest_same : (b close : Bool) (rs qs : List Request) (rest other : Rest) (end last : Last) (closing text : List ℕ) (P Q : Type 0)
    → MatchBool b ((rs ≡ []) × (rest ≡ Shut close)) P → MatchBool b ((qs ≡ []) × (other ≡ Shut close)) Q
    → Ends rest end closing → Ends other last text
    → (P → Q → Same rs qs end last closing text) → Same rs qs end last closing text
rest_same true close rs qs rest other end last closing text P Q (e, f) (g, h) x y go =
    let same = ends_shut close end last closing text (subst (λ r. Ends r end closing) f x) (subst (λ r. Ends r last text) h y) in
    (e ∙ sym g, same.0, same.1)
rest_same false close rs qs rest other end last closing text P Q p q x y go = go p q

pub once : (left : ℕ) (bytes : List ℕ) (rs qs : List Request) (rest other : Rest) (end last : Last) (closing text : List ℕ)
    → Leads left bytes rs rest → Leads left bytes qs other → Ends rest end closing → Ends other last text → Same rs qs end last closing text
once left bytes [] [] rest other end last closing text e f x y =
    let same = ends_more bytes end last closing text (subst (λ r. Ends r end closing) e x) (subst (λ r. Ends r last text) f y) in
    (refl, same.0, same.1)
once left bytes [] (q ∷ qs) rest other end last closing text e (b, after, opens, is, then) x y =
    absurd (ends_whole bytes end closing b after (subst (λ r. Ends r end closing) e x) opens)
once left bytes (r ∷ rs) [] rest other end last closing text (a, after, opens, is, then) f x y =
    absurd (ends_whole bytes last text a after (subst (λ r. Ends r last text) f y) opens)
once left bytes (r ∷ rs) (q ∷ qs) rest other end last closing text (a, after, opens, is, then) (b, next, opened, was, later) x y =
    let same = Opens-unique bytes _ _ opens opened in
    let one : a ≡ b = cc in
    let rest_one : after ≡ next = cc in
    let later' = subst (λ z. MatchBool (closes_at left z) ((qs ≡ []) × (other ≡ Shut z.close)) (Leads (left - 1) after qs other)) (sym one)
    (subst (λ z. MatchBool (closes_at left b) ((qs ≡ []) × (other ≡ Shut b.close)) (Leads (left - 1) z qs other)) (sym rest_one) later) in
    let s = rest_same (closes_at left a) a.close rs qs rest other end last closing text _ _ then later' x y
    (λ p u. once (left - 1) after rs qs rest other end last closing text p u x y) in
    let head : r ≡ q = is ∙ ap (λ z. request_of (closes_at left z) z) one ∙ sym was in
    (λ i. head i ∷ s.0 i, s.1, s.2)
