-- What a caller is told is a function of the first view and of what is heard.
use Rattle.portal_rules.proofs.Base.{◌≡◌, ◌≢◌, Bool, true, false, cond, List, [], ◌∷◌, ◌++◌, refl, sym, ◌∙◌, ap, subst}
use Rattle.portal_rules.proofs.Base.{inl, inr, not, ◌||◌, Key, equals, World, view, Answer, Wish, Calls}
use Rattle.portal_rules.proofs.Base.{NoCall, Request, Answers, Serves, Run, end_of, AllAnswered, HeardItem}
use Rattle.portal_rules.proofs.Base.{is_move_or_add, ChangeSeen, SeenIf, Heard, replies_to, arith, Sight}
use Rattle.portal_rules.proofs.Base.{unavailable, Asked, HeardOf}
use Rattle.portal_rules.specs.Told.{reply_to, view_after, replies_from, view_from}
use Rattle.portal_rules.proofs.Keys.{is_same}
use Rattle.portal_rules.proofs.Acts.{own_kept, own_move}

-- one request: v to u, with the reply among the caller's or not
record Hears (v u : Sight) (mine : Bool) (a : Answer) (items : List HeardItem) : Type 0 where
  replies : (rest : List HeardItem) → replies_from v (items ++ rest) ≡ cond mine (a ∷ replies_from u rest) (replies_from u rest)
  last : (rest : List HeardItem) → view_from v (items ++ rest) ≡ view_from u rest

-- a view that is shown where it is another
shown : (v u : Sight) (seen : List HeardItem) (a : Answer) → ChangeSeen v u seen → Hears v u false a seen
shown v u seen a (inl (same, none)) = rw none
    (record { replies = λ rest. ap (λ x. replies_from x rest) (sym same); last = λ rest. ap (λ x. view_from x rest) (sym same) })
shown v u seen a (inr (other, one)) = rw one (record { replies = λ rest. refl; last = λ rest. refl })

-- the caller's own request, and then a view that may be shown
after_own : (v u : Sight) (head closes : Bool) (wish : Wish) (a : Answer) (seen : List HeardItem) → a ≡ reply_to v wish
    → Hears (view_after v wish) u false a seen → Hears v u true a (Asked head closes wish ∷ seen)
after_own v u head closes wish a seen e h =
    record {
      replies = λ rest. ap (λ x. x ∷ replies_from (view_after v wish) (seen ++ rest)) (sym e) ∙ ap (λ as'. a ∷ as') (h.replies rest);
      last = λ rest. h.last rest;
    }

answered_by : (w w' : World) (r : Request) (wish : Wish) (a : Answer) → Answers w r wish a w'
    → a ≡ reply_to (view w r.code) wish
answered_by w w' r wish a s = grind arith

kept : (w w' : World) (r : Request) (wish : Wish) (a : Answer) → Answers w r wish a w' → is_move_or_add wish ≡ false
    → view w' r.code ≡ view_after (view w r.code) wish
kept w w' r (Calls ask) a s calm = own_kept w w' r.code _ refl ask calm s.left
kept w w' r (NoCall refusal) a s calm = ap (λ u. view u r.code) s.1

moved : (v : Sight) (wish : Wish) → is_move_or_add wish ≡ true → view_after v wish ≡ v
moved v wish e = grind (arith, own_move v)

own_hears : (w w' : World) (r : Request) (a : Answer) (seen : List HeardItem) → Answers w r r.wish a w' → (b : Bool)
    → is_move_or_add r.wish ≡ b → SeenIf b (view w r.code) (view w' r.code) seen
    → Hears (view w r.code) (view w' r.code) true a (Asked r.head r.closes r.wish ∷ seen)
own_hears w w' r a seen s true e see = after_own _ _ _ _ r.wish a seen (answered_by w w' r r.wish a s)
    (rw (moved (view w r.code) r.wish e) (shown _ _ seen a see))
own_hears w w' r a seen s false e see =
    after_own _ _ _ _ r.wish a seen (answered_by w w' r r.wish a s)
    (rw see (record {
      replies = λ rest. ap (λ x. replies_from x rest) (sym (kept w w' r r.wish a s e));
      last = λ rest. ap (λ x. view_from x rest) (sym (kept w w' r r.wish a s e));
    }))

hears : (c : Key) (w w' : World) (r : Request) (a : Answer) (seen : List HeardItem) (b : Bool)
    → equals r.code c ≡ b → (b ≡ true → Answers w r r.wish a w')
    → SeenIf (not b || is_move_or_add r.wish) (view w c) (view w' c) seen
    → Hears (view w c) (view w' c) b a (cond b (Asked r.head r.closes r.wish ∷ []) [] ++ seen)
hears c w w' r a seen true e s see =
    let at : r.code ≡ c = is_same r.code c e in
    subst (λ k. Hears (view w k) (view w' k) true a (Asked r.head r.closes r.wish ∷ seen)) at
    (own_hears w w' r a seen (s refl) (is_move_or_add r.wish) refl
    (subst (λ k. SeenIf (is_move_or_add r.wish) (view w k) (view w' k) seen) (sym at) see))
hears c w w' r a seen false e s see = shown _ _ seen a see

-- 503 aside
pub really : (w w' : World) (r : Request) (a : Answer) → Serves w r a w' → a ≢ unavailable → Answers w r r.wish a w'
really w w' r a (inl s) ok = s
really w w' r a (inr s) ok = absurd (ok s.0)

-- a reply 503 to another changes nothing that is not heard
one : (c : Key) (w w' : World) (r : Request) (a : Answer) (items : List HeardItem) → Serves w r a w'
    → (equals r.code c ≡ true → a ≢ unavailable)
    → HeardOf c w r w' items → Hears (view w c) (view w' c) (equals r.code c) a items
one c w w' r a items s ok h = rw h.2 (hears c w w' r a h.0 (equals r.code c) refl (λ own. really w w' r a s (ok own)) h.1)

-- no reply to the caller is 503: neither this one, if it is the caller's, nor another
apart : (own : Bool) (a : Answer) (rest : List Answer) → AllAnswered (cond own (a ∷ rest) rest)
    → (own ≡ true → a ≢ unavailable) × AllAnswered rest
apart true a rest all = (λ own. all.0, all.1)
apart false a rest all = (λ own failed. cc, all)

pub answered_to : (c : Key) (asked : List Request) (told : List Answer) → AllAnswered told
    → AllAnswered (replies_to c asked told)
answered_to c [] told all = tt
answered_to c (r ∷ rs) [] all = tt
answered_to c (r ∷ rs) (a ∷ told) all =
    let rest : AllAnswered (replies_to c rs told) = answered_to c rs told all.1 in
    elim (equals r.code c) as (λ b. AllAnswered
    (cond b (a ∷ replies_to c rs told) (replies_to c rs told))) [ true ↦ (all.0, rest) | false ↦ rest ]

-- the replies, and the last view, of a whole run
pub replies_told : (c : Key) (w : World) (asked : List Request) (answers : List Answer) (worlds : List World) (items : List HeardItem)
    → Run w asked answers worlds → AllAnswered (replies_to c asked answers) → Heard c w asked worlds items
    → (replies_to c asked answers ≡ replies_from (view w c) items) × (view (end_of w worlds) c ≡ view_from (view w c) items)
replies_told c w [] [] [] items run all heard = rw heard (refl, refl)
replies_told c w (r ∷ rs) (a ∷ answers) (v ∷ worlds) items run all heard =
    let ok : (equals r.code c ≡ true → a ≢ unavailable) × AllAnswered (replies_to c rs answers)
    = apart (equals r.code c) a (replies_to c rs answers) all in
    let rest : (replies_to c rs answers ≡ replies_from (view v c) heard.1) × (view (end_of v worlds) c ≡ view_from (view v c) heard.1)
    = replies_told c v rs answers worlds heard.1 run.1 ok.1 heard.3 in
    let h : Hears (view w c) (view v c) (equals r.code c) a heard.0 = one c w v r a heard.0 run.0 ok.0 heard.2 in
    rw heard.4 (ap (λ zs. cond (equals r.code c) (a ∷ zs) zs) rest.0 ∙ sym (h.replies heard.1), rest.1 ∙ sym (h.last heard.1))
replies_told c w asked answers worlds items run all heard = grind arith

pub same_replies : (c : Key) (w v : World) (asked others : List Request) (said said' : List Answer) (after later : List World)
    (items : List HeardItem)
    → Run w asked said after → AllAnswered (replies_to c asked said) → Heard c w asked after items
    → Run v others said' later → AllAnswered (replies_to c others said') → Heard c v others later items
    → view w c ≡ view v c
    → (replies_to c asked said ≡ replies_to c others said') × (view (end_of w after) c ≡ view (end_of v later) c)
same_replies c w v asked others said said' after later items run all heard run' all' heard' same =
    let first = replies_told c w asked said after items run all heard in
    let second = replies_told c v others said' later items run' all' heard' in (
      first.0 ∙ ap (λ x. replies_from x items) same ∙ sym second.0,
      first.1 ∙ ap (λ x. view_from x items) same ∙ sym second.1,
    )
