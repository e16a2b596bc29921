-- Replies do not tell the order within students' lists before the result is open.
use Rattle.portal_rules.proofs.Base.{◌≡◌, [], Bool, true, false, cond, List, ◌∷◌, refl, sym, ◌∙◌, subst, inl, inr, ◌⊎◌}
use Rattle.portal_rules.proofs.Base.{Option, Some, None, is_none, AllZip, Data, Key, World, is_choosing, Choices}
use Rattle.portal_rules.proofs.Base.{changed, Listing, StudentSees, Student, view, AbstractCall, projects_body}
use Rattle.portal_rules.proofs.Base.{ListFault, choice_fault, Answer, Act, Decision, Nothing, Apply, Publish, Render}
use Rattle.portal_rules.proofs.Base.{open_where, unless_faulty, applies, already_placed, decision, answer, to_student}
use Rattle.portal_rules.proofs.Base.{StepLeaves, Step, Wish, Calls, NoCall, Request, Answers, Run, AllAnswered}
use Rattle.portal_rules.proofs.Base.{Reordered, SameUpToListOrder, arith, Sight, SameWish, Equal, Sets, SameRequest}
use Rattle.portal_rules.proofs.Base.{shows_own_list, moves_to_published, Unless, AlikeUntilPublished}
use Rattle.portal_rules.proofs.Hearing.{really}
use Rattle.portal_rules.proofs.Reorder.{accepted_reordered, reordered_back}
use Rattle.portal_rules.proofs.Similar.{SameSight, same_view, both_choose, both_changed}

unless_any : (b : Bool) (P : Type 0) → P → Unless b P
unless_any b P p = grind arith

pub unless_map : (b : Bool) (P Q : Type 0) → (P → Q) → Unless b P → Unless b Q
unless_map b P Q f p = grind (arith, f)

-- acts that differ at most in the order of a student's list
data SameAct : Act → Act → Type 0 where
  same_act : (a : Act) → SameAct a a
  reorders : (k : Key) {ks ls : List Key} → Reordered ks ls → SameAct (Apply (Choices k ks)) (Apply (Choices k ls))

-- one call of callers who see the same

abbrev Decides : Sight → Sight → AbstractCall → Type 0
Decides x y ask = Unless (shows_own_list (Calls ask)) (answer x ask ≡ answer y ask) × SameAct (decision x ask).act (decision y ask).act

of_student : (v : StudentSees) (list : List Key) (ask : AbstractCall)
    → Decides (Student v) (Student (record v { choices = list })) ask
of_student v list AbstractCall.ShowChoices = (tt, same_act Nothing)
of_student v list (AbstractCall.SetChoices ks) = (tt, same_act _)
of_student v list _ = (refl, same_act _)

same_ask : (x y : Sight) → SameSight x y → (ask : AbstractCall) → Decides x y ask
same_ask (Student v) (Student u) s ask = subst (λ z. Decides (Student v) (Student z) ask) s (of_student v u.choices ask)
same_ask x y s ask = subst (λ u. Decides x u ask) s (unless_any _ _ refl, same_act _)

-- lists in another order are both taken or both refused

set_acts : (catalogue : List Listing) (me : Key) (ks ls : List Key) → Reordered ks ls
    → (b free : Bool) (e f : Option ListFault) → choice_fault catalogue ks ≡ e → choice_fault catalogue ls ≡ f
    → (c d : Data)
    → SameAct (open_where b (cond free (unless_faulty e (applies c (Choices me ks))) already_placed)).act
    (open_where b (cond free (unless_faulty f (applies d (Choices me ls))) already_placed)).act
set_acts catalogue me ks ls r false free e f ee ef c d = same_act Nothing
set_acts catalogue me ks ls r true false e f ee ef c d = same_act Nothing
set_acts catalogue me ks ls r true true None None ee ef c d = reorders me r
set_acts catalogue me ks ls r true true (Some x) (Some y) ee ef c d = same_act Nothing
set_acts catalogue me ks ls r true true None (Some y) ee ef c d = let e : None ≡ Some y = sym (accepted_reordered catalogue ks ls r ee)
    ∙ ef in cc
set_acts catalogue me ks ls r true true (Some x) None ee ef c d = let e : None
    ≡ Some x = sym (accepted_reordered catalogue ls ks (reordered_back ks ls r) ef) ∙ ee in cc

same_sets : (x y : Sight) → SameSight x y → (ks ls : List Key) → Reordered ks ls
    → SameAct (decision x (AbstractCall.SetChoices ks)).act (decision y (AbstractCall.SetChoices ls)).act
same_sets (Student v) (Student u) s ks ls r =
    subst (λ z. SameAct (to_student v (AbstractCall.SetChoices ks)).act (to_student z (AbstractCall.SetChoices ls)).act) s
    (set_acts v.catalogue v.me.key ks ls r (is_choosing v.phase) (is_none v.result) (choice_fault v.catalogue ks)
    (choice_fault v.catalogue ls) refl refl (projects_body ks) (projects_body ls))
same_sets (Student v) y s ks ls r = grind arith
same_sets x y s ks ls r = subst (λ z. SameAct Nothing (decision z (AbstractCall.SetChoices ls)).act) s (same_act Nothing)

-- what publishes is an accepted move to published

abbrev is_publish : Act → Bool
is_publish Publish = true
is_publish _ = false

abbrev Opens : AbstractCall → Decision → Type 0
Opens ask d = is_publish d.act ≡ true → moves_to_published (Calls ask) d.reply ≡ true

publishes_opens : (x : Sight) (ask : AbstractCall) → Opens ask (decision x ask)
publishes_opens x ask = grind arith

-- one request

after : (v w v' w' : World) (a b : Act) → SameUpToListOrder v w → SameAct a b → is_publish a ≡ false → StepLeaves v a v'
    → StepLeaves w b w' → SameUpToListOrder v' w'
after v w v' w' _ _ s (same_act Nothing) e l m = subst (λ x. SameUpToListOrder x w') (sym l) (subst (λ x. SameUpToListOrder v x) (sym m) s)
after v w v' w' _ _ s (same_act (Apply change)) e l m =
    subst (λ x. SameUpToListOrder x w') (sym l) (subst (λ x. SameUpToListOrder (changed v change) x) (sym m) (both_changed v w change s))
after v w v' w' _ _ s (same_act (Render sheet)) e l m =
    subst (λ x. SameUpToListOrder x w') (sym l) (subst (λ x. SameUpToListOrder v x) (sym m) s)
after v w v' w' _ _ s (same_act Publish) e l m = cc
after v w v' w' _ _ s (reorders k {ks} {ls} r) e l m =
    subst (λ x. SameUpToListOrder x w') (sym l)
    (subst (λ x. SameUpToListOrder (changed v (Choices k ks)) x) (sym m) (both_choose v w k ks ls r s))

abbrev Goes : Wish → Answer → Answer → World → World → Type 0
Goes p a b v' w' = Unless (shows_own_list p) (a ≡ b) × (SameUpToListOrder v' w' ⊎ (moves_to_published p a ≡ true))

goes_on : (v w v' w' : World) (c : Key) (ask ask' : AbstractCall) (a b : Answer) → SameUpToListOrder v w → Step v c ask a v'
    → Step w c ask' b w' → SameAct (decision (view v c) ask).act (decision (view w c) ask').act
    → SameUpToListOrder v' w' ⊎ (moves_to_published (Calls ask) a ≡ true)
goes_on v w v' w' c ask ask' a b s l m same = go (is_publish (decision (view v c) ask).act) refl
  where
    go : (p : Bool) → is_publish (decision (view v c) ask).act ≡ p
        → SameUpToListOrder v' w' ⊎ (moves_to_published (Calls ask) a ≡ true)
    go true e = inr (subst (λ x. moves_to_published (Calls ask) x ≡ true) (sym l.told) (publishes_opens (view v c) ask e))
    go false e = inl (after v w v' w' _ _ s same e l.left m.left)

one_goes : (v w v' w' : World) (q r : Request) → SameUpToListOrder v w → q.code ≡ r.code → (p p' : Wish) → SameWish p p'
    → (a b : Answer) → Answers v q p a v' → Answers w r p' b w' → Goes p a b v' w'
one_goes v w v' w' q r s code _ _ (Equal (Calls ask)) a b l m =
    let n : Step w q.code ask b w' = subst (λ c. Step w c ask b w') (sym code) m in
    let d : Decides (view v q.code) (view w q.code) ask = same_ask _ _ (same_view v w s q.code) ask in
    (unless_map _ _ _ (λ e. l.told ∙ e ∙ sym n.told) d.0, goes_on v w v' w' q.code ask ask a b s l n d.1)
one_goes v w v' w' q r s code _ _ (Equal (NoCall refusal)) a b l m =
    (l.0 ∙ sym m.0, inl (subst (λ x. SameUpToListOrder x w') (sym l.1) (subst (λ x. SameUpToListOrder v x) (sym m.1) s)))
one_goes v w v' w' q r s code _ _ (Sets {ks} {ls} o) a b l m =
    let n : Step w q.code (AbstractCall.SetChoices ls) b w' = subst (λ c. Step w c (AbstractCall.SetChoices ls) b w') (sym code) m in (
      tt,
      goes_on v w v' w' q.code (AbstractCall.SetChoices ks) (AbstractCall.SetChoices ls) a b s l n
          (same_sets _ _ (same_view v w s q.code) ks ls o),
    )

-- whole runs
pub places_unseen : (v w : World) (asked others : List Request) (told said : List Answer) (after later : List World)
    → SameUpToListOrder v w → AllZip SameRequest asked others → Run v asked told after → AllAnswered told → Run w others said later
    → AllAnswered said → AlikeUntilPublished asked told told said
places_unseen v w [] others told said after later s z run all run' all' = tt
places_unseen v w (q ∷ qs) (r ∷ rs) (a ∷ told) (b ∷ said) (v' ∷ after) (w' ∷ later) s z run all run' all' =
    let one : Goes q.wish a b v' w' = one_goes v w v' w' q r s z.0.code q.wish r.wish z.0.wish a b (really v v' q a run.0 all.0)
    (really w w' r b run'.0 all'.0) in
    (one.0, rest one.1 (λ t. places_unseen v' w' qs rs told said after later t z.1 run.1 all.1 run'.1 all'.1))
  where
    rest : SameUpToListOrder v' w' ⊎ (moves_to_published q.wish a ≡ true)
        → (SameUpToListOrder v' w' → AlikeUntilPublished qs told told said)
        → Unless (moves_to_published q.wish a) (AlikeUntilPublished qs told told said)
    rest (inl t) k = unless_any _ _ (k t)
    rest (inr e) k = subst (λ b. Unless b (AlikeUntilPublished qs told told said)) (sym e) tt
places_unseen v w asked others told said after later s z run all run' all' = grind arith
