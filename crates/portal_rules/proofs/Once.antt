-- Each run has exactly one list of what a caller hears.
use Rattle.portal_rules.proofs.Base.{◌≡◌, ◌≢◌, arith, Bool, true, false, List, [], ◌∷◌, ◌++◌, refl, sym, ◌∙◌, ap, inl}
use Rattle.portal_rules.proofs.Base.{inr, ◌⊎◌, Key, World, view, Request, HeardItem, Sees, ChangeSeen, SeenIf, Heard}
use Rattle.portal_rules.proofs.Base.{Sight, own_item, may_show}
use Rattle.std.specs.Coded.{Coded, codes}
use base.Stored.{Gv, gnil, gnum, gcons}

-- whether two sights are the same can be told, by their codes

abbrev Decided : Type 0 → Type 0
Decided X = (x y : X) → (x ≡ y) ⊎ (x ≢ y)

code_decided : Decided Gv
code_decided gnil gnil = inl refl
code_decided (gnum a) (gnum b) = grind arith
code_decided (gcons a b) (gcons c d) = grind (arith, code_decided a c, code_decided b d)
code_decided gnil _ = inr (λ e. cc)
code_decided (gnum a) _ = inr (λ e. cc)
code_decided (gcons a b) _ = inr (λ e. cc)

sight_coded : Coded Sight
sight_coded = hlevel codes

pub sight_decided : Decided Sight
sight_decided x y = elim (code_decided (sight_coded.code x) (sight_coded.code y)) [
  | inl e ↦ inl (sight_coded.inj x y e)
  | inr n ↦ inr
      (λ e. n (ap sight_coded.code e))
]

-- there is such a list

seen_there : (b : Bool) (old new : Sight) → (seen : List HeardItem) × SeenIf b old new seen
seen_there false old new = ([], refl)
seen_there true old new = go (sight_decided new old)
  where
    go : (new ≡ old) ⊎ (new ≢ old) → (seen : List HeardItem) × ChangeSeen old new seen
    go (inl e) = ([], inl (e, refl))
    go (inr n) = (Sees new ∷ [], inr (n, refl))

pub heard_there : (c : Key) (w : World) (asked : List Request) (worlds : List World)
    → (items : List HeardItem) × Heard c w asked worlds items
heard_there c w [] worlds = ([], refl)
heard_there c w (r ∷ rs) [] = ([], refl)
heard_there c w (r ∷ rs) (v ∷ worlds) =
    let seen : (seen : List HeardItem) × SeenIf (may_show c r) (view w c) (view v c) seen =
    seen_there (may_show c r) (view w c) (view v c) in
    let rest : (items : List HeardItem) × Heard c v rs worlds items = heard_there c v rs worlds in
    ((own_item c r ++ seen.0) ++ rest.0, (own_item c r ++ seen.0, rest.0, (seen.0, seen.1, refl), rest.1, refl))

-- and no other

seen_once : (s : Bool) (old new : Sight) (a b : List HeardItem) → SeenIf s old new a → SeenIf s old new b → a ≡ b
seen_once s old new a b x y = grind arith

pub heard_once : (c : Key) (w : World) (asked : List Request) (worlds : List World) (a b : List HeardItem)
    → Heard c w asked worlds a → Heard c w asked worlds b → a ≡ b
heard_once c w [] worlds a b x y = x ∙ sym y
heard_once c w (r ∷ rs) [] a b x y = x ∙ sym y
heard_once c w (r ∷ rs) (v ∷ worlds) a b x y =
    let firsts : x.0 ≡ y.0 = x.2.2 ∙ ap (λ s. own_item c r ++ s) (seen_once (may_show c r) (view w c) (view v c) x.2.0 y.2.0 x.2.1 y.2.1)
    ∙ sym y.2.2 in
    let rests : x.1 ≡ y.1 = heard_once c v rs worlds x.1 y.1 x.3 y.3 in
    x.4 ∙ (λ i. firsts i ++ rests i) ∙ sym y.4
