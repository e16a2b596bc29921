-- One call of a keeper after another.
use Rattle.portal_desk.proofs.Base.{◌≡◌, ◌∙◌, true, false, inl, inr, subst, World, KeeperState, StaysClean}
use Rattle.portal_desk.proofs.Base.{LastsOrBreaks, CountsFaults, AfterCall, Looks, Changes, Result, Ok, Err}
use Rattle.std.specs.Prelude.{OnOk, IsErr}
use Rattle.std.proofs.lemmas.Result.{on_ok_weaker, on_err_weaker}
use Rattle.portal_rules.specs.declared.keeper.KeepFault.{KeepFault}

pub lasts_then : (a b c : KeeperState) → StaysClean a b → StaysClean b c → StaysClean a c
lasts_then a b c h k = λ disk. let after = k disk in let before = h after.0 in (before.0, λ on. after.1 (before.1 on))

pub breaks_then : (a b c : KeeperState) → LastsOrBreaks a b → LastsOrBreaks b c → LastsOrBreaks a c
breaks_then a b c h k = λ disk.
    let after = k disk in
    let before = h after.0 in
    (before.0, λ on. elim (before.1 on) [ inl up ↦ after.1 up | inr bad ↦ inr (after.2 bad) ], λ bad. after.2 (before.2 bad))

-- a call that looks, and then one that makes what `turned` says
pub uses_then : {A B : Type 0} (a : A) (r : Result B KeepFault) (old mid new : KeeperState) (made turned : World → Type 0)
    → AfterCall {E = KeepFault} (Ok a) old mid (λ _. ⊥) → AfterCall r mid new made
    → (new.disk → (w : World) → made w → turned w) → AfterCall r old new turned
uses_then a r old mid new made turned h k more = record {
  clean = λ on. h.clean (k.clean on);
  lasts = on_ok_weaker r (λ stays. lasts_then old mid new h.lasts stays) k.lasts;
  breaks = breaks_then old mid new h.breaks k.breaks;
  settled = k.settled;
  leaves = λ disk w left. elim (k.leaves disk w left) [
    | inl was ↦ elim (h.leaves (k.breaks disk).0 w was) [ inl first ↦ inl first | inr never ↦ absurd never ]
    | inr so ↦ inr (more disk w so)
  ];
}

-- the same of a change
pub changes_then : {A B : Type 0} (a : A) (r : Result B KeepFault) (old mid new : KeeperState) (made turned : World → Type 0)
    → Looks (Ok a) old mid → Changes r mid new made
    → (mid.clean → (w : World) → made w → turned w) → Changes r old new turned
changes_then a r old mid new made turned h k more = record {
  uses = uses_then a r old mid new _ _ h.uses k.uses
      (λ disk w so on. let up = (h.uses.lasts (k.uses.breaks disk).0).1 on in more up w (so up));
  alive = k.alive;
  made = on_ok_weaker r (λ so on. more (k.uses.clean on) new.world (so on)) k.made;
  same = on_err_weaker r (λ so on. so on ∙ h.same (k.uses.clean on)) k.same;
  counts = subst (λ n. CountsFaults r n new.faults) h.counts k.counts;
}

at_ok : {A E P : Type 0} (r : Result A E) → P → OnOk r P
at_ok (Ok a) p = p
at_ok (Err e) p = tt

-- what a call that succeeded says, whatever follows that leaves the keeper alone
pub uses_on : {A B : Type 0} (a : A) (r : Result B KeepFault) (old new : KeeperState) (made : World → Type 0)
    → AfterCall {E = KeepFault} (Ok a) old new made → AfterCall r old new made
uses_on a r old new made h = record { clean = h.clean; lasts = at_ok r h.lasts; breaks = h.breaks; settled = h.settled; leaves = h.leaves }

-- what a call that failed says, where its fault is handed on
pub uses_err : {A B : Type 0} (s : Result A KeepFault) (r : Result B KeepFault) (old new : KeeperState) (made : World → Type 0)
    → AfterCall s old new made → IsErr r → AfterCall r old new made
uses_err s (Ok b) old new made h failed = let e : false ≡ true = failed in absurd (cc)
uses_err s (Err e) old new made h failed = record { clean = h.clean; lasts = tt; breaks = h.breaks; settled = h.settled; leaves = h.leaves }
