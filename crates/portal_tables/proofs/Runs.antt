-- Steps of a transaction in turn, whatever the change.
use Rattle.portal_tables.proofs.Base.{◌≡◌, arith, inl, inr, Bool, true, false, IsTrue, IsErr, Result, Ok, refl, sym, ap}
use Rattle.portal_tables.proofs.Base.{subst, ◌∙◌, on_ok_weaker, IfOk-from_err, Error, Transaction, cases_Bool, Database}
use Rattle.portal_tables.proofs.Base.{State, HasCleanDisk, Survives, KeepsCommit, Shows, IsRolledBack, FailsToCommit}
use Rattle.portal_tables.proofs.Base.{Ghosts, Held, state, doubt, no_doubt, survives_then, survives_begin, kept_then}
use Rattle.portal_tables.proofs.Base.{Made, GoesOn, Does, Commits, IsAfter, Stays}

-- a step after another
pub made_then : (A B C : Database → Database → Type 0) (old mid new : State) → Made A old mid → Made B mid new
    → (A old.now mid.now → B mid.now new.now → C old.now new.now) → Made C old new
made_then A B C old mid new a b joined = record {
  shown = record {
    was_open = a.shown.was_open;
    is_open = b.shown.is_open;
    now_is = refl;
    committed_is = b.shown.committed_is ∙ a.shown.committed_is;
    mode = b.shown.mode;
  };
  changed = joined a.changed b.changed;
}

-- what was made is so much more
pub made_more : (A B : Database → Database → Type 0) (old new : State) → Made A old new
    → (A old.now new.now → B old.now new.now) → Made B old new
made_more A B old new a more = record { shown = a.shown; changed = more a.changed }

-- a step is one of those that may be none
pub made_goes : (C : Database → Database → Type 0) (old new : State) → Made C old new → GoesOn C old new
made_goes C old new made = record { mode = λ _. made.shown.mode; changed = made.changed }

-- no step, a step after others, and what was made is so much more
pub goes_nowhere : (C : Database → Database → Type 0) (s : State) → C s.now s.now → GoesOn C s s
goes_nowhere C s same = record { mode = λ on. on; changed = same }

pub goes_then : (A B C : Database → Database → Type 0) (old mid new : State) → GoesOn A old mid → Made B mid new
    → (A old.now mid.now → B mid.now new.now → C old.now new.now) → GoesOn C old new
goes_then A B C old mid new a b joined = record { mode = λ _. b.shown.mode; changed = joined a.changed b.changed }

pub goes_both : (A B C : Database → Database → Type 0) (old mid new : State) → GoesOn A old mid → GoesOn B mid new
    → (A old.now mid.now → B mid.now new.now → C old.now new.now) → GoesOn C old new
goes_both A B C old mid new a b joined = record { mode = λ on. b.mode (a.mode on); changed = joined a.changed b.changed }

pub goes_more : (A B : Database → Database → Type 0) (old new : State) → GoesOn A old new
    → (A old.now new.now → B old.now new.now) → GoesOn B old new
goes_more A B old new a more = record { mode = a.mode; changed = more a.changed }

pub kept_same : (s : State) → KeepsCommit s s
kept_same s = record { was_open = λ on. on; committed = λ on. refl }

pub survives_same : (s : State) → Survives s s (λ _. ⊥)
survives_same s = record {
  clean = omega arith;
  shield = λ h. h;
  counts = omega arith;
  limit = refl;
  closes = λ clean on. inl on;
  crash = λ clean db h. inl h;
}

-- Calls in one transaction: none yet.
pub does_none : {S A : Type 0} (g : Ghosts S) (P : State → State → Type 0) (a : A) (tx : Transaction S)
    → P (state g tx.conn.now) (state g tx.conn.now) → Does g P (Ok a) tx tx
does_none g P a tx same = record {
  same_reference = refl;
  done = λ clean. same;
  kept = λ clean. kept_same (state g tx.conn.now);
  survives = survives_same (state g tx.conn.now);
}

-- a call after another that answered Ok
pub does_then : {S A B : Type 0} (g : Ghosts S) (P Q R : State → State → Type 0) (a : A) (r : Result B Error) (old mid new : Transaction S)
    → Does g P (Ok a) old mid → Does g Q r mid new
    → (P (state g old.conn.now) (state g mid.conn.now) → Q (state g mid.conn.now) (state g new.conn.now)
    → R (state g old.conn.now) (state g new.conn.now)) → Does g R r old new
does_then g P Q R a r old mid new before after joined = record {
  same_reference = after.same_reference ∙ before.same_reference;
  done = λ clean. on_ok_weaker r (joined (before.done (omega (arith, clean, after.survives.clean)))) (after.done clean);
  kept = λ clean. kept_then _ _ _ (before.kept (omega (arith, clean, after.survives.clean))) (after.kept clean);
  survives = survives_then _ _ _ _ _ (λ _. ⊥) (λ _ db none. none) (λ _ db none. none) before.survives after.survives;
}

-- an error is answered: what it left, after a call that was made, and where none was
module _ {S B : Type 0} (g : Ghosts S) {Q : State → State → Type 0} (s : Result B Error) (failed : IsErr s) where
  pub does_failed : {A : Type 0} {P : State → State → Type 0} {r : Result A Error} {old new : Transaction S}
      → Does g P r old new → Does g Q s old new
  does_failed does = record {
    same_reference = does.same_reference;
    done = λ clean. IfOk-from_err s _ failed;
    kept = does.kept;
    survives = does.survives;
  }

  pub does_nothing : (tx : Transaction S) → Does g Q s tx tx
  does_nothing tx = record {
    same_reference = refl;
    done = λ clean. IfOk-from_err s _ failed;
    kept = λ clean. kept_same (state g tx.conn.now);
    survives = survives_same (state g tx.conn.now);
  }

-- a call after another, where only that they were made counts
pub does_both : {S A B : Type 0} (g : Ghosts S) {P Q : State → State → Type 0} {a : A} {r : Result B Error} {old mid new : Transaction S}
    → Does g P (Ok a) old mid → Does g Q r mid new → Does g (λ _ _. Unit {0}) r old new
does_both g before after = does_then g _ _ (λ _ _. Unit {0}) _ _ _ _ _ before after (λ p q. tt)

-- three calls in turn
pub does_three : {S T U V : Type 0} (g : Ghosts S) (A B C D : Database → Database → Type 0) (x : T) (y : U) (r : Result V Error)
    (a b c d : Transaction S)
    → Does g (GoesOn A) (Ok x) a b → Does g (Made B) (Ok y) b c → Does g (Made C) r c d
    → (A (state g a.conn.now).now (state g b.conn.now).now → B (state g b.conn.now).now (state g c.conn.now).now
    → C (state g c.conn.now).now (state g d.conn.now).now → D (state g a.conn.now).now (state g d.conn.now).now)
    → Does g (GoesOn D) r a d
does_three g A B C D x y r a b c d p q s joined =
    let middle = (state g b.conn.now).now in
    let Both : Database → Database → Type 0 = λ old new. A old middle × B middle new in
    let first = does_then g (GoesOn A) (Made B) (GoesOn Both) x (Ok y) a b c p q (λ p q. goes_then A B Both _ _ _ p q (λ i j. (i, j))) in
    does_then g (GoesOn Both) (Made C) (GoesOn D) y r a c d first s (λ p q. goes_then Both C D _ _ _ p q (λ both. joined both.0 both.1))

-- what was done is so much more
pub does_more : {S A : Type 0} (g : Ghosts S) (P Q : State → State → Type 0) (r : Result A Error) (old new : Transaction S)
    → Does g P r old new
    → (P (state g old.conn.now) (state g new.conn.now) → Q (state g old.conn.now) (state g new.conn.now)) → Does g Q r old new
does_more g P Q r old new does more = record {
  same_reference = does.same_reference;
  done = λ clean. on_ok_weaker r more (does.done clean);
  kept = does.kept;
  survives = does.survives;
}

-- A transaction whose steps may be none: what its commit and a crash leave.
module _ {S : Type 0} (g : Ghosts S) (C : Database → Database → Type 0) (old begun mid last : Held S)
    (is : begun ≡ record old { in_transaction = true }) where
  pub ended_well : KeepsCommit (state g begun) (state g mid) → GoesOn C (state g begun) (state g mid)
      → Shows (state g mid) (state g last) (state g mid).now (state g mid).now false
      → Commits C (state g old) (state g last)
  ended_well kept made done = record {
    was_open = (subst (λ h. KeepsCommit (state g h) (state g mid)) is kept).was_open done.was_open;
    is_open = done.is_open;
    settled = done.committed_is ∙ sym done.now_is;
    changed = subst (C (state g old).now) (sym done.now_is) (subst (λ h. C (state g h).now (state g mid).now) is made.changed);
  }

  pub ended_crash : Survives (state g begun) (state g mid) (λ _. ⊥)
      → (HasCleanDisk (state g mid) → GoesOn C (state g begun) (state g mid))
      → Survives (state g mid) (state g last) (λ db. db ≡ (state g mid).now.trees)
      → Survives (state g old) (state g last) (IsAfter C (state g old))
  ended_crash inside made ends =
      let first : Survives (state g old) (state g mid) (λ _. ⊥) =
      survives_begin g old (state g mid) (λ _. ⊥) (subst (λ h. Survives (state g h) (state g mid) (λ _. ⊥)) is inside) in
      survives_then (state g old) (state g mid) (state g last) _ _ (IsAfter C (state g old)) (λ _ db none. absurd none)
      (λ clean db same.
      let m = subst (λ h. C (state g h).now (state g mid).now) is (made (omega (arith, clean, ends.clean))).changed in
      ((state g mid).now, m, same)) first ends

  -- where the commit fails, nothing is changed
  pub ended_badly : (e : Error) → (IsTrue (state g old).is_open → (state g old).now ≡ (state g old).committed)
      → KeepsCommit (state g begun) (state g mid) → GoesOn C (state g begun) (state g mid)
      → FailsToCommit (state g mid) (state g last) e → IsTrue (state g last).is_open → Stays (state g old) (state g last)
  ended_badly e settled kept made (inl fails) on =
      let undone : IsRolledBack (state g mid) (state g last) = fails.3 in
      let keeps = subst (λ h. KeepsCommit (state g h) (state g mid)) is kept in
      let middle = undone.was_open on in
      let first : IsTrue (state g old).is_open = keeps.was_open middle in
      let same = undone.undone on in
      (first, same.0 ∙ keeps.committed middle ∙ sym (settled first), same.1 ∙ keeps.committed middle)
  ended_badly e settled kept made (inr closed) on =
      let inside : (state g mid).in_transaction ≡ true = made.mode (ap (λ h. (state g h).in_transaction) is) in
      let none : false ≡ true = sym closed.1 ∙ inside in
      absurd (cc)

-- A store that is open is clean.
pub clean_if_open : (clean is_open : Bool) → (clean ≡ false → is_open ≡ false) → IsTrue is_open → doubt clean ≡ 0
clean_if_open clean is_open shuts on = elim (cases_Bool clean) [
  | inl is ↦ no_doubt clean is
  | inr dirty ↦ absurd (let e = shuts dirty in cc)
]
