-- Reads in the words of views.
use Rattle.portal_views.proofs.Base.{◌≡◌, Always, Database, Err, First, HasRound, IsErrAnd, Ok, Reading, Result, Round}
use Rattle.portal_views.proofs.Base.{State, reads_more, reads_of, round_own, subst, sym}

module _ {Right : Database → Type 0} {On : State → Type 0} {V E : Type 0} {IsStores : E → Type 0} {Told : Database → Result V E
    → Type 0} {r : Result V E} {a b : State} where
  -- whatever is right of the database
  pub reads_any : {round : Round} → Reading round On Always IsStores Told r a b → Reading round On Right IsStores Told r a b
  reads_any h = reads_of (λ own. own) (λ own right. tt) h

  -- of the first round's tables, which both rounds have
  pub reads_first : {round : Round} → Reading First On Always IsStores Told r a b → Reading round On Right IsStores Told r a b
  reads_first {round} h = reads_of (round_own round a.now.schema) (λ own right. tt) h

-- what was answered is refused, not by the store
pub reads_rejected : {round : Round} {On : State → Type 0} {Right : Database → Type 0} {U D V E : Type 0} {IsOf : D → Type 0}
    {IsStores : E → Type 0} {T : Database → Result U D → Type 0} {Told : Database → Result V E → Type 0} {u : U} {r : Result V E}
    {a b : State} (e : E) → (IsStores e → ⊥) → IsErrAnd r (λ f. f ≡ e)
    → Reading round On Right IsOf T (Ok u) a b → (HasRound round a.now.schema → Right a.now → T a.now (Ok u) → Told a.now (Err e))
    → Reading round On Right IsStores Told r a b
reads_rejected {r = Ok v} e other is h so = absurd is
reads_rejected {round} {On} {Right} {IsStores = IsStores} {Told = Told} {r = Err f} {a} {b} e other is h so =
    subst (λ f. Reading round On Right IsStores Told (Err f) a b) (sym is) (reads_more other h so)
