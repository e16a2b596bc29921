-- Why a call that only looks answers `Store`.
use Rattle.portal_store.proofs.Base.{◌≡◌, Ok, Err, Result, ap, refl, TableFault, IsSameUpToFault, IsStoreFault}
use Rattle.std.specs.Prelude.{IfErr, MatchResult}
use Rattle.portal_rules.specs.declared.keeper.KeepFault.{KeepFault}
use Rattle.portal_rules.specs.declared.keeper.KeepFault.TheVariants as keep
use Rattle.portal_tables.specs.Reads.{Blames}
use Rattle.portal_tables.specs.declared.fault.TableFault.TheVariants.{Damaged, Memory, Store}

-- a fault of the tables that is told as the store's is the store's, where the rows are not refused
pub reason_of : {V W : Type 0} (Why : Type 0) (x : Result V TableFault) (r : Result W KeepFault) (P : V → Type 0) (So : Type 0) → So
    → IfErr x (λ fault. IsStoreFault fault → Why) → MatchResult x P (λ fault. Blames fault So)
    → ((v : V) → x ≡ Ok v → IfErr r (λ told. ⊥)) → (r ≡ Err keep.Store → x ≡ Err Memory → ⊥)
    → IfErr r (λ told. told ≡ keep.Store → Why)
reason_of Why x (Ok v) P So so why told fine other = tt
reason_of Why (Ok v) (Err f) P So so why told fine other = absurd (fine v refl)
reason_of Why (Err Damaged) (Err f) P So so why told fine other = λ is. absurd (told refl so)
reason_of Why (Err Memory) (Err f) P So so why told fine other = λ is. absurd (other (ap Err is) refl)
reason_of Why (Err Store) (Err f) P So so why told fine other = λ is. why refl

-- the same of an outcome that is counted
pub counted_reason : {V : Type 0} (Why : Type 0) (x : Result V TableFault) (r : Result V KeepFault) (P : V → Type 0) (So : Type 0) → So
    → IfErr x (λ fault. IsStoreFault fault → Why) → MatchResult x P (λ fault. Blames fault So)
    → IsSameUpToFault x r → (r ≡ Err keep.Store → x ≡ Err Memory → ⊥)
    → IfErr r (λ told. told ≡ keep.Store → Why)
counted_reason Why x r P So so why told same other = reason_of Why x r P So so why told (answered x r same) other
  where
    answered : {V : Type 0} (x : Result V TableFault) (r : Result V KeepFault) → IsSameUpToFault x r → (v : V) → x ≡ Ok v
        → IfErr r (λ told. ⊥)
    answered x (Ok w) same v is = tt
    answered (Ok w) (Err f) same v is = absurd (cc)
    answered (Err e) (Err f) same v is = absurd (cc)
