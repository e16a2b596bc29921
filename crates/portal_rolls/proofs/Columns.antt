-- A row of four columns whose fourth is bad.
use Rattle.portal_rolls.proofs.Base.{◌≡◌, arith, ℕ, Bool, not, [], ◌∷◌, Result, Ok, Err, position_from, Text}
use Rattle.portal_rolls.proofs.Base.{digits_value, is_capacity, unless_bad, Fails, unless, RollFault, by_columns}
use Rattle.portal_rolls.proofs.Base.{formed, limited}
use Rattle.portal_rolls.specs.declared.fault.RollFault.TheVariants as fault

-- what is an error fails so
failed : {Y : Type 0} (e : RollFault) (read : Result Y RollFault) → read ≡ Err e → Fails e read
failed fault.Memory read h = tt
failed fault.NoHeader read h = h
failed fault.BadHeader read h = h
failed (fault.FieldCount row) read h = h
failed (fault.NotText row) read h = h
failed (fault.BadField row column) read h = h
failed fault.TooMany read h = h

module _ {X : Type 0} (row : ℕ) (p q r : Text → Bool) (first second third capacity : Text) (line : X) where
  pub fourth_fails : (i j k : ℕ) (x y z : Text) (e : RollFault) → formed p row i first ≡ Ok x
      → formed q row j second ≡ Ok y → formed r row k third ≡ Ok z → Err e ≡ limited row 4 capacity
      → Fails e (by_columns row (p first ∷ q second ∷ r third ∷ is_capacity capacity ∷ []) line)
  fourth_fails i j k x y z e a b c d = failed e _ (go (p first) (q second) (r third) (is_capacity capacity) a b c d)
    where
      go : (s t u v : Bool) → unless s (fault.BadField row i) (Ok first) ≡ Ok x
          → unless t (fault.BadField row j) (Ok second) ≡ Ok y → unless u (fault.BadField row k) (Ok third) ≡ Ok z
          → Err e ≡ unless v (fault.BadField row 4) (Ok (digits_value capacity))
          → unless_bad row (position_from not 1 (s ∷ t ∷ u ∷ v ∷ [])) line ≡ Err e
      go s t u v a b c d = grind arith
