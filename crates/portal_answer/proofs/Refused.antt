-- A refusal of an instance or of pairs is an answer.
use Rattle.portal_answer.proofs.Base.{Err, File, List, OfFile, OfPairs, Ok, Output, Pair, Result, Spa, Task, file_rows, inl}
use Rattle.portal_answer.proofs.Base.{refl, refused_instance, refused_matching, ℕ, ◌≡◌}
use Rattle.std.specs.Prelude.{IfOk, IsErr}
use Rattle.spa_rows.specs.Faults.{IsRefusal}
use Rattle.spa_rows.specs.declared.faults.InstanceFault.{InstanceFault}
use Rattle.spa_rows.specs.declared.faults.InstanceFault.TheVariants as instance
use Rattle.spa_model.specs.Pairs.{IsPairRefusal}
use Rattle.spa_model.specs.declared.matching.MatchingFault.{MatchingFault}
use Rattle.spa_model.specs.declared.matching.MatchingFault.TheVariants as matching

pub pairs_refused : {E : Type 0} (task : Task) (i : Spa) (pairs : List Pair) (fault : MatchingFault) (row : ℕ) (r : Result Output E)
    → IsPairRefusal i pairs fault row → IfOk r (λ t. t ≡ refused_matching fault row) → (fault ≡ matching.Memory → IsErr r)
    → IfOk r (OfPairs task i pairs)
pairs_refused task i pairs fault row (Err e) is told none = tt
pairs_refused task i pairs matching.Memory row (Ok t) is told none = let no = none refl in absurd (cc)
pairs_refused task i pairs fault row (Ok t) is told none = inl (fault, row, is, told)

pub rows_refused : {E : Type 0} (task : Task) (f : File) (fault : InstanceFault) (row : ℕ) (r : Result Output E)
    → IsRefusal (file_rows f) fault row → IfOk r (λ t. t ≡ refused_instance fault row) → (fault ≡ instance.Memory → IsErr r)
    → IfOk r (OfFile task f)
rows_refused task f fault row (Err e) is told none = tt
rows_refused task f instance.Memory row (Ok t) is told none = let no = none refl in absurd (cc)
rows_refused task f fault row (Ok t) is told none = inl (fault, row, is, told)
