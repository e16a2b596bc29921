-- Refutes `Key::parse` that takes a key of 17 bytes, an index one line off, and `check_lists` that
-- tells a later row, a greater fault, or one that is not there.
use Rattle.std.proofs.Common.{ℕ, inl, List, [], ◌∷◌, Some, refl, ap, arith, replicate, get_or}
use Rattle.std.specs.Prelude.{codes, IsTrue}
use Rattle.spa_rows.specs.Faults.{HasFault, IsFirstFault, IsRefusal}
use Rattle.spa_rows.specs.Lines.{Text, Rows, LecturerWithList, is_key}
use Rattle.spa_rows.specs.declared.faults.InstanceFault.TheVariants.{BadKey, BadCapacity, Memory}
use Rattle.spa_rows.specs.inner.Index.{HasPlace}

pub key_of_17_bytes_is_refuted : IsTrue (is_key (replicate 17 65)) → ⊥
key_of_17_bytes_is_refuted is = cc

pub empty_key_is_refuted : IsTrue (is_key []) → ⊥
empty_key_is_refuted is = cc

pub key_of_16_bytes : IsTrue (is_key (replicate 16 65))
key_of_16_bytes = refl

-- ---- an index of two lines

abbrev two_lines : List Text
two_lines = codes "a" ∷ codes "b" ∷ []

pub place_before_is_not_the_lines : HasPlace two_lines (λ text. text) 2 (codes "b") (Some 0) → ⊥
place_before_is_not_the_lines (low, same) = omega (arith, ap (λ (text : Text). get_or text 0 0) (same []))

pub place_is_the_lines : HasPlace two_lines (λ text. text) 2 (codes "b") (Some 1)
place_is_the_lines = (omega arith, λ d. refl)

-- ---- rows with two bad keys and a capacity of 0

abbrev lecturer : ℕ → Text → ℕ → LecturerWithList
lecturer row key capacity = record { row = row; key = key; capacity = capacity; list = [] }

abbrev bad : Rows
bad = record { lecturers = lecturer 1 [] 0 ∷ lecturer 2 [] 1 ∷ []; projects = []; students = [] }

first_bad_key : HasFault bad BadKey 1
first_bad_key = inl (0, lecturer 1 [] 0, omega arith, omega arith, refl, refl, refl)

pub later_row_is_not_least : IsFirstFault bad BadKey 2 → ⊥
later_row_is_not_least is = omega (arith, is.least 1 first_bad_key)

pub greater_fault_has_one_before : IsFirstFault bad BadCapacity 1 → ⊥
greater_fault_has_one_before is = is.none_before BadKey (omega arith) 1 first_bad_key

pub capacity_that_is_right_is_no_fault : IsFirstFault bad BadCapacity 2 → ⊥
capacity_that_is_right_is_no_fault is = is.none_before BadKey (omega arith) 1 first_bad_key

pub want_of_memory_at_a_row_is_refuted : IsRefusal bad Memory 1 → ⊥
want_of_memory_at_a_row_is_refuted is = omega (arith, is)
