-- At the start nobody has a project.
use Rattle.spa_student.proofs.Base.{◌≡◌, ℕ, suc, List, length, get_or, replicate, Option, Some, None, refl, ap, arith}
use Rattle.spa_student.proofs.Base.{false, get_or_past, get_or-replicate, length-replicate, Spa, is_project}
use Rattle.spa_student.proofs.Base.{is_lecturer, project_of, IsMatching, one_if, rules, zero, count_by, Bool}
use Rattle.spa_student.proofs.Base.{count_by-cons}

-- nobody has a project
abbrev nobody : ℕ → List (Option ℕ)
nobody n = replicate n None

pub none_counted : (p : Option ℕ → Bool) (n : ℕ) → p None ≡ false → count_by p (replicate n None) ≡ 0
none_counted p zero e = refl
none_counted p (suc n) e = omega (arith, count_by-cons p None (replicate n None), ap one_if e, none_counted p n e)

pub none_there : (n s : ℕ) → get_or (nobody n) s None ≡ None
none_there n s = search (rules, get_or-replicate, get_or_past, length-replicate)

pub nobody_matches : (i : Spa) → IsMatching i (replicate (length i.choices) None)
nobody_matches i = record {
  students = length-replicate (length i.choices) None;
  acceptable = λ s p e. absurd (free s p e);
  projects = λ p. omega (arith, none_counted (is_project p) (length i.choices) refl);
  lecturers = λ l. omega (arith, none_counted (is_lecturer i l) (length i.choices) refl);
} where
  free : (s p : ℕ) → project_of (replicate (length i.choices) None) s ≡ Some p → ⊥
  free s p e = let none = none_there (length i.choices) s in cc
