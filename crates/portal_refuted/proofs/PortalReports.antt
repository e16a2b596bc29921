-- Refutes a report that lacks its last student, or is of another phase, and an empty one.
use Rattle.std.proofs.Common.{◌≡◌, ℕ, List, [], ◌++◌, length, refl, sym, ap, ◌∙◌, arith}
use Rattle.std.specs.Fmt.{digits}
use Rattle.std.specs.Prelude.{codes}
use Rattle.portal_rules.specs.Bodies.{result_text}
use Rattle.portal_rules.specs.View.{office_sees}
use Rattle.portal_rules.specs.examples.Worked.{worked}

abbrev right : List ℕ
right =
    codes "S1                P2                L1\nS2                P1                L1\nS3                (none)\n\n"
    ++ codes "P1                 1 of    1\nP2                 1 of    1\nP3                 0 of    1\n\nassigned 2 of 3\n"

pub report_without_its_last_student_is_refuted : (text : List ℕ)
    → text ≡ codes "S1                P2                L1\nS2                P1                L1\n\n"
    ++ codes "P1                 1 of    1\nP2                 1 of    1\nP3                 0 of    1\n\nassigned 2 of 3\n"
    → text ≡ result_text (office_sees worked) → ⊥
unfolding digits
report_without_its_last_student_is_refuted text is says = omega (arith, ap (λ (t : List ℕ). length t) (sym is ∙ says))

pub empty_report_is_refuted : [] ≡ result_text (office_sees worked) → ⊥
unfolding digits
empty_report_is_refuted says = omega (arith, ap (λ (t : List ℕ). length t) says)

pub report_of_the_example : right ≡ result_text (office_sees worked)
unfolding digits
report_of_the_example = refl
