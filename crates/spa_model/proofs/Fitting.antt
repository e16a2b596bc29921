-- Lemmas on matchings that fit.
use Rattle.spa_model.proofs.Base.{◌≡◌, ◌↔◌, inl, inr, ℕ, ◌<◌, ◌≤◌, Bool, true, false, eqb, List, length, get_or, Option}
use Rattle.spa_model.proofs.Base.{Some, None, refl, sym, ◌∙◌, arith, eqb-true, eq-eqb, ne_eqb, cases_lt, true≢false}
use Rattle.spa_model.proofs.Base.{Spa, place, IsOn, is_project, is_lecturer, at_project, at_lecturer, project_of}
use Rattle.spa_model.proofs.Base.{lecturer_of, capacity_of, limit_of, IsLawful, IsAnyAnswer, AreAcceptable}
use Rattle.spa_model.proofs.Places.{place-get_or-le, get_or-place}
use Rattle.spa_model.proofs.Counts.{count_by-none}

-- what a search of a list answers
pub on_from_answer : (xs : List ℕ) (x : ℕ) (r : Bool) → IsAnyAnswer (λ y b. eqb y x ≡ b) xs r → (r ≡ true) ↔ IsOn xs x
on_from_answer xs x true (k, h, at) =
    (λ _. omega (arith, rw (eqb-true (get_or xs k 0) x (at 0)) at (place-get_or-le xs k 0 h)), λ _. refl)
on_from_answer xs x false none = (
  λ e. absurd (true≢false (sym e)),
  λ on.
      absurd (true≢false (sym (eq-eqb (get_or xs (place xs x) 0) x (get_or-place xs x 0 on)) ∙ none (place xs x) 0 (omega arith) on)),
)

-- nobody is at a project that is not there
pub at_project-past : (i : Spa) (m : List (Option ℕ)) (p : ℕ) → IsLawful i → AreAcceptable i m → length i.lecturers ≤ p
    → at_project m p ≡ 0
at_project-past i m p lawful acceptable past = count_by-none (is_project p) m (λ s. other s (project_of m s) refl)
  where
    other : (s : ℕ) (o : Option ℕ) → project_of m s ≡ o → is_project p o ≡ false
    other s None e = refl
    other s (Some q) e = let known : q < length i.lecturers = lawful.known s q (acceptable s q e) in ne_eqb q p (λ same. omega arith)

-- nobody is with a lecturer who is not there
pub at_lecturer-past : (i : Spa) (m : List (Option ℕ)) (l : ℕ) → IsLawful i → AreAcceptable i m → length i.rankings ≤ l
    → at_lecturer i m l ≡ 0
at_lecturer-past i m l lawful acceptable past = count_by-none (is_lecturer i l) m (λ s. other s (project_of m s) refl)
  where
    other : (s : ℕ) (o : Option ℕ) → project_of m s ≡ o → is_lecturer i l o ≡ false
    other s None e = refl
    other s (Some q) e = let known : lecturer_of i q < length i.rankings = lawful.offered q (lawful.known s q (acceptable s q e)) in
        ne_eqb (lecturer_of i q) l (λ same. omega arith)

-- no project is over capacity where none of those that are there is
pub projects_all : (i : Spa) (m : List (Option ℕ)) → IsLawful i → AreAcceptable i m
    → ((p : ℕ) → p < length i.lecturers → at_project m p ≤ capacity_of i p) → (p : ℕ) → at_project m p ≤ capacity_of i p
projects_all i m lawful acceptable fit p = elim (cases_lt p (length i.lecturers)) [
  | inl known ↦ fit p known
  | inr past ↦ omega (arith, at_project-past i m p lawful acceptable past)
]

pub lecturers_all : (i : Spa) (m : List (Option ℕ)) → IsLawful i → AreAcceptable i m
    → ((l : ℕ) → l < length i.rankings → at_lecturer i m l ≤ limit_of i l) → (l : ℕ) → at_lecturer i m l ≤ limit_of i l
lecturers_all i m lawful acceptable fit l = elim (cases_lt l (length i.rankings)) [
  | inl known ↦ fit l known
  | inr past ↦ omega (arith, at_lecturer-past i m l lawful acceptable past)
]
