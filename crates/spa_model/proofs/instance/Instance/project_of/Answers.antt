use Rattle.spa_model.proofs.Base.{◌≡◌, ℕ, ◌<◌, List, length, Option, Some, None, sym, Spa, project_of, IsMatching}
use Rattle.spa_model.proofs.Base.{IsLawful, IfSome}
use Rattle.spa_model.proofs.instance.Instance.project_of.Goals as goal

known_project : (i : Spa) (m : List (Option ℕ)) → IsLawful i → IsMatching i m → (s : ℕ) (o : Option ℕ)
    → o ≡ project_of m s → IfSome o (λ p. p < length i.lecturers)
known_project i m lawful fits s None e = tt
known_project i m lawful fits s (Some p) e = lawful.known s p (fits.acceptable s p (sym e))

-- what is acceptable is there
pub returns-clause-in_range : goal.returns-clause-in_range
returns-clause-in_range c = known_project c.args.self.now c.args.matching.now c.students.ensures.lawful c.requires.fits c.args.student
    c.project.result c.project.ensures
