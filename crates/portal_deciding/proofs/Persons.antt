-- Persons by project, as loops read them.
use Rattle.portal_rules.proofs.Base.{◌≡◌, ℕ, ◌+◌, ◌<◌, Bool, true, List, take, Vec, Global, length, get_or, sym, ◌∙◌}
use Rattle.portal_rules.proofs.Base.{ap, ◌||◌, list_any, list_any_at, list_any_more, by_project}
use Rattle.spa_rows.specs.declared.key.Key.{Key}
use Rattle.portal_rules.proofs.AllLaws.{any_map}
use Rattle.portal_rules.specs.declared.rows.Person.{Person}

-- what the persons of one project pass is passed at some project
pub passed_at : (test : List Person → Bool) (ps : List (Key × Vec Person Global)) (i : ℕ) (p : Key × Vec Person Global)
    → i < length ps → p ≡ get_or ps i p → test p.1.items ≡ true → list_any {X = List ℕ × List Person} (λ q. test q.1) (by_project ps) ≡ true
passed_at test ps i p low here passes =
    any_map (λ q. test q.1) (λ q. (q.0, q.1.items)) ps
    ∙ list_any_at (λ q. test q.1.items) ps i p low (ap (λ (q : Key × Vec Person Global). test q.1.items) (sym here) ∙ passes)

-- the persons of one more project
pub passed_more : (test : List Person → Bool) (ps : List (Key × Vec Person Global)) (i : ℕ) (p : Key × Vec Person Global)
    → i < length ps → p ≡ get_or ps i p → list_any {X = List ℕ × List Person} (λ q. test q.1) (by_project (take (i + 1) ps))
    ≡ (list_any {X = List ℕ × List Person} (λ q. test q.1) (by_project (take i ps)) || test p.1.items)
passed_more test ps i p low here =
    any_map (λ q. test q.1) (λ q. (q.0, q.1.items)) (take (i + 1) ps)
    ∙ list_any_more (λ q. test q.1.items) ps i p low
    ∙ ap (λ (q : Key × Vec Person Global). list_any (λ r. test r.1.items) (take i ps) || test q.1.items) (sym here)
    ∙ ap (λ b. b || test p.1.items) (sym (any_map (λ q. test q.1) (λ q. (q.0, q.1.items)) (take i ps)))
