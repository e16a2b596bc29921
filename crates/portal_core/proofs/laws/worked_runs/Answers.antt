use Rattle.portal_rules.proofs.Base.{◌≡◌, ℕ, Bool, true, false, List, [], ◌∷◌, refl, ap, inl, inr, arith, Key, Answer}
use Rattle.portal_rules.specs.declared.rows.Person.{Person}
use Rattle.portal_rules.specs.declared.view.View.{View as Sight}
use Rattle.portal_rules.specs.declared.view.View.TheVariants.{Lecturer}
use Rattle.portal_core.specs.examples.WorkedRuns.{heard_by_lee}
use Rattle.portal_core.proofs.laws.worked_runs.Goals as goal

-- whether a lecturer's second project has applicants
some_second : List (Key × List Person) → Bool
some_second (x ∷ (p, []) ∷ rest) = false
some_second _ = true

seen : Sight → Bool
seen (Lecturer v) = some_second v.applicants
seen _ = false

status_of : List Answer → ℕ
status_of (a ∷ rest) = a.status
status_of [] = 0

pub returns : goal.returns
unfolding seen some_second status_of
returns c = record {
  nothing = record {
    one = (inr (refl, refl), (inl (record { form = tt; told = refl; left = refl }), tt));
    other = (inl (record { form = tt; told = refl; left = refl }), (inl (record { form = tt; told = refl; left = refl }), tt));
    answered = (λ e. omega (arith, ap (λ (a : Answer). a.status) e), tt);
    answered_too = (λ e. omega (arith, ap (λ (a : Answer). a.status) e), tt);
    heard = ([], heard_by_lee, ([], inl (refl, refl), refl), (heard_by_lee, [], ([], refl, refl), refl, refl), refl);
    heard_too = ([], heard_by_lee, ([], inl (refl, refl), refl), (heard_by_lee, [], ([], refl, refl), refl, refl), refl);
    same_view = refl;
    same_replies = refl;
  };
  choice = record {
    run = (inl (record { form = tt; told = refl; left = refl }), (inl (record { form = tt; told = refl; left = refl }), tt));
    other_view = λ e. let clash : true ≡ false = ap seen e in cc;
    other_replies = λ e. omega (arith, ap status_of e);
  };
  submitted = record { last = refl; of_others = refl; reopened = refl };
}
