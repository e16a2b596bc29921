use Rattle.portal_words.proofs.Base.{◌≡◌, ◌∙◌, Some, arith, codes, found_of, rules, subst}
use Rattle.std.specs.Prelude.{IsSomeAnd, option_map}
use Rattle.clap.proofs.WalkLemmas.{first_value-rows}
use Rattle.portal_words.specs.inner.Asks.{IsOverDatabase}
use Rattle.portal_words.proofs.command.command_named.Goals as goal

pub returns-in-check-clause-check : goal.returns-in-check-clause-check
returns-in-check-clause-check c is = c.get_str.ensures ∙ first_value-rows (found_of c.args.matches.now) (codes "FILE")

pub returns-in-solve-clause-solve : goal.returns-in-solve-clause-solve
returns-in-solve-clause-solve c is = c.get_str-in-solve.ensures ∙ first_value-rows (found_of c.args.matches.now) (codes "FILE")

pub returns-in_err-get_str-in_default-clause-database : goal.returns-in_err-get_str-in_default-clause-database
returns-in_err-get_str-in_default-clause-database c db takes is =
    let some : option_map (λ p. p.now) c.get_str-in_default.result ≡ Some db = c.get_str-in_default.ensures
    ∙ first_value-rows (found_of c.args.matches.now) (codes "DB") ∙ is in
    absurd (first_of (grind (arith, some, c.branch-get_str.ensures, c.in_err-get_str-in_default.ensures), search (rules, some)))

pub returns-in_ok-get_str-in_default-clause-database : goal.returns-in_ok-get_str-in_default-clause-database
returns-in_ok-get_str-in_default-clause-database c db takes is =
    let some : option_map (λ p. p.now) c.get_str-in_default.result ≡ Some db = c.get_str-in_default.ensures
    ∙ first_value-rows (found_of c.args.matches.now) (codes "DB") ∙ is in
    let same : c.in_ok-get_str-in_default.field-0.now
    ≡ db = first_of (grind (arith, some, c.branch-get_str.ensures, c.in_ok-get_str-in_default.ensures), search (rules, some)) in
    subst (λ d. IsSomeAnd c.on_database.result (IsOverDatabase c.args.name.now d)) same (c.on_database.ensures takes)
