use Rattle.portal_words.proofs.Base.{◌∙◌, ap, map, subst, sym, IfErr-weaker, IfOk-weaker, App, is_simple, subcommand_of}
use Rattle.portal_words.proofs.Base.{takes, MeetsDatabase, MeetsFile}
use Rattle.portal_words.proofs.Known.{is_met, is_met_database, simple, taken, taken_database}
use Rattle.portal_words.proofs.command.matches_of.Goals as goal

pub returns-clause-matches : goal.returns-clause-matches
returns-clause-matches g c name file h =
    let app = c.in_ok-portal.ensures.app in
    let ws = map g.S.AsStr.text c.args.words.now in
    IfOk-weaker c.try_get_matches_from.result _ _
    (λ m k. subst (λ met. MeetsFile met name file) (sym ((k (ap is_simple app ∙ simple)).1 ∙ ap (λ (a : App). subcommand_of a ws) app))
    (is_met ws name file h)) c.try_get_matches_from.ensures.matches

pub returns-clause-passes : goal.returns-clause-passes
returns-clause-passes g c name file h =
    let app = c.in_ok-portal.ensures.app in
    let ws = map g.S.AsStr.text c.args.words.now in
    IfErr-weaker c.try_get_matches_from.result _ _
    (λ e k. k (ap (λ (a : App). takes a ws) app ∙ taken ws name file h)) c.try_get_matches_from.ensures.passes

pub returns-clause-database : goal.returns-clause-database
returns-clause-database g c name db h =
    let app = c.in_ok-portal.ensures.app in
    let ws = map g.S.AsStr.text c.args.words.now in
    IfOk-weaker c.try_get_matches_from.result _ _
    (λ m k. subst (λ met. MeetsDatabase met name db) (sym ((k (ap is_simple app ∙ simple)).1 ∙ ap (λ (a : App). subcommand_of a ws) app))
    (is_met_database ws name db h)) c.try_get_matches_from.ensures.matches

pub returns-clause-passes_database : goal.returns-clause-passes_database
returns-clause-passes_database g c name db h =
    let app = c.in_ok-portal.ensures.app in
    let ws = map g.S.AsStr.text c.args.words.now in
    IfErr-weaker c.try_get_matches_from.result _ _
    (λ e k. k (ap (λ (a : App). takes a ws) app ∙ taken_database ws name db h)) c.try_get_matches_from.ensures.passes
