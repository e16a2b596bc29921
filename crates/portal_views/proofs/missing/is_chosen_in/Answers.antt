use Rattle.portal_views.proofs.Base.{◌∙◌, ◌&&◌, ◌∷◌, ◌≡◌, Key, ListsBy, [], ap, Choices, columns, equals}
use Rattle.portal_views.proofs.Base.{first_cell, has_text, is_chosen_shown, reads_more, reads_open, rules}
use Rattle.portal_views.proofs.Base.{shown_project, state, subst, sym, tree_of, true, FindsAny}
use Rattle.portal_views.proofs.Turns.{reads_any}
use Rattle.portal_views.proofs.OfficeLists.{some_chooser}
use Rattle.portal_views.proofs.missing.is_chosen_in.Goals as goal

pub returns-clause-reads : goal.returns-clause-reads
returns-clause-reads g c =
    let db = (state g.S.Store c.args.conn.now).now in
    let round = c.args.round in
    let project = shown_project c.args.project.now in
    let own : equals project.lecturer (first_cell c.args.lecturer.now) ≡ true = search rules in
    reads_more tt (reads_open (reads_any c.in_ok-finds_any.ensures))
    (λ _ lists found.
    let told = subst (λ (k : Key). FindsAny (ListsBy (1 ∷ []) (has_text 3 k) (columns (1 ∷ [])) (db.trees (tree_of (Choices round))))
    c.in_ok-finds_any.field-0) c.bytes_at-3.ensures found in
    told.told ∙ some_chooser round db lists project.key told.rows told.shown
    ∙ sym (ap (λ b. b && is_chosen_shown round db.trees project.key) own))

pub returns-then-ne-clause-undamaged : goal.returns-then-ne-clause-undamaged
returns-then-ne-clause-undamaged g c = search rules
