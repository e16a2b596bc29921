use Rattle.portal_list.proofs.Base.{◌≡◌, Bool, sym, ap, subst₂, ◌∙◌, AllByRecursion, IfOk-weaker, AllEntries}
use Rattle.portal_list.proofs.Base.{applicant_keys, HasRanking}
use Rattle.portal_list.proofs.list_checks.lists_fit.Goals as goal

pub returns : goal.returns
returns c =
    let e : AllEntries = c.args.entries.now in
    let read : AllEntries = record e { lecturers = c.deref.result.now; projects = c.deref-2.result.now; students = c.deref-3.result.now } in
    let lecturers = c.deref.ensures.value ∙ ap (λ (a : AllEntries). a.lecturers) c.entries.view_is in
    let projects = c.deref-2.ensures.value ∙ ap (λ (a : AllEntries). a.projects) c.entries.view_is in
    let students = c.deref-3.ensures.value ∙ ap (λ (a : AllEntries). a.students) c.entries.view_is in
    let all : read ≡ e = λ i. record e { lecturers = lecturers i; projects = projects i; students = students i } in
    let fits : Bool → AllEntries → Type 0 = λ asked a. AllByRecursion
    (λ l. HasRanking asked (applicant_keys a.projects a.students l.row.key) l.ranking) a.lecturers in
    IfOk-weaker c.rankings_fit.result _ _ (λ yes same. (
      λ h. record {
        entries_fit = c.entries_fit.ensures.0 c.if-not-entries_fit.false;
        choices = c.in_ok-choices_in_play_fit.ensures.0 c.if-not-branch.false;
        rankings = subst₂ fits c.is_published.ensures all (same.0 h);
      },
      λ fit. same.1 (subst₂ fits (sym c.is_published.ensures) (sym all) fit.rankings),
    )) c.rankings_fit.ensures
