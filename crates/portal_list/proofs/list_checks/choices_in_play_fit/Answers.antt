use Rattle.portal_list.proofs.Base.{◌≡◌, ◌↔◌, IfOk, IsTrue, List, map, sym, ap, subst₂, ◌∙◌, AllByRecursion, Student}
use Rattle.portal_list.proofs.Base.{project_key, First, Second, ProjectRow, IsChoice, AllEntries, rules, projects_in}
use Rattle.portal_list.proofs.Plays.{left_rise}
use Rattle.portal_list.proofs.list_checks.choices_in_play_fit.Goals as goal

pub choices_fit-requires-in-Second : goal.choices_fit-requires-in-Second
choices_fit-requires-in-Second c = search (rules, left_rise)

pub returns-in-First : goal.returns-in-First
returns-in-First c =
    let e : AllEntries = c.args.entries.now in
    let first : e.round ≡ First = sym (ap (λ (a : AllEntries). a.round) c.entries.view_is) ∙ c.in-First.is in
    let projects = c.deref.ensures.value ∙ ap (λ (a : AllEntries). a.projects) c.entries.view_is
    ∙ ap (λ r. projects_in r e.lecturers e.projects e.students) (sym first) in
    let students = c.deref-in-First.ensures.value ∙ ap (λ (a : AllEntries). a.students) c.entries.view_is in
    subst₂ (λ (ps : List ProjectRow) (ss : List Student). IfOk c.choices_fit.result
    (λ yes. IsTrue yes ↔ AllByRecursion (λ (s : Student). IsChoice (map project_key ps) s.choice) ss)) projects students
    c.choices_fit.ensures

pub returns-in_ok-left-in-Second : goal.returns-in_ok-left-in-Second
returns-in_ok-left-in-Second c =
    let e : AllEntries = c.args.entries.now in
    let second : e.round ≡ Second = sym (ap (λ (a : AllEntries). a.round) c.entries.view_is) ∙ c.in-Second.is in
    let projects = c.deref-in-Second.ensures.value ∙ ap (λ (a : AllEntries). a.projects) (c.left.view_is ∙ c.in_ok-left-in-Second.ensures)
    ∙ ap (λ r. projects_in r e.lecturers e.projects e.students) (sym second) in
    let students = c.deref-in-Second-2.ensures.value ∙ ap (λ (a : AllEntries). a.students) c.entries.view_is in
    subst₂ (λ (ps : List ProjectRow) (ss : List Student). IfOk c.choices_fit-in-Second.result
    (λ yes. IsTrue yes ↔ AllByRecursion (λ (s : Student). IsChoice (map project_key ps) s.choice) ss)) projects students
    c.choices_fit-in-Second.ensures
