use Rattle.portal_list.proofs.Base.{◌≡◌, Bool, cond, List, [], map, ◌∙◌, ap, sym, filter, ◌&&◌, is_empty, World}
use Rattle.portal_list.proofs.Base.{Lecturer, Student, is_still_to_rank, shown_placement, pairs_with, ProjectRow}
use Rattle.portal_list.proofs.Base.{catalogue, world_with, takes_part, is_waiting, rules, is_from_ranking, office_sees}
use Rattle.portal_list.proofs.Plays.{part_and}
use Rattle.portal_list.proofs.Waiting.{waiting_lecturers}
use Rattle.portal_list.proofs.views.office_view.Goals as goal

waiting : (w : World) (b : Bool) (ls : List Lecturer) (ps : List ProjectRow) (ss : List Student)
    → b ≡ is_from_ranking w.phase → ls ≡ w.lecturers → ps ≡ w.projects → ss ≡ w.students
    → cond b (map (λ (l : Lecturer). l.row.key) (filter (is_waiting ss ps) ls)) []
    ≡ cond (is_from_ranking w.phase) (map (λ l. l.row.key) (filter (is_still_to_rank w) w.lecturers)) []
waiting w b ls ps ss eb el ep es = search (rules, waiting_lecturers)

pub returns : goal.returns
returns c =
    let keeper = c.keeper.inside in
    let e = c.entries.inside in
    let w : World = record {
      round = e.round;
      phase = keeper.phase;
      office = keeper.office;
      lecturers = e.lecturers.items;
      projects = e.projects.items;
      students = e.students.items;
    } in
    let there : w ≡ c.args.keeper.now = ap (world_with keeper.phase keeper.office) c.entries.view_is ∙ c.keeper.view_is in
    (λ i. record {
      round = e.round;
      phase = keeper.phase;
      office_code = c.in_ok-copy.ensures i;
      lecturers = (ap (λ v. v.items) c.in_ok-new.ensures.ok ∙ c.in_ok-lecturer_rows.ensures
          ∙ ap (map (λ (l : Lecturer). l.row)) c.deref.ensures.value) i;
      projects = (ap (λ v. v.items) c.in_ok-new-2.ensures.ok ∙ c.in_ok-project_rows_of.ensures ∙ c.deref-2.ensures.value) i;
      students = (ap (λ v. v.items) c.in_ok-new-3.ensures.ok ∙ c.in_ok-student_rows.ensures
          ∙ ap (map (λ (s : Student). s.row)) c.deref-3.ensures.value) i;
      catalogue = (c.in_ok-catalogue.ensures ∙ ap catalogue (sym there)) i;
      without_list = (c.in_ok-without_list.ensures
          ∙ ap (λ ss. map (λ (s : Student). s.row.key) (filter (λ s. takes_part e.round s && is_empty s.choice) ss)) c.deref-4.ensures.value
          ∙ ap (map (λ (s : Student). s.row.key)) (part_and (λ s. is_empty s.choice) e.round e.students.items)) i;
      still_to_rank = (c.in_ok-still_to_rank.ensures
          ∙ waiting w _ _ _ _ c.is_from_ranking-closed.ensures c.deref-5.ensures.value c.deref-6.ensures.value c.deref-7.ensures.value) i;
      pairs = (c.in_ok-pairs_of.ensures ∙ ap (pairs_with (shown_placement keeper.phase)) c.deref-8.ensures.value) i;
    })
    ∙ ap office_sees there
