use Rattle.portal_list.proofs.Base.{◌≡◌, ◌∙◌, ap, sym, World, catalogue, world_with, applicants_shown, placements_shown}
use Rattle.portal_list.proofs.Base.{lecturer_sees}
use Rattle.portal_list.proofs.views.lecturer_view.Goals as goal

pub returns : goal.returns
returns c =
    let keeper = c.keeper.inside in
    let e = c.entries.inside in
    let w : World = record {
      round = e.round;
      phase = keeper.phase;
      office = keeper.office;
      lecturers = e.lecturers.items;
      projects = e.projects.items;
      students = e.students.items;
    } in
    let there : w ≡ c.args.keeper.now = ap (world_with keeper.phase keeper.office) c.entries.view_is ∙ c.keeper.view_is in
    (λ i. record {
      round = e.round;
      phase = keeper.phase;
      me = c.in_ok-person_of.ensures i;
      capacity = c.lecturer.inside.row.capacity;
      catalogue = (c.in_ok-catalogue.ensures ∙ ap catalogue (sym there)) i;
      applicants = (c.in_ok-applicants_by_project.ensures
          ∙ λ j. applicants_shown (c.is_from_ranking-closed.ensures j) (c.deref.ensures.value j) c.lecturer.inside.row.key
          (c.deref-2.ensures.value j)) i;
      ranking = c.in_ok-ranking_copy.ensures i;
      placed = (c.in_ok-placed_by_project.ensures
          ∙ λ j. placements_shown keeper.phase (c.deref-3.ensures.value j) c.lecturer.inside.row.key (c.deref-4.ensures.value j)) i;
    })
    ∙ λ i. lecturer_sees (there i) (c.lecturer.view_is i)
