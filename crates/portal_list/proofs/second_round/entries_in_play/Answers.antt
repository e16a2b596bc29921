use Rattle.portal_list.proofs.Base.{◌≡◌, map, ap, ◌∙◌, filter, filter_map, First, Student, alone_lecturer}
use Rattle.portal_list.proofs.Base.{alone_student, lecturers_left, is_left, pairs_with, lecturer_played, project_played}
use Rattle.portal_list.proofs.Base.{all_played}
use Rattle.portal_list.proofs.Plays.{lecturers_are, projects_are}
use Rattle.portal_list.proofs.second_round.entries_in_play.Goals as goal

pub returns : goal.returns
returns c =
    let ls = c.entries.inside.lecturers.items in
    let ps = c.entries.inside.projects.items in
    let ss = c.entries.inside.students.items in
    let pairs = c.in_ok-pairs.ensures ∙ ap (pairs_with (λ (s : Student). s.earlier_placement)) c.deref.ensures.value in
    let lecturers : c.in_ok-lecturers.lecturers.items ≡ map alone_lecturer (lecturers_left ls ps ss)
    = c.in_ok-lecturers.ensures ∙ (λ i. filter_map (lecturer_played (c.deref-3.ensures.value i) ((c.deref-4.ensures.value ∙ pairs) i))
    (c.deref-2.ensures.value i)) ∙ lecturers_are ls ps ss in
    let projects = c.in_ok-projects.ensures ∙ (λ i. filter_map
    (project_played (c.deref-5.ensures.value i) ((c.deref-7.ensures.value ∙ pairs) i)) (c.deref-6.ensures.value i))
    ∙ projects_are ls ps ss c.in_ok-lecturers.lecturers.items lecturers in
    let students = c.in_ok-students.ensures ∙ ap (λ ss. map alone_student (filter is_left ss)) c.deref-8.ensures.value in
    (λ i. record {
      round = First;
      lecturers = lecturers i;
      projects = projects i;
      students = students i;
    })
    ∙ ap all_played c.entries.view_is
