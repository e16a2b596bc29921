use Rattle.portal_list.proofs.Base.{◌∙◌, sym, ap, subst, option_map, IsFitted, world_with}
use Rattle.portal_list.proofs.Parted.{fitted_rows, lecturers_of_sound, students_of_sound, nothing_made}
use Rattle.portal_list.proofs.from_rows.entries_of_rows.Goals as goal

pub returns-in_default-clause-refused : goal.returns-in_default-clause-refused
returns-in_default-clause-refused c refused w e sound =
    nothing_made (λ v. v.items) c.in_ok-lecturers.field-0 w.lecturers c.in_default.is
    (c.in_ok-lecturers.ensures ∙ lecturers_of_sound _ w (c.rows.view_is ∙ e) sound)

pub returns-in_default-2-clause-refused : goal.returns-in_default-2-clause-refused
returns-in_default-2-clause-refused c refused w e sound =
    nothing_made (λ v. v.items) c.in_ok-students.field-0 w.students c.in_default-2.is
    (c.in_ok-students.ensures ∙ students_of_sound _ w (c.rows.view_is ∙ e) sound)

pub returns-clause-fitted : goal.returns-clause-fitted
returns-clause-fitted c =
    subst (λ rows. IsFitted rows (world_with rows.phase rows.office (record {
      round = c.rows.inside.round;
      lecturers = c.in-Some.lecturers.items;
      projects = c.rows.inside.projects.items;
      students = c.in-Some-2.students.items;
    }))) c.rows.view_is
    (fitted_rows _ c.in-Some.lecturers.items c.in-Some-2.students.items
    (sym c.in_ok-lecturers.ensures ∙ ap (option_map (λ v. v.items)) c.in-Some.is)
    (sym c.in_ok-students.ensures ∙ ap (option_map (λ v. v.items)) c.in-Some-2.is))
