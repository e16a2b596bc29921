use Rattle.spa_student.proofs.Base.{[], length, ◌∙◌, ap, rules, ranking_of, get_or-map, length-map}
use Rattle.spa_student.proofs.CutSteps.{state_at_first}
use Rattle.spa_student.proofs.cuts.Progress.new.Goals as goal

pub returns : goal.returns
returns c =
    let i = c.args.instance.now in
    let cuts = c.in_ok-first_project_cuts.ensures in
    let cuts_l = c.in_ok-first_lecturer_cuts.ensures in
    state_at_first i c.students.ensures.lawful _ (search rules) (search rules) (search rules) (search rules)
    (ap length cuts ∙ length-map i.lecturers (λ l. length (ranking_of i l)))
    (λ p h. rw cuts (get_or-map (λ l. length (ranking_of i l)) i.lecturers p 0 0 h))
    (ap length cuts_l ∙ length-map i.rankings length)
    (λ l h. rw cuts_l (get_or-map length i.rankings l [] 0 h))
