use Rattle.portal_rules.proofs.Base.{◌∷◌, map}
use Rattle.portal_rules.proofs.Tables.{text_put}
use Rattle.portal_deciding.proofs.roll_rules.NewLecturersRollRulesLecturerRow.add_text.Goals as goal

pub returns : goal.returns
returns c = λ there was.
    let view = c.args.self.now.0.now in
    text_put (view.office_code ∷ map (λ row. row.code) view.students)
    (map (λ row. row.code) there) c.args.texts.now c.insert.new.self c.as_bytes.result c.args.row.now.code
    c.in_ok-insert.ensures.updates c.as_bytes.ensures.bytes was
