use Rattle.portal_rules.proofs.Base.{[], ◌∷◌, ap, list_any, text_eq}
use Rattle.portal_rules.proofs.Tables.{text_put}
use Rattle.portal_deciding.proofs.roll_rules.given_codes.Goals as goal

pub returns : goal.returns
returns g c =
    c.in_ok-add_codes.ensures (c.args.office.now ∷ [])
    (text_put [] [] c.new-codes.result c.insert.new.self c.as_bytes.result c.args.office.now c.in_ok-insert.ensures.updates
    c.as_bytes.ensures.bytes (λ q. ap (list_any (text_eq q)) c.new-codes.ensures.empty))
