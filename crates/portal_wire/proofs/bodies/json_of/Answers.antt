use Rattle.portal_wire.proofs.Base.{◌≡◌, Some, is_utf8, IsUtf8-from_is_utf8, is_utf8-from_IsUtf8, view}
use Rattle.std.proofs.lemmas.Bool.{false_from_ne_true}
use Rattle.serde_json.specs.Read.{read as read_text}
use Rattle.portal_wire.proofs.bodies.json_of.Goals as goal

pub returns-in_default : goal.returns-in_default
returns-in_default c =
    let cases = rw c.in_default.is at c.from_utf8.ensures.cases in
    rw (false_from_ne_true (is_utf8 c.args.body.now) (λ e. cases.0 (IsUtf8-from_is_utf8 c.args.body.now e)))

pub returns-in-Ok-from_str : goal.returns-in-Ok-from_str
returns-in-Ok-from_str c =
    let cases = c.in-Ok.ensures.cases in
    let read : read_text c.args.body.now ≡ Some (view c.in-Ok-from_str.value) = rw cases.0 at c.in-Ok-from_str.ensures.ok in
    rw (is_utf8-from_IsUtf8 c.args.body.now cases.1) read
