use Rattle.portal_list.proofs.Base.{◌≡◌, ℕ, ◌++◌, [], ◌∷◌, Vec, Global, unwrap_or, ap, ◌∙◌, arith, common_steps}
use Rattle.portal_list.proofs.Base.{text_eq}
use Rattle.std.specs.HashMap as hash
use Rattle.std.specs.HashMap.Entry.{map_with_value}
use Rattle.portal_list.proofs.Noted.{noted, noted_or, noted_put}
use Rattle.portal_list.proofs.applicant_index.note.Goals as goal

pub returns : goal.returns
returns c =
    let v = c.push.new.self in
    let items : v.items ≡ noted (hash.get text_eq c.args.places.now c.as_bytes.result) ++ c.args.place ∷ []
    = c.in_ok-push.ensures.items
    ∙ ap (λ (w : Vec ℕ Global). w.items ++ c.args.place ∷ [])
    (c.or_insert-noted.ensures.value ∙ ap (λ o. unwrap_or o c.new.result) c.in_ok-places.ensures.value)
    ∙ ap (λ ns. ns ++ c.args.place ∷ []) (noted_or
    (hash.get text_eq c.args.places.now c.as_bytes.result) c.new.result c.new.ensures.items) in
    let put = noted_put c.args.places.now (map_with_value c.in_ok-places.field-0 v) c.as_bytes.result v c.args.place
    (c.in_ok-places.ensures.update.0 v) items in
    λ q i. grind (arith, common_steps, put q i)
