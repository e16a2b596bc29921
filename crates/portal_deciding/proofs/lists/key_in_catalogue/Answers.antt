use Rattle.portal_rules.proofs.Base.{◌≡◌, true, sym, ◌∙◌, ap, arith, list_any_at, equals}
use Rattle.portal_rules.proofs.Keys.{is_same}
use Rattle.portal_deciding.proofs.lists.key_in_catalogue.Goals as goal
use Rattle.portal_rules.specs.declared.rows.Listing.{Listing}

pub returns-then-eq-clause-some : goal.returns-then-eq-clause-some
returns-then-eq-clause-some c =
    let here : equals c.listing-item.result.key c.args.text.now ≡ true = ap (λ k. equals k c.args.text.now) (sym c.as_bytes.ensures.bytes)
    ∙ sym c.eq.ensures ∙ c.if-eq.true in (
      is_same _ _ here,
      list_any_at (λ l. equals l.key c.args.text.now) c.args.catalogue.now c.loop-listing.listing-index c.listing-item.result (omega arith)
          (ap (λ (x : Listing). equals x.key c.args.text.now) (sym c.listing-item.is) ∙ here),
    )
