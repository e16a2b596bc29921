use Rattle.portal_views.proofs.Base.{◌∙◌, ap₂, map-id, offered, IfOk-weaker}
use Rattle.portal_views.proofs.catalogue.listings_left.Goals as goal

pub returns : goal.returns
returns c =
    let lecturers = map-id c.deref.result.now ∙ c.deref.ensures.value ∙ c.in_ok-teaching.ensures in
    let projects = c.deref-2.ensures.value ∙ c.in_ok-vacant.ensures in
    IfOk-weaker c.listings_of.result _ _ (λ v is. is ∙ ap₂ offered lecturers projects) c.listings_of.ensures
