use Rattle.portal_store.proofs.Base.{◌≡◌, sym, ap, subst, Option, Some, None, IfSome, Change, Choices, Ranks, Students}
use Rattle.portal_store.proofs.Base.{Placements, Fill, changed, OfficeSees, catalogue, office_sees, World, change_model}
use Rattle.portal_rules.proofs.Acts.{catalogue_chosen, catalogue_ranked, catalogue_joined, catalogue_placed}
use Rattle.portal_rules.proofs.Fills.{catalogue_filled}
use Rattle.portal_store.specs.declared.reading.view_cache.ViewCache.{ViewCache}
use Rattle.portal_store.specs.inner.ViewCache.{IsCacheOf}
use Rattle.portal_store.proofs.reading.view_cache.ViewCache.refresh.Goals as goal

-- what the office sees afterwards is told by what it saw
seen_after : (w : World) (change : Change) (result seen was : Option OfficeSees) → seen ≡ was
    → IfSome result (λ after. (v : World) → IfSome seen (λ view. view ≡ office_sees v) → after ≡ office_sees (changed v change))
    → IfSome was (λ view. view ≡ office_sees w) → IfSome result (λ after. after ≡ office_sees (changed w change))
seen_after w change (Some after) seen was same tells right = tells w (subst (λ o. IfSome o (λ view. view ≡ office_sees w)) (sym same) right)
seen_after w change None seen was same tells right = tt

-- the catalogue is the same afterwards
offers_after : (cache : ViewCache) (v w : World) → catalogue w ≡ catalogue v → IsCacheOf cache v
    → IfSome cache.catalogue (λ shared. shared.value.items ≡ catalogue w)
offers_after cache v w same right = subst (λ offers. IfSome cache.catalogue (λ shared. shared.value.items ≡ offers)) (sym same) right.offers

-- a change that leaves the catalogue
kept : (cache : ViewCache) (w : World) (made change : Change) → made ≡ change
    → catalogue (changed w change) ≡ catalogue w → IsCacheOf cache w
    → IfSome cache.catalogue (λ shared. shared.value.items ≡ catalogue (changed w made))
kept cache w made change is same right =
    subst (λ c. IfSome cache.catalogue (λ shared. shared.value.items ≡ catalogue (changed w c))) (sym is)
    (offers_after cache w (changed w change) same right)

-- a list
pub returns-in-Choices : goal.returns-in-Choices
returns-in-Choices c w right = record {
  offers = kept c.args.self.now w _ (Choices c.in-Choices.student c.in-Choices.projects.items) (ap change_model c.in-Choices.is)
      (catalogue_chosen w _ _) right;
  office = seen_after w (change_model c.args.change.now) _ _ _ c.take.ensures.value c.office_after.ensures right.office;
}

-- a ranking
pub returns-in-Ranking : goal.returns-in-Ranking
returns-in-Ranking c w right = record {
  offers = kept c.args.self.now w _ (Ranks c.in-Ranking.lecturer c.in-Ranking.students.items) (ap change_model c.in-Ranking.is)
      (catalogue_ranked w _ _) right;
  office = seen_after w (change_model c.args.change.now) _ _ _ c.take.ensures.value c.office_after.ensures right.office;
}

-- new students
pub returns-in-Students : goal.returns-in-Students
returns-in-Students c w right = record {
  offers = kept c.args.self.now w _ (Students c.in-Students.field-0.items) (ap change_model c.in-Students.is)
      (catalogue_joined w c.in-Students.field-0.items) right;
  office = seen_after w (change_model c.args.change.now) _ _ _ c.take.ensures.value c.office_after.ensures right.office;
}

-- the result
pub returns-in-Result : goal.returns-in-Result
returns-in-Result c w right = record {
  offers = kept c.args.self.now w _ (Placements c.in-Result.field-0.items) (ap change_model c.in-Result.is)
      (catalogue_placed w c.in-Result.field-0.items) right;
  office = seen_after w (change_model c.args.change.now) _ _ _ c.take.ensures.value c.office_after.ensures right.office;
}

-- a fill
pub returns-in-Fill : goal.returns-in-Fill
returns-in-Fill c w right = record {
  offers = kept c.args.self.now w _ (Fill) (ap change_model c.in-Fill.is) (catalogue_filled w) right;
  office = seen_after w (change_model c.args.change.now) _ _ _ c.take.ensures.value c.office_after.ensures right.office;
}
