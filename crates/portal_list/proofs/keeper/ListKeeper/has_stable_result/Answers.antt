use Rattle.portal_list.proofs.Base.{◌≡◌, true, map, rules, sym, ap, ◌∙◌, filter, option_map, number_in, World}
use Rattle.portal_list.proofs.Base.{is_published, instance, AllEntries, entries_in, takes_part, ◌↔◌, ℕ, Bool, IsTrue}
use Rattle.portal_list.proofs.Base.{Option, List, subst₂, Spa, Student, IsStable, matching_of, IsStableIfPublished}
use Rattle.portal_list.proofs.Plays.{part_is}
use Rattle.portal_list.proofs.keeper.ListKeeper.has_stable_result.Goals as goal

-- A published round's result is a stable matching, and a world is good, where its numbers are so.
settled_if : (w : World) (i : Spa) (places : List (Option ℕ)) (r : Bool) → is_published w.phase ≡ true → i ≡ instance w
    → places ≡ map (λ s. option_map (number_in i.project_keys) s.placed) (filter (takes_part w.round) w.students)
    → (IsTrue r ↔ IsStable i places) → (IsTrue r ↔ IsStableIfPublished w)
settled_if w i places r published same are told =
    let there : places ≡ matching_of w = are
    ∙ (λ j. map (λ (s : Student). option_map (number_in (same j).project_keys) s.placed) (part_is w.round w.students j)) in
    (λ holds _. subst₂ IsStable same there (told.0 holds), λ settled. told.1 (subst₂ IsStable (sym same) (sym there) (settled published)))

pub returns : goal.returns
returns c =
    let w = c.args.self.now in
    let i = c.in_ok-instance.instance in
    let there : c.self.inside.entries ≡ entries_in w = ap entries_in c.self.view_is in
    let same : i ≡ instance w = c.in_ok-instance.ensures.instance w (record { there = sym there }) c.requires in
    let published : is_published w.phase ≡ true = ap (λ (v : World). is_published v.phase) (sym c.self.view_is) ∙ sym c.is_published.ensures
    ∙ search rules in
    settled_if w i c.in_ok-places.places.items c.are_stable.result published same
    (c.in_ok-places.ensures
    ∙ ap (λ ss. map (λ s. option_map (number_in i.project_keys) s.placed) (filter (takes_part c.entries.inside.round) ss))
    c.deref.ensures.value
    ∙ ap (λ (a : AllEntries). map (λ s. option_map (number_in i.project_keys) s.placed) (filter (takes_part a.round) a.students))
    (c.entries.view_is ∙ there)) c.are_stable.ensures
