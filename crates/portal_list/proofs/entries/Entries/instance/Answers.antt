use Rattle.portal_list.proofs.Base.{◌≡◌, sym, ◌∙◌, ap, IfOk-weaker, Second, AllEntries, false, AllByRecursion, World}
use Rattle.portal_list.proofs.Base.{is_still_to_rank, instance, instance_of, Sound, all_weaker, HasEntries, all_played}
use Rattle.portal_list.proofs.Base.{rules, alone, all_map, left_of, second_plays}
use Rattle.portal_rules.proofs.InRound.{all_filter}
use Rattle.portal_rules.proofs.Alone.{alone_sound, still_alone, rows_alone}
use Rattle.portal_list.proofs.entries.Entries.instance.Goals as goal

-- The second round as a world of one round, with the same instance.
record AsAlone (e : AllEntries) (w v : World) : Type 0 where
  has : HasEntries e v
  sound : Sound v
  same : instance v ≡ instance w
  ranked : AllByRecursion (λ l. is_still_to_rank w l ≡ false) w.lecturers
      → AllByRecursion (λ l. is_still_to_rank v l ≡ false) v.lecturers

as_alone : (a e : AllEntries) (w : World) → a.round ≡ Second → e ≡ all_played a → HasEntries a w → Sound w
    → AsAlone e w (alone (left_of w))
as_alone a e w second are has sound =
    let is_second : w.round ≡ Second = ap (λ x. x.round) has.there ∙ second in
    record {
      has = record { there = ap all_played has.there ∙ sym are };
      sound = alone_sound w sound is_second;
      same = rows_alone (left_of w) ∙ ap instance_of (sym (second_plays w is_second));
      ranked = λ all. search (rules, all_map, all_filter, all_weaker, still_alone, is_second);
    }

pub returns-in_ok-left-in-Second-clause-instance : goal.returns-in_ok-left-in-Second-clause-instance
returns-in_ok-left-in-Second-clause-instance c =
    IfOk-weaker c.instance_among-in-Second.result _ _ (λ i meant w has sound.
    let v = as_alone c.args.self.now c.in_ok-left-in-Second.left w
    (sym (ap (λ (a : AllEntries). a.round) c.self.view_is) ∙ c.in-Second.is) c.in_ok-left-in-Second.ensures has sound in
    meant (alone (left_of w)) v.has v.sound ∙ v.same) c.instance_among-in-Second.ensures.instance

pub returns-in_ok-left-in-Second-clause-refused : goal.returns-in_ok-left-in-Second-clause-refused
returns-in_ok-left-in-Second-clause-refused c none w has sound ranked =
    let v = as_alone c.args.self.now c.in_ok-left-in-Second.left w
    (sym (ap (λ (a : AllEntries). a.round) c.self.view_is) ∙ c.in-Second.is) c.in_ok-left-in-Second.ensures has sound in
    c.instance_among-in-Second.ensures.refused none (alone (left_of w)) v.has v.sound (v.ranked ranked)
