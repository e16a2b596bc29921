use Rattle.portal_store.proofs.Base.{ap, ◌∙◌, has_names, OfSecond, clean_if_open, state, survives_weaker}
use Rattle.portal_tables.proofs.Runs.{survives_same}
use Rattle.portal_store.proofs.Asked.{blames_none}
use Rattle.portal_store.proofs.Calls.{not_upgraded, untouched, upgraded}
use Rattle.portal_store.proofs.Explained.{explains_said, no_damage}
use Rattle.portal_store.proofs.Upgraded.{still_entered, upgraded_kept}
use Rattle.portal_store.proofs.store.Store.upgrade.Goals as goal

pub invariant_of-result : goal.invariant_of-result
invariant_of-result g c =
    let old = c.args.conn in
    let new = c.upgrade_with_entries.new.conn in
    let own = c.fits_first-own in
    let first = own.ensures.first.0 in
    let entries = c.in-Ok-upgrade_with_entries.entries in
    let up = c.in-Ok-upgrade_with_entries.ensures.upgrades in
    let shut = clean_if_open _ _ (g.met.S.Store.shut_if_dirty new.store) in
    record {
      kept = upgraded_kept g.S.Store own.result entries old new first up shut;
      shown = λ on. c.nothing.ensures _;
      entered = λ on. still_entered g.S.Store own.result entries old new first up on.0 (shut on.1);
    }

pub returns-clause-upgrades : goal.returns-clause-upgrades
returns-clause-upgrades g c =
    let new = c.upgrade_with_entries.new.conn in
    let own = c.fits_first-own in
    let up = c.in-Ok-upgrade_with_entries in
    let shut = clean_if_open _ _ (g.met.S.Store.shut_if_dirty new.store) in
    upgraded g.S.Store own.result c.args.conn new shut (g.met.S.Store.settled new.store) up.entries own.ensures.first up.ensures.upgrades

pub returns-in-Err-upgrade_with_entries-clause-refuses : goal.returns-in-Err-upgrade_with_entries-clause-refuses
returns-in-Err-upgrade_with_entries-clause-refuses g c = c.in-Err-upgrade_with_entries.ensures.refuses

pub returns-in-Err-clause-refuses : goal.returns-in-Err-clause-refuses
returns-in-Err-clause-refuses g c =
    let conn = c.args.conn in
    let s = state g.S.Store conn in
    not_upgraded g.S.Store _ c.from.result conn conn c.upgrade_fault_of.ensures (untouched g.S.Store _ conn c.requires.idle)
    (λ clean. explains_said _ _ _ _ _ c.from.ensures.0) (λ first clean. blames_none _ _ _ _ c.from.ensures.0)
    (λ damaged. absurd (no_damage _ c.from.ensures.0 damaged))
    (λ first. survives_weaker s s _ _ (λ clean db no. absurd no) (survives_same s))

pub upgrade_with_entries-requires : goal.upgrade_with_entries-requires
upgrade_with_entries-requires g c = record {
  idle = c.requires.idle;
  first = c.fits_first-own.ensures.first;
  taken = c.is_there-is_taken.ensures ∙ ap (has_names OfSecond) c.schema.ensures.value;
}
