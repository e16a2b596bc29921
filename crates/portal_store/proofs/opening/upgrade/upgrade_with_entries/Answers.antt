use Rattle.portal_store.proofs.Base.{[], Err, ap, rules, subst, sym, ◌∙◌, state, Upgrades, clean_before, first_version}
use Rattle.portal_store.proofs.Base.{stays_then, survives_weaker}
use Rattle.portal_store.proofs.Asked.{blames_none}
use Rattle.portal_store.proofs.Calls.{after_late, looked_at, never_exists, not_upgraded}
use Rattle.portal_store.proofs.Explained.{explains_for, explains_said, no_damage, suits_for}
use Rattle.portal_store.proofs.Keeps.{not_both}
use Rattle.portal_tables.proofs.Owned.{first_own}
use Rattle.portal_store.proofs.Upgraded.{first_untaken, leaves_upgraded, leaves_world}
use Rattle.portal_store.proofs.opening.upgrade.upgrade_with_entries.Goals as goal

-- what was examined bars an upgrade
pub returns-in-Err-clause-refuses : goal.returns-in-Err-clause-refuses
returns-in-Err-clause-refuses g c =
    let old = c.args.conn.now in
    let mid = c.examine_first.new.conn in
    let rest = c.outside_transaction.ensures in
    let looks = c.examine_first.ensures.looks in
    let reads = c.in-Err.ensures.reads in
    not_upgraded g.S.Store _ c.in-Err.fault old mid c.upgrade_fault_of.ensures
    (looked_at g.S.Store _ old mid rest.committed c.requires.idle looks)
    (λ clean. explains_for _ _ c.requires.first.0 (state g.S.Store old) c.in-Err.fault first_version []
    (c.in-Err.ensures.explained rest.committed clean))
    (λ first clean. (reads (c.requires.first.1 first)).told (first_own _ first) (λ on. (rest.live on).0) clean)
    (λ damaged first clean. c.in-Err.ensures.judged rest.committed first rest.live clean damaged)
    (λ first. survives_weaker _ _ _ _ (λ clean db no. absurd no) looks.crash)

-- a name is taken, as none is of tables of version 1 alone
pub returns-then-is_taken-clause-refuses : goal.returns-then-is_taken-clause-refuses
returns-then-is_taken-clause-refuses g c =
    let old = c.args.conn.now in
    let rest = c.outside_transaction.ensures in
    let looks = c.examine_first.ensures.looks in
    let taken = sym c.requires.taken ∙ c.if-is_taken.true in
    record {
      back = looked_at g.S.Store _ old c.examine_first.new.conn rest.committed c.requires.idle looks;
      judged = λ clean. record {
        explained = λ found is. absurd (never_exists found (sym is));
        barred = λ first. absurd (not_both _ taken (first_untaken _ first));
        damaged = λ is. absurd (cc);
        exists = λ is. (
          record {
            suits = suits_for _ _ c.requires.first.0 (state g.S.Store old) first_version [] (c.in-Ok.ensures.suits rest.committed clean);
            good = λ first. c.in-Ok.ensures.judged rest.committed first rest.live clean;
          },
          taken,
        );
      };
      taken = λ is. taken;
      left = λ first. survives_weaker _ _ _ _ (λ clean db no. absurd no) looks.crash;
    }

pub returns-in-Ok-upgrade_tables-clause-upgrades : goal.returns-in-Ok-upgrade_tables-clause-upgrades
returns-in-Ok-upgrade_tables-clause-upgrades g c =
    let old = state g.S.Store c.args.conn.now in
    let mid = state g.S.Store c.examine_first.new.conn in
    let new = state g.S.Store c.upgrade_tables.new.conn in
    let mine = c.requires.first.1 in
    let reads = c.in-Ok.ensures.reads in
    let looks = c.examine_first.ensures.looks.crash in
    let crash = c.upgrade_tables.ensures.crash in
    let early = clean_before mid new _ crash in
    let free = sym c.requires.taken ∙ c.if-is_taken.false in
    record {
      idle = c.upgrade_tables.ensures.idle;
      free = free;
      first = λ clean. record {
        suits = suits_for _ _ c.requires.first.0 old first_version []
            (c.in-Ok.ensures.suits c.outside_transaction.ensures.committed (early clean));
        good = λ first. c.in-Ok.ensures.judged c.outside_transaction.ensures.committed first c.outside_transaction.ensures.live
            (early clean);
      };
      admitted = λ first clean. ((reads (mine first)).told (first_own _ first) (λ on. (c.outside_transaction.ensures.live on).0)
          (early clean)).0;
      entered = λ first clean. ((reads (mine first)).told (first_own _ first) (λ on. (c.outside_transaction.ensures.live on).0)
          (early clean)).1;
      commits = λ clean.
          let done = c.in-Ok-upgrade_tables.ensures.ok clean in
          let stays = c.examine_first.ensures.looks.stays c.outside_transaction.ensures.committed (early clean) done.was_open in
          record {
            was_open = stays.0;
            is_open = done.is_open;
            settled = done.settled;
            changed = subst (λ d. Upgrades d new.now) stays.1 done.changed;
          };
      durable = c.in-Ok-upgrade_tables.ensures.durable;
      crash = leaves_upgraded old mid new looks crash free (λ first clean. ((reads (mine first)).same clean tt).0.now_is);
      left = λ first. leaves_world old mid new looks crash first
          (λ clean.
          let r = reads (mine first) in
          ((r.same clean tt).0.now_is, (r.told (first_own _ first) (λ on. (c.outside_transaction.ensures.live on).0) clean).0));
    }

-- the upgrade fails
pub returns-in-Err-upgrade_tables-clause-refuses : goal.returns-in-Err-upgrade_tables-clause-refuses
returns-in-Err-upgrade_tables-clause-refuses g c =
    let old = state g.S.Store c.args.conn.now in
    let mid = state g.S.Store c.examine_first.new.conn in
    let new = state g.S.Store c.upgrade_tables.new.conn in
    let mine = c.requires.first.1 in
    let reads = c.in-Ok.ensures.reads in
    let rest = c.outside_transaction.ensures in
    let looks = c.examine_first.ensures.looks in
    let crash = c.upgrade_tables.ensures.crash in
    let early = clean_before mid new _ crash in
    let free = sym c.requires.taken ∙ c.if-is_taken.false in
    let fails = c.in-Err-upgrade_tables in
    let nothing = c.from.ensures.0 (λ damaged. c.upgrade_tables.ensures.fault (fails.is ∙ ap Err damaged)) in
    not_upgraded g.S.Store _ c.from.result c.args.conn.now c.upgrade_tables.new.conn (search rules)
    (record {
      idle = c.upgrade_tables.ensures.idle;
      stays = λ clean on.
          let later = fails.ensures.err clean on in
          stays_then old mid new (looks.stays rest.committed (early clean) later.0) later;
      crash = survives_weaker old new _ _ (λ clean db left. after_late _ c.from.result old db
          c.upgrade_fault_of-in-Err-upgrade_tables.ensures nothing left)
          (leaves_upgraded old mid new looks.crash crash free (λ first clean. ((reads (mine first)).same clean tt).0.now_is));
    })
    (λ clean. explains_said _ _ _ _ _ nothing)
    (λ first clean. blames_none _ _ _ _ nothing)
    (λ damaged. absurd (no_damage _ nothing damaged))
    (λ first. leaves_world old mid new looks.crash crash first
    (λ clean.
    let r = reads (mine first) in
    ((r.same clean tt).0.now_is, (r.told (first_own _ first) (λ on. (rest.live on).0) clean).0)))

pub upgrade_tables-requires : goal.upgrade_tables-requires
upgrade_tables-requires g c = record { idle = c.examine_first.ensures.looks.mode c.requires.idle }
