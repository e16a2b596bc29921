use Rattle.portal_store.proofs.Base.{clean_if_open, state, version}
use Rattle.portal_store.specs.Crash.{later_queries}
use Rattle.portal_store.proofs.Asked.{blames_none}
use Rattle.portal_store.proofs.Calls.{looked_at, open_entered, open_kept, opened, untouched}
use Rattle.portal_store.proofs.Explained.{explains_for, explains_said}
use Rattle.portal_store.proofs.store.Store.open.Goals as goal

pub invariant_of-result : goal.invariant_of-result
invariant_of-result g c =
    let new = c.examine.new.conn in
    let own = c.fits-own in
    let rest = c.outside_transaction.ensures in
    let sees = c.in-Ok-examine in
    let shut = clean_if_open _ _ (g.met.S.Store.shut_if_dirty new.store) in
    let last = g.met.S.Store.settled new.store in
    record {
      kept = open_kept g.S.Store own.result c.args.conn new shut last own.ensures.current rest.committed rest.live c.requires.idle
          c.examine.ensures.looks sees.entries sees.ensures.reads;
      shown = λ on. c.nothing.ensures _;
      entered = open_entered g.S.Store own.result c.args.conn new shut last own.ensures.current rest.committed rest.live c.requires.idle
          c.examine.ensures.looks sees.entries sees.ensures.reads;
    }

pub returns-clause-opens : goal.returns-clause-opens
returns-clause-opens g c =
    let new = c.examine.new.conn in
    let own = c.fits-own in
    let rest = c.outside_transaction.ensures in
    let sees = c.in-Ok-examine in
    let shut = clean_if_open _ _ (g.met.S.Store.shut_if_dirty new.store) in
    opened g.S.Store own.result c.args.conn new shut (g.met.S.Store.settled new.store) own.ensures.current rest.committed rest.live
    c.requires.idle c.examine.ensures.looks sees.entries sees.ensures.reads (sees.ensures.suits rest.committed)
    (sees.ensures.version rest.committed)

pub returns-in-Err-examine-clause-refuses : goal.returns-in-Err-examine-clause-refuses
returns-in-Err-examine-clause-refuses g c =
    let rest = c.outside_transaction.ensures in
    let reads = c.in-Err-examine.ensures.reads in
    record {
      back = looked_at g.S.Store _ c.args.conn c.examine.new.conn rest.committed c.requires.idle c.examine.ensures.looks;
      judged = λ clean. record {
        explained = explains_for _ _ c.fits-own.ensures.current.0 (state g.S.Store c.args.conn) c.in-Err-examine.fault version later_queries
            (c.in-Err-examine.ensures.explained rest.committed clean);
        refuted = λ current. (reads (c.fits-own.ensures.current.1 current)).told current (λ on. (rest.live on).0) clean;
      };
    }

pub returns-in-Err-clause-refuses : goal.returns-in-Err-clause-refuses
returns-in-Err-clause-refuses g c =
    record {
      back = untouched g.S.Store _ c.args.conn c.requires.idle;
      judged = λ clean. record {
        explained = explains_said _ _ _ _ _ c.from.ensures.0;
        refuted = λ current. blames_none _ _ _ _ c.from.ensures.0;
      };
    }
