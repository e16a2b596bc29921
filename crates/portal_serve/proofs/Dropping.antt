-- Bytes that are dropped piece by piece, after a stream is served.
use Rattle.portal_serve.proofs.Base.{◌+◌, ◌≤◌, ℕ, List, [], ◌++◌, length, length-append, Option, Some, None, arith}
use Rattle.portal_serve.proofs.Base.{Drops, dropped_after, dropped_limit}
use Rattle.portal_serve.proofs.Base.{DeskState, KeeperState, Result, ServesOne, ServesStream}
use Rattle.std.specs.Prelude.{◌-◌, IfSome, take}
use Rattle.std.specs.Io.KnownBytes.{Consumes, Keeps}
use Rattle.portal_desk.specs.declared.served.Served.{Served}
use Rattle.portal_desk.specs.declared.served.ServeFault.{ServeFault}
use Rattle.portal_desk.specs.Session.{Finish, SomeSession}
use Rattle.std.proofs.KnownBytes.{Appends-kept, Consumes-kept, Consumes-nil, Consumes-trans}
use Rattle.std.proofs.lemmas.List.{length-take}

-- so many more may be dropped
pub record Dropped (a b : Option (List ℕ)) (room : ℕ) : Type 0 where
  pub bytes : List ℕ
  pub consumed : Consumes a b bytes
  pub within : length bytes + room ≤ dropped_limit

pub dropped_none : (a : Option (List ℕ)) → Dropped a a dropped_limit
dropped_none a = record { bytes = []; consumed = Consumes-nil a; within = omega arith }

pub dropped_more : (a b c : Option (List ℕ)) (room n : ℕ) (buf : List ℕ) → Dropped a b room → n ≤ room
    → Consumes b c (take n buf) → Dropped a c (room - n)
dropped_more a b c room n buf so few more = record {
  bytes = so.bytes ++ take n buf;
  consumed = Consumes-trans a b c so.bytes (take n buf) so.consumed more;
  within = omega (arith, so.within, few, length-append so.bytes (take n buf), length-take n buf);
}

pub dropped_all : (a b : Option (List ℕ)) (room : ℕ) → Dropped a b room → Drops dropped_limit a b
dropped_all a b room so = (so.bytes, so.consumed, omega (arith, so.within))

pub dropped_kept : (a b c : Option (List ℕ)) (room : ℕ) → Dropped a b room → Keeps b c → Drops dropped_limit a c
dropped_kept a b c room so same =
    dropped_all a c room (record { bytes = so.bytes; consumed = Consumes-kept a b c so.bytes so.consumed same; within = so.within })

-- a writer that keeps its bytes afterwards
serves_kept : {K : Type 0} (state : K → KeeperState) (old new : K) (count : ℕ) (finish : Finish)
    (source before mid after : Option (List ℕ))
    → IfSome source (SomeSession state old new before mid count finish) → Keeps mid after
    → IfSome source (SomeSession state old new before after count finish)
serves_kept state old new count finish None before mid after h same = tt
serves_kept state old new count finish (Some bytes) before mid after is same = record {
  exchanges = is.exchanges;
  counted = is.counted;
  written = is.written;
  adds = Appends-kept before mid after is.written is.adds same;
  session = is.session;
}

-- a stream is served, and then closed
pub stream_closed : {K : Type 0} (state : K → KeeperState) (r : Result Served ServeFault) (old new : DeskState K)
    (source unread left before mid after : Option (List ℕ))
    → ServesOne state r old new source unread before mid → Drops (dropped_after r) unread left → Keeps mid after
    → ServesStream state r old new source left before after
stream_closed state r old new source unread left before mid after one drops same = record {
  unread = unread;
  serves = record {
    worked = one.worked;
    served = serves_kept state old.keeper new.keeper _ _ source before mid after one.served same;
    taken = one.taken;
    stays = one.stays;
    settles = one.settles;
  };
  drops = drops;
}
