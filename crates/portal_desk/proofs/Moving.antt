-- What one exchange more does to a keeper, and what a stop may leave after it.
use Rattle.portal_desk.proofs.Base.{inl, inr, List, [], ◌∷◌, ◌++◌, refl, sym, ap, ◌∙◌, subst, append_assoc, World}
use Rattle.portal_desk.proofs.Base.{Answer, Wanted, Serves, Exchange, Reaches, KeeperState, DeskState, Moves, Worked}
use Rattle.portal_desk.proofs.Base.{FailsByCount, MayReach, Acted, Bool}
use Rattle.portal_desk.proofs.Base.{RequestContent}
use Rattle.portal_desk.proofs.Base.{request_of}
use Rattle.portal_desk.proofs.Failing.{fails_then, fails_none}
use Rattle.portal_desk.proofs.InTurn.{lasts_then, breaks_then}
use Rattle.portal_desk.proofs.Steps.{Reaches-append, answered_apart}

unfoldable pub exchange : Wanted → Answer → Exchange
exchange r a = record { request = r; reply = a }

-- whether the reply closes does not matter
pub acted_as : (old new : KeeperState) (b c : Bool) (a : RequestContent) (reply : Answer)
    → Acted old new (request_of b a) reply
    → Acted old new (request_of c a) reply
acted_as old new b c a reply h = record {
  clean = h.clean;
  serves = h.serves;
  lasts = h.lasts;
  breaks = h.breaks;
  broken = h.broken;
  settled = h.settled;
  leaves = λ disk w left. elim (h.leaves disk w left) [
    | inl was ↦ inl was
    | inr may ↦ inr (record { alive = may.alive; untold = may.untold; turned = may.turned })
  ];
}

-- nothing was exchanged
pub Moves-none : (s : KeeperState) → Moves s s []
Moves-none s = record {
  clean = λ on. on;
  reaches = λ on. ([], tt, refl);
  lasts = λ all disk. (disk, λ on. on);
  breaks = λ disk. (disk, λ on. inl on, λ bad. bad);
  settled = λ rest on. rest;
  still = λ disk bad w. (([], tt, refl), λ left. left);
  leaves = λ rest on disk w left. inl ([], tt, rest w left);
}

-- one exchange
pub Moves-one : (old new : KeeperState) (r : Wanted) (reply : Answer) → Acted old new r reply
    → Moves old new (exchange r reply ∷ [])
unfolding exchange
Moves-one old new r reply acted = record {
  clean = acted.clean;
  reaches = λ on. one old.world new.world reply (acted.serves on);
  lasts = λ all. acted.lasts all.0;
  breaks = acted.breaks;
  settled = acted.settled;
  still = λ disk bad w. (
    one w w reply (acted.broken disk ((acted.breaks disk).2 bad) w),
    λ left. elim (acted.leaves disk w left) [ inl was ↦ was | inr may ↦ absurd (may.alive bad) ],
  );
  leaves = λ rest on disk w left. elim ((acted.breaks disk).1 on) [
    | inl up ↦ inl (one old.world w reply (subst (Serves old.world r reply) (sym (acted.settled rest up w left)) (acted.serves up)))
    | inr down ↦ elim (acted.leaves disk w left) [
      | inl was ↦ inl (one old.world w reply (subst (λ x. Serves x r reply w) (rest w was) (acted.broken disk down w)))
      | inr may ↦ let t = may.turned on in inr ([], [], exchange r reply, t.0, refl, may.untold down, one old.world w t.0 t.1)
    ]
  ];
}
  where
    one : (w v : World) (a : Answer) → Serves w r a v → Reaches w (exchange r a ∷ []) v
    one w v a step = (v ∷ [], (step, tt), refl)

may_before : (w u v : World) (es fs : List Exchange) → Reaches w es u → MayReach u fs v → MayReach w (es ++ fs) v
may_before w u v es fs first (inl run) = inl (Reaches-append w u v es fs first run)
may_before w u v es fs first (inr (front, back, x, other, is, untold, run)) =
    let y : Exchange = record x { reply = other } in
    inr (
      es ++ front,
      back,
      x,
      other,
      ap (λ l. es ++ l) is ∙ sym (append_assoc es front (x ∷ back)),
      untold,
      subst (λ l. Reaches w l v) (sym (append_assoc es front (y ∷ back))) (Reaches-append w u v es (front ++ y ∷ back) first run),
    )

may_after : (w v : World) (es fs : List Exchange) → MayReach w es v → Reaches v fs v → MayReach w (es ++ fs) v
may_after w v es fs (inl run) stays = inl (Reaches-append w v v es fs run stays)
may_after w v es fs (inr (front, back, x, other, is, untold, run)) stays =
    let y : Exchange = record x { reply = other } in
    inr (
      front,
      back ++ fs,
      x,
      other,
      ap (λ l. l ++ fs) is ∙ append_assoc front (x ∷ back) fs,
      untold,
      subst (λ l. Reaches w l v) (append_assoc front (y ∷ back) fs) (Reaches-append w v v (front ++ y ∷ back) fs run stays),
    )

-- one list of exchanges after another, as of one connection after another
pub Moves-append : (a b c : KeeperState) (es fs : List Exchange) → Moves a b es → Moves b c fs → Moves a c (es ++ fs)
Moves-append a b c es fs h k = record {
  clean = λ on. h.clean (k.clean on);
  reaches = λ on. Reaches-append a.world b.world c.world es fs (h.reaches (k.clean on)) (k.reaches on);
  lasts = λ all. let apart = answered_apart es fs all in lasts_then a b c (h.lasts apart.0) (k.lasts apart.1);
  breaks = breaks_then a b c h.breaks k.breaks;
  settled = λ rest on. k.settled (h.settled rest (k.clean on)) on;
  still = λ disk bad w.
      let mid = (k.breaks disk).0 in
      let one = h.still mid bad w in
      let two = k.still disk ((h.breaks mid).2 bad) w in
      (Reaches-append w w w es fs one.0 two.0, λ left. one.1 (two.1 left));
  leaves = λ rest on disk w left.
      let mid = (k.breaks disk).0 in
      elim ((h.breaks mid).1 on) [
        | inl up ↦ may_before a.world b.world w es fs (h.reaches up) (k.leaves (h.settled rest up) up disk w left)
        | inr bad ↦ let s = k.still disk bad w in may_after a.world w es fs (h.leaves rest on mid w (s.1 left)) s.0
      ];
}

pub Moves-snoc : (old mid new : KeeperState) (es : List Exchange) (r : Wanted) (reply : Answer) → Moves old mid es
    → Acted mid new r reply
    → Moves old new (es ++ exchange r reply ∷ [])
Moves-snoc old mid new es r reply moves acted = Moves-append old mid new es (exchange r reply ∷ []) moves (Moves-one mid new r reply acted)

-- what a desk did, and one more exchange
pub worked_more : {K : Type 0} (state : K → KeeperState) (a b c : DeskState K) (r : Wanted) (reply : Answer)
    → Worked state a b → Acted (state b.keeper) (state c.keeper) r reply
    → FailsByCount b.failed c.failed (state b.keeper).faults (state c.keeper).faults → Worked state a c
worked_more state a b c r reply h acted counts = record {
  moves = (
    h.moves.0 ++ exchange r reply ∷ [],
    Moves-snoc (state a.keeper) (state b.keeper) (state c.keeper) h.moves.0 r reply h.moves.1 acted,
  );
  counts = fails_then _ _ _ _ _ _ h.counts counts;
}

-- and what it did then
pub worked_then : {K : Type 0} (state : K → KeeperState) (a b c : DeskState K) → Worked state a b → Worked state b c
    → Worked state a c
worked_then state a b c h k = record {
  moves = (h.moves.0 ++ k.moves.0, Moves-append (state a.keeper) (state b.keeper) (state c.keeper) h.moves.0 k.moves.0 h.moves.1 k.moves.1);
  counts = fails_then _ _ _ _ _ _ h.counts k.counts;
}

-- a desk that did nothing
pub worked_none : {K : Type 0} (state : K → KeeperState) (k : DeskState K) → Worked state k k
worked_none state k = record { moves = ([], Moves-none (state k.keeper)); counts = fails_none k.failed _ }
