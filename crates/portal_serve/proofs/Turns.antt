-- Connections that are served in turn.
use Rattle.portal_serve.proofs.Base.{◌≡◌, ◌∙◌, ℕ, List, [], ◌∷◌, ◌++◌, Option, Some, None, refl, sym, ap, subst}
use Rattle.portal_serve.proofs.Base.{Connection, DeskState, KeeperState, Passes, Series, ServesAll, ServesInTurn, ServesStream}
use Rattle.portal_serve.proofs.Base.{Settles, Worked}
use Rattle.std.specs.Prelude.{map}
use Rattle.std.specs.Option.{option_to_list}
use Rattle.std.proofs.lemmas.List.{append_assoc, append-nil, map-append}
use Rattle.portal_serve.specs.declared.server.Outcome.{Outcome}

abbrev source_of : Connection → Option (List ℕ)
source_of c = c.source

abbrev outcome_of : Connection → Outcome
outcome_of c = c.outcome

passes_more : (a b c : Option Series) (xs ys : List Connection) → Passes a b xs → Passes b c ys → Passes a c (xs ++ ys)
passes_more None b c xs ys p q = tt
passes_more (Some s) b c xs ys (rest, is, then) q =
    let more : Passes (Some (record { served = s.served ++ xs; waiting = rest })) c ys = subst (λ o. Passes o c ys) then q in (
      more.0,
      is ∙ (ap (λ l. map source_of xs ++ l) more.1 ∙ (sym (append_assoc (map source_of xs) (map source_of ys) more.0)
          ∙ ap (λ l. l ++ more.0) (sym (map-append source_of xs ys)))),
      more.2 ∙ ap (λ l. Some (record { served = l; waiting = more.0 })) (append_assoc s.served xs ys),
    )

passes_none : (a : Option Series) → Passes a a []
passes_none None = tt
passes_none (Some s) =
    (s.waiting, refl, ap (λ l. Some (record { served = l; waiting = s.waiting })) (sym (append-nil s.served)))

all_more : {K : Type 0} (state : K → KeeperState) (old : DeskState K) (xs : List Connection) (mid : DeskState K) (ys : List Connection)
    (new : DeskState K) → ServesAll state old xs mid → ServesAll state mid ys new → ServesAll state old (xs ++ ys) new
all_more state old [] mid ys new p q = subst (λ k. ServesAll state k ys new) p q
all_more state old (x ∷ xs) mid ys new (next, one, is, rest) q = (next, one, is, all_more state next xs mid ys new rest q)

-- some connections, and then others
pub turns_more : {K : Type 0} (state : K → KeeperState) (old mid new : DeskState K) (a b c : Option Series) (os ps : List Outcome)
    → ServesInTurn state old mid a b os → ServesInTurn state mid new b c ps → ServesInTurn state old new a c (os ++ ps)
turns_more state old mid new a b c os ps p q = record {
  connections = p.connections ++ q.connections;
  passes = passes_more a b c p.connections q.connections p.passes q.passes;
  serves = all_more state old p.connections mid q.connections new p.serves q.serves;
  told = map-append outcome_of p.connections q.connections
      ∙ (ap (λ l. l ++ map outcome_of q.connections) p.told ∙ ap (λ l. os ++ l) q.told);
}

-- some connections, and then nobody
pub turns_end : {K : Type 0} (state : K → KeeperState) (old mid new : DeskState K) (a b c : Option Series) (os : List Outcome)
    → ServesInTurn state old mid a b os → ServesInTurn state mid new b c [] → ServesInTurn state old new a c os
turns_end state old mid new a b c os p q =
    subst (ServesInTurn state old new a c) (append-nil os) (turns_more state old mid new a b c os [] p q)

-- no connection
pub turns_none : {K : Type 0} (state : K → KeeperState) (desk : DeskState K) (a : Option Series) → ServesInTurn state desk desk a a []
turns_none state desk a = record { connections = []; passes = passes_none a; serves = refl; told = refl }

-- one connection
pub turns_one : {K : Type 0} (state : K → KeeperState) (old new : DeskState K) (a b : Option Series) (c : Connection)
    → Passes a b (c ∷ [])
    → ServesStream state c.outcome.ended old new c.source c.left c.before c.after → c.outcome.failed ≡ new.failed
    → ServesInTurn state old new a b (c.outcome ∷ [])
turns_one state old new a b c passes one failed = record {
  connections = c ∷ [];
  passes = passes;
  serves = (new, one, failed, refl);
  told = refl;
}

-- what one connection did to the desk
pub record Turned {K : Type 0} (state : K → KeeperState) (o : Outcome) (old new : DeskState K) : Type 0 where
  pub worked : Worked state old new
  pub settles : Settles o.ended old.failed new.failed
  pub failed : o.failed ≡ new.failed

pub turned : {K : Type 0} (state : K → KeeperState) (old new : DeskState K) (a b : Option Series) (o : Outcome)
    → ServesInTurn state old new a b (o ∷ []) → Turned state o old new
turned {K} state old new a b o turns = go turns.connections turns.serves turns.told
  where
    one : (c : Connection) (next : DeskState K) → ServesStream state c.outcome.ended old next c.source c.left c.before c.after
        → c.outcome.failed ≡ next.failed → Turned state c.outcome old next
    one c next stream failed = record { worked = stream.serves.worked; settles = stream.serves.settles; failed = failed }

    go : (cs : List Connection) → ServesAll state old cs new → map outcome_of cs ≡ o ∷ [] → Turned state o old new
    go [] serves told = absurd (cc)
    go (c ∷ d ∷ cs) serves told = absurd (cc)
    go (c ∷ []) (next, stream, failed, last) told =
        let is : c.outcome ≡ o = cc in
        subst (λ (p : Outcome). Turned state p old new) is
        (subst (λ (k : DeskState K). Turned state c.outcome old k) (sym last) (one c next stream failed))

-- no outcome is told
pub turns_untold : {K : Type 0} (state : K → KeeperState) (old new : DeskState K) (a b : Option Series) (r : Option Outcome)
    → ServesInTurn state old new a b (option_to_list r) → r ≡ None → ServesInTurn state old new a b []
turns_untold state old new a b r turns none = subst (λ (o : Option Outcome). ServesInTurn state old new a b (option_to_list o)) none turns

-- nobody was served, so the desk is as before
pub turns_nobody : {K : Type 0} (state : K → KeeperState) (old new : DeskState K) (a b : Option Series)
    → ServesInTurn state old new a b [] → new ≡ old
turns_nobody {K} state old new a b turns = go turns.connections turns.serves turns.told
  where
    go : (cs : List Connection) → ServesAll state old cs new → map outcome_of cs ≡ [] → new ≡ old
    go [] serves told = serves
    go (c ∷ cs) serves told = absurd (cc)
