-- The counts of connections that are served one after another.
use Rattle.portal_serve.proofs.Base.{◌≡◌, ◌∙◌, ◌+◌, ◌≤◌, Bool, true, false, if◌then◌else◌, ℕ, List, [], ◌∷◌, ◌++◌}
use Rattle.portal_serve.proofs.Base.{length, length-append, Option, Result, Ok, Err, refl, sym, ap, subst, rules}
use Rattle.portal_serve.proofs.Base.{arith, is_own_fault, is_store_cause, is_store_fault, Settles, FailsBy}
use Rattle.portal_serve.proofs.Base.{EndsBy, KeeperState, DeskState, Series, ServesInTurn}
use Rattle.portal_serve.proofs.Turns.{turned, turns_end, turns_more, turns_none}
use Rattle.portal_serve.proofs.Base.{StillWorks, CountsOutcomes, is_faulty}
use Rattle.std.specs.Prelude.{All, count_by}
use Rattle.std.proofs.lemmas.List.Elements.{All-push}
use Rattle.std.proofs.lemmas.List.Sums.{sum_by_push, count_by-le-length}
use Rattle.portal_desk.specs.declared.served.Cause.{Cause}
use Rattle.portal_desk.specs.declared.served.Cause.TheVariants.{Read, Write, Memory, Store}
use Rattle.portal_desk.specs.declared.served.Served.{Served}
use Rattle.portal_desk.specs.declared.served.ServeFault.{ServeFault}
use Rattle.portal_serve.specs.declared.server.Hall.{Hall}
use Rattle.portal_serve.specs.declared.server.Ended.{Ended}
use Rattle.portal_serve.specs.declared.server.Ended.TheVariants.{StoreFault}
use Rattle.portal_serve.specs.declared.server.Outcome.{Outcome}

-- so many connections were accepted, so many of them faulty, and the desk stands after each
pub record Passed {K : Type 0} (state : K → KeeperState) (first last : DeskState K) (old new : Option Series)
    (accepted faults : ℕ) : Type 0 where
  pub es : List Outcome
  pub turns : ServesInTurn state first last old new es
  pub long : accepted ≡ length es
  pub counted : faults ≡ count_by is_faulty es
  pub stand : All StillWorks es

pub passed_few : {K : Type 0} (state : K → KeeperState) (first last : DeskState K) (a b : Option Series)
    (accepted faults : ℕ) → Passed state first last a b accepted faults → faults ≤ accepted
passed_few state first last a b accepted faults p = omega (arith, p.long, p.counted, count_by-le-length is_faulty p.es)

-- the counts after one more connection
pub counted_more : (es : List Outcome) (o : Outcome) (accepted faults : ℕ) → accepted ≡ length es
    → faults ≡ count_by is_faulty es
    → (accepted + 1 ≡ length (es ++ o ∷ [])) × (faults + (if is_own_fault o.ended then 1 else 0) ≡ count_by is_faulty (es ++ o ∷ []))
counted_more es o accepted faults long counted = (
  omega (arith, long, length-append es (o ∷ [])),
  ap (λ n. n + (if is_own_fault o.ended then 1 else 0)) counted
      ∙ sym (sum_by_push (λ x. if is_faulty x then 1 else 0) es o),
)

stands_after : (o : Outcome) (old new : Bool) → Settles o.ended old new → o.failed ≡ new → o.failed ≡ false
    → StillWorks o
stands_after o old new settles is calm =
    record { working = calm; sound = go o.ended (subst (λ (b : Bool). Settles o.ended old b) (sym is ∙ calm) settles) }
  where
    by_cause : (cause : Cause) → FailsBy cause old false → is_store_cause cause ≡ false
    by_cause Read h = refl
    by_cause Write h = refl
    by_cause Memory h = refl
    by_cause Store h = sym h

    go : (ended : Result Served ServeFault) → Settles ended old false → is_store_fault ended ≡ false
    go (Ok served) h = refl
    go (Err fault) h = by_cause fault.cause h

-- none so far
pub passed_none : {K : Type 0} (state : K → KeeperState) (desk : DeskState K) (a : Option Series) → Passed state desk desk a a 0 0
passed_none state desk a =
    record { es = []; turns = turns_none state desk a; long = refl; counted = refl; stand = search rules }

-- one more connection, after which the desk stands
pub passed_more : {K : Type 0} (state : K → KeeperState) (first old new : DeskState K) (a b c : Option Series) (o : Outcome)
    (accepted faults : ℕ)
    → Passed state first old a b accepted faults → ServesInTurn state old new b c (o ∷ []) → o.failed ≡ false
    → Passed state first new a c (accepted + 1) (faults + (if is_own_fault o.ended then 1 else 0))
passed_more state first old new a b c o accepted faults p more calm =
    let n = counted_more p.es o accepted faults p.long p.counted in
    let one = turned state old new b c o more in
    record {
      es = p.es ++ o ∷ [];
      turns = turns_more state first old new a b c p.es (o ∷ []) p.turns more;
      long = n.0;
      counted = n.1;
      stand = All-push StillWorks p.es o p.stand (stands_after o old.failed new.failed one.settles one.failed calm);
    }

-- no more connections
pub told_over : {K : Type 0} (state : K → KeeperState) (first old last : DeskState K) (a b c : Option Series) (accepted faults : ℕ)
    → Passed state first old a b accepted faults → ServesInTurn state old last b c []
    → (hall : Hall) → hall.accepted ≡ accepted → hall.faults ≡ faults → ((es : List Outcome) → All StillWorks es → EndsBy hall.ended es)
    → (es : List Outcome) × ServesInTurn state first last a c es × CountsOutcomes hall es
told_over state first old last a b c accepted faults p none hall e f ends = (
  p.es,
  turns_end state first old last a b c p.es p.turns none,
  record { accepted = e ∙ p.long; faults = f ∙ p.counted; ends = ends p.es p.stand },
)

-- one more connection, after which the desk has failed
pub told_failed : {K : Type 0} (state : K → KeeperState) (first old new : DeskState K) (a b c : Option Series) (o : Outcome)
    (accepted faults : ℕ)
    → Passed state first old a b accepted faults → ServesInTurn state old new b c (o ∷ []) → o.failed ≡ true
    → (hall : Hall) → hall.accepted ≡ accepted + 1 → hall.faults ≡ faults + (if is_own_fault o.ended then 1 else 0)
    → hall.ended ≡ StoreFault
    → (es : List Outcome) × ServesInTurn state first new a c es × CountsOutcomes hall es
told_failed state first old new a b c o accepted faults p more failed hall e f g =
    let n = counted_more p.es o accepted faults p.long p.counted in (
      p.es ++ o ∷ [],
      turns_more state first old new a b c p.es (o ∷ []) p.turns more,
      record {
        accepted = e ∙ n.0;
        faults = f ∙ n.1;
        ends = subst (λ (x : Ended). EndsBy x (p.es ++ o ∷ [])) (sym g) (p.es, o, refl, p.stand, failed);
      },
    )
