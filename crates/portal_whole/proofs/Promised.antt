-- The main promise of what `serve_streams` wrote.
use Rattle.std.proofs.Common.{◌≡◌, ℕ, List, [], ◌∷◌, subst, inl, inr}
use Rattle.std.specs.List.{AllByRecursion}
use Rattle.portal_rules.specs.World.{World}
use Rattle.portal_rules.specs.Good.{Good}
use Rattle.portal_rules.specs.Keeping.{KeeperState}
use Rattle.portal_desk.specs.Session.{Session, Tells}
use Rattle.portal_desk.specs.Headline.{AreServedOn, left_by, visits_of}
use Rattle.portal_desk.specs.Served.{ServesEach}
use Rattle.portal_desk.proofs.Promised.{RunsGood, StepsBest, RunsBest, headline}
use Rattle.portal_whole.specs.Whole.{KeepsPromise}

all_tell : {K : Type 0} (state : K → KeeperState) (k : K) (ss : List (Session K)) → AreServedOn state k ss
    → AllByRecursion Tells (visits_of ss)
all_tell state k [] served = tt
all_tell state k (s ∷ ss) (resumes, serves, later) = (serves.tells, all_tell state s.left ss later)

-- over a keeper that cannot break, a 503 leaves it clean too
stays_unbroken : {K : Type 0} (state : K → KeeperState) → ((k : K) → (state k).disk) → ((k : K) → (state k).broken → ⊥)
    → (k : K) (ss : List (Session K)) → AreServedOn state k ss → (state k).clean → (state (left_by k ss)).clean
stays_unbroken state disk sound k [] served on = on
stays_unbroken state disk sound k (s ∷ ss) (resumes, serves, later) on =
    elim ((serves.moves.breaks (disk s.left)).1 ((resumes (disk s.found)).1 on)) [
      | inl up ↦ stays_unbroken state disk sound s.left ss later up
      | inr bad ↦ absurd (sound s.left bad)
    ]

pub promised : RunsGood → StepsBest → RunsBest → {K : Type 0} (state : K → KeeperState) (k last : K) (w : World)
    (xs ts : List (List ℕ)) → ServesEach state k last xs ts → (state k).clean → Good (state k).world
    → ((k : K) → (state k).disk) → ((k : K) → (state k).broken → ⊥) → (state k).world ≡ w → KeepsPromise w xs ts
promised run_good step_best run_best state k last w xs ts (ss, served, same, are) clean good disk sound is =
    let promise = headline run_good step_best run_best state k ss (record {
      served = served;
      good = good;
      clean = stays_unbroken state disk sound k ss served clean;
      disk = disk (left_by k ss);
    }) in
    subst (λ u. KeepsPromise u xs ts) is (visits_of ss, are, all_tell state k ss served, promise.0, promise.1)
