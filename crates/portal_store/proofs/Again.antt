-- A crash leaves what stands for a good world, and the schema found over it is the portal's own.
use Rattle.portal_store.proofs.Base.{◌≡◌, inl, inr, refl, sym, ap, subst, ◌∙◌, Trees, Database, IsDatabase, Good}
use Rattle.portal_store.proofs.Base.{first_version, IsFirstSchema, IsCurrentSchema, world_in, world_of, HasGoodWorld}
use Rattle.portal_store.proofs.Base.{HasGoodFirst, IsConsistent, OpenFault, First, ◌⊎◌, own_again, IsTrueOfOpening, IsTrueOfUpgrading}
use Rattle.portal_store.proofs.Base.{Reopens, OpensAgain, OpensFresh, UpgradesAgain}
use Rattle.portal_store.specs.declared.store.OpenFault.TheVariants as opening
use Rattle.portal_store.specs.declared.store.UpgradeFault.{UpgradeFault}
use Rattle.portal_store.specs.declared.store.UpgradeFault.TheVariants as upgrading
use Rattle.portal_store.proofs.First.{first_holds, first_is, first_is_good}
use Rattle.portal_store.proofs.Upgraded.{second, upgraded_stands, upgraded_world}
use Rattle.portal_store.proofs.Rounds.{world_told}

only_store : (db : Trees) → HasGoodWorld db → (fault : OpenFault) → IsTrueOfOpening fault db
    → (fault ≡ opening.Store) ⊎ (fault ≡ opening.Memory)
only_store db stands opening.NotPortal none = absurd (let e = sym stands.1.office.is ∙ none in cc)
only_store db stands opening.OtherVersion not_so = absurd (not_so.other _ stands.1.office.is refl)
only_store db stands opening.Damaged not_so = absurd (not_so.1 stands)
only_store db stands opening.Store told = inl refl
only_store db stands opening.Memory told = inr refl

reopens : (left found : Database) → IsCurrentSchema left.schema → IsDatabase left → HasGoodWorld left.trees
    → found.trees ≡ left.trees → IsDatabase found → Reopens found
reopens left found current sound stands_there same is =
    let stands : HasGoodWorld found.trees = subst HasGoodWorld (sym same) stands_there in
    record { current = own_again IsCurrentSchema left found sound is same current; stands = stands; faults = only_store found.trees stands }

pub holds_again : (left found : Database) → IsConsistent left → Good (world_of left.trees) → found.trees ≡ left.trees
    → IsDatabase found → Reopens found
holds_again left found holds good =
    let h = holds.1 in
    reopens left found h.current h.sound (
      holds.0,
      record {
        office = h.office;
        second = h.second;
        whole = h.whole;
        good = subst Good (world_told holds.0 left.trees h.second) good;
      },
    )

pub opens_again : OpensAgain
opens_again change old found holds good leaves (inl same) is = (holds_again old found holds good same is, inl (ap world_of same))
opens_again change old found holds good leaves (inr turned) is =
    let turn = turned.1 in
    (holds_again turned.0 found turn.holds (subst Good (sym turn.world) leaves) turned.2 is, inr (ap world_of turned.2 ∙ turn.world))

pub opens_fresh : OpensFresh
opens_fresh office made found form fresh same is = (
  holds_again made found (first_holds office made fresh) (first_is_good office made fresh form) same is,
  ap world_of same
      ∙ first_is office made fresh,
)

pub none_but_store : (db : Trees) → HasGoodFirst first_version db → (fault : UpgradeFault) → IsTrueOfUpgrading fault db
    → (fault ≡ upgrading.Store) ⊎ (fault ≡ upgrading.Memory)
none_but_store db stands fault (opening.NotPortal, is, none) = absurd (let e = sym stands.office.is ∙ none in cc)
none_but_store db stands fault (opening.OtherVersion, is, not_so) = absurd (not_so.other _ stands.office.is refl)
none_but_store db stands fault (opening.Damaged, is, not_so) = absurd (not_so.1 stands)
none_but_store db stands fault (opening.Store, is, told) = inl is
none_but_store db stands fault (opening.Memory, is, told) = inr is

pub upgrades_again : UpgradesAgain
upgrades_again old found first sound stands is = (
  λ same.
      let there : HasGoodFirst first_version found.trees = subst (HasGoodFirst first_version) (sym same) stands in (
        record { first = own_again IsFirstSchema old found sound is same first; stands = there; faults = none_but_store found.trees there },
        ap (world_in First) same,
      ),
  λ after upgrades same.
      let up = upgrades first _ _ stands.office.is in (
        reopens after found up.current up.sound (upgraded_stands old after stands up) same is,
        ap world_of same
            ∙ world_told First after.trees (second old after stands.office up) ∙ upgraded_world old after stands.office up,
      ),
)
