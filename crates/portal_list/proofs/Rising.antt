-- Keys that rise: as a recursion and as pairs say it.
use Rattle.portal_list.proofs.Base.{◌≡◌, zero, suc, true, List, [], ◌∷◌, get_or, arith, nat_cmp, slice_cmp, Key}
use Rattle.portal_list.proofs.Base.{is_before, Rise, all_at}
pub use Rattle.std.proofs.lemmas.Simd.{map-map as map_map}
use Rattle.spa_model.specs.Spa as spa
use Rattle.portal_rules.proofs.Puts.{less_of}

pub pairs_rise : (keys : List Key) → Rise keys → spa.TextsRise keys
pairs_rise [] r i j d low h = absurd (omega arith)
pairs_rise (k ∷ ks) r i zero d low h = absurd (omega arith)
pairs_rise (k ∷ ks) r zero (suc j) d low h =
    less_of (slice_cmp nat_cmp k (get_or ks j d)) (all_at (λ l. is_before k l ≡ true) ks j d r.0 (omega arith))
pairs_rise (k ∷ ks) r (suc i) (suc j) d low h = pairs_rise ks r.1 i j d (omega arith) (omega arith)
