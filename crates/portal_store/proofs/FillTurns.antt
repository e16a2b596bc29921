-- Rankings put one after the other into the tables, and those that a fill would put.
use Rattle.portal_store.proofs.Base.{◌≡◌, ℕ, ◌+◌, ◌<◌, true, List, [], ◌∷◌, ◌++◌, map, take, length, get_or, refl, sym}
use Rattle.portal_store.proofs.Base.{ap, subst, ◌∙◌, map-append, AllByRecursion, IsPermutation-map, IsPermutation-sym}
use Rattle.portal_store.proofs.Base.{Database, State, Key, equals, has, Rise, put_all, World, lecturer_key, changed}
use Rattle.portal_store.proofs.Base.{Ranks, Fill, Sound, Round, fill_missing, lecturer_tree, world_in, lecturer_stored}
use Rattle.portal_store.proofs.Base.{row_key, IsConsistentIn, IsTransitionIn, GoesOn, with_rankings, TurnsAll}
use Rattle.portal_store.proofs.Base.{TurnsThere, permutes, take_more, list_any-IsPermutation, goes_both}
use Rattle.portal_store.proofs.Rounds.{keys_in}
use Rattle.portal_store.proofs.Filled.{ranked_more, keys_still, all_filled, fills_there}

-- who is in the world has a row
rows_have : (round : Round) (db : Database) (k : Key)
    → has (map lecturer_key (world_in round db.trees).lecturers) k ≡ true
    → has (map row_key (db.trees lecturer_tree)) k ≡ true
unfolding world_in
rows_have round db k there =
    let shown = map (lecturer_stored round db.trees) (db.trees lecturer_tree) in
    ap (λ l. has l k) (sym (keys_in round db.trees (db.trees lecturer_tree)))
    ∙ sym (list_any-IsPermutation (equals k) (map lecturer_key (put_all lecturer_key shown [])) (map lecturer_key shown)
    (IsPermutation-map lecturer_key _ _ (IsPermutation-sym _ _ (permutes lecturer_key shown))))
    ∙ there

all_front : {X : Type 0} (P : X → Type 0) (xs ys : List X) → AllByRecursion P (xs ++ ys) → AllByRecursion P xs
all_front P [] ys all = tt
all_front P (x ∷ xs) ys all = (all.0, all_front P xs ys all.1)

all_back : {X : Type 0} (P : X → Type 0) (xs ys : List X) → AllByRecursion P (xs ++ ys) → AllByRecursion P ys
all_back P [] ys all = all
all_back P (x ∷ xs) ys all = all_back P xs ys all.1

pub none_ranked : (round : Round) (db : Database) → TurnsAll round [] db db
none_ranked round db holds up there = record { holds = holds; world = refl }

pub all_go_on : (round : Round) (fs : List (Key × List Key)) (f : Key × List Key) (first mid now : Database)
    → TurnsAll round fs first mid → TurnsThere round f.0 f.1 mid now
    → TurnsAll round (fs ++ f ∷ []) first now
all_go_on round fs f first mid now was turns holds up there =
    let w = world_in round first.trees in
    let on = λ (g : Key × List Key). has (map lecturer_key w.lecturers) g.0 ≡ true in
    let before = was holds up (all_front on fs (f ∷ []) there) in
    let keys : map lecturer_key (world_in round mid.trees).lecturers ≡ map lecturer_key w.lecturers =
    ap (λ (v : World). map lecturer_key v.lecturers) before.world ∙ keys_still w fs in
    let row = rows_have round mid f.0 (ap (λ l. has l f.0) keys ∙ (all_back on fs (f ∷ []) there).0) in
    let after = turns row before.holds (subst Rise (sym keys) up) in
    record { holds = after.holds; world = after.world ∙ ap (λ v. changed v (Ranks f.0 f.1)) before.world ∙ sym (ranked_more w fs f) }

-- the loop's step
pub rankings_go_on : {X : Type 0} (round : Round) (show : X → Key × List Key) (xs : List X) (i : ℕ) (x : X) (old mid new : State)
    → i < length xs → x ≡ get_or xs i x
    → GoesOn (TurnsAll round (map show (take i xs))) old mid
    → GoesOn (TurnsThere round (show x).0 (show x).1) mid new → GoesOn (TurnsAll round (map show (take (i + 1) xs))) old new
rankings_go_on round show xs i x old mid new within at was step =
    let more : map show (take i xs) ++ show x ∷ [] ≡ map show (take (i + 1) xs) =
    sym (ap (map show) (take_more xs i x within) ∙ map-append show (take i xs) (get_or xs i x ∷ [])
    ∙ ap (λ y. map show (take i xs) ++ show y ∷ []) (sym at)) in
    subst (λ l. GoesOn (TurnsAll round l) old new) more
    (goes_both _ _ _ old mid new was step (all_go_on round (map show (take i xs)) (show x) old.now mid.now new.now))

pub fill_turns : (round : Round) (fs : List (Key × List Key)) (first now : Database)
    → (IsConsistentIn round first → Sound (world_in round first.trees) → fs ≡ fill_missing (world_in round first.trees))
    → TurnsAll round fs first now → IsTransitionIn round Fill first now
fill_turns round fs first now are turns holds good then =
    let w = world_in round first.trees in
    let equals : fs ≡ fill_missing w = are holds good.sound in
    let on : AllByRecursion (λ (f : Key × List Key). has (map lecturer_key w.lecturers) f.0 ≡ true) fs =
    subst (AllByRecursion (λ (f : Key × List Key). has (map lecturer_key w.lecturers) f.0 ≡ true)) (sym equals) (fills_there w) in
    let all = turns holds good.sound.lecturers_rise on in
    record { holds = all.holds; world = all.world ∙ ap (with_rankings w) equals ∙ all_filled w good.sound.lecturers_rise }
