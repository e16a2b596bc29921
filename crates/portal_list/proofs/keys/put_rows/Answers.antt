use Rattle.portal_list.proofs.Base.{common_steps, put, ◌≡◌, List, [], ◌∷◌, ◌++◌, refl, Key, put_all, rules}
use Rattle.portal_list.proofs.keys.put_rows.Goals as goal

-- New rows put where their keys belong.

-- one row more
put_all-append : {X : Type 0} (key : X → Key) (xs : List X) (x : X) (ys : List X)
    → put_all key (xs ++ x ∷ []) ys ≡ put key x (put_all key xs ys)
put_all-append key [] x ys = refl
put_all-append key (z ∷ zs) x ys = put_all-append key zs x (put key z ys)

pub loop-row-preserved : goal.loop-row-preserved
loop-row-preserved g c = search (rules, put_all-append, common_steps)
