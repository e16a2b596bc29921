use Rattle.spa_honest.proofs.Base.{ranked_of, with_room}
use Rattle.spa_honest.proofs.Room.{more_room}
use Rattle.spa_honest.proofs.laws.more_room_never_harms.Goals as goal

pub returns : goal.returns
returns c = λ i capacities limits m n lawful lawful_more gives stable best. more_room i capacities limits m n (ranked_of i lawful)
    (ranked_of (with_room i capacities limits) lawful_more) gives stable best
