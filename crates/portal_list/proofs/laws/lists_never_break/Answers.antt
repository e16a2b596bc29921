use Rattle.std.proofs.Common.{refl}
use Rattle.portal_list.proofs.laws.lists_never_break.Goals as goal

pub returns : goal.returns
returns c w = record { world = refl; clean = tt; disk = tt; unbroken = λ no. no; none = λ v no. no; faults = refl }
