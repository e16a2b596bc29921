-- Worlds are equal in one way.
use Rattle.std.specs.Coded.{codes}
use denote.Struct.Props.{props}
use Rattle.portal_rules.specs.World.{World}

pub World-set : IsSet World
World-set = hlevel (props, codes)
