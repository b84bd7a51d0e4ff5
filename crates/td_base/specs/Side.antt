-- A server's two addresses.
use Rattle.td_base.specs.declared.side.Side.{Side}
use Rattle.td_base.specs.declared.side.Side.TheVariants.{Primary, Secondary}

-- the other one of the two
abbrev pub other_side : Side → Side
other_side Primary = Secondary
other_side Secondary = Primary
