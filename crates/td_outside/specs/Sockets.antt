-- Where a pair of sockets is open.
use Rattle.std.specs.Prelude.{Option, Some, None}
use Rattle.td_outside.specs.declared.link.Place.{Place}
use Rattle.td_outside.specs.declared.link.Place.TheVariants as place
use Rattle.td_outside.specs.declared.sockets.Sockets.{Sockets}
use Rattle.td_outside.specs.declared.sockets.Sockets.TheVariants.{Shut, Both, One}

-- on which addresses the sockets are open
abbrev pub place_of : Sockets → Option Place
place_of Shut = None
place_of (Both sides on) = Some (place.Both on)
place_of (One socket at) = Some (place.Client at)
